use Rattle.grammar.specs.Trees.{checks}
use Rattle.grammar.specs.Modules.{name_turn}
use Rattle.grammar.specs.Forms.{blank}
use Rattle.checking.proofs.name_list.Given as goal

abbrev pub ghost-repeat : goal.ghost-repeat
ghost-repeat a = record { text = a.turn.now.0.now; turns = name_turn checks blank a.turn.now.0.now }
