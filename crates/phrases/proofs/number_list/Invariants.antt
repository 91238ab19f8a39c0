use Rattle.grammar.specs.Trees.{checks}
use Rattle.grammar.specs.Modules.{number_turn}
use Rattle.grammar.specs.Forms.{blank}
use Rattle.phrases.proofs.number_list.Given as goal

abbrev pub ghost-repeat : goal.ghost-repeat
ghost-repeat a = record { text = a.turn.now.0.now; turns = number_turn checks blank a.turn.now.0.now a.turn.now.2.now a.turn.now.1.now }
