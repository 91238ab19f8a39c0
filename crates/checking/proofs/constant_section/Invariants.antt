use Rattle.grammar.specs.Trees.{checks}
use Rattle.grammar.specs.Modules.{constant_turn}
use Rattle.grammar.specs.Forms.{blank}
use Rattle.checking.proofs.constant_section.Given as goal

abbrev pub ghost-repeat : goal.ghost-repeat
ghost-repeat a = record { text = a.turn.now.0.now; turns = constant_turn checks blank a.turn.now.0.now }
