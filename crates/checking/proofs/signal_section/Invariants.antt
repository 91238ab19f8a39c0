use Rattle.words.specs.Kinds.{code}
use Rattle.grammar.specs.Trees.{checks}
use Rattle.grammar.specs.Modules.{list_turn}
use Rattle.grammar.specs.Forms.{blank}
use Rattle.checking.proofs.signal_section.Given as goal

abbrev pub ghost-repeat : goal.ghost-repeat
ghost-repeat a = record { text = a.turn.now.0.now; turns = list_turn checks blank a.turn.now.0.now (code a.turn.now.1.now) }
