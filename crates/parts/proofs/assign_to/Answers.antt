use Rattle.parts.proofs.Runs.{assigned_by}
use Rattle.parts.proofs.assign_to.Goals as goal

pub returns : goal.returns
returns c = assigned_by _ _ _ _ _ _ _ _ c.span.ensures c.note.ensures c.note-2.ensures c.raise.ensures
