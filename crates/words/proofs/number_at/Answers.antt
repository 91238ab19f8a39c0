use Rattle.words.specs.Bytes.{is_digit}
use Rattle.words.proofs.Values.{number_some, number_none}
use Rattle.words.proofs.number_at.Goals as goal

pub returns-in-Some : goal.returns-in-Some
returns-in-Some c =
    rw c.new.ensures (number_some _ _ _ (c.end_of-end.ensures.end is_digit (λ b r h q. q)) _ c.in-Some.ensures)

pub returns-in-None : goal.returns-in-None
returns-in-None c =
    rw c.new-in-None.ensures (number_none _ _ _ (c.end_of-end.ensures.end is_digit (λ b r h q. q)) c.in-None.ensures)
