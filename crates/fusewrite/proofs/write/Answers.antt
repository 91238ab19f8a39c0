use mathlib.Core.Bool.{false}
use mathlib.Core.Path.{◌≡◌, sym, ap, ◌∙◌}
use native.Mathlib.Nat.{zero-add}
use borrow.Author.Tests.{le-leb, lt-leb}
use Rattle.std.specs.Prelude.{Ok}
use Rattle.fusetext.proofs.Files.{is_map_length, is_map_bits, is_map_yes, bits_all}
use Rattle.fusetext.proofs.Puts.{put_front}
use Rattle.fusetext.specs.File.{is_map}
use Rattle.fusewrite.specs.Writing.{write_of}
use Rattle.fusewrite.proofs.write.Goals.{then-map-ne-FUSES-via-then-map-ne-FUSES, then-map-ne-FUSES-via-else-map-ne-FUSES+then-not-is_bits}
use Rattle.fusewrite.proofs.write.Goals as goal

pub returns-then-map-ne-FUSES : goal.returns-then-map-ne-FUSES
unfolding write_of
returns-then-map-ne-FUSES c =
    let e : is_map c.args.map.now ≡ false = elim c.then-map-ne-FUSES.branch [
      | then-map-ne-FUSES-via-then-map-ne-FUSES w ↦ is_map_length c.args.map.now w.if-map-ne-FUSES.true
      | then-map-ne-FUSES-via-else-map-ne-FUSES+then-not-is_bits w ↦ is_map_bits c.args.map.now (sym w.is_bits.ensures ∙ w.if-not-is_bits.true)
    ] in
    record { answers = rw (e, c.new.ensures); leaves = rw e }

pub returns-then-out-lt-LONGEST : goal.returns-then-out-lt-LONGEST
unfolding write_of
returns-then-out-lt-LONGEST c =
    let e = is_map_yes c.args.map.now c.if-map-ne-FUSES.false (sym c.is_bits.ensures ∙ c.if-not-is_bits.false) in
    let d = lt-leb _ _ c.if-out-lt-LONGEST.true in
    record { answers = rw (e, d, c.new-then-out-lt-LONGEST.ensures); leaves = rw (e, d) }

pub put_file-requires-clause-bits : goal.put_file-requires-clause-bits
put_file-requires-clause-bits c = bits_all _ (sym c.is_bits.ensures ∙ c.if-not-is_bits.false)

pub returns : goal.returns
unfolding write_of
returns c =
    let e = is_map_yes c.args.map.now c.if-map-ne-FUSES.false (sym c.is_bits.ensures ∙ c.if-not-is_bits.false) in
    let d = le-leb _ _ c.if-out-lt-LONGEST.false in
    let w = c.put_file.ensures in
    record { answers = rw (e, d) (ap Ok (w.ends ∙ zero-add _)); leaves = rw (e, d) (w.holds ∙ put_front _ _) }
