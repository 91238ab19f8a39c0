use native.Mathlib.Omega.{arith}
use Rattle.std.proofs.Common.{sym, ◌∙◌}
use Rattle.words.specs.declared.Kind.TheVariants.{Open}
use Rattle.words.proofs.Codes.{same_kind, other_kind}
use Rattle.readers.proofs.Links.{word_past, inner_past, part_past, chain_more, part_ends, part_breaks}
use Rattle.readers.proofs.+reading.Goals as goal

pub chain-loop-read-smaller : goal.chain-loop-read-smaller
chain-loop-read-smaller t c = (chain_more _ _ _ _ _ _ _ _ _ _ _ (sym (rw c.in-More.is at c.in_ok-read.ensures))).1

pub chain-loop-read-preserved : goal.chain-loop-read-preserved
chain-loop-read-preserved t c =
    let h = chain_more _ _ _ _ _ _ _ _ _ _ _ (sym (rw c.in-More.is at c.in_ok-read.ensures)) in
    record { nearer = omega arith; says = sym h.0 ∙ c.loop-read.invariant.says }

pub part-returns-then-ne : goal.part-returns-then-ne
part-returns-then-ne t c = rw c.new.ensures (part_breaks _ _ _ _ _ _ _ _ _ _ c.in_ok-read.ensures _ c.in_ok-word.ensures _ (other_kind _ _ (sym c.ne.ensures ∙ c.if-ne.true)))

pub part-returns : goal.part-returns
part-returns t c = part_ends _ _ _ _ _ _ _ _ _ _ c.in_ok-read.ensures _ c.in_ok-word.ensures _ (same_kind _ _ (sym c.ne.ensures ∙ c.if-ne.false))

pub mux-part-requires-2 : goal.mux-part-requires-2
mux-part-requires-2 t c =
    let h = word_past _ _ _ Open c.in_ok-open.ensures (same_kind _ _ (sym c.ne.ensures ∙ c.if-ne.false)) (λ z. omega arith) in
    let k = part_past _ _ _ _ _ _ _ _ _ _ _ c.in_ok-first.ensures (λ z. omega arith) in
    omega arith

pub mux-part-requires-3 : goal.mux-part-requires-3
mux-part-requires-3 t c =
    let h = word_past _ _ _ Open c.in_ok-open.ensures (same_kind _ _ (sym c.ne.ensures ∙ c.if-ne.false)) (λ z. omega arith) in
    let k = part_past _ _ _ _ _ _ _ _ _ _ _ c.in_ok-first.ensures (λ z. omega arith) in
    let m = part_past _ _ _ _ _ _ _ _ _ _ _ c.in_ok-second.ensures (λ z. omega arith) in
    omega arith

pub reg-part-requires : goal.reg-part-requires
reg-part-requires t c =
    let h = word_past _ _ _ Open c.in_ok-open.ensures (same_kind _ _ (sym c.ne.ensures ∙ c.if-ne.false)) (λ z. omega arith) in
    let k = inner_past _ _ _ _ _ _ _ _ _ _ _ c.in_ok-first.ensures in
    let m = word_past _ _ _ _ c.in_ok-word.ensures c.in-Comma.is (λ z. omega arith) in
    omega arith
