-- `engine::graded` meets its contract.
use mathlib.Core.Path.{ap}
use mathlib.Core.Bool.{not}
use native.Mathlib.Numerals.{unary_clauses}
use native.Mathlib.Omega.{arith}
use borrow.Author.Tests.{eq-eqb, ne_eqb}
use Rattle.engine.proofs.Walk.{one_less, dropped, walk_lifted, small_pow, few_three}
use Rattle.engine.proofs.Dropping.{rest_start, rest_lifted, rest_absent, rest_factor, rest_no, rest_end, grade_none}
use Rattle.engine.proofs.graded.Goals as goal
use Rattle.engine.proofs.graded.Goals.{else-d-lt2-via-then-d-lt2+else-t-p-ne0, else-d-lt2-via-else-d-lt2}

pub returns-then-t-p-eq0 : goal.returns-then-t-p-eq0
returns-then-t-p-eq0 c = grade_none _ _ _ (ap not (eq-eqb _ _ c.if-t-p-eq0.true))

pub loop-init : goal.loop-init
loop-init c = simp unary_clauses (rest_start _ _ _ c.requires.p_bound (ap not (ne_eqb _ _ c.if-t-p-eq0.false)))

pub overflow_add-p : goal.overflow_add-p
overflow_add-p c =
    let b = dropped _ _ _ _ _ (walk_lifted _ _ _ _ _ _ (one_less _ _ c.loop-test.true) c.loop.invariant.walk) c.if-d-lt2.true in
    omega (arith, few_three _ c.requires.room.few)

pub bounds-t-p-then-d-lt2 : goal.bounds-t-p-then-d-lt2
bounds-t-p-then-d-lt2 c = let b = dropped _ _ _ _ _ (walk_lifted _ _ _ _ _ _ (one_less _ _ c.loop-test.true) c.loop.invariant.walk) c.if-d-lt2.true in omega (arith, c.requires)

pub returns-then-t-p-ne0 : goal.returns-then-t-p-ne0
returns-then-t-p-ne0 c = rest_no _ _ _ _ _ _ (rest_lifted _ _ _ _ _ _ _ (one_less _ _ c.loop-test.true) c.loop.invariant) c.if-d-lt2.true (ap not (ne_eqb _ _ c.if-t-p-ne0.true))

pub overflow_mul-pow : goal.overflow_mul-pow
overflow_mul-pow c = let b = small_pow _ _ _ _ _ c.requires.room.few (walk_lifted _ _ _ _ _ _ (one_less _ _ c.loop-test.true) c.loop.invariant.walk) in omega arith

pub loop-preserved : goal.loop-preserved
loop-preserved c =
    let i = rest_lifted _ _ _ _ _ _ _ (one_less _ _ c.loop-test.true) c.loop.invariant in
    elim c.else-d-lt2.branch [
      | else-d-lt2-via-then-d-lt2+else-t-p-ne0 w ↦ rest_factor _ _ _ _ _ _ i w.if-d-lt2.true (ap not (eq-eqb _ _ w.if-t-p-ne0.false))
      | else-d-lt2-via-else-d-lt2 w ↦ rest_absent _ _ _ _ _ _ i w.if-d-lt2.false
    ]

pub returns : goal.returns
returns c = rest_end _ _ _ _ _ _ (omega arith) c.loop.invariant
