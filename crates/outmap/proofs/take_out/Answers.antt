use Prim.Native.Nat.{ℕ, ◌-◌, ◌≤◌, ◌<◌}
use mathlib.Core.Path.{◌≡◌, sym, ap, ◌∙◌}
use native.Mathlib.Omega.{arith}
use borrow.Author.Rules.{rules}
use borrow.Author.Tests.{eqb-true}
use Rattle.trees.specs.Layout.{elements_of}
use Rattle.outputs.proofs.Trying.{out_pin}
use Rattle.outmap.proofs.Turns.{no_out, refused_out, fitted_is, out_few, not_first, first_fills, none_placed, now_placed}
use Rattle.outmap.proofs.take_out.Goals as goal
use Rattle.outmap.proofs.take_out.Goals.{After-try_out, In_ok-fitted}

class : (c : After-try_out) → (elements_of c.args.parts.now).class c.args.i ≡ 2
class c = eqb-true _ _ (sym c.is_out.ensures ∙ c.if-not-is_out.false)

-- the cell of an OUT's pin
cell : (c : After-try_out) → (14 ≤ (elements_of c.args.parts.now).pin c.args.i) × ((elements_of c.args.parts.now).pin c.args.i < 24)
cell c = out_pin (elements_of c.args.parts.now) c.args.i c.requires.parts_value c.requires.i_bound (class c)

pub returns-then-not-is_out-clause-value : goal.returns-then-not-is_out-clause-value
returns-then-not-is_out-clause-value c = (no_out (elements_of c.args.parts.now) c.args.i (sym c.is_out.ensures ∙ c.if-not-is_out.true)).0

pub returns-then-not-is_out-clause-cells_after : goal.returns-then-not-is_out-clause-cells_after
returns-then-not-is_out-clause-cells_after c = none_placed _ _ _ (no_out (elements_of c.args.parts.now) c.args.i (sym c.is_out.ensures ∙ c.if-not-is_out.true)).1

pub returns-in_err-fitted-clause-value : goal.returns-in_err-fitted-clause-value
returns-in_err-fitted-clause-value c =
    let w = (refused_out (elements_of c.args.parts.now) c.args.i _ (class (goal.at.returns-in_err-fitted-clause-value c).After-try_out) c.in_err-fitted.ensures.value).0 in
    search (rules, w)

pub returns-in_err-fitted-clause-cells_after : goal.returns-in_err-fitted-clause-cells_after
returns-in_err-fitted-clause-cells_after c =
    none_placed _ _ _ (refused_out (elements_of c.args.parts.now) c.args.i _ (class (goal.at.returns-in_err-fitted-clause-cells_after c).After-try_out) c.in_err-fitted.ensures.value).1

pub overflow_sub-k : goal.overflow_sub-k
overflow_sub-k c = let p = cell (goal.at.overflow_sub-k c).After-try_out in omega (arith, p, c.at-k.ensures)

pub bounds-cells-k : goal.bounds-cells-k
bounds-cells-k c = let p = cell (goal.at.bounds-cells-k c).After-try_out in omega (arith, p, c.at-k.ensures)

pub bounds-cells-k-then-is_first : goal.bounds-cells-k-then-is_first
bounds-cells-k-then-is_first c = let p = cell (goal.at.bounds-cells-k-then-is_first c).After-try_out in omega (arith, p, c.at-k.ensures)

pub bounds-cells-k-then-is_first-2 : goal.bounds-cells-k-then-is_first-2
bounds-cells-k-then-is_first-2 c = let p = cell (goal.at.bounds-cells-k-then-is_first-2 c).After-try_out in omega (arith, p, c.at-k.ensures)

pub overflow_cast-cells : goal.overflow_cast-cells
overflow_cast-cells c =
    let k = class (goal.at.overflow_cast-cells c).After-try_out in
    let f = out_few (elements_of c.args.parts.now) c.args.i c.requires.parts_value c.requires.i_bound k in
    let w = ap (λ x. x.n) (fitted_is (elements_of c.args.parts.now) c.args.i _ k c.in_ok-fitted.ensures.value).1 in
    omega (arith, f, w)

pub returns-then-is_first-clause-value : goal.returns-then-is_first-clause-value
returns-then-is_first-clause-value c = (fitted_is (elements_of c.args.parts.now) c.args.i _ (class (goal.at.returns-then-is_first-clause-value c).After-try_out) c.in_ok-fitted.ensures.value).0

pub returns-then-is_first-clause-cells_after : goal.returns-then-is_first-clause-cells_after
returns-then-is_first-clause-cells_after c =
    let k = class (goal.at.returns-then-is_first-clause-cells_after c).After-try_out in
    now_placed _ _ _ _ _ _
    (first_fills (elements_of c.args.parts.now) c.args.i _ _ k c.in_ok-fitted.ensures.value c.is_first.ensures c.if-is_first.true)
    (ap (λ (x : ℕ). 23 - x) c.at-k.ensures)
    (fitted_is (elements_of c.args.parts.now) c.args.i _ k c.in_ok-fitted.ensures.value).1
    c.byte_of.ensures

pub returns-else-is_first-clause-value : goal.returns-else-is_first-clause-value
returns-else-is_first-clause-value c = (fitted_is (elements_of c.args.parts.now) c.args.i _ (class (goal.at.returns-else-is_first-clause-value c).After-try_out) c.in_ok-fitted.ensures.value).0

pub returns-else-is_first-clause-cells_after : goal.returns-else-is_first-clause-cells_after
returns-else-is_first-clause-cells_after c = none_placed _ _ _ (not_first (elements_of c.args.parts.now) c.args.i _ c.is_first.ensures c.if-is_first.false)
