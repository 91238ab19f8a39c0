-- Stage 6 by the pins that an equation names: the primes over all twenty-two variables are as many as those over the named ones, so what is told of a small text
-- can be computed. Assumes nothing.
use mathlib.Core.Path.{◌≡◌, sym, ap, ap₂, ◌∙◌, fun_ext}
use mathlib.Core.Bool.{Bool, true, false, not, ◌&&◌, ◌||◌}
use mathlib.Core.List.{List, map}
use Prim.Native.Nat.{ℕ, ◌-◌}
use lib.Dec.{eqb, leb, ltb}
use lib.ListN.{length, length-map}
use Rattle.basics.specs.Choice.{pick}
use Rattle.sums.specs.Product.{primes}
use Rattle.sums.specs.Named.{keep, spread, count}
use Rattle.sums.proofs.Named.{primes_named}
use Rattle.engine.specs.Table.{function}
use Rattle.cover.specs.Sum.{bits_of}
use Rattle.cover.proofs.Joining.{bits_length}
use Rattle.device.specs.Device.{products_of}
use Rattle.fit.specs.Fit.{opposite, primes_of, fits, taken, refused as noProducts, inverted, fitted}
use Rattle.trees.specs.Layout.{Elements}
use Rattle.reach.specs.Uses.{registers}
use Rattle.circuit.specs.StageFive.{Verdict, first_below}
use Rattle.circuit.specs.StageFive.Verdict.{fine, refused}
use Rattle.pins.specs.Variables.{mask_of}
use Rattle.outputs.specs.Outputs.{table_of, fitted_out, too_many, misfits, stage_six}

-- the primes over all variables, by way of those over the named ones
pub primes_few : (named : ℕ) (f : List Bool → Bool) → primes_of named f ≡ map (spread (bits_of 22 named)) (primes (count (bits_of 22 named)) f)
unfolding primes_of
primes_few named f = sym (ap (λ (k : ℕ). primes k (λ s. f (keep (bits_of 22 named) s))) (bits_length 22 named)) ∙ primes_named (bits_of 22 named) f

-- whether they are no more than cell k has products for
abbrev pub few_fit : ℕ → ℕ → (List Bool → Bool) → Bool
few_fit k named f = leb (length (primes (count (bits_of 22 named)) f)) (products_of k)

pub fits_few : (k named : ℕ) (f : List Bool → Bool) → fits k (primes_of named f) ≡ few_fit k named f
fits_few k named f =
    ap (λ (n : ℕ). leb n (products_of k))
    (ap length (primes_few named f) ∙ length-map (primes (count (bits_of 22 named)) f) (spread (bits_of 22 named)))

-- a cell takes the primes of f, or, unless it has a register, those of not f
abbrev pub ok_few : ℕ → Bool → ℕ → (List Bool → Bool) → Bool
ok_few k register named f = few_fit k named f || (not register && few_fit k named (opposite f))

fitted_few : (k : ℕ) (register s0 : Bool) (named : ℕ) (f : List Bool → Bool) → (fitted k register s0 named f).ok ≡ ok_few k register named f
unfolding fitted inverted
fitted_few k register s0 named f = go (fits k (primes_of named f)) (fits_few k named f) register (fits k (primes_of named (opposite f))) (fits_few k named (opposite f))
  where
    go : (a : Bool) → a ≡ few_fit k named f → (r : Bool) (b : Bool) → b ≡ few_fit k named (opposite f)
        → (pick a (taken (pick r s0 true) (primes_of named f)) (pick r noProducts (pick b (taken false (primes_of named (opposite f))) noProducts))).ok ≡ (few_fit k named f || (not r && few_fit k named (opposite f)))
    go true p r b q = ap (λ (x : Bool). x || (not r && few_fit k named (opposite f))) p
    go false p true b q = ap (λ (x : Bool). x || false) p
    go false p false true q = ap₂ (λ (x y : Bool). x || y) p q
    go false p false false q = ap₂ (λ (x y : Bool). x || y) p q

-- stage 6 so
abbrev pub misfits_few : Elements → ℕ → Bool
misfits_few e o = eqb (e.class o) 2 && (too_many e o || not (ok_few (23 - e.pin o) (registers (e.nodes o)) (mask_of e true o) (function (table_of e o))))

misfits_few_lem : (e : Elements) (o : ℕ) → misfits e o ≡ misfits_few e o
unfolding misfits fitted_out
misfits_few_lem e o = ap (λ (b : Bool). eqb (e.class o) 2 && (too_many e o || not b)) (fitted_few (23 - e.pin o) (registers (e.nodes o)) _ (mask_of e true o) (function (table_of e o)))

abbrev pub sixth_few : Elements → Verdict
sixth_few e = pick (ltb (first_below (misfits_few e) 64) 64) (refused (pick (too_many e (first_below (misfits_few e) 64)) 11 12) (e.place (first_below (misfits_few e) 64))) fine

pub six_few : (e : Elements) → stage_six e ≡ sixth_few e
unfolding stage_six
six_few e =
    ap (λ (f : ℕ → Bool). pick (ltb (first_below f 64) 64) (refused (pick (too_many e (first_below f 64)) 11 12) (e.place (first_below f 64))) fine)
    (fun_ext (misfits_few_lem e))
