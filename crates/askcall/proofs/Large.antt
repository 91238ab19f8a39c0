-- No OUT's pin and no product's number reaches 3 ^ 10, so larger ones may be cut to any bound from there on. Assumes nothing.
use mathlib.Core.Path.{◌≡◌, refl, sym, ap, ap₂, ◌∙◌}
use mathlib.Core.Bool.{false}
use mathlib.Core.List.{List}
use mathlib.Core.Logic.{⊎_elim}
use Prim.Native.Nat.{ℕ, ◌^◌, ◌≤◌, ◌<◌, min}
use native.Mathlib.Omega.{arith}
use lib.Dec.{leb}
use Rattle.basics.specs.Choice.{pick}
use Rattle.basics.proofs.Store.{below_or_not}
use Rattle.trees.specs.Layout.{Elements, elements_of}
use Rattle.circuit.specs.StageFive.{Verdict, stage_five}
use Rattle.circuit.specs.StageFive.Verdict.{fine, refused as faulty}
use Rattle.meaning.specs.Circuit.{out_at}
use Rattle.pins.specs.Variables.{count_of}
use Rattle.engine.proofs.Walk.{few_three}
use Rattle.outputs.specs.Outputs.{stage_six}
use Rattle.outputs.proofs.Trying.{out_pin}
use Rattle.outmap.proofs.Filling.{out_is}
use Rattle.question.specs.Question.Asked.{Refused as Refuses}
use Rattle.question.specs.Question.{Asked, asked}
use Rattle.question.proofs.Asking.{few_pins, beyond, asked_out, asked_none}
use Rattle.texts.specs.Stages.{Front, stays, refused, unless, front_of, fitting, whole_of}
use Rattle.texts.proofs.Sound.{passed_five}
use Rattle.askcall.specs.Asking.{questioned, graded_of}

-- no OUT is at a pin above 23
high_pin : (e : Elements) (pin product : ℕ) → stage_five e ≡ fine → 24 ≤ pin → Refuses 14 0 ≡ asked e pin product
high_pin e pin product five h =
    ⊎_elim
    (λ (l : out_at e pin < 64). let w = out_is e pin (out_at e pin) refl l in let q = (out_pin e (out_at e pin) five l w.0).1 in absurd (omega (arith, q, w.1, h)))
    (λ (l : 64 ≤ out_at e pin). asked_none e pin product (out_at e pin) refl l)
    (below_or_not (out_at e pin) 64)

-- ten pins have 59,049 products
high_product : (e : Elements) (pin product : ℕ) → stage_six e ≡ fine → 59049 ≤ product → Refuses 14 0 ≡ asked e pin product
high_product e pin product six h =
    ⊎_elim
    (λ (l : out_at e pin < 64).
    let q = few_three (count_of e false (out_at e pin)) (few_pins e pin (out_at e pin) six refl l) in
    asked_out e pin product (out_at e pin) (Refuses 14 0) refl l (beyond e (out_at e pin) product (count_of e false (out_at e pin)) (3 ^ count_of e false (out_at e pin)) refl refl (omega (arith, q, h))))
    (λ (l : 64 ≤ out_at e pin). asked_none e pin product (out_at e pin) refl l)
    (below_or_not (out_at e pin) 64)

asked_least : (k : ℕ) (e : Elements) (pin product : ℕ) → 59049 ≤ k → stage_five e ≡ fine → stage_six e ≡ fine → asked e (min k pin) (min k product) ≡ asked e pin product
asked_least k e pin product h five six =
    ⊎_elim
    (λ (l : pin < k).
    ⊎_elim
    (λ (m : product < k). let a : min k pin ≡ pin = omega (arith, l) in let b : min k product ≡ product = omega (arith, m) in ap₂ (asked e) a b)
    (λ (m : k ≤ product). sym (high_product e (min k pin) (min k product) six (omega (arith, m, h))) ∙ high_product e pin product six (omega (arith, m, h)))
    (below_or_not product k))
    (λ (l : k ≤ pin). sym (high_pin e (min k pin) (min k product) five (omega (arith, l, h))) ∙ high_pin e pin product five (omega (arith, l, h)))
    (below_or_not pin k)

-- what is asked with a pin and a product's number of any size is what is asked with both cut to a bound from 3 ^ 10 on
pub asked_cut : (k : ℕ) (s : List ℕ) (pin product room : ℕ) → 59049 ≤ k → graded_of s (min k pin) (min k product) room ≡ graded_of s pin product room
unfolding graded_of whole_of
asked_cut k s pin product room h = ap (λ (a : Asked). pick (leb 65536 room) a (Refuses 13 0)) (go (front_of s) refl)
  where
    fits : (parts : List ℕ) → stage_five (elements_of parts) ≡ fine → (v : Verdict) → stage_six (elements_of parts) ≡ v
        → questioned (min k pin) (min k product) (unless v parts) ≡ questioned pin product (unless v parts)
    fits parts five fine six = asked_least k (elements_of parts) pin product h five six
    fits parts five (faulty n p) six = refl

    go : (f : Front) → front_of s ≡ f → questioned (min k pin) (min k product) (fitting f) ≡ questioned pin product (fitting f)
    go (stays parts) e = fits parts (passed_five s parts e) (stage_six (elements_of parts)) refl
    go (refused n p) e = refl
