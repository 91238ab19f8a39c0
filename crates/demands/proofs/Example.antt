-- Document 01, 'The fuse file': the module T has a file, and it is the 244 bytes that document 01 prints. Assumes nothing.
use mathlib.Core.Path.{◌≡◌, refl, ap, ap₂, ◌∙◌}
use mathlib.Core.Bool.{Bool, true, ◌&&◌}
use mathlib.Core.List.{List, [], ◌∷◌, ◌++◌, map}
use Prim.Native.Nat.{ℕ, zero, suc, ◌+◌, ◌≤◌}
use native.Mathlib.Omega.{arith}
use lib.Dec.{leb}
use borrow.Author.Tests.{le-leb}
use lib.ListN.{replicate}
use Rattle.basics.specs.Choice.{pick, bit}
use Rattle.basics.proofs.Folds.{listed_same}
use Rattle.device.specs.Device.{enable_of, products_of, column_of}
use Rattle.rows.specs.Row.{pairs_from, product_row}
use Rattle.texts.specs.Stages.{Front}
use Rattle.basics.specs.Below.{any_below, tally, listed}
use Rattle.trees.specs.Layout.{nodes_at, class_of}
use Rattle.trees.specs.Machine.{run, value_of as trees-valueOf}
use Rattle.reach.specs.Meeting.{top_below, meets}
use Rattle.reach.specs.Reach.{via}
use Rattle.reach.specs.Uses.{from_end, inverts, registers, keeps, names, replaced, remains, writes, uses}
use Rattle.circuit.specs.StageFive.{first_below}
use Rattle.meaning.specs.Circuit.{out_at}
use Rattle.meaning.specs.Meaning.{value, shows_next}
use Rattle.pins.specs.Named.{mentions, names_pin}
use Rattle.pins.specs.Variables.{variable_pin, chosen, mask_below}
use Rattle.tables.specs.Tables.{flip_at, set_bits}
use Rattle.sums.specs.Named.{keep, spread, count}
use Rattle.sums.specs.Product.{imp, drops, any, filter, prime, expand, products, primes, number}
use Rattle.texts.specs.Calls.{lent, called, compiled_of}
use Rattle.texts.specs.Stages.{front_of, whole_of}
use Rattle.sums.specs.Product.{Digit}
use Rattle.engine.specs.Table.{function}
use Rattle.cover.specs.Mask.{mask}
use Rattle.cover.specs.Sum.{bits_of}
use Rattle.fit.specs.Fit.{Programmed, fits, taken, refused as noProducts, fitted as fitting}
use Rattle.circuit.specs.StageFive.{Verdict}
use Rattle.circuit.specs.StageFive.Verdict.{fine}
use Rattle.pins.specs.Variables.{mask_of}
use Rattle.cells.specs.Map.{cell_row, cell_at, row_at, fuse_at, map_of}
use Rattle.outputs.specs.Outputs.{kind_of, table_of, fitted_out, too_many, stage_six, cell_of, map_for}
use Rattle.marked.proofs.Few.{primes_few, six_few}
use Rattle.fusetext.specs.File.{file_of}
use Rattle.fusetext.specs.Outcome.{gives, refuses}
use Rattle.fusetrip.proofs.Example.{example_map, example_file, example_file_lem}
use Rattle.texts.specs.Calls.{filed}
use Rattle.marked.proofs.Fronts.{module_T, parts_T, elements_T, front_T}
use Rattle.texts.specs.Stages.{unless, fitting as sixth}

-- ---- the complete sum of y, in cell 0

abbrev named_T : ℕ
named_T = mask_of elements_T true 1

abbrev function_T : List Bool → Bool
function_T = function (table_of elements_T 1)

abbrev sum_T : List (List Digit)
sum_T = map (spread (bits_of 22 named_T)) (primes (count (bits_of 22 named_T)) function_T)

abbrev fit_with : List (List Digit) → Programmed
fit_with ps = pick (fits 0 ps) (taken true ps) noProducts

fitted_T : fitted_out elements_T 1 ≡ fit_with sum_T
unfolding fitted_out fitting parts_T nodes_at registers inverts from_end
fitted_T = ap fit_with (primes_few named_T function_T)

-- it has two products, which a cell has room for
sum_fits : fits 0 sum_T ≡ true
unfolding any_below tally listed nodes_at class_of run trees-valueOf from_end inverts registers keeps names replaced remains writes uses via top_below meets first_below out_at value shows_next mentions names_pin variable_pin column_of chosen mask_below flip_at set_bits parts_T keep spread count imp drops any filter prime expand products primes number table_of bits_of products_of
sum_fits = refl

-- ---- stage 6 lets T pass, by way of the pins that y names

six_T : stage_six elements_T ≡ fine
unfolding any_below tally listed nodes_at class_of run trees-valueOf from_end inverts registers keeps names replaced remains writes uses via top_below meets first_below out_at value shows_next mentions names_pin variable_pin column_of chosen mask_below flip_at set_bits parts_T keep spread count imp drops any filter prime expand products primes number table_of bits_of too_many products_of
six_T = six_few elements_T

-- ---- its map

abbrev map_with : Programmed → List ℕ
map_with t =
    map_of
    (t.masks ∷ replicate 9 (replicate 16 0))
    (t.n ∷ replicate 9 0)
    (2 ∷ replicate 9 0)
    (bit t.s0 ∷ replicate 9 0)

cells_T : map_for elements_T ≡ map_with (fitted_out elements_T 1)
unfolding map_for cell_of kind_of out_at first_below parts_T class_of nodes_at registers inverts from_end
cells_T = refl

-- the two products: both plain, both inverse
abbrev held_T : Programmed
held_T = record { ok = true; s0 = true; n = 2; masks = 1572864 ∷ 6755399442628608 ∷ replicate 14 0 }

sum_held : taken true sum_T ≡ held_T
unfolding any_below tally listed nodes_at class_of run trees-valueOf from_end inverts registers keeps names replaced remains writes uses via top_below meets first_below out_at value shows_next mentions names_pin variable_pin column_of chosen mask_below flip_at set_bits parts_T keep spread count imp drops any filter prime expand products primes number table_of bits_of mask
sum_held = refl

-- the values at n numbers from k on, from the front
unfoldable along : (ℕ → ℕ) → ℕ → ℕ → List ℕ
along f zero k = []
along f (suc n) k = f k ∷ along f n (k + 1)

listed_front : (f : ℕ → ℕ) (n : ℕ) → listed f (suc n) ≡ f 0 ∷ listed (λ i. f (suc i)) n
unfolding listed
listed_front f zero = refl
listed_front f (suc n) = ap (λ (l : List ℕ). l ++ (f (suc n) ∷ [])) (listed_front f n)

listed_along : (f : ℕ → ℕ) (n k : ℕ) → listed (λ i. f (k + i)) n ≡ along f n k
unfolding along listed
listed_along f zero k = refl
listed_along f (suc n) k =
    listed_front (λ i. f (k + i)) n
    ∙ ap₂ (λ (x : ℕ) (l : List ℕ). x ∷ l) (ap f (omega arith))
    (listed_same (λ i. f (k + suc i)) (λ i. f (k + 1 + i)) n (λ i h. ap f (omega arith)) ∙ listed_along f n (k + 1))

abbrev fuse_T : ℕ → ℕ
fuse_T = fuse_at (held_T.masks ∷ replicate 9 (replicate 16 0)) (2 ∷ replicate 9 0) (2 ∷ replicate 9 0) (1 ∷ replicate 9 0)

fuses_along : along fuse_T 5892 0 ≡ example_map
unfolding along tally fuse_at row_at cell_at cell_row product_row pairs_from enable_of example_map
fuses_along = refl

fuses_T : map_with held_T ≡ example_map
unfolding map_of
fuses_T = listed_same fuse_T (λ i. fuse_T (0 + i)) 5892 (λ i h. ap fuse_T (omega arith)) ∙ listed_along fuse_T 5892 0 ∙ fuses_along

map_T : map_for elements_T ≡ example_map
map_T = cells_T ∙ ap map_with (fitted_T ∙ ap (λ (b : Bool). pick b (taken true sum_T) noProducts) sum_fits ∙ sum_held) ∙ fuses_T

-- THE THEOREM: with enough memory lent, the file of T is document 01's 244 bytes
pub compile_T : (out room : ℕ) → 7154 ≤ out → 65536 ≤ room → compiled_of module_T out room ≡ gives example_file
unfolding called lent whole_of
compile_T out room h k =
    ap (λ (b : Bool). pick (b && leb 65536 room) (filed (sixth (front_of module_T))) (refuses 13 0)) (le-leb _ _ h)
    ∙ ap (λ (b : Bool). pick b (filed (sixth (front_of module_T))) (refuses 13 0)) (le-leb _ _ k)
    ∙ ap (λ (f : Front). filed (sixth f)) front_T
    ∙ ap (λ (v : Verdict). filed (unless v parts_T)) six_T
    ∙ ap (λ (m : List ℕ). gives (file_of m)) map_T
    ∙ ap gives example_file_lem
