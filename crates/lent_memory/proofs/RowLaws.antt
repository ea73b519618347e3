-- Rows, one more at a time: read into places, and written where a place is another.
use Prim.Native.Nat.{ℕ, zero, suc, ◌+◌, ◌*◌, ◌≤◌, ◌<◌, ◌/◌, ◌%◌}
use mathlib.Core.Path.{◌≡◌, refl, ◌∙◌, ap, sym}
use mathlib.Core.Logic.{⊎_elim}
use mathlib.Core.Bool.{Bool, true, false, not}
use mathlib.Core.List.{List}
use native.Mathlib.Numerals.{add-one}
use native.Mathlib.Omega.{arith}
use borrow.Author.Tests.{ltb-true, ltb-false}
use lib.Dec.{eqb, ltb}
use lib.ListN.{set, length, length-set}
use Rattle.logic.proofs.LoopLaws.{both, not_e}
use Rattle.logic.specs.Choices.{pick}
use Rattle.logic.specs.Loops.{one}
use Rattle.shelf_state.specs.Records.{place_at}
use Rattle.shelf_state.specs.declared.records.Place.{Place}
use Rattle.shelf_state.specs.declared.records.Shelf.{Shelf}
use Rattle.logic.proofs.TestLaws.{not_no}
use Rattle.lent_memory.proofs.EqualLaws.{place_is, places}
use Rattle.lent_memory.specs.Meaning.{clamp, place_meant, row_count, places_meant}
use Rattle.lent_memory.specs.Changes.{equal_place, row_put, rows_below, write_row}

pub places_none : (l : List ℕ) (d : List Place) → d ≡ places_meant 0 l d
unfolding places_meant
places_none l d = refl

pub places_step : (l : List ℕ) (d ps : List Place) (i : ℕ) (p : Place) → ps ≡ places_meant i l d → p ≡ place_meant l i → set ps i p ≡ places_meant (i + 1) l d
unfolding places_meant
places_step l d ps i p e f = rw (e, f, add-one i)

-- ---- how many rows are read
pub count_fits : (n : ℕ) → row_count n * 5 ≤ n
count_fits n = ⊎_elim
    (λ e. let c : row_count n ≡ n / 5 = rw e in omega (arith, c))
    (λ e. let c : row_count n ≡ 0 = rw e in omega (arith, c))
    (both (eqb (n % 5) 0))

pub clamp_le : (m x : ℕ) → (clamp m x ≤ m) × (clamp m x ≤ x)
clamp_le m x = ⊎_elim
    (λ e. let g : m < x = ltb-true m x e in let c : clamp m x ≡ m = rw e in (omega (arith, c), omega (arith, c, g)))
    (λ e. let g : x ≤ m = ltb-false m x e in let c : clamp m x ≡ x = rw e in (omega (arith, c, g), omega (arith, c)))
    (both (ltb m x))

pub rows_fit : (n : ℕ) → clamp 64 (row_count n) * 5 ≤ n
rows_fit n = omega (arith, (clamp_le 64 (row_count n)).1, count_fits n)

-- ---- rows are written
pub written_none : (s t : Shelf) (l : List ℕ) → l ≡ rows_below 0 s t l
unfolding rows_below
written_none s t l = refl

written_step : (s t : Shelf) (l m : List ℕ) (i : ℕ) → m ≡ rows_below i s t l → pick (equal_place (place_at s i) (place_at t i)) m (write_row m i (place_at t i)) ≡ rows_below (i + 1) s t l
unfolding rows_below row_put
written_step s t l m i e = rw (e, add-one i)

-- where the code's test says that the place is another, and where it says that it is the same
module _ (s t : Shelf) (l m : List ℕ) (i : ℕ) {r : Bool} (is : r ≡ not (places (place_at s i) (place_at t i))) (e : m ≡ rows_below i s t l) where
  pub written_other : r ≡ true → write_row m i (place_at t i) ≡ rows_below (i + 1) s t l
  written_other f =
      ap (λ (b : Bool). pick b m (write_row m i (place_at t i))) (sym (not_e _ (sym is ∙ f)) ∙ place_is (place_at s i) (place_at t i))
      ∙ written_step s t l m i e

  pub written_same : r ≡ false → m ≡ rows_below (i + 1) s t l
  written_same f =
      ap (λ (b : Bool). pick b m (write_row m i (place_at t i))) (sym (not_no _ (sym is ∙ f)) ∙ place_is (place_at s i) (place_at t i))
      ∙ written_step s t l m i e

row_length : (l : List ℕ) (i : ℕ) (p : Place) → length (write_row l i p) ≡ length l
row_length l i p =
    let a = set l (i * 5) (one p.used) in
    let b = set a (i * 5 + 1) p.watch in
    let c = set b (i * 5 + 2) p.number in
    let d = set c (i * 5 + 3) p.length in
    length-set d (i * 5 + 4) 0 ∙ length-set c (i * 5 + 3) p.length ∙ length-set b (i * 5 + 2) p.number ∙ length-set a (i * 5 + 1) p.watch ∙ length-set l (i * 5) (one p.used)

at_length : (b : Bool) (m m' : List ℕ) (n : ℕ) → length m ≡ n → length m' ≡ n → length (pick b m m') ≡ n
at_length true m m' n e e' = e
at_length false m m' n e e' = e'

pub written_length : (n : ℕ) (s t : Shelf) (l : List ℕ) → length (rows_below n s t l) ≡ length l
unfolding rows_below row_put
written_length zero s t l = refl
written_length (suc n) s t l =
    let e = written_length n s t l in
    at_length (equal_place (place_at s n) (place_at t n)) (rows_below n s t l) (write_row (rows_below n s t l) n (place_at t n)) (length l) e (row_length (rows_below n s t l) n (place_at t n) ∙ e)
