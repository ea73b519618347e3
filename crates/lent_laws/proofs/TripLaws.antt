-- What a call leaves in lent memory means the shelf after it, for every shelf that differs from the lent one in one record and in places
-- that fit their rows; and a shelf that is the same leaves everything.
use Prim.Native.Nat.{ℕ, zero, suc, ◌<◌, ◌≤◌, ◌+◌, ◌*◌}
use mathlib.Core.Path.{◌≡◌, refl, ◌∙◌, ap, sym, subst}
use mathlib.Core.Logic.{◌⊎◌, ⊎_elim, inl, inr}
use mathlib.Core.Bool.{Bool, true, false, not}
use mathlib.Core.List.{List}
use native.Mathlib.Nat.{not-suc-le-zero}
use native.Mathlib.Omega.{arith}
use borrow.Author.Tests.{eqb-true, eqb-false, ltb-true, ltb-false, le-ltb, lt-ltb, not-true, not-false}
use lib.Dec.{eqb, ltb}
use lib.ListN.{get_or, set, length, length-set}
use lib.Seq.{ext_get_or, get_or-set_same, get_or-set_other}
use Rattle.logic.proofs.LoopLaws.{below_suc, both, first_none, first_split, true_false}
use Rattle.logic.specs.Choices.{pick}
use Rattle.logic.specs.Loops.{one}
use Rattle.shelf_state.specs.Records.{watch_at, place_at, blank_watch, blank_place}
use Rattle.shelf_state.specs.declared.records.Place.{Place}
use Rattle.shelf_state.specs.declared.records.Shelf.{Shelf}
use Rattle.lent_memory.proofs.RowLaws.{written_length}
use Rattle.lent_memory.specs.Changes.{changed_at, compared, equal_place, equal_watch, record_put, records_after, row_put, rows_after, rows_below, write_row}
use Rattle.lent_memory.specs.Meaning.{LentState, blank, clamp, is_on, lent, meaning, number_at, lent_record, place_meant, row_count, watch_meant}
use Rattle.lent_memory.specs.declared.records.LentWatch.{LentWatch}
use Rattle.lent_laws.proofs.EqualLaws.{from_place, from_watch, place_self, watch_self}
use Rattle.lent_laws.proofs.MeaningLaws.{back, lent_count, lent_places, lent_records, lent_watches, on_one, past_lent, place_lent, row_fits, rows_read, watch_lent}

-- ---- a shelf that did not change
pub kept_rows : (n : ℕ) (s : Shelf) (l : List ℕ) → rows_below n s s l ≡ l
unfolding rows_below row_put
kept_rows zero s l = refl
kept_rows (suc n) s l = rw (place_self (place_at s n)) (kept_rows n s l)

none_changed : (s : Shelf) (n : ℕ) → changed_at s s n ≡ n
none_changed s n = first_none (λ i. not (equal_watch (watch_at s i) (watch_at s i))) n (λ k h. ap not (watch_self (watch_at s k)))

pub kept_records : (s : Shelf) (ws : List LentWatch) → records_after s s ws ≡ ws
unfolding record_put
kept_records s ws = rw (none_changed s (compared s), le-ltb (compared s) (compared s) (omega arith))

-- ---- a place that fits its row
pub record NarrowPlace (p : Place) : Type 0 where
  pub watch_8 : p.watch ≤ 255
  pub number_8 : p.number ≤ 255
  pub length_16 : p.length ≤ 65535

clamped : (m x : ℕ) → x ≤ m → clamp m x ≡ x
clamped m x h = rw (le-ltb m x h)

-- a number that a row's writing does not meet
off_row : (l : List ℕ) (n : ℕ) (p : Place) (x : ℕ) → (x < n * 5) ⊎ (n * 5 + 5 ≤ x) → number_at (write_row l n p) x ≡ number_at l x
off_row l n p x h =
    let a = set l (n * 5) (one p.used) in
    let b = set a (n * 5 + 1) p.watch in
    let c = set b (n * 5 + 2) p.number in
    let d = set c (n * 5 + 3) p.length in
    get_or-set_other d (n * 5 + 4) x 0 0 (λ e. ⊎_elim (λ g. omega (arith, g, e)) (λ g. omega (arith, g, e)) h)
    ∙ get_or-set_other c (n * 5 + 3) x p.length 0 (λ e. ⊎_elim (λ g. omega (arith, g, e)) (λ g. omega (arith, g, e)) h)
    ∙ get_or-set_other b (n * 5 + 2) x p.number 0 (λ e. ⊎_elim (λ g. omega (arith, g, e)) (λ g. omega (arith, g, e)) h)
    ∙ get_or-set_other a (n * 5 + 1) x p.watch 0 (λ e. ⊎_elim (λ g. omega (arith, g, e)) (λ g. omega (arith, g, e)) h)
    ∙ get_or-set_other l (n * 5) x (one p.used) 0 (λ e. ⊎_elim (λ g. omega (arith, g, e)) (λ g. omega (arith, g, e)) h)

rows_eq : (l m : List ℕ) (i : ℕ) → ((x : ℕ) → i * 5 ≤ x → x < i * 5 + 5 → number_at l x ≡ number_at m x) → place_meant l i ≡ place_meant m i
rows_eq l m i h = λ z. record {
  used = is_on (h (i * 5) (omega arith) (omega arith) z);
  watch = clamp 255 (h (i * 5 + 1) (omega arith) (omega arith) z);
  number = clamp 255 (h (i * 5 + 2) (omega arith) (omega arith) z);
  length = clamp 65535 (h (i * 5 + 3) (omega arith) (omega arith) z);
}

-- the row that was written
own_row : (l : List ℕ) (i : ℕ) (p : Place) → i * 5 + 5 ≤ length l → NarrowPlace p → place_meant (write_row l i p) i ≡ p
own_row l i p h n =
    let a = set l (i * 5) (one p.used) in
    let b = set a (i * 5 + 1) p.watch in
    let c = set b (i * 5 + 2) p.number in
    let d = set c (i * 5 + 3) p.length in
    let la : length a ≡ length l = length-set l (i * 5) (one p.used) in
    let lb : length b ≡ length l = length-set a (i * 5 + 1) p.watch ∙ la in
    let lc : length c ≡ length l = length-set b (i * 5 + 2) p.number ∙ lb in
    let e3 : number_at (write_row l i p) (i * 5 + 3) ≡ p.length =
    get_or-set_other d (i * 5 + 4) (i * 5 + 3) 0 0 (λ e. omega (arith, e)) ∙ get_or-set_same c (i * 5 + 3) p.length 0 (omega (arith, h, lc)) in
    let e2 : number_at (write_row l i p) (i * 5 + 2) ≡ p.number =
    get_or-set_other d (i * 5 + 4) (i * 5 + 2) 0 0 (λ e. omega (arith, e)) ∙ get_or-set_other c (i * 5 + 3) (i * 5 + 2) p.length 0 (λ e. omega (arith, e)) ∙ get_or-set_same b (i * 5 + 2) p.number 0 (omega (arith, h, lb)) in
    let e1 : number_at (write_row l i p) (i * 5 + 1) ≡ p.watch =
    get_or-set_other d (i * 5 + 4) (i * 5 + 1) 0 0 (λ e. omega (arith, e)) ∙ get_or-set_other c (i * 5 + 3) (i * 5 + 1) p.length 0 (λ e. omega (arith, e)) ∙ get_or-set_other b (i * 5 + 2) (i * 5 + 1) p.number 0 (λ e. omega (arith, e)) ∙ get_or-set_same a (i * 5 + 1) p.watch 0 (omega (arith, h, la)) in
    let e0 : number_at (write_row l i p) (i * 5) ≡ one p.used =
    get_or-set_other d (i * 5 + 4) (i * 5) 0 0 (λ e. omega (arith, e)) ∙ get_or-set_other c (i * 5 + 3) (i * 5) p.length 0 (λ e. omega (arith, e)) ∙ get_or-set_other b (i * 5 + 2) (i * 5) p.number 0 (λ e. omega (arith, e)) ∙ get_or-set_other a (i * 5 + 1) (i * 5) p.watch 0 (λ e. omega (arith, e)) ∙ get_or-set_same l (i * 5) (one p.used) 0 (omega (arith, h)) in
    λ z. record {
      used = (ap is_on e0 ∙ on_one p.used) z;
      watch = (ap (clamp 255) e1 ∙ clamped 255 p.watch n.watch_8) z;
      number = (ap (clamp 255) e2 ∙ clamped 255 p.number n.number_8) z;
      length = (ap (clamp 65535) e3 ∙ clamped 65535 p.length n.length_16) z;
    }

-- ---- the rows that a call leaves are the places after it
module _ (s t : Shelf) (l : List ℕ) where
  at_above : (n : ℕ) (m : List ℕ) (b : Bool) (x : ℕ) → n * 5 + 5 ≤ x → number_at m x ≡ number_at l x → number_at (pick b m (write_row m n (place_at t n))) x ≡ number_at l x
  at_above n m true x h e = e
  at_above n m false x h e = off_row m n (place_at t n) x (inr h) ∙ e

  above : (n x : ℕ) → n * 5 ≤ x → number_at (rows_below n s t l) x ≡ number_at l x
  unfolding rows_below row_put
  above zero x h = refl
  above (suc n) x h = at_above n (rows_below n s t l) (equal_place (place_at s n) (place_at t n)) x (omega arith) (above n x (omega arith))

  -- a row below stays as it was when row n is written, and row n is the place
  below_row : (n : ℕ) (m : List ℕ) (b : Bool) (i : ℕ) → i < n → place_meant (pick b m (write_row m n (place_at t n))) i ≡ place_meant m i
  below_row n m true i h = refl
  below_row n m false i h = rows_eq (write_row m n (place_at t n)) m i (λ x g g'. off_row m n (place_at t n) x (inl (omega (arith, h, g'))))

  this_row : (n : ℕ) (m : List ℕ) (b : Bool) → equal_place (place_at s n) (place_at t n) ≡ b → n * 5 + 5 ≤ length m → NarrowPlace (place_at t n) → place_meant m n ≡ place_at s n → place_meant (pick b m (write_row m n (place_at t n))) n ≡ place_at t n
  this_row n m true e h w r = r ∙ from_place (place_at s n) (place_at t n) e
  this_row n m false e h w r = own_row m n (place_at t n) h w

  rows_after_lem : (n : ℕ) → ((i : ℕ) → i < n → i * 5 + 5 ≤ length l) → ((i : ℕ) → i < n → place_meant l i ≡ place_at s i) → ((i : ℕ) → i < n → NarrowPlace (place_at t i))
      → (i : ℕ) → i < n → place_meant (rows_below n s t l) i ≡ place_at t i
  unfolding rows_below row_put
  rows_after_lem zero f g w i h = absurd (not-suc-le-zero h)
  rows_after_lem (suc n) f g w i h =
      let m = rows_below n s t l in
      let b = equal_place (place_at s n) (place_at t n) in
      ⊎_elim
      (λ k. below_row n m b i k ∙ rows_after_lem n (λ j q. f j (omega (arith, q))) (λ j q. g j (omega (arith, q))) (λ j q. w j (omega (arith, q))) i k)
      (λ k. subst (λ (j : ℕ). place_meant (pick b m (write_row m n (place_at t n))) j ≡ place_at t j) (sym k)
      (this_row n m b refl (omega (arith, f n (omega arith), written_length n s t l)) (w n (omega arith)) (rows_eq m l n (λ x q q'. above n x q) ∙ g n (omega arith))))
      (below_suc i n h)

-- ---- a shelf that one call makes of the lent one: only record j may differ, and each place fits its row
pub record Made (x : LentState) (t : Shelf) (j : ℕ) : Type 0 where
  pub records : t.records ≡ length x.watches
  pub count : t.count ≡ row_count (length x.places)
  pub watches_16 : length t.watches ≡ 16
  pub places_64 : length t.places ≡ 64
  pub few : length x.watches ≤ 16
  pub below : j < length x.watches
  pub only : (i : ℕ) → (i ≡ j → ⊥) → watch_at t i ≡ watch_at (meaning x) i
  pub narrow : (i : ℕ) → i < rows_read x.places → NarrowPlace (place_at t i)
  pub rest : (i : ℕ) → rows_read x.places ≤ i → place_at t i ≡ blank_place

module _ (x : LentState) (t : Shelf) (j : ℕ) (st : Made x t j) (area : List ℕ) where
  abbrev s : Shelf
  s = meaning x

  abbrev ws : List LentWatch
  ws = x.watches

  abbrev l : List ℕ
  l = x.places

  abbrev m : ℕ
  m = compared s

  abbrev f : ℕ
  f = changed_at s t m

  abbrev ws' : List LentWatch
  ws' = records_after s t ws

  m_is : m ≡ length ws
  m_is = let e = lent_records x in rw (le-ltb 16 s.records (omega (arith, e, st.few))) e

  put_some : f < m → ws' ≡ set ws f (lent_record (watch_at t f))
  unfolding record_put
  put_some h = rw (lt-ltb f m h)

  put_none : m ≤ f → ws' ≡ ws
  unfolding record_put
  put_none h = rw (le-ltb f m h)

  -- a record that is not the changed one
  unchanged : not (equal_watch (watch_at s f) (watch_at t f)) ≡ true → (i : ℕ) → (i ≡ f → ⊥) → watch_at t i ≡ watch_at s i
  unchanged p i ne = ⊎_elim
      (λ e. let q : i ≡ j = eqb-true i j e in
      let r : watch_at t f ≡ watch_at s f = st.only f (λ g. ne (q ∙ sym g)) in
      true_false (equal_watch (watch_at s f) (watch_at t f)) (ap (equal_watch (watch_at s f)) r ∙ watch_self (watch_at s f)) (not-true _ p))
      (λ e. st.only i (eqb-false i j e))
      (both (eqb i j))

  after_some : f < m → not (equal_watch (watch_at s f) (watch_at t f)) ≡ true → (i : ℕ) → i < 16 → watch_meant (get_or ws' i blank) ≡ watch_at t i
  after_some h p i g =
      let w = lent_record (watch_at t f) in
      ap (λ (v : List LentWatch). watch_meant (get_or v i blank)) (put_some h)
      ∙ ⊎_elim
      (λ e. let q : i ≡ f = eqb-true i f e in
      subst (λ (k : ℕ). watch_meant (get_or (set ws f w) k blank) ≡ watch_at t k) (sym q) (ap watch_meant (get_or-set_same ws f w blank (omega (arith, h, m_is))) ∙ back (watch_at t f)))
      (λ e. let ne = eqb-false i f e in ap watch_meant (get_or-set_other ws f i w blank ne) ∙ sym (watch_lent x i g) ∙ sym (unchanged p i ne))
      (both (eqb i f))

  after_none : f ≡ m → ((k : ℕ) → k < m → not (equal_watch (watch_at s k) (watch_at t k)) ≡ false) → (i : ℕ) → i < 16 → watch_meant (get_or ws' i blank) ≡ watch_at t i
  after_none h p i g =
      ap (λ (v : List LentWatch). watch_meant (get_or v i blank)) (put_none (omega (arith, h)))
      ∙ sym (watch_lent x i g)
      ∙ ⊎_elim
      (λ e. let q : i ≡ j = eqb-true i j e in from_watch (watch_at s i) (watch_at t i) (not-false _ (p i (omega (arith, q, st.below, m_is)))))
      (λ e. sym (st.only i (eqb-false i j e)))
      (both (eqb i j))

  after_watch : (i : ℕ) → i < 16 → watch_meant (get_or ws' i blank) ≡ watch_at t i
  after_watch i g = ⊎_elim (λ w. after_some w.0 w.1 i g) (λ w. after_none w.0 w.1 i g) (first_split (λ i. not (equal_watch (watch_at s i) (watch_at t i))) m)

  pick_length : (b : Bool) (v : List LentWatch) → length v ≡ length ws → length (pick b v ws) ≡ length ws
  pick_length true v e = e
  pick_length false v e = refl

  records_length : length ws' ≡ length ws
  unfolding record_put
  records_length = pick_length (ltb f m) (set ws f (lent_record (watch_at t f))) (length-set ws f (lent_record (watch_at t f)))

  abbrev l' : List ℕ
  l' = rows_after s t l

  same_length : length l' ≡ length l
  same_length = written_length (clamp 64 s.count) s t l

  same_read : rows_read l' ≡ rows_read l
  same_read = ap (λ (n : ℕ). clamp 64 (row_count n)) same_length

  reads : clamp 64 s.count ≡ rows_read l
  reads = ap (clamp 64) (lent_count x)

  after_place : (i : ℕ) → i < rows_read l → place_meant l' i ≡ place_at t i
  after_place i h = ap (λ (n : ℕ). place_meant (rows_below n s t l) i) reads ∙ rows_after_lem s t l (rows_read l) (row_fits l) (λ k g. sym (place_lent x k g)) st.narrow i h

  abbrev x' : LentState
  x' = lent ws' l' area

  places_at : (i : ℕ) → place_at (meaning x') i ≡ place_at t i
  places_at i = ⊎_elim
      (λ e. let h : i < rows_read l = ltb-true i (rows_read l) e in place_lent x' i (subst (λ (n : ℕ). i < n) (sym same_read) h) ∙ after_place i h)
      (λ e. let h : rows_read l ≤ i = ltb-false i (rows_read l) e in past_lent x' i (subst (λ (n : ℕ). n ≤ i) (sym same_read) h) ∙ sym (st.rest i h))
      (both (ltb i (rows_read l)))

  watches_same : (meaning x').watches ≡ t.watches
  watches_same = ext_get_or blank_watch (meaning x').watches t.watches (lent_watches x' ∙ sym st.watches_16) (λ i h. let g : i < 16 = subst (λ (n : ℕ). i < n) (lent_watches x') h in watch_lent x' i g ∙ after_watch i g)

  places_same : (meaning x').places ≡ t.places
  places_same = ext_get_or blank_place (meaning x').places t.places (lent_places x' ∙ sym st.places_64) (λ i h. places_at i)

  pub trip : meaning (lent (records_after (meaning x) t x.watches) (rows_after (meaning x) t x.places) area) ≡ t
  trip =
      let r : (meaning x').records ≡ t.records = lent_records x' ∙ records_length ∙ sym st.records in
      let c : (meaning x').count ≡ t.count = lent_count x' ∙ ap row_count same_length ∙ sym st.count in
      λ z. record { watches = watches_same z; records = r z; places = places_same z; count = c z }
