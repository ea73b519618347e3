-- What stands in the shelf that is lent: its watches and places one by one, and its sizes.
use Prim.Native.Nat.{ℕ, zero, suc, ◌<◌, ◌≤◌, ◌+◌, ◌*◌}
use mathlib.Core.Path.{◌≡◌, refl, ◌∙◌, ap, sym, subst}
use mathlib.Core.Logic.{⊎_elim}
use mathlib.Core.Bool.{Bool, true, false}
use mathlib.Core.List.{List, [], ◌∷◌}
use native.Mathlib.Nat.{not-suc-le-zero, le_of_suc-le-suc}
use native.Mathlib.Omega.{arith}
use lib.ListN.{get_or, set, length, length-set, replicate, length-replicate}
use lib.Seq.{get_or-set_same, get_or-set_other}
use Rattle.logic.proofs.LoopLaws.{below_suc}
use Rattle.logic.specs.Loops.{one}
use Rattle.shelf_state.proofs.RecordLaws.{replicate_at}
use Rattle.shelf_state.specs.Records.{watch_at, place_at, blank_watch, blank_place}
use Rattle.shelf_state.specs.declared.records.Place.{Place}
use Rattle.shelf_state.specs.declared.records.Watch.{Watch}
use Rattle.lent_memory.proofs.RowLaws.{clamp_le, rows_fit}
use Rattle.lent_memory.specs.Meaning.{LentState, blank, clamp, is_on, meaning, lent_record, place_meant, row_count, places_meant, shelf_in, watch_meant, watches_meant}
use Rattle.lent_memory.specs.declared.records.LentWatch.{LentWatch}

-- ---- a watch goes to a record and comes back
pub on_one : (b : Bool) → is_on (one b) ≡ b
on_one true = refl
on_one false = refl

pub back : (w : Watch) → watch_meant (lent_record w) ≡ w
back w = λ z. record { live = on_one w.live z; key = w.key; quota = w.quota; edition = record { heard = on_one w.edition.heard z; version = w.edition.version; last = w.edition.last } }

-- ---- the watches
watches_at : (k : ℕ) (ws : List LentWatch) (j : ℕ) → j < k → get_or (watches_meant k ws) j blank_watch ≡ watch_meant (get_or ws j blank)
unfolding watches_meant
watches_at zero ws j h = absurd (not-suc-le-zero h)
watches_at (suc k) [] zero h = refl
watches_at (suc k) [] (suc j) h = watches_at k [] j (le_of_suc-le-suc h)
watches_at (suc k) (w ∷ ws) zero h = refl
watches_at (suc k) (w ∷ ws) (suc j) h = watches_at k ws j (le_of_suc-le-suc h)

watches_length : (k : ℕ) (ws : List LentWatch) → length (watches_meant k ws) ≡ k
unfolding watches_meant
watches_length zero ws = refl
watches_length (suc k) [] = ap suc (watches_length k [])
watches_length (suc k) (w ∷ ws) = ap suc (watches_length k ws)

-- ---- the rows
rows_length : (n : ℕ) (l : List ℕ) (d : List Place) → length (places_meant n l d) ≡ length d
unfolding places_meant
rows_length zero l d = refl
rows_length (suc n) l d = length-set (places_meant n l d) n (place_meant l n) ∙ rows_length n l d

rows_at : (n : ℕ) (l : List ℕ) (d : List Place) (i : ℕ) → n ≤ length d → i < n → get_or (places_meant n l d) i blank_place ≡ place_meant l i
unfolding places_meant
rows_at zero l d i g h = absurd (not-suc-le-zero h)
rows_at (suc n) l d i g h =
    let m = places_meant n l d in
    ⊎_elim
    (λ k. get_or-set_other m n i (place_meant l n) blank_place (λ e. omega (arith, k, e)) ∙ rows_at n l d i (omega arith) k)
    (λ k. subst (λ (j : ℕ). get_or (set m n (place_meant l n)) j blank_place ≡ place_meant l j) (sym k) (get_or-set_same m n (place_meant l n) blank_place (omega (arith, g, rows_length n l d))))
    (below_suc i n h)

rows_past : (n : ℕ) (l : List ℕ) (d : List Place) (i : ℕ) → n ≤ i → get_or (places_meant n l d) i blank_place ≡ get_or d i blank_place
unfolding places_meant
rows_past zero l d i h = refl
rows_past (suc n) l d i h = get_or-set_other (places_meant n l d) n i (place_meant l n) blank_place (λ e. omega (arith, h, e)) ∙ rows_past n l d i (omega arith)

-- how many rows are read
abbrev pub rows_read : List ℕ → ℕ
rows_read l = clamp 64 (row_count (length l))

pub row_fits : (l : List ℕ) (i : ℕ) → i < rows_read l → i * 5 + 5 ≤ length l
row_fits l i h = omega (arith, h, rows_fit (length l))

-- ---- the shelf
module _ (x : LentState) where
  pub watch_lent : (i : ℕ) → i < 16 → watch_at (meaning x) i ≡ watch_meant (get_or x.watches i blank)
  unfolding shelf_in
  watch_lent i h = watches_at 16 x.watches i h

  pub place_lent : (i : ℕ) → i < rows_read x.places → place_at (meaning x) i ≡ place_meant x.places i
  unfolding shelf_in
  place_lent i h = rows_at (rows_read x.places) x.places (replicate 64 blank_place) i (omega (arith, length-replicate 64 blank_place, (clamp_le 64 (row_count (length x.places))).0)) h

  pub past_lent : (i : ℕ) → rows_read x.places ≤ i → place_at (meaning x) i ≡ blank_place
  unfolding shelf_in
  past_lent i h = rows_past (rows_read x.places) x.places (replicate 64 blank_place) i h ∙ replicate_at 64 i blank_place

  pub lent_watches : length (meaning x).watches ≡ 16
  unfolding shelf_in
  lent_watches = watches_length 16 x.watches

  pub lent_places : length (meaning x).places ≡ 64
  unfolding shelf_in
  lent_places = rows_length (rows_read x.places) x.places (replicate 64 blank_place) ∙ length-replicate 64 blank_place

  pub lent_records : (meaning x).records ≡ length x.watches
  unfolding shelf_in
  lent_records = refl

  pub lent_count : (meaning x).count ≡ row_count (length x.places)
  unfolding shelf_in
  lent_count = refl
