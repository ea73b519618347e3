-- Memory of zeros alone is a shelf with nothing on it.
use Prim.Native.Nat.{ℕ, ◌<◌, ◌+◌, ◌*◌, ◌%◌}
use mathlib.Core.Path.{◌≡◌, ◌∙◌, ap, sym, subst}
use mathlib.Core.Logic.{⊎_elim}
use mathlib.Core.List.{List}
use native.Mathlib.Omega.{arith}
use borrow.Author.Tests.{eq-eqb, ltb-true, ltb-false}
use lib.Dec.{ltb}
use lib.ListN.{length, length-replicate, replicate}
use lib.Seq.{ext_get_or}
use Rattle.logic.proofs.LoopLaws.{both}
use Rattle.shelf_state.proofs.RecordLaws.{replicate_at}
use Rattle.shelf_state.specs.Records.{blank_place, blank_watch, place_at, watch_at}
use Rattle.shelf_state.specs.Searches.{empty_shelf}
use Rattle.lent_memory.specs.Meaning.{LentState, blank, clamp, is_on, lent, meaning, place_meant, row_count, watch_meant}
use Rattle.lent_laws.proofs.MeaningLaws.{lent_count, lent_places, lent_records, lent_watches, past_lent, place_lent, rows_read, watch_lent}
use Rattle.lent_laws.specs.Laws.{ZeroEmpty}

module _ (c n : ℕ) (area : List ℕ) where
  abbrev l : List ℕ
  l = replicate (c * 5) 0

  abbrev x : LentState
  x = lent (replicate n blank) l area

  zero_row : (i : ℕ) → place_meant l i ≡ blank_place
  zero_row i = λ z. record {
    used = is_on (replicate_at (c * 5) (i * 5) 0 z);
    watch = clamp 255 (replicate_at (c * 5) (i * 5 + 1) 0 z);
    number = clamp 255 (replicate_at (c * 5) (i * 5 + 2) 0 z);
    length = clamp 65535 (replicate_at (c * 5) (i * 5 + 3) 0 z);
  }

  zero_place : (i : ℕ) → place_at (meaning x) i ≡ blank_place
  zero_place i = ⊎_elim (λ e. place_lent x i (ltb-true i (rows_read l) e) ∙ zero_row i) (λ e. past_lent x i (ltb-false i (rows_read l) e)) (both (ltb i (rows_read l)))

  zero_watch : (i : ℕ) → i < 16 → watch_at (meaning x) i ≡ blank_watch
  zero_watch i h = watch_lent x i h ∙ ap watch_meant (replicate_at n i blank)

  zero_count : row_count (length l) ≡ c
  zero_count =
      let e : length l ≡ c * 5 = length-replicate (c * 5) 0 in
      let q : length l % 5 ≡ 0 = omega (arith, e) in
      rw (eq-eqb (length l % 5) 0 q) (omega (arith, e))

  zeros : meaning x ≡ empty_shelf c n
  unfolding empty_shelf
  zeros =
      let w : (meaning x).watches ≡ replicate 16 blank_watch = ext_get_or blank_watch (meaning x).watches (replicate 16 blank_watch) (lent_watches x ∙ sym (length-replicate 16 blank_watch)) (λ i h. zero_watch i (subst (λ (k : ℕ). i < k) (lent_watches x) h) ∙ sym (replicate_at 16 i blank_watch)) in
      let p : (meaning x).places ≡ replicate 64 blank_place = ext_get_or blank_place (meaning x).places (replicate 64 blank_place) (lent_places x ∙ sym (length-replicate 64 blank_place)) (λ i h. zero_place i ∙ sym (replicate_at 64 i blank_place)) in
      let r : (meaning x).records ≡ n = lent_records x ∙ length-replicate n blank in
      let k : (meaning x).count ≡ c = lent_count x ∙ zero_count in
      λ z. record { watches = w z; records = r z; places = p z; count = k z }

pub zero_empty : ZeroEmpty
zero_empty places records area = zeros places records area
