-- The shelf after each call that is done differs from the lent one in one record and in places that fit their rows.
use Prim.Native.Nat.{ℕ, ◌<◌, ◌≤◌, ◌+◌, ◌*◌}
use mathlib.Core.Path.{◌≡◌, refl, ◌∙◌, sym, subst}
use mathlib.Core.Logic.{⊎_elim}
use mathlib.Core.Bool.{Bool, true, false}
use mathlib.Core.List.{List}
use native.Mathlib.Omega.{arith}
use borrow.Author.Tests.{eqb-true, eqb-false, le-ltb}
use lib.Dec.{eqb}
use lib.ListN.{get_or, set, length, length-set}
use lib.Seq.{get_or-set_same, get_or-set_other}
use Rattle.logic.proofs.LoopLaws.{both, each_at, each_past, length_each}
use Rattle.logic.specs.Choices.{pick}
use Rattle.section.specs.declared.header.Header.{Header}
use Rattle.shelf_state.proofs.RuleLaws.{rules}
use Rattle.shelf_state.specs.Records.{blank_place, blank_watch, holds_for, place_at, watch_at}
use Rattle.shelf_state.specs.Searches.{dropped, free_record, release, set_place, set_watch, watch_of}
use Rattle.shelf_state.specs.Rules.{obeys}
use Rattle.shelf_state.specs.declared.records.Asked.{Asked}
use Rattle.shelf_state.specs.declared.records.Place.{Place}
use Rattle.shelf_state.specs.declared.records.Shelf.{Shelf}
use Rattle.shelf_state.specs.declared.records.Watch.{Watch}
use Rattle.shelf.proofs.JudgeLaws.{judged_sound}
use Rattle.shelf.proofs.OwnerLaws.{narrow, ready_edited, ready_place}
use Rattle.shelf.specs.Calls.{fresh}
use Rattle.shelf.specs.Inner.{Ready}
use Rattle.shelf.specs.Delivery.{edited, hearing, keeping}
use Rattle.shelf.specs.Views.{key_in, same_edition}
use Rattle.shelf_laws.proofs.CloseLaws.{Closes, closed_to}
use Rattle.shelf_laws.proofs.DeliverLaws.{Delivers, place_now, stored_to}
use Rattle.shelf_laws.proofs.OpenLaws.{Opens, opened_to}
use Rattle.shelf_laws.proofs.ViewLaws.{found}
use Rattle.lent_memory.proofs.RowLaws.{clamp_le}
use Rattle.lent_memory.specs.Meaning.{LentState, meaning, number_at, place_meant, row_count}
use Rattle.lent_laws.proofs.MeaningLaws.{lent_count, lent_places, lent_records, lent_watches, past_lent, place_lent, rows_read}
use Rattle.lent_laws.proofs.TripLaws.{Made, NarrowPlace}

row_narrow : (l : List ℕ) (i : ℕ) → NarrowPlace (place_meant l i)
row_narrow l i = record { watch_8 = (clamp_le 255 (number_at l (i * 5 + 1))).0; number_8 = (clamp_le 255 (number_at l (i * 5 + 2))).0; length_16 = (clamp_le 65535 (number_at l (i * 5 + 3))).0 }

pick_narrow : (b : Bool) (p : Place) → NarrowPlace p → NarrowPlace (pick b blank_place p)
pick_narrow true p n = record { watch_8 = omega arith; number_8 = omega arith; length_16 = omega arith }
pick_narrow false p n = n

released_narrow : (w : ℕ) (p : Place) → NarrowPlace p → NarrowPlace (release w p)
unfolding release
released_narrow w p n = pick_narrow (holds_for p w) p n

-- ---- the shelf itself, a record set, a place set, a watch's places dropped
module _ (x : LentState) where
  abbrev s : Shelf
  s = meaning x

  abbrev l : List ℕ
  l = x.places

  made_base : (area j : ℕ) → obeys s area ≡ true → j < s.records → Made x s j
  made_base area j o h =
      let z = (rules s area o).size in
      let e = lent_records x in
      record {
        records = e;
        count = lent_count x;
        watches_16 = lent_watches x;
        places_64 = lent_places x;
        few = omega (arith, z.records_16, e);
        below = omega (arith, h, e);
        only = λ i n. refl;
        narrow = λ i g. subst NarrowPlace (sym (place_lent x i g)) (row_narrow l i);
        rest = past_lent x;
      }

  module _ (t : Shelf) (k : ℕ) (st : Made x t k) where
    made_watch : (w : Watch) → Made x (set_watch t k w) k
    made_watch w = record {
      records = st.records;
      count = st.count;
      watches_16 = length-set t.watches k w ∙ st.watches_16;
      places_64 = st.places_64;
      few = st.few;
      below = st.below;
      only = λ i n. get_or-set_other t.watches k i w blank_watch n ∙ st.only i n;
      narrow = st.narrow;
      rest = st.rest;
    }

    read_count : t.count ≤ 64 → rows_read l ≡ t.count
    read_count h = let e = st.count in rw (le-ltb 64 (row_count (length l)) (omega (arith, h, e))) (sym e)

    made_place : (j : ℕ) (p : Place) → t.count ≤ 64 → j < t.count → NarrowPlace p → Made x (set_place t j p) k
    made_place j p c h n = record {
      records = st.records;
      count = st.count;
      watches_16 = st.watches_16;
      places_64 = length-set t.places j p ∙ st.places_64;
      few = st.few;
      below = st.below;
      only = st.only;
      narrow = λ i g. ⊎_elim
          (λ e. let q : j ≡ i = sym (eqb-true i j e) in
          subst (λ (x : ℕ). NarrowPlace (get_or (set t.places j p) x blank_place)) q (subst NarrowPlace (sym (get_or-set_same t.places j p blank_place (omega (arith, h, c, st.places_64)))) n))
          (λ e. subst NarrowPlace (sym (get_or-set_other t.places j i p blank_place (eqb-false i j e))) (st.narrow i g))
          (both (eqb i j));
      rest = λ i g. get_or-set_other t.places j i p blank_place (λ e. omega (arith, e, h, g, read_count c)) ∙ st.rest i g;
    }

    made_drop : (w : ℕ) → t.count ≤ 64 → Made x (dropped t w) k
    made_drop w c = record {
      records = st.records;
      count = st.count;
      watches_16 = st.watches_16;
      places_64 = length_each (release w) blank_place t.count t.places ∙ st.places_64;
      few = st.few;
      below = st.below;
      only = st.only;
      narrow = λ i g. subst NarrowPlace (sym (each_at (release w) blank_place t.count t.places i (omega (arith, g, read_count c)) (omega (arith, c, st.places_64)))) (released_narrow w (place_at t i) (st.narrow i g));
      rest = λ i g. each_past (release w) blank_place t.count t.places i (omega (arith, g, read_count c)) ∙ st.rest i g;
    }

  -- ---- the calls
  pub opened_made : (area : ℕ) (a : Asked) (q : ℕ) → Opens s area a q → Made x (opened_to s a q) (free_record s)
  opened_made area a q f = made_watch s (free_record s) (made_base area (free_record s) f.ok f.free) (fresh a q)

  pub closed_made : (area : ℕ) (a : Asked) → Closes s area a → Made x (closed_to s a) (watch_of s a)
  closed_made area a f =
      let w = watch_of s a in
      made_watch (dropped s w) w (made_drop s w (made_base area w f.ok (found s a f.open_is)) w (rules s area f.ok).size.count_64) blank_watch

  edited_made : (area w : ℕ) (h : Header) → obeys s area ≡ true → w < s.records → (b : Bool) → Made x (pick b s (set_watch (dropped s w) w (hearing (watch_at s w) h))) w
  edited_made area w h o g true = made_base area w o g
  edited_made area w h o g false = made_watch (dropped s w) w (made_drop s w (made_base area w o g) w (rules s area o).size.count_64) (hearing (watch_at s w) h)

  edit_made : (area w : ℕ) (h : Header) → obeys s area ≡ true → w < s.records → Made x (edited s w h) w
  unfolding edited
  edit_made area w h o g = edited_made area w h o g (same_edition (watch_at s w).edition h)

  pub delivered_made : (area pid : ℕ) (b : List ℕ) (f : Delivers s area pid b) → Made x (stored_to s (key_in pid b) f.head (length b)) (watch_of s (key_in pid b))
  delivered_made area pid b f =
      let w = watch_of s (key_in pid b) in
      let h = f.head in
      let y : Ready s w h area (length b) = record { rules = f.ok; below = f.owner.below; live = f.owner.live; quota = f.owner.quota; sound = judged_sound b h f.judge } in
      let n = narrow s w h area (length b) y in
      made_place (edited s w h) w (edit_made area w h f.ok f.owner.below) (place_now s (key_in pid b) h) (keeping w h.number (length b))
      (ready_edited s w h area (length b) y).rules.size.count_64 (ready_place s w h area (length b) y)
      (record { watch_8 = omega (arith, n.watch_8); number_8 = omega (arith, n.number_8); length_16 = omega (arith, n.length_16) })
