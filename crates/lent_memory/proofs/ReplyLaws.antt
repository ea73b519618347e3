-- The numbers of every answer fit a reply.
use Prim.Native.Nat.{ℕ, ◌<◌, ◌+◌}
use mathlib.Core.Path.{◌≡◌, refl, ◌∙◌, sym}
use mathlib.Core.Bool.{Bool, true, false}
use native.Mathlib.Omega.{arith}
use borrow.Author.Tests.{ltb-true}
use lib.Dec.{eqb}
use Rattle.logic.proofs.CountLaws.{count_upto}
use Rattle.logic.proofs.LoopLaws.{any_first, first_has}
use Rattle.logic.specs.Choices.{if_eq, pick}
use Rattle.part.specs.declared.Part.{Part}
use Rattle.shelf_state.proofs.RecordLaws.{holds_parts}
use Rattle.shelf_state.proofs.RuleLaws.{found_live, in_range_lem, rules}
use Rattle.shelf_state.specs.Records.{holds, is_of, place_at, watch_at}
use Rattle.shelf_state.specs.Searches.{is_held, place_of, watch_of, watched}
use Rattle.shelf_state.specs.Rules.{obeys}
use Rattle.shelf_state.specs.declared.records.Asked.{Asked}
use Rattle.shelf_state.specs.declared.records.Shelf.{Shelf}
use Rattle.shelf.specs.Answers.{After}
use Rattle.shelf.specs.Views.{Status, complete, held, unheard, held_or_complete, status_of}
use Rattle.shelf.specs.Calls.{fetched, fetched_from, held_numbers, or_refuse_with, status_after}
use Rattle.refusal.specs.Outcomes.{resulted}
use Rattle.lent_memory.specs.Inner.{SmallPart, SmallStatus}

abbrev Fits : ℕ → Type 0
Fits n = n < 4294967296

-- ---- a status
small_count : (c n : ℕ) (b : Bool) → Fits c × Fits n → SmallStatus (resulted (pick b (complete n) (held c n)))
small_count c n true h = h.1
small_count c n false h = h

small_heard : (b : Bool) (c n : ℕ) → (b ≡ true → Fits c × Fits n) → SmallStatus (resulted (pick b (held_or_complete c n) unheard))
unfolding held_or_complete if_eq
small_heard true c n h = small_count c n (eqb c n) (h refl)
small_heard false c n h = tt

small_status : (n : ℕ) (s : Shelf) (b : Bool) (r : After Status) → (b ≡ true → SmallStatus r.outcome) → SmallStatus (or_refuse_with n s b r).outcome
unfolding or_refuse_with
small_status n s true r h = h refl
small_status n s false r h = tt

pub status_small : (s : Shelf) (area : ℕ) (a : Asked) → SmallStatus (status_after s area a).outcome
unfolding status_after status_of held_numbers
status_small s area a = small_status 14 s (obeys s area) _ (λ o. small_status 17 s (watched s a) _ (λ w.
    let i = watch_of s a in
    let u = rules s area o in
    let h : i < s.records = ltb-true _ _ (sym (any_first (λ i. is_of (watch_at s i) a) s.records) ∙ w) in
    let live = found_live s a i refl h in
    small_heard (watch_at s i).edition.heard _ _ (λ e.
    let k = u.last_below i h live e in
    let q = (in_range_lem _ _ (u.range i h live)).quota_64 in
    (omega (arith, k, q, count_upto ((watch_at s i).edition.last + 1) (λ m. is_held s i m)), omega (arith, k, q)))))

-- ---- a part
small_part : (n : ℕ) (s : Shelf) (b : Bool) (r : After Part) → (b ≡ true → SmallPart r.outcome) → SmallPart (or_refuse_with n s b r).outcome
unfolding or_refuse_with
small_part n s true r h = h refl
small_part n s false r h = tt

pub part_small : (s : Shelf) (area : ℕ) (a : Asked) (m : ℕ) → SmallPart (fetched s area a m).outcome
unfolding fetched fetched_from
part_small s area a m = small_part 14 s (obeys s area) _ (λ o. small_part 17 s (watched s a) _ (λ w. small_part 22 s (is_held s (watch_of s a) m) _ (λ e.
    let i = place_of s (watch_of s a) m in
    let u = rules s area o in
    let p : ℕ → Bool = λ j. holds (place_at s j) (watch_of s a) m in
    let h : i < s.count = ltb-true _ _ (sym (any_first p s.count) ∙ e) in
    let g = (holds_parts (place_at s i) (watch_of s a) m (first_has p s.count h)).0 in
    (omega (arith, h, u.size.count_64), omega (arith, u.short i h g)))))
