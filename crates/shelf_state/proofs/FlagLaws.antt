-- The pass over the places: the flags say which sections of which watches were met so far.
use Prim.Native.Nat.{◌*◌, ◌+◌, ◌<◌, ◌≤◌, ℕ}
use mathlib.Core.Path.{◌∙◌, ◌≡◌, ap, sym}
use mathlib.Core.Bool.{Bool, false, true}
use mathlib.Core.List.{List}
use mathlib.Core.Logic.{⊎_elim}
use native.Mathlib.Omega.{arith}
use lib.ListN.{get_or, length, length-set, set}
use lib.Seq.{get_or-set_other, get_or-set_same}
use borrow.Author.Tests.{le-ltb, lt-ltb}
use Rattle.logic.specs.Choices.{pick}
use Rattle.logic.proofs.LoopLaws.{all_at, and_i, and_left, and_no_left, and_no_right, and_right, any_more, both, if_i, if_then, isnt, not_e, not_i, true_false}
use Rattle.shelf_state.proofs.RecordLaws.{holds_free, holds_i, holds_parts}
use Rattle.shelf_state.proofs.RuleLaws.{Owned, in_range_lem, owner_facts, watch_facts}
use Rattle.logic.specs.Loops.{any}
use Rattle.shelf_state.specs.Records.{holds, place_at, watch_at}
use Rattle.shelf_state.specs.Tests.{owner_ok, place_ok, sound_under, watch_ok, watches_ok}
use Rattle.shelf_state.specs.declared.records.Place.{Place}
use Rattle.shelf_state.specs.declared.records.Shelf.{Shelf}

pub record Seen (s : Shelf) (i : ℕ) (seen : List Bool) : Type 0 where
  pub size : length seen ≡ 1024
  pub flag : (w n : ℕ) → w < 16 → n < 64 → get_or seen (w * 64 + n) false ≡ any i (λ j. holds (place_at s j) w n)

pub seen_none : (s : Shelf) (seen : List Bool) → length seen ≡ 1024 → ((k : ℕ) → get_or seen k false ≡ false) → Seen s 0 seen
unfolding any
seen_none s seen z h = record { size = z; flag = λ w n a b. h (w * 64 + n) }

-- one place more, by what it holds
more : (p : ℕ → Bool) (i : ℕ) (b : Bool) → p i ≡ b → any (i + 1) p ≡ pick b true (any i p)
more p i b e = any_more p i ∙ ap (λ (x : Bool). pick x true (any i p)) e

pub seen_free : (s : Shelf) (i : ℕ) (seen : List Bool) → Seen s i seen → (place_at s i).used ≡ false → Seen s (i + 1) seen
seen_free s i seen h f = record {
  size = h.size;
  flag = λ w n a b. h.flag w n a b ∙ sym (more (λ j. holds (place_at s j) w n) i false (holds_free (place_at s i) w n f));
}

-- a section that is met sets its own flag and no other
pub seen_more : (s : Shelf) (i k : ℕ) (seen : List Bool) → Seen s i seen → (place_at s i).used ≡ true
    → ((place_at s i).watch < 16) × ((place_at s i).number < 64) → k ≡ (place_at s i).watch * 64 + (place_at s i).number → Seen s (i + 1) (set seen k true)
seen_more s i k seen h u small e = record {
  size = length-set seen k true ∙ h.size;
  flag = λ w n a b. ⊎_elim
      (λ t. let y = holds_parts (place_at s i) w n t in
      ap (λ (x : ℕ). get_or (set seen k true) x false) (omega (arith, e, y.1, y.2))
      ∙ get_or-set_same seen k true false (omega (arith, e, small.0, small.1, h.size))
      ∙ sym (more (λ j. holds (place_at s j) w n) i true t))
      (λ f. get_or-set_other seen k (w * 64 + n) true false (λ q. apart w n b f (q ∙ e))
      ∙ h.flag w n a b ∙ sym (more (λ j. holds (place_at s j) w n) i false f))
      (both (holds (place_at s i) w n));
}
  where
    apart : (w n : ℕ) → n < 64 → holds (place_at s i) w n ≡ false → w * 64 + n ≡ (place_at s i).watch * 64 + (place_at s i).number → ⊥
    apart w n b f q = true_false (holds (place_at s i) w n)
        (holds_i (place_at s i) w n u (omega (arith, q, b, small.1)) (omega (arith, q, b, small.1))) f

-- the flag of a place says whether its section was met before
pub flag_is : (s : Shelf) (i k : ℕ) (seen : List Bool) (b : Bool) → Seen s i seen → ((place_at s i).watch < 16) × ((place_at s i).number < 64)
    → k ≡ (place_at s i).watch * 64 + (place_at s i).number → get_or seen k false ≡ b → any i (λ j. holds (place_at s j) (place_at s i).watch (place_at s i).number) ≡ b
flag_is s i k seen b h small e f = sym (h.flag _ _ small.0 small.1) ∙ sym (ap (λ (x : ℕ). get_or seen x false) e) ∙ f

-- where the flag of a place with a sound owner stands
pub flag_small : (s : Shelf) (p : Place) → s.records ≤ 16 → watches_ok s.watches s.records ≡ true → owner_ok s p ≡ true → (p.watch < 16) × (p.number < 64)
flag_small s p l h e =
    let o : Owned s p = owner_facts s p e in
    let f = watch_facts s p.watch (all_at (watch_ok s.watches) s.records h p.watch o.below) o.live in
    (omega (arith, o.below), omega (arith, o.upto, f.1 o.heard, (in_range_lem _ _ f.0).quota_64))

-- ---- what the test of a place comes to
-- its owner's part, as the code finds it
module _ (s : Shelf) (p : Place) {o : ℕ} (is : o ≡ p.watch) where
  pub owner_yes : o < s.records → sound_under (watch_at s o) p ≡ true → owner_ok s p ≡ true
  unfolding owner_ok
  owner_yes l e = and_i _ _ (lt-ltb p.watch s.records (omega (arith, is, l))) (sym (ap (λ (x : ℕ). sound_under (watch_at s x) p) is) ∙ e)

  pub owner_no : sound_under (watch_at s o) p ≡ false → owner_ok s p ≡ false
  unfolding owner_ok
  owner_no f = and_no_right _ _ (sym (ap (λ (x : ℕ). sound_under (watch_at s x) p) is) ∙ f)

  pub owner_past : s.records ≤ o → owner_ok s p ≡ false
  unfolding owner_ok
  owner_past l = and_no_left _ _ (le-ltb p.watch s.records (omega (arith, is, l)))

module _ (s : Shelf) (i : ℕ) where
  pub place_free : (place_at s i).used ≡ false → place_ok s i ≡ true
  unfolding place_ok
  place_free f = if_i _ _ (λ u. true_false (place_at s i).used u f)

  pub place_sound : owner_ok s (place_at s i) ≡ true → any i (λ j. holds (place_at s j) (place_at s i).watch (place_at s i).number) ≡ false → place_ok s i ≡ true
  unfolding place_ok
  place_sound e n = if_i _ _ (λ u. and_i _ _ e (not_i _ n))

  pub place_owner : (place_at s i).used ≡ true → owner_ok s (place_at s i) ≡ false → place_ok s i ≡ false
  unfolding place_ok
  place_owner u f = isnt (place_ok s i) (λ t. true_false (owner_ok s (place_at s i)) (and_left _ _ (if_then _ _ t u)) f)

  pub place_twice : (place_at s i).used ≡ true → any i (λ j. holds (place_at s j) (place_at s i).watch (place_at s i).number) ≡ true → place_ok s i ≡ false
  unfolding place_ok
  place_twice u t = isnt (place_ok s i) (λ e. true_false (any i (λ j. holds (place_at s j) (place_at s i).watch (place_at s i).number)) t (not_e _ (and_right _ _ (if_then _ _ e u))))
