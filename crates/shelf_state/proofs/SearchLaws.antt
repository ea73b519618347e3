-- What `position` finds is what a search by number finds; and a search among the first records of a list, lent by themselves, is the search of the list up to their number.
use Prim.Native.Nat.{◌+◌, ◌<◌, ℕ, suc, zero}
use mathlib.Core.Path.{◌∙◌, ◌≡◌, ap, ap₂, refl, sym}
use mathlib.Core.Bool.{Bool, cond, false, not, true}
use mathlib.Core.List.{List}
use lib.Dec.{leb, ltb}
use lib.ListN.{get_or, length, take}
use lib.Seq.{get_or-take}
use native.Mathlib.Omega.{arith}
use Rattle.std.specs.Prelude.{None, Option, Some, position}
use Rattle.std.proofs.lemmas.List.Sums.{fails_before_first, passes_at_first}
use Rattle.std.specs.List.{position_or_len}
use Rattle.std.specs.Option.{unwrap_or}
use borrow.Author.Tests.{ltb-false, ltb-true}
use Rattle.logic.specs.Choices.{pick}
use Rattle.logic.specs.Loops.{◌&◌, ◌⇒◌, all, any, first, one, sum}
use Rattle.logic.proofs.CountLaws.{sum_cong}
use Rattle.logic.proofs.LoopLaws.{first_at, first_cong, first_none}
use Rattle.shelf_state.specs.Records.{asked, blank_place, blank_watch, holds, holds_for, is_of}
use Rattle.shelf_state.specs.Rules.{quota_of}
use Rattle.shelf_state.specs.Searches.{find_place, find_watch, first_closed, first_free, held_among}
use Rattle.shelf_state.specs.Tests.{key_is_new, room_in, watch_ok, watch_sound, watches_ok}
use Rattle.shelf_state.specs.declared.records.Asked.{Asked}
use Rattle.shelf_state.specs.declared.records.Place.{Place}
use Rattle.shelf_state.specs.declared.records.Watch.{Watch}

-- ---- the first element with p, or the number of all
pub sought : {A : Type 0} (p : A → Bool) (d : A) (l : List A) {r : Option ℕ} → r ≡ position p l → unwrap_or r (length l) ≡ first (length l) (λ i. p (get_or l i d))
sought p d l e = ap (λ (o : Option ℕ). unwrap_or o (length l)) e ∙ go (ltb (position_or_len p l) (length l)) refl
  where
    go : (b : Bool) → ltb (position_or_len p l) (length l) ≡ b
        → unwrap_or (cond b (Some (position_or_len p l)) None) (length l) ≡ first (length l) (λ i. p (get_or l i d))
    go true h = sym (first_at _ _ _ (ltb-true _ _ h) (λ k b. fails_before_first p l k d b) (passes_at_first p l d (ltb-true _ _ h)))
    go false h = sym (first_none _ _ (λ k b. fails_before_first p l k d (omega (arith, b, ltb-false _ _ h))))

-- ---- the first records of a list
-- what is said of the numbers below n by their values alone
abbrev OfValues : {B C : Type 0} → (ℕ → (ℕ → B) → C) → Type 0
OfValues {B} {C} F = (n : ℕ) (p q : ℕ → B) → ((k : ℕ) → k < n → p k ≡ q k) → F n p ≡ F n q

any_cong : OfValues any
unfolding any
any_cong zero p q h = refl
any_cong (suc n) p q h = ap₂ (λ (a b : Bool). pick a true b) (h n (omega arith)) (any_cong n p q (λ k l. h k (omega arith)))

all_cong : OfValues all
unfolding all
all_cong zero p q h = refl
all_cong (suc n) p q h = ap₂ (λ (a b : Bool). a & b) (all_cong n p q (λ k l. h k (omega arith))) (h n (omega arith))

-- the law, for whatever is asked of each record
module _ {A : Type 0} {u : List A} (l : List A) (n : ℕ) (e : (u ≡ take n l) × (length u ≡ n)) where
  same_at : (d : A) (k : ℕ) → k < n → get_or u k d ≡ get_or l k d
  same_at d k h = ap (λ (x : List A). get_or x k d) e.0 ∙ get_or-take n l k d h

  up_to : {B C : Type 0} (F : ℕ → (ℕ → B) → C) → OfValues F → (f : A → B) (d : A) → F (length u) (λ i. f (get_or u i d)) ≡ F n (λ i. f (get_or l i d))
  up_to {B} F c f d = ap (λ (m : ℕ). F m (λ i. f (get_or u i d))) e.1 ∙ c n _ _ (λ k h. ap f (same_at d k h))

module _ {u : List Watch} (ws : List Watch) (n : ℕ) (e : (u ≡ take n ws) × (length u ≡ n)) where
  pub watch_found : (a : Asked) → find_watch u (length u) a ≡ find_watch ws n a
  watch_found a = up_to ws n e first first_cong (λ w. is_of w a) blank_watch

  pub closed_found : first_closed u (length u) ≡ first_closed ws n
  closed_found = up_to ws n e first first_cong (λ w. not w.live) blank_watch

  pub room_same : (places extra : ℕ) → room_in u (length u) places extra ≡ room_in ws n places extra
  room_same places extra = ap (λ (k : ℕ). leb (k + extra) places) (up_to ws n e sum sum_cong quota_of blank_watch)

  -- and the watches are sound: what is asked of each looks at those below it
  sound_at : (k : ℕ) → k < n → watch_ok u k ≡ watch_ok ws k
  unfolding watch_ok key_is_new
  sound_at k h =
      ap₂ (λ (w : Watch) (b : Bool). watch_sound w & (w.live ⇒ not b)) (same_at ws n e blank_watch k h)
      (any_cong k _ _ (λ j i. ap₂ (λ (v w : Watch). is_of v (asked w.key)) (same_at ws n e blank_watch j (omega (arith, i, h))) (same_at ws n e blank_watch k h)))

  pub sound_same : watches_ok u (length u) ≡ watches_ok ws n
  sound_same = ap (λ (m : ℕ). all m (watch_ok u)) e.1 ∙ all_cong n _ _ sound_at

module _ {u : List Place} (ps : List Place) (n : ℕ) (e : (u ≡ take n ps) × (length u ≡ n)) where
  pub place_found : (w m : ℕ) → find_place u (length u) w m ≡ find_place ps n w m
  place_found w m = up_to ps n e first first_cong (λ p. holds p w m) blank_place

  pub free_found : first_free u (length u) ≡ first_free ps n
  free_found = up_to ps n e first first_cong (λ p. not p.used) blank_place

  pub held_same : (w : ℕ) → held_among u (length u) w ≡ held_among ps n w
  held_same w = up_to ps n e sum sum_cong (λ p. one (holds_for p w)) blank_place
