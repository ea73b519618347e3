-- Laws of the records: keys, places, and the dropping of a watch's sections.
use Prim.Native.Nat.{◌+◌, suc, zero, ℕ}
use mathlib.Core.Path.{◌∙◌, ◌≡◌, ap, ap₂, refl, subst, sym}
use mathlib.Core.Bool.{false, true}
use mathlib.Core.List.{List}
use lib.ListN.{get_or, replicate}
use borrow.Author.Tests.{eq-eqb, eqb-true}
use Rattle.logic.proofs.LoopLaws.{and_i, and_left, and_right, each_more, isnt, true_false}
use Rattle.logic.specs.Inner.{each}
use Rattle.shelf_state.specs.Records.{asked, blank_place, holds, is_of, place_at, same_key, holds_for}
use Rattle.shelf_state.specs.Searches.{drop_below, release, set_place}
use Rattle.shelf_state.specs.declared.records.Asked.{Asked}
use Rattle.shelf_state.specs.declared.records.Place.{Place}
use Rattle.shelf_state.specs.declared.records.Shelf.{Shelf}
use Rattle.shelf_state.specs.declared.records.Watch.{Watch}

-- ---- keys
-- two keys that compare as one are equal, and a key is itself: the law of comparing
pub key_is : (a b : Asked) → same_key a b ≡ true → a ≡ b
unfolding same_key
key_is a b e =
    ap₂ (λ (x y : ℕ). record { pid = x; table_id = y; extension = a.extension }) (eqb-true _ _ (and_left _ _ e)) (eqb-true _ _ (and_left _ _ (and_right _ _ e)))
    ∙ ap (λ (z : ℕ). record { pid = b.pid; table_id = b.table_id; extension = z }) (eqb-true _ _ (and_right _ _ (and_right _ _ e)))

pub key_self : (a : Asked) → same_key a a ≡ true
unfolding same_key
key_self a = and_i _ _ (eq-eqb a.pid a.pid refl) (and_i _ _ (eq-eqb a.table_id a.table_id refl) (eq-eqb a.extension a.extension refl))

pub is_of_live : (w : Watch) (a : Asked) → is_of w a ≡ true → w.live ≡ true
unfolding is_of
is_of_live w a e = and_left _ _ e

pub is_of_key : (w : Watch) (a : Asked) → is_of w a ≡ true → asked w.key ≡ a
unfolding is_of
is_of_key w a e = key_is (asked w.key) a (and_right _ _ e)

pub is_of_i : (w : Watch) (a : Asked) → w.live ≡ true → asked w.key ≡ a → is_of w a ≡ true
unfolding is_of
is_of_i w a v e = and_i _ _ v (subst (λ (y : Asked). same_key (asked w.key) y ≡ true) e (key_self (asked w.key)))

pub is_of_shut : (w : Watch) (a : Asked) → w.live ≡ false → is_of w a ≡ false
is_of_shut w a v = isnt (is_of w a) (λ e. true_false w.live (is_of_live w a e) v)

-- one watch is not of two keys
pub two_keys : {A : Type 0} (w : Watch) (a b : Asked) → same_key a b ≡ false → is_of w a ≡ true → is_of w b ≡ true → A
two_keys w a b n e f = true_false (same_key a b) (subst (λ (y : Asked). same_key a y ≡ true) (sym (is_of_key w a e) ∙ is_of_key w b f) (key_self a)) n

-- ---- places
pub for_i : (p : Place) (w : ℕ) → p.used ≡ true → p.watch ≡ w → holds_for p w ≡ true
unfolding holds_for
for_i p w u o = and_i _ _ u (eq-eqb _ _ o)

pub for_parts : (p : Place) (w : ℕ) → holds_for p w ≡ true → (p.used ≡ true) × (p.watch ≡ w)
unfolding holds_for
for_parts p w e = (and_left _ _ e, eqb-true _ _ (and_right _ _ e))

pub holds_i : (p : Place) (w n : ℕ) → p.used ≡ true → p.watch ≡ w → p.number ≡ n → holds p w n ≡ true
unfolding holds
holds_i p w n u o m = and_i _ _ (for_i p w u o) (eq-eqb _ _ m)

pub holds_parts : (p : Place) (w n : ℕ) → holds p w n ≡ true → (p.used ≡ true) × (p.watch ≡ w) × (p.number ≡ n)
unfolding holds
holds_parts p w n e = let t = for_parts p w (and_left _ _ e) in (t.0, t.1, eqb-true _ _ (and_right _ _ e))

pub holds_free : (p : Place) (w n : ℕ) → p.used ≡ false → holds p w n ≡ false
holds_free p w n f = isnt (holds p w n) (λ e. true_false p.used (holds_parts p w n e).0 f)

-- ---- dropping
pub drop_none : (s : Shelf) (w : ℕ) → s ≡ drop_below s w 0
unfolding each
drop_none s w = refl

pub drop_step : (s t : Shelf) (w i : ℕ) (p : Place) → t ≡ drop_below s w i → p ≡ release w (place_at t i) → set_place t i p ≡ drop_below s w (i + 1)
drop_step s t w i p e f =
    ap₂ (λ (x : Shelf) (y : Place). set_place x i y) e (f ∙ ap (λ (x : Shelf). release w (place_at x i)) e)
    ∙ ap (λ (l : List Place). record { watches = s.watches; records = s.records; places = l; count = s.count }) (each_more (release w) blank_place i s.places)

-- ---- lists of one element
pub replicate_at : {A : Type 0} (n k : ℕ) (a : A) → get_or (replicate n a) k a ≡ a
replicate_at zero k a = refl
replicate_at (suc n) zero a = refl
replicate_at (suc n) (suc k) a = replicate_at n k a
