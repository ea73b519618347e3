-- A sound section and the watch that it goes to: the edition's facts, its place, and where its bytes go.
use Prim.Native.Nat.{◌*◌, ◌+◌, ◌<◌, ◌≤◌, ℕ}
use mathlib.Core.Path.{◌∙◌, ◌≡◌, ap, ap₂, refl, subst, sym}
use mathlib.Core.Bool.{Bool, false, not, true}
use mathlib.Core.List.{List}
use native.Mathlib.Omega.{arith}
use lib.Dec.{eqb, leb}
use lib.ListN.{length}
use lib.Seq.{paste, set-get_or}
use borrow.Author.Tests.{leb-true, ltb-true, ne_eqb}
use Rattle.logic.specs.Choices.{pick}
use Rattle.refusal.specs.Outcomes.{Outcome, refused, resulted, or_refuse}
use Rattle.section.specs.declared.header.Header.{Header}
use Rattle.logic.proofs.LoopLaws.{any_first, any_yes}
use Rattle.shelf_state.proofs.RecordLaws.{drop_none}
use Rattle.shelf_state.proofs.RuleLaws.{Rules, found_live, in_range_lem, rules}
use Rattle.shelf_state.specs.Records.{blank_watch, is_of, watch_at}
use Rattle.shelf_state.specs.Searches.{watch_in, drop_below, dropped, find_watch, set_place, set_watch, watch_of, watched}
use Rattle.shelf_state.specs.Rules.{obeys}
use Rattle.shelf_state.specs.declared.records.Asked.{Asked}
use Rattle.shelf_state.specs.declared.records.Place.{Place}
use Rattle.shelf_state.specs.declared.records.Shelf.{Shelf}
use Rattle.shelf_state.specs.declared.records.Watch.{Watch}
use Rattle.refusal.proofs.OutcomeLaws.{not_both, same_result}
use Rattle.shelf.proofs.EditLaws.{Edited, edited_facts, hearing_same}
use Rattle.shelf.proofs.PlaceLaws.{place_below}
use Rattle.shelf.specs.Answers.{After}
use Rattle.shelf.specs.Calls.{answered}
use Rattle.shelf.specs.Inner.{Ready, Sound, dropped_below}
use Rattle.shelf.specs.Delivery.{area_after, edited, for_owner, hearing, keeping, owner_in, place_for, quiet, received, received_at, stored}
use Rattle.shelf.specs.Views.{same_edition}

-- ---- the watch that a section goes to is open, watched by its key, and has a quota for it
pub record Owns (s : Shelf) (a : Asked) (h : Header) (w : ℕ) : Type 0 where
  pub is : w ≡ watch_of s a
  pub below : w < s.records
  pub live : (watch_at s w).live ≡ true
  pub quota : h.last < (watch_at s w).quota

pub owns : (s : Shelf) (a : Asked) (h : Header) (w : ℕ) → owner_in s.watches s.records a h ≡ resulted w → Owns s a h w
unfolding owner_in or_refuse
owns s a h w e = current (eqb h.current 0) e
  where
    room : watched s a ≡ true → (c : Bool) → leb (h.last + 1) (watch_at s (watch_of s a)).quota ≡ c → or_refuse 18 c (resulted (watch_of s a)) ≡ resulted w → Owns s a h w
    room f false g x = not_both 18 w x
    room f true g x =
        let q : watch_of s a ≡ w = same_result (watch_of s a) w x in
        let l : watch_of s a < s.records = ltb-true _ _ (sym (any_first (λ j. is_of (watch_at s j) a) s.records) ∙ f) in
        subst (Owns s a h) q (record { is = refl; below = l; live = found_live s a (watch_of s a) refl l; quota = omega (arith, leb-true (h.last + 1) (watch_at s (watch_of s a)).quota g) })

    known : (c : Bool) → watched s a ≡ c → or_refuse 17 c (or_refuse 18 (leb (h.last + 1) (watch_at s (watch_of s a)).quota) (resulted (watch_of s a))) ≡ resulted w → Owns s a h w
    known false f x = not_both 17 w x
    known true f x = room f (leb (h.last + 1) (watch_at s (watch_of s a)).quota) refl x

    current : (c : Bool) → or_refuse 16 (not c) (or_refuse 17 (watched s a) (or_refuse 18 (leb (h.last + 1) (watch_at s (watch_of s a)).quota) (resulted (watch_of s a)))) ≡ resulted w → Owns s a h w
    current true x = not_both 16 w x
    current false x = known (watched s a) refl x

-- the tests in the code's order: 18, or the watch
pub owner_late : (ws : List Watch) (n : ℕ) (a : Asked) (h : Header) (w : ℕ) (c : Bool) → (h.current ≡ 0 → ⊥) → w ≡ find_watch ws n a → w < n
    → leb (h.last + 1) (watch_in ws w).quota ≡ c → or_refuse 18 c (resulted w) ≡ owner_in ws n a h
unfolding owner_in or_refuse
owner_late ws n a h w c f e l g = rw (ne_eqb _ _ f, any_yes _ _ e l, ← e, g)

pub ready_of : (s : Shelf) (area : ℕ) (a : Asked) (h : Header) (n w : ℕ) → obeys s area ≡ true → Sound h n → owner_in s.watches s.records a h ≡ resulted w → Ready s w h area n
ready_of s area a h n w o z e = let x = owns s a h w e in record { rules = o; below = x.below; live = x.live; quota = x.quota; sound = z }

-- ---- its edition and its place
module _ (s : Shelf) (w : ℕ) (h : Header) (area n : ℕ) (x : Ready s w h area n) where
  abbrev t : Shelf
  t = edited s w h

  abbrev r : Rules s area
  r = rules s area x.rules

  pub ready_edited : Edited s area r w h x.below x.live x.quota t
  ready_edited = edited_facts s area r w h x.below x.live x.quota

  -- its last number is a byte's
  ready_last : h.last < 64
  ready_last = omega (arith, x.quota, (in_range_lem _ _ (r.range w x.below x.live)).quota_64)

  pub ready_place : place_for t w h.number < t.count
  ready_place = let e = ready_edited in
      place_below t area e.rules w h.number
      (omega (arith, x.below, e.records_same)) (ap (λ (y : Watch). y.live) e.own ∙ x.live)
      (omega (arith, x.sound.number_last, x.quota, ap (λ (y : Watch). y.quota) e.own))

  -- what the code asks of the numbers that it narrows
  pub record Narrow : Type 0 where
    pub watch_16 : w < 16
    pub watch_8 : w < 256
    pub count_64 : s.count ≤ 64
    pub version_8 : h.version < 256
    pub last_8 : h.last < 256
    pub number_8 : h.number < 256
    pub length_16 : n < 65536

  pub narrow : Narrow
  narrow = let k = r.size in record {
    watch_16 = omega (arith, x.below, k.records_16);
    watch_8 = omega (arith, x.below, k.records_16);
    count_64 = k.count_64;
    version_8 = omega (arith, x.sound.version_5);
    last_8 = omega (arith, ready_last);
    number_8 = omega (arith, x.sound.number_last, ready_last);
    length_16 = omega (arith, x.sound.size);
  }

  -- and of the shelf that it has and the place that it finds
  pub count_after : (u : Shelf) → u ≡ t → u.count ≤ 64
  count_after u e = subst (λ (y : Shelf). y.count ≤ 64) (sym e) (omega (arith, ready_edited.count_same, r.size.count_64))

  pub place_inside : (u : Shelf) (i : ℕ) → u ≡ t → i ≡ place_for u w h.number → (i < 64) × (i * 4096 + n ≤ area)
  place_inside u i e f =
      let g : i ≡ place_for t w h.number = f ∙ ap (λ (y : Shelf). place_for y w h.number) e in
      (omega (arith, g, ready_place, ready_edited.count_same, r.size.count_64), omega (arith, g, ready_place, ready_edited.count_same, r.size.area_is, x.sound.size))

-- the edition as the code changes it: the record is written, and of another edition every place is searched
pub edited_by_lem : (s : Shelf) (w : ℕ) (h : Header) (y : Watch) (n : ℕ) → y ≡ hearing (watch_at s w) h → n ≡ dropped_below (watch_at s w).edition h s.count
    → drop_below (set_watch s w y) w n ≡ edited s w h
unfolding edited dropped_below
edited_by_lem s w h y n e f =
    ap₂ (λ (z : Watch) (k : ℕ). drop_below (set_watch s w z) w k) e f
    ∙ go (same_edition (watch_at s w).edition h) refl
  where
    go : (b : Bool) → same_edition (watch_at s w).edition h ≡ b
        → drop_below (set_watch s w (hearing (watch_at s w) h)) w (pick b 0 s.count) ≡ pick b s (set_watch (dropped s w) w (hearing (watch_at s w) h))
    go false q = refl
    go true q =
        sym (drop_none (set_watch s w (hearing (watch_at s w) h)) w)
        ∙ ap (λ (z : Watch). set_watch s w z) (hearing_same (watch_at s w) h q)
        ∙ ap (λ (l : List Watch). record { watches = l; records = s.records; places = s.places; count = s.count }) (set-get_or s.watches w blank_watch)

-- ---- what a delivery comes to
pub for_owner_lem : (s : Shelf) (a : Asked) (h : Header) (n w : ℕ) → owner_in s.watches s.records a h ≡ resulted w
    → received s a h n ≡ received_at s w h n
unfolding received for_owner
for_owner_lem s a h n w e = ap (for_owner s h n) e

-- as the code comes to it
pub kept_after : (s : Shelf) (w : ℕ) (h : Header) (n : ℕ) (t : Shelf) (i : ℕ) (p : Place) → t ≡ edited s w h → i ≡ place_for t w h.number → p ≡ keeping w h.number n
    → received_at s w h n ≡ answered i (set_place t i p)
unfolding received_at
kept_after s w h n t i p e f g =
    ap (λ (x : Shelf). answered (place_for x w h.number) (stored x w h.number n)) (sym e)
    ∙ ap₂ (λ (j : ℕ) (q : Place). answered j (set_place t j q)) (sym f) (sym g)

pub area_refused : (area b : List ℕ) (o : Outcome ℕ) (k : ℕ) → o ≡ refused k → area ≡ area_after area b o
unfolding area_after
area_refused area b o k e = sym (ap (area_after area b) e)

pub area_at : (area b : List ℕ) (o : Outcome ℕ) (i : ℕ) → o ≡ resulted i → paste area (i * 4096) b (length b) ≡ area_after area b o
unfolding area_after
area_at area b o i e = sym (ap (area_after area b) e)

-- an answer and an area that are told by a delivery are told by any that equals it
pub by_after : (area b : List ℕ) (x y : After ℕ) → x ≡ y → {r : After (Unit {0})} {z : List ℕ}
    → (r ≡ quiet x) × (z ≡ area_after area b x.outcome) → (r ≡ quiet y) × (z ≡ area_after area b y.outcome)
by_after area b x y e p = (p.0 ∙ ap quiet e, p.1 ∙ ap (λ (u : After ℕ). area_after area b u.outcome) e)
