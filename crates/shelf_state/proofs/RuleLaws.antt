-- The rules as facts that a proof uses by name; the rules' value and the tests' value both say these facts, so they are one.
use Rattle.std.specs.Prelude.{Option, Some}
use Prim.Native.Nat.{◌*◌, ◌+◌, ◌<◌, ◌≤◌, ℕ}
use mathlib.Core.Path.{◌∙◌, ◌≡◌, ap, ap₂, refl, subst, sym}
use mathlib.Core.Bool.{Bool, false, not, true}
use mathlib.Core.Logic.{⊎_elim}
use native.Mathlib.Omega.{arith}
use lib.Dec.{eqb}
use lib.ListN.{length}
use borrow.Author.Tests.{eq-eqb, eqb-true, le-leb, leb-true, lt-ltb, ltb-true, not-false}
use Rattle.logic.specs.Choices.{if_eq, pick}
use Rattle.kind.specs.Kinds.{kind_of}
use Rattle.kind.specs.declared.Kind.{Kind}
use Rattle.logic.proofs.CountLaws.{Sorted, count_by, count_gap, count_none, count_some, numbers, pigeon, pigeon_gap, sum_lt}
use Rattle.logic.proofs.LoopLaws.{all_at, all_i, and_i, and_left, and_right, any_none, both, first_has, if_i, if_then, isnt, neither_below, none_at, not_e, not_i, same_truth, true_false}
use Rattle.shelf_state.proofs.RecordLaws.{holds_i, holds_parts, is_of_key, is_of_live, for_i, for_parts}
use Rattle.logic.specs.Loops.{any, count}
use Rattle.shelf_state.specs.Records.{asked, holds, is_of, place_at, holds_for, watch_at}
use Rattle.shelf_state.specs.Searches.{free_place, is_held, watch_of}
use Rattle.shelf_state.specs.Rules.{held_by, in_range, keys_differ, keys_in_range, last_below_quota, lengths_fit, none_above_quota, none_twice, obeys, places_owned, promised, quota_of, quotas_fit, sizes_fit, sizes_in_range, unheard_empty, watchable}
use Rattle.shelf_state.specs.Tests.{key_is_new, last_ok, owner_ok, place_ok, sound_under, tested, watch_ok, watch_sound}
use Rattle.shelf_state.specs.declared.records.Asked.{Asked}
use Rattle.shelf_state.specs.declared.records.Place.{Place}
use Rattle.shelf_state.specs.declared.records.Shelf.{Shelf}
use Rattle.shelf_state.specs.declared.records.Watch.{Watch}
use Rattle.kind.specs.declared.Kind.TheVariants.{Mgt, Tvct, Rrt, Eit, Ett}

-- ---- the facts
pub record Sizes (s : Shelf) (area : ℕ) : Type 0 where
  pub watches_16 : length s.watches ≡ 16
  pub places_64 : length s.places ≡ 64
  pub count_1 : 1 ≤ s.count
  pub count_64 : s.count ≤ 64
  pub records_1 : 1 ≤ s.records
  pub records_16 : s.records ≤ 16
  pub area_is : area ≡ s.count * 4096

-- what a taken place says of its watch
pub record Owned (s : Shelf) (p : Place) : Type 0 where
  pub below : p.watch < s.records
  pub live : (watch_at s p.watch).live ≡ true
  pub heard : (watch_at s p.watch).edition.heard ≡ true
  pub upto : p.number ≤ (watch_at s p.watch).edition.last

pub record Rules (s : Shelf) (area : ℕ) : Type 0 where
  pub size : Sizes s area
  pub keys_differ_lem : (i j : ℕ) → i < j → j < s.records → (watch_at s j).live ≡ true → is_of (watch_at s i) (asked (watch_at s j).key) ≡ false
  pub promise : promised s ≤ s.count
  pub owned : (i : ℕ) → i < s.count → (place_at s i).used ≡ true → Owned s (place_at s i)
  pub once : (i j : ℕ) → i < j → j < s.count → (place_at s j).used ≡ true → holds (place_at s i) (place_at s j).watch (place_at s j).number ≡ false
  pub last_below : (i : ℕ) → i < s.records → (watch_at s i).live ≡ true → (watch_at s i).edition.heard ≡ true → (watch_at s i).edition.last < (watch_at s i).quota
  pub short : (i : ℕ) → i < s.count → (place_at s i).used ≡ true → (place_at s i).length ≤ 4096
  pub range : (i : ℕ) → i < s.records → (watch_at s i).live ≡ true → in_range (asked (watch_at s i).key) (watch_at s i).quota ≡ true

-- ---- sizes
pub sizes : (s : Shelf) (area : ℕ) → sizes_fit s area ≡ true → Sizes s area
unfolding sizes_fit sizes_in_range
sizes s area e =
    let d = and_right _ _ e in
    let f = and_right _ _ d in
    let r = and_left _ _ f in
    let r₁ = and_right _ _ r in
    let r₂ = and_right _ _ r₁ in
    record {
      watches_16 = eqb-true _ _ (and_left _ _ e);
      places_64 = eqb-true _ _ (and_left _ _ d);
      count_1 = leb-true _ _ (and_left _ _ r);
      count_64 = leb-true _ _ (and_left _ _ r₁);
      records_1 = leb-true _ _ (and_left _ _ r₂);
      records_16 = leb-true _ _ (and_right _ _ r₂);
      area_is = eqb-true _ _ (and_right _ _ f);
    }

sizes_i : (s : Shelf) (area : ℕ) → Sizes s area → sizes_fit s area ≡ true
unfolding sizes_fit sizes_in_range
sizes_i s area z =
    and_i _ _ (eq-eqb _ _ z.watches_16) (and_i _ _ (eq-eqb _ _ z.places_64)
    (and_i _ _ (and_i _ _ (le-leb _ _ z.count_1) (and_i _ _ (le-leb _ _ z.count_64) (and_i _ _ (le-leb _ _ z.records_1) (le-leb _ _ z.records_16))))
    (eq-eqb _ _ z.area_is)))

pub in_sizes : (places records : ℕ) → sizes_in_range places records ≡ true → places ≤ 64
unfolding sizes_in_range
in_sizes places records e = leb-true _ _ (and_left _ _ (and_right _ _ e))

-- ---- ranges
id_small : (x c : ℕ) (k : Kind) (rest : Option Kind) → c < 256 → (watchable rest ≡ true → x < 256) → watchable (if_eq x c (Some k) rest) ≡ true → x < 256
unfolding if_eq
id_small x c k rest l h e = go (eqb x c) refl e
  where
    go : (b : Bool) → eqb x c ≡ b → watchable (pick b (Some k) rest) ≡ true → x < 256
    go true q f = omega (arith, eqb-true x c q, l)
    go false q f = h f

watchable_small : (x : ℕ) → watchable (kind_of x) ≡ true → x < 256
unfolding kind_of watchable
watchable_small x =
    id_small x 0xC7 Mgt _ (omega arith) (id_small x 0xC8 Tvct _ (omega arith) (id_small x 0xCA Rrt _ (omega arith)
    (id_small x 0xCB Eit _ (omega arith) (id_small x 0xCC Ett _ (omega arith) (λ e. true_false false e refl)))))

pub record InRange (a : Asked) (q : ℕ) : Type 0 where
  pub pid_13 : a.pid ≤ 8191
  pub id_8 : a.table_id < 256
  pub quota_64 : q ≤ 64

pub in_range_lem : (a : Asked) (q : ℕ) → in_range a q ≡ true → InRange a q
unfolding in_range
in_range_lem a q e =
    let d = and_right _ _ e in
    let f = and_right _ _ d in
    record {
      pid_13 = leb-true _ _ (and_left _ _ e);
      id_8 = watchable_small a.table_id (and_left _ _ d);
      quota_64 = leb-true _ _ (and_right _ _ f);
    }

-- ---- counting
pub quota_live : (w : Watch) → w.live ≡ true → quota_of w ≡ w.quota
unfolding quota_of
quota_live w e = rw e

pub quota_shut : (w : Watch) → w.live ≡ false → quota_of w ≡ 0
unfolding quota_of
quota_shut w e = rw e

module _ (s : Shelf) (area : ℕ) (h : Rules s area) where
  -- the sections of one watch are sorted by their numbers, which are at most its last
  sorted : (w q : ℕ) → ((watch_at s w).live ≡ true → (watch_at s w).edition.heard ≡ true → (watch_at s w).edition.last < q)
      → Sorted s.count q (λ i. holds_for (place_at s i) w) (λ i. (place_at s i).number)
  sorted w q up = record {
    small = λ i l e. small' i l (for_parts (place_at s i) w e);
    apart = λ i j a b e f n.
        let x = for_parts (place_at s i) w e in
        let y = for_parts (place_at s j) w f in
        true_false (holds (place_at s i) (place_at s j).watch (place_at s j).number)
        (holds_i (place_at s i) _ _ x.0 (x.1 ∙ sym y.1) n)
        (h.once i j a b y.0);
  }
    where
      small' : (i : ℕ) → i < s.count → ((place_at s i).used ≡ true) × ((place_at s i).watch ≡ w) → (place_at s i).number < q
      small' i l u =
          let o : Owned s (place_at s i) = h.owned i l u.0 in
          let v : (watch_at s w).live ≡ true = rw u.1 at o.live in
          let g : (watch_at s w).edition.heard ≡ true = rw u.1 at o.heard in
          let b : (place_at s i).number ≤ (watch_at s w).edition.last = rw u.1 at o.upto in
          omega (arith, b, up v g)

  below_quota : (w : ℕ) → w < s.records → Sorted s.count (watch_at s w).quota (λ i. holds_for (place_at s i) w) (λ i. (place_at s i).number)
  below_quota w l = sorted w (watch_at s w).quota (h.last_below w l)

  -- a closed watch holds nothing, and so does one with no edition
  pub shut_holds : (w i : ℕ) → i < s.count → (watch_at s w).live ≡ false → holds_for (place_at s i) w ≡ false
  shut_holds w i l v = isnt (holds_for (place_at s i) w) (λ t.
      let u = for_parts (place_at s i) w t in
      let o : Owned s (place_at s i) = h.owned i l u.0 in
      true_false (watch_at s w).live (rw u.1 at o.live) v)

  pub unheard_holds : (w i : ℕ) → i < s.count → (watch_at s w).edition.heard ≡ false → holds_for (place_at s i) w ≡ false
  unheard_holds w i l v = isnt (holds_for (place_at s i) w) (λ t.
      let u = for_parts (place_at s i) w t in
      let o : Owned s (place_at s i) = h.owned i l u.0 in
      true_false (watch_at s w).edition.heard (rw u.1 at o.heard) v)

  -- no watch holds more than its quota
  pub held_quota : (w : ℕ) → w < s.records → held_by s w ≤ quota_of (watch_at s w)
  held_quota w l = ⊎_elim
      (λ e. rw (quota_live (watch_at s w) e) (pigeon s.count (watch_at s w).quota (λ i. holds_for (place_at s i) w) (λ i. (place_at s i).number) (below_quota w l)))
      (λ e. let z : held_by s w ≡ 0 = count_none s.count (λ i. holds_for (place_at s i) w) (λ i m. shut_holds w i m e) in omega (arith, z))
      (both (watch_at s w).live)

  -- a watch's sections are as many as the numbers that it holds, all at most its last
  pub held_numbers_lem : (w : ℕ) → held_by s w ≡ count ((watch_at s w).edition.last + 1) (λ n. is_held s w n)
  unfolding holds
  held_numbers_lem w = numbers s.count ((watch_at s w).edition.last + 1) (λ i. holds_for (place_at s i) w) (λ i. (place_at s i).number) (sorted w _ (λ v g. omega arith))

  -- an open watch that lacks a number below its quota leaves a place free
  pub room_left : (w n : ℕ) → w < s.records → (watch_at s w).live ≡ true → n < (watch_at s w).quota
      → ((i : ℕ) → i < s.count → holds (place_at s i) w n ≡ false) → free_place s < s.count
  unfolding holds holds_for
  room_left w n l e q lacks =
      count_gap s.count (λ i. (place_at s i).used)
      (omega (
        arith,
        h.promise,
        count_by s.count s.records (λ i. (place_at s i).used) (λ i. (place_at s i).watch) (λ i a u. (h.owned i a u).below),
        sum_lt s.records (held_by s) (λ i. quota_of (watch_at s i)) held_quota w l
            (rw (quota_live (watch_at s w) e)
            (pigeon_gap s.count (watch_at s w).quota (λ i. holds_for (place_at s i) w) (λ i. (place_at s i).number) (below_quota w l) n q lacks)),
      ))

-- ---- the rules' value says the facts
module _ (s : Shelf) (area : ℕ) (h : obeys s area ≡ true) where
  owned_at : (i : ℕ) → i < s.count → (place_at s i).used ≡ true
      → places_owned s ≡ true → unheard_empty s ≡ true → Owned s (place_at s i)
  unfolding places_owned unheard_empty
  owned_at i l u a b =
      let e = if_then _ _ (all_at _ s.count a i l) u in
      let w = (place_at s i).watch in
      let below : w < s.records = ltb-true _ _ (and_left _ _ e) in
      let live : (watch_at s w).live ≡ true = and_left _ _ (and_right _ _ e) in
      record {
        below = below;
        live = live;
        heard = ⊎_elim (λ g. g)
            (λ g. absurd (omega (
              arith,
              eqb-true (held_by s w) 0 (if_then _ _ (all_at _ s.records b w below) (and_i _ _ live (ap not g))),
              count_some s.count (λ j. holds_for (place_at s j) w) i l (for_i (place_at s i) w u refl),
            )))
            (both (watch_at s w).edition.heard);
        upto = leb-true _ _ (and_right _ _ (and_right _ _ e));
      }

  pub rules : Rules s area
  unfolding obeys keys_differ quotas_fit none_twice last_below_quota lengths_fit keys_in_range
  rules =
      let h₁ = and_right _ _ h in
      let h₂ = and_right _ _ h₁ in
      let h₃ = and_right _ _ h₂ in
      let h₄ = and_right _ _ h₃ in
      let h₅ = and_right _ _ h₄ in
      let h₆ = and_right _ _ h₅ in
      let h₇ = and_right _ _ h₆ in
      let h₈ = and_right _ _ h₇ in
      record {
        size = sizes s area (and_left _ _ h);
        keys_differ_lem = λ i j l m v. none_at (λ k. is_of (watch_at s k) (asked (watch_at s j).key)) j (not_e _ (if_then _ _ (all_at _ s.records (and_left _ _ h₁) j m) v)) i l;
        promise = leb-true _ _ (and_left _ _ h₂);
        owned = λ i l u. owned_at i l u (and_left _ _ h₃) (and_left _ _ h₇);
        once = λ i j l m u. none_at (λ k. holds (place_at s k) (place_at s j).watch (place_at s j).number) j (not_e _ (if_then _ _ (all_at _ s.count (and_left _ _ h₄) j m) u)) i l;
        last_below = λ w l v g. ltb-true _ _ (if_then _ _ (all_at _ s.records (and_left _ _ h₆) w l) (and_i _ _ v g));
        short = λ i l u. leb-true _ _ (if_then _ _ (all_at _ s.count (and_left _ _ h₈) i l) u);
        range = λ w l v. if_then _ _ (all_at _ s.records (and_right _ _ h₈) w l) v;
      }

-- and the facts say that value
pub obeys_i : (s : Shelf) (area : ℕ) → Rules s area → obeys s area ≡ true
unfolding obeys keys_differ quotas_fit places_owned none_twice none_above_quota last_below_quota unheard_empty lengths_fit keys_in_range
obeys_i s area h =
    and_i _ _ (sizes_i s area h.size)
    (and_i _ _ (all_i _ s.records (λ j l. if_i _ _ (λ v. not_i _ (any_none _ j (λ i m. h.keys_differ_lem i j m l v)))))
    (and_i _ _ (le-leb _ _ h.promise)
    (and_i _ _ (all_i _ s.count (λ i l. if_i _ _ (λ u. let o = h.owned i l u in and_i _ _ (lt-ltb _ _ o.below) (and_i _ _ o.live (le-leb _ _ o.upto)))))
    (and_i _ _ (all_i _ s.count (λ j l. if_i _ _ (λ u. not_i _ (any_none _ j (λ i m. h.once i j m l u)))))
    (and_i _ _ (all_i _ s.records (λ w l. if_i _ _ (λ v. le-leb (held_by s w) (watch_at s w).quota (omega (arith, held_quota s area h w l, quota_live (watch_at s w) v)))))
    (and_i _ _ (all_i _ s.records (λ w l. if_i _ _ (λ v. lt-ltb _ _ (h.last_below w l (and_left _ _ v) (and_right _ _ v)))))
    (and_i _ _ (all_i _ s.records (λ w l. if_i _ _ (λ v. eq-eqb _ _ (count_none s.count (λ i. holds_for (place_at s i) w) (λ i m. unheard_holds s area h w i m (not_e _ (and_right _ _ v)))))))
    (and_i _ _ (all_i _ s.count (λ i l. if_i _ _ (λ u. le-leb _ _ (h.short i l u))))
    (all_i _ s.records (λ w l. if_i _ _ (λ v. h.range w l v)))))))))))

-- ---- the tests' value says the facts
pub owner_facts : (s : Shelf) (p : Place) → owner_ok s p ≡ true → Owned s p
unfolding owner_ok sound_under
owner_facts s p e =
    let e₁ = and_right _ _ (and_right _ _ e) in
    let e₂ = and_right _ _ e₁ in
    record {
      below = ltb-true _ _ (and_left _ _ e);
      live = and_left _ _ e₁;
      heard = and_left _ _ e₂;
      upto = leb-true _ _ (and_right _ _ e₂);
    }

module _ (s : Shelf) (i : ℕ) where
  pub watch_facts : watch_ok s.watches i ≡ true → (watch_at s i).live ≡ true
      → (in_range (asked (watch_at s i).key) (watch_at s i).quota ≡ true) × ((watch_at s i).edition.heard ≡ true → (watch_at s i).edition.last < (watch_at s i).quota)
      × (any i (λ j. is_of (watch_at s j) (asked (watch_at s i).key)) ≡ false)
  unfolding watch_ok watch_sound key_is_new last_ok
  watch_facts e v =
      let f = if_then _ _ (and_left _ _ e) v in
      (and_left _ _ f, λ d. ltb-true _ _ (if_then _ _ (and_right _ _ f) d), not_e _ (if_then _ _ (and_right _ _ e) v))

  place_facts : place_ok s i ≡ true → (place_at s i).used ≡ true
      → (owner_ok s (place_at s i) ≡ true) × (any i (λ j. holds (place_at s j) (place_at s i).watch (place_at s i).number) ≡ false)
  unfolding place_ok
  place_facts e u = let f = if_then _ _ e u in (and_left _ _ f, not_e _ (and_right _ _ f))

owner_short : (s : Shelf) (p : Place) → owner_ok s p ≡ true → p.length ≤ 4096
unfolding owner_ok sound_under
owner_short s p e = leb-true _ _ (and_left _ _ (and_right _ _ e))

module _ (s : Shelf) (area : ℕ) (h : tested s area ≡ true) where
  watch_tested : (i : ℕ) → i < s.records → watch_ok s.watches i ≡ true
  unfolding tested
  watch_tested = all_at (watch_ok s.watches) s.records (and_left _ _ (and_right _ _ h))

  place_tested : (i : ℕ) → i < s.count → (place_at s i).used ≡ true
      → (owner_ok s (place_at s i) ≡ true) × (any i (λ j. holds (place_at s j) (place_at s i).watch (place_at s i).number) ≡ false)
  unfolding tested
  place_tested i l = place_facts s i (all_at (place_ok s) s.count (and_right _ _ (and_right _ _ (and_right _ _ h))) i l)

  tested_facts : Rules s area
  unfolding tested
  tested_facts = record {
    size = sizes s area (and_left _ _ h);
    keys_differ_lem = λ i j l m v. none_at (λ k. is_of (watch_at s k) (asked (watch_at s j).key)) j (watch_facts s j (watch_tested j m) v).2 i l;
    promise = omega (arith, leb-true (promised s + 0) s.count (and_left _ _ (and_right _ _ (and_right _ _ h))));
    owned = λ i l u. owner_facts s (place_at s i) (place_tested i l u).0;
    once = λ i j l m u. none_at (λ k. holds (place_at s k) (place_at s j).watch (place_at s j).number) j (place_tested j m u).1 i l;
    last_below = λ w l v g. (watch_facts s w (watch_tested w l) v).1 g;
    short = λ i l u. owner_short s (place_at s i) (place_tested i l u).0;
    range = λ w l v. (watch_facts s w (watch_tested w l) v).0;
  }

tested_i : (s : Shelf) (area : ℕ) → Rules s area → tested s area ≡ true
unfolding tested watch_ok watch_sound key_is_new last_ok place_ok owner_ok sound_under
tested_i s area h =
    and_i _ _ (sizes_i s area h.size)
    (and_i _ _ (all_i _ s.records (λ i l. and_i _ _
    (if_i _ _ (λ v. and_i _ _ (h.range i l v) (if_i _ _ (λ g. lt-ltb _ _ (h.last_below i l v g)))))
    (if_i _ _ (λ v. not_i _ (any_none _ i (λ j m. h.keys_differ_lem j i m l v))))))
    (and_i _ _ (le-leb (promised s + 0) s.count (omega (arith, h.promise)))
    (all_i _ s.count (λ i l. if_i _ _ (λ u. let o = h.owned i l u in
    and_i _ _ (and_i _ _ (lt-ltb _ _ o.below) (and_i _ _ (le-leb _ _ (h.short i l u)) (and_i _ _ o.live (and_i _ _ o.heard (le-leb _ _ o.upto)))))
    (not_i _ (any_none _ i (λ j m. h.once j i m l u))))))))

-- the tests give the rules' own value
pub tested_rules : (s : Shelf) (area : ℕ) → tested s area ≡ obeys s area
tested_rules s area = same_truth (tested s area) (obeys s area) (λ e. obeys_i s area (tested_facts s area e)) (λ e. tested_i s area (rules s area e))

-- ---- what the calls use
-- after the rules' test, as the code has it
pub rules_of : (s : Shelf) (area : ℕ) (r : Bool) → r ≡ obeys s area → not r ≡ false → Rules s area
rules_of s area r e n = rules s area (sym e ∙ not-false r n)

-- the watch that a key finds is open
pub found_live : (s : Shelf) (a : Asked) (w : ℕ) → w ≡ watch_of s a → w < s.records → (watch_at s w).live ≡ true
found_live s a w e l =
    let l' : watch_of s a < s.records = rw e at l in
    rw e (is_of_live _ a (first_has (λ i. is_of (watch_at s i) a) s.records l'))

-- two open watches of one key are one
pub one_watch : (s : Shelf) (area : ℕ) → Rules s area → (a : Asked) (i j : ℕ) → i < s.records → j < s.records
    → is_of (watch_at s i) a ≡ true → is_of (watch_at s j) a ≡ true → i ≡ j
one_watch s area h a i j l m e f = neither_below i j (λ b. clash i j b m e f) (λ b. clash j i b l f e)
  where
    clash : (x y : ℕ) → x < y → y < s.records → is_of (watch_at s x) a ≡ true → is_of (watch_at s y) a ≡ true → ⊥
    clash x y b c p q = true_false (is_of (watch_at s x) a) p
        (subst (λ (z : Asked). is_of (watch_at s x) z ≡ false) (is_of_key (watch_at s y) a q) (h.keys_differ_lem x y b c (is_of_live (watch_at s y) a q)))

-- two places with one watch and number are one
pub one_place : (s : Shelf) (area : ℕ) → Rules s area → (w m i j : ℕ) → i < s.count → j < s.count
    → holds (place_at s i) w m ≡ true → holds (place_at s j) w m ≡ true → i ≡ j
one_place s area h w m i j l k e f = neither_below i j (λ b. clash i j b k e f) (λ b. clash j i b l f e)
  where
    clash : (x y : ℕ) → x < y → y < s.count → holds (place_at s x) w m ≡ true → holds (place_at s y) w m ≡ true → ⊥
    clash x y b c p q =
        let o = holds_parts (place_at s y) w m q in
        true_false (holds (place_at s x) w m) p
        (sym (ap₂ (holds (place_at s x)) o.1 o.2) ∙ h.once x y b c o.0)
