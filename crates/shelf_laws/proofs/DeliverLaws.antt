-- An accepted delivery: what it has passed, that the rules are kept, that its key's view hears the section and no other view, place or byte
-- changes.
use Rattle.std.specs.Prelude.{Option, None, Some}
use Prim.Native.Nat.{◌*◌, ◌+◌, ◌<◌, ◌≤◌, ℕ}
use mathlib.Core.Path.{◌∙◌, ◌≡◌, ap, refl, subst, sym}
use mathlib.Core.Bool.{Bool, false, true}
use mathlib.Core.List.{List}
use mathlib.Core.Logic.{⊎_elim}
use native.Mathlib.Omega.{arith}
use lib.Dec.{eqb, leb}
use lib.ListN.{length}
use lib.Seq.{paste}
use borrow.Author.Tests.{eqb-false, eqb-true}
use Rattle.logic.specs.Choices.{pick}
use Rattle.logic.specs.Loops.{◌&◌}
use Rattle.logic.proofs.LoopLaws.{any_yes, isnt}
use Rattle.refusal.specs.Outcomes.{Outcome, refused, resulted}
use Rattle.section.specs.declared.header.Header.{Header}
use Rattle.shelf_state.specs.Records.{is_of, same_key, watch_at}
use Rattle.shelf_state.specs.Searches.{watch_of}
use Rattle.shelf_state.specs.Rules.{obeys, promised, quota_of}
use Rattle.shelf_state.specs.declared.records.Asked.{Asked}
use Rattle.shelf_state.specs.declared.records.Shelf.{Shelf}
use Rattle.shelf_state.specs.declared.records.Watch.{Watch}
use Rattle.shelf_state.proofs.RecordLaws.{two_keys}
use Rattle.shelf_state.proofs.RuleLaws.{Rules, obeys_i, one_watch, rules}
use Rattle.shelf.specs.Calls.{answered}
use Rattle.shelf.specs.Inner.{Ready, Sound}
use Rattle.shelf.specs.Delivery.{arriving, by_judge, delivering, edited, for_owner, owner_in, place_for, received, received_at, stored}
use Rattle.shelf.specs.Steps.{State}
use Rattle.shelf.specs.Views.{Delivery, Kept, View, delivers, hears, hears_in, judged, kept_at, key_in, next_view, put, same_edition, view, view_at}
use Rattle.refusal.proofs.OutcomeLaws.{not_both}
use Rattle.shelf.proofs.CallLaws.{go_on, passed}
use Rattle.shelf.proofs.EditLaws.{Edited}
use Rattle.shelf.proofs.JudgeLaws.{judged_sound}
use Rattle.shelf.proofs.OwnerLaws.{Owns, for_owner_lem, owns, place_inside, ready_edited, ready_place}
use Rattle.shelf.proofs.PlaceLaws.{stored_other, stored_rules}
use Rattle.shelf_laws.specs.Promised.{quota_closed, quota_opened}
use Rattle.shelf_laws.specs.Stays.{DeliveryKeeps}
use Rattle.shelf_laws.proofs.AreaLaws.{paste_after, paste_before, paste_size}
use Rattle.shelf_laws.proofs.KeptLaws.{edited_other, edited_own, edited_stays, put_other, put_own}
use Rattle.shelf_laws.proofs.MoveLaws.{Moves, by_key, other_key, own_key, promised_moves}
use Rattle.shelf_laws.proofs.ViewLaws.{own_watch, seen}

-- the place of an accepted section, and the shelf after it
abbrev pub place_now : Shelf → Asked → Header → ℕ
place_now s a h = place_for (edited s (watch_of s a) h) (watch_of s a) h.number

abbrev pub stored_to : Shelf → Asked → Header → ℕ → Shelf
stored_to s a h n = stored (edited s (watch_of s a) h) (watch_of s a) h.number n

pub record Delivers (s : Shelf) (area pid : ℕ) (b : List ℕ) : Type 0 where
  pub ok : obeys s area ≡ true
  pub head : Header
  pub judge : judged b ≡ resulted head
  pub owner : Owns s (key_in pid b) head (watch_of s (key_in pid b))
  pub is : delivering s area pid b ≡ answered (place_now s (key_in pid b) head) (stored_to s (key_in pid b) head (length b))

module _ (s : Shelf) (area pid : ℕ) (b : List ℕ) (i : ℕ) (ok : obeys s area ≡ true) (range : leb pid 8191 ≡ true) where
  abbrev key : Asked
  key = key_in pid b

  by_owner : (h : Header) → judged b ≡ resulted h → (o : Outcome ℕ) → owner_in s.watches s.records key h ≡ o → (for_owner s h (length b) o).outcome ≡ resulted i → Delivers s area pid b
  unfolding delivering arriving by_judge for_owner received_at
  by_owner h f (refused k) g x = not_both k i x
  by_owner h f (resulted w) g x =
      let y = owns s key h w g in
      record {
        ok = ok;
        head = h;
        judge = f;
        owner = subst (Owns s key h) y.is y;
        is = sym (go_on 14 s _ _ ok (go_on 15 s _ _ range (sym (ap (by_judge s pid b) f ∙ for_owner_lem s key h (length b) (watch_of s key) (g ∙ ap resulted y.is)))));
      }

  by_judge_lem : (o : Outcome Header) → judged b ≡ o → (by_judge s pid b o).outcome ≡ resulted i → Delivers s area pid b
  unfolding by_judge received
  by_judge_lem (refused k) f x = not_both k i x
  by_judge_lem (resulted h) f x = by_owner h f (owner_in s.watches s.records key h) refl x

pub delivery_passed : (s : Shelf) (area pid : ℕ) (b : List ℕ) (i : ℕ) → (delivering s area pid b).outcome ≡ resulted i → Delivers s area pid b
unfolding delivering arriving
delivery_passed s area pid b i e =
    let p = passed 14 s _ _ i e in
    let p₁ = passed 15 s _ _ i p.1 in
    by_judge_lem s area pid b i p.0 p₁.0 (judged b) refl p₁.1

module _ (s : Shelf) (area b : List ℕ) (a : Asked) (h : Header) (ok : obeys s (length area) ≡ true) (z : Sound h (length b)) (x : Owns s a h (watch_of s a)) where
  abbrev w : ℕ
  w = watch_of s a

  abbrev t : Shelf
  t = edited s w h

  abbrev j : ℕ
  j = place_now s a h

  abbrev u : Shelf
  u = stored_to s a h (length b)

  abbrev area' : List ℕ
  area' = paste area (j * 4096) b (length b)

  abbrev r : Rules s (length area)
  r = rules s (length area) ok

  abbrev y : Ready s w h (length area) (length b)
  y = record { rules = ok; below = x.below; live = x.live; quota = x.quota; sound = z }

  e : Edited s (length area) r w h x.below x.live x.quota t
  e = ready_edited s w h (length area) (length b) y

  below : j < t.count
  below = ready_place s w h (length area) (length b) y

  inside : j * 4096 + length b ≤ length area
  inside = (place_inside s w h (length area) (length b) y t j refl refl).1

  pub delivered_keeps : DeliveryKeeps s u w j area area' b
  delivered_keeps = record {
    others = record { records_same = e.records_same; count_same = e.count_same; watches_stay = e.other };
    inside = x.below;
    place_inside = omega (arith, below, e.count_same);
    places_stay = λ i n q. stored_other t (length area) e.rules w h.number (length b) below i n ∙ edited_stays s (length area) r w h i q;
    size_same = paste_size area (j * 4096) b inside;
    bytes_stay = λ i. ⊎_elim (paste_before area (j * 4096) b inside i) (paste_after area (j * 4096) b inside i);
  }

  stored_obeys : obeys u (length area) ≡ true
  stored_obeys = obeys_i u (length area) (stored_rules t (length area) e.rules w h.number (length b) below
      (omega (arith, x.below, e.records_same)) (ap (λ (y : Watch). y.live) e.own ∙ x.live) (ap (λ (y : Watch). y.edition.heard) e.own)
      (omega (arith, z.number_last, ap (λ (y : Watch). y.edition.last) e.own)) z.size)

  -- the watch keeps its key and its quota
  same_key_lem : (k : Asked) → is_of (watch_at u w) k ≡ is_of (watch_at s w) k
  unfolding is_of
  same_key_lem k = ap (λ (y : Watch). is_of y k) e.own

  same_quota : quota_of (watch_at u w) ≡ quota_of (watch_at s w)
  unfolding quota_of
  same_quota = ap quota_of e.own

  stored_promises : promised u ≡ promised s
  stored_promises = omega (arith, promised_moves s u w delivered_keeps.others x.below, same_quota)

  -- what is kept under each number
  abbrev before : ℕ → Option Kept
  before = pick (same_edition (watch_at s w).edition h) (kept_at s area w) (λ _. None)

  kept_now : (n : ℕ) → kept_at u area' w n ≡ put before h.number b n
  unfolding put
  kept_now n = go (eqb n h.number) refl
    where
      go : (c : Bool) → eqb n h.number ≡ c → kept_at u area' w n ≡ pick c (Some (record { bytes = b })) (before n)
      go true q = ap (kept_at u area' w) (eqb-true n h.number q) ∙ put_own t area b e.rules w h.number z.size below
      go false q = put_other t area b e.rules w h.number z.size below w n (λ y. eqb-false n h.number q y.1) ∙ edited_own s (length area) r w h area n

  view_now : view_at u area' w ≡ hears (view_at s area w) h b
  unfolding view_at hears
  view_now = λ i. record { quota = (e.own i).quota; edition = (e.own i).edition; kept = λ n. kept_now n i }

  own_is : is_of (watch_at s w) a ≡ true
  own_is = own_watch s a x.below

  stored_own : view u area' a ≡ hears_in (view s area a) b (resulted h)
  stored_own =
      own_key s u w delivered_keeps.others area' a x.below (same_key_lem a ∙ own_is)
      (λ i m. isnt (is_of (watch_at s i) a) (λ f. absurd (omega (arith, m, one_watch s (length area) r a i w (omega (arith, m, x.below)) x.below f own_is))))
      ∙ ap Some view_now
      ∙ sym (ap (λ (v : Option View). hears_in v b (resulted h)) (seen s area a (any_yes (λ i. is_of (watch_at s i) a) s.records refl x.below)))

  stored_view : (k : Asked) → same_key k a ≡ false → view u area' k ≡ view s area k
  stored_view k n =
      let f : is_of (watch_at s w) k ≡ false = isnt (is_of (watch_at s w) k) (λ q. two_keys (watch_at s w) k a n q own_is) in
      other_key s u w delivered_keeps.others area area'
      (λ v m ne. put_other t area b e.rules w h.number z.size below v m (λ y. ne y.0) ∙ edited_other s (length area) r w h area v m ne)
      k f (same_key_lem k ∙ f)

pub delivery_moves : (x : State) (d : Delivery) (f : Delivers x.shelf (length x.area) d.pid d.bytes)
    → Moves x (delivers d) true (record {
      shelf = stored_to x.shelf (key_in d.pid d.bytes) f.head (length d.bytes);
      area = paste x.area (place_now x.shelf (key_in d.pid d.bytes) f.head * 4096) d.bytes (length d.bytes);
    })
unfolding next_view quota_closed quota_opened ◌&◌
delivery_moves x d f =
    let s : Shelf = x.shelf in
    let b : List ℕ = d.bytes in
    let a : Asked = key_in d.pid b in
    let z : Sound f.head (length b) = judged_sound b f.head f.judge in
    let k = delivered_keeps s x.area b a f.head f.ok z f.owner in
    record {
      keeps = subst (λ (n : ℕ). obeys (stored_to s a f.head (length b)) n ≡ true) (sym k.size_same) (stored_obeys s x.area b a f.head f.ok z f.owner);
      size = k.size_same;
      views = by_key (λ v. hears_in v b (judged b)) x _ a
          (stored_own s x.area b a f.head f.ok z f.owner ∙ sym (ap (hears_in (view s x.area a) b) f.judge))
          (stored_view s x.area b a f.head f.ok z f.owner);
      promises = omega (arith, stored_promises s x.area b a f.head f.ok z f.owner);
    }
