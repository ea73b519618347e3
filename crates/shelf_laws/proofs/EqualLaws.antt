-- A delivery of equal bytes: the edition is the watch's and the section is kept already, so neither shelf nor area changes.
use Rattle.std.specs.Prelude.{Some}
use Prim.Native.Nat.{◌*◌, ◌+◌, ◌<◌, ◌≤◌, ℕ}
use mathlib.Core.Path.{◌∙◌, ◌≡◌, ap, ap₂, subst, sym}
use mathlib.Core.Bool.{Bool, false, not, true}
use mathlib.Core.List.{List}
use native.Mathlib.Omega.{arith}
use lib.Dec.{eqb, leb}
use lib.ListN.{drop, length, length-drop, take}
use lib.Seq.{length-take-le, paste, set-get_or}
use borrow.Author.Tests.{le-leb, ltb-true}
use Rattle.logic.specs.Choices.{pick}
use Rattle.logic.proofs.LoopLaws.{any_first, first_has}
use Rattle.refusal.specs.Outcomes.{Outcome, refused, resulted, or_refuse}
use Rattle.section.specs.declared.header.Header.{Header}
use Rattle.shelf_state.specs.Records.{blank_place, holds, place_at, watch_at}
use Rattle.shelf_state.specs.Searches.{dropped, free_place, is_held, place_of, set_place, set_watch, watch_of}
use Rattle.shelf_state.specs.declared.records.Asked.{Asked}
use Rattle.shelf_state.specs.declared.records.Edition.{Edition}
use Rattle.shelf_state.specs.declared.records.Place.{Place}
use Rattle.shelf_state.specs.declared.records.Shelf.{Shelf}
use Rattle.shelf_state.proofs.RecordLaws.{holds_parts, is_of_live}
use Rattle.shelf_state.proofs.RuleLaws.{Rules, rules}
use Rattle.shelf.specs.Answers.{After}
use Rattle.shelf.specs.Calls.{answered}
use Rattle.shelf.specs.Delivery.{area_after, delivered, delivering, done, edited, hearing, keeping, place_among, place_for, stored}
use Rattle.shelf.specs.Steps.{State, did, is_result, step, step_on, view_in}
use Rattle.shelf.specs.Views.{Delivery, Kept, View, bytes_at, current_of, current_on, delivery_says, edition_of, is_some, judged, kept_at, key_in, same_edition, view_at}
use Rattle.refusal.proofs.OutcomeLaws.{not_both, same_result}
use Rattle.shelf.proofs.EditLaws.{edition_is}
use Rattle.shelf_laws.specs.Laws.{EqualBytesStay, Obeys}
use Rattle.shelf_laws.proofs.AnswerLaws.{delivery_says_lem}
use Rattle.shelf_laws.proofs.AreaLaws.{paste_equal}
use Rattle.shelf_laws.proofs.DeliverLaws.{Delivers, delivery_passed, place_now, stored_to}
use Rattle.shelf_laws.proofs.StayLaws.{done_at, done_is}
use Rattle.shelf_laws.proofs.ViewLaws.{at_found, found, kept_held, own_watch, same_some, view_is, viewed}

-- what is current is what the judge found
current_judged : (pid : ℕ) (b : List ℕ) (h : Header) → current_on pid b ≡ resulted h → judged b ≡ resulted h
unfolding current_on or_refuse
current_judged pid b h e = range (leb pid 8191) e
  where
    current : (x : Header) (c : Bool) → or_refuse 16 (not c) (resulted x) ≡ resulted h → resulted x ≡ resulted h
    current x true f = not_both 16 h f
    current x false f = f

    by_judge_lem : (o : Outcome Header) → current_of o ≡ resulted h → o ≡ resulted h
    by_judge_lem (refused n) f = not_both n h f
    by_judge_lem (resulted x) f = current x (eqb x.current 0) f

    range : (c : Bool) → or_refuse 15 c (current_of (judged b)) ≡ resulted h → judged b ≡ resulted h
    range true f = by_judge_lem (judged b) f
    range false f = not_both 15 h f

module _ (s : Shelf) (area b : List ℕ) (r : Rules s (length area)) (w : ℕ) (h : Header)
    (same : same_edition (watch_at s w).edition h ≡ true) (has : kept_at s area w h.number ≡ Some (record { bytes = b })) where
  abbrev j : ℕ
  j = place_of s w h.number

  held : is_held s w h.number ≡ true
  held = sym (kept_held s area w h.number) ∙ ap is_some has

  below : j < s.count
  below = ltb-true j s.count (sym (any_first (λ i. holds (place_at s i) w h.number) s.count) ∙ held)

  parts : ((place_at s j).used ≡ true) × ((place_at s j).watch ≡ w) × ((place_at s j).number ≡ h.number)
  parts = holds_parts (place_at s j) w h.number (first_has (λ i. holds (place_at s i) w h.number) s.count below)

  inside : j * 4096 + (place_at s j).length ≤ length area
  inside = omega (arith, r.size.area_is, below, r.short j below parts.0)

  bytes_are : bytes_at area j (place_at s j).length ≡ b
  unfolding kept_at
  bytes_are =
      ap (λ (k : Kept). k.bytes) (same_some _ _ (sym (at_found s.count (λ i. holds (place_at s i) w h.number) (λ i. record { bytes = bytes_at area i (place_at s i).length }) below) ∙ has))

  length_is : (place_at s j).length ≡ length b
  length_is = sym (length-take-le (place_at s j).length (drop (j * 4096) area) (omega (arith, inside, length-drop (j * 4096) area))) ∙ ap length bytes_are

  record_is : place_at s j ≡ keeping w h.number (length b)
  record_is = λ i. record { used = parts.0 i; watch = parts.1 i; number = parts.2 i; length = length_is i }

  edition_stays : edited s w h ≡ s
  unfolding edited
  edition_stays = ap (λ (c : Bool). pick c s (set_watch (dropped s w) w (hearing (watch_at s w) h))) same

  place_stays : place_for s w h.number ≡ j
  unfolding place_among
  place_stays = ap (λ (c : Bool). pick c j (free_place s)) held

  stored_stays : stored s w h.number (length b) ≡ s
  stored_stays =
      ap₂ (λ (i : ℕ) (p : Place). set_place s i p) place_stays (sym record_is)
      ∙ ap (λ (l : List Place). record { watches = s.watches; records = s.records; places = l; count = s.count }) (set-get_or s.places j blank_place)

  received_equal : answered (place_for (edited s w h) w h.number) (stored (edited s w h) w h.number (length b)) ≡ answered j s
  received_equal =
      ap (λ (t : Shelf). answered (place_for t w h.number) (stored t w h.number (length b))) edition_stays
      ∙ ap₂ (λ (i : ℕ) (t : Shelf). answered i t) place_stays stored_stays

  area_equal : paste area (j * 4096) b (length b) ≡ area
  area_equal = paste_equal area (j * 4096) b (omega (arith, inside, length_is))
      (ap (λ (n : ℕ). take n (drop (j * 4096) area)) (sym length_is) ∙ bytes_are)

module _ (x : State) (d : Delivery) (h : Header) (v : View) (ok : Obeys x) (here : current_on d.pid d.bytes ≡ resulted h)
    (has-view : view_in x (key_in d.pid d.bytes) ≡ Some v) (same : same_edition v.edition h ≡ true) where
  abbrev s : Shelf
  s = x.shelf

  abbrev b : List ℕ
  b = d.bytes

  abbrev key : Asked
  key = key_in d.pid b

  abbrev w : ℕ
  w = watch_of s key

  r : Rules s (length x.area)
  r = rules s (length x.area) ok

  v_is : view_at s x.area w ≡ v
  v_is = view_is x key v ok has-view

  same_there : same_edition (watch_at s w).edition h ≡ true
  unfolding view_at
  same_there = subst (λ (y : View). same_edition y.edition h ≡ true) (sym v_is) same

  -- the edition's last number is below the quota, so the section is accepted
  fits : h.last < v.quota
  unfolding view_at
  fits =
      let l : w < s.records = found s key (viewed s x.area key v has-view) in
      let e : (watch_at s w).edition ≡ edition_of h = edition_is (watch_at s w).edition h same_there in
      omega (
        arith,
        r.last_below w l (is_of_live (watch_at s w) key (own_watch s key l)) (ap (λ (y : Edition). y.heard) e),
        ap (λ (y : Edition). y.last) e,
        ap (λ (y : View). y.quota) v_is,
      )

  abbrev outcome : Outcome ℕ
  outcome = (delivering s (length x.area) d.pid b).outcome

  is_done : done outcome ≡ resulted tt
  unfolding delivery_says or_refuse
  is_done =
      delivery_says_lem s x.area ok d.pid b
      ∙ ap₂ delivery_says has-view here
      ∙ ap (λ (c : Bool). or_refuse 18 c (resulted tt)) (le-leb (h.last + 1) v.quota (omega (arith, fits)))

  passing : Delivers s (length x.area) d.pid b
  passing = let i = done_at outcome (sym (done_is outcome) ∙ ap is_result is_done) in delivery_passed s (length x.area) d.pid b i.0 i.1

  head_is : passing.head ≡ h
  head_is = same_result passing.head h (sym passing.judge ∙ current_judged d.pid b h here)

  module _ (has : v.kept h.number ≡ Some (record { bytes = b })) where
    has_there : kept_at s x.area w h.number ≡ Some (record { bytes = b })
    unfolding view_at
    has_there = subst (λ (y : View). y.kept h.number ≡ Some (record { bytes = b })) (sym v_is) has

    whole : delivering s (length x.area) d.pid b ≡ answered (place_of s w h.number) s
    whole = passing.is
        ∙ ap (λ (y : Header). answered (place_now s key y) (stored_to s key y (length b))) head_is
        ∙ received_equal s x.area b r w h same_there has_there

    area_is : paste x.area (place_of s w h.number * 4096) b (length b) ≡ x.area
    area_is = area_equal s x.area b r w h same_there has_there

pub equal_bytes_stay : EqualBytesStay
unfolding step step_on delivered area_after
equal_bytes_stay x d h v ok here has-view same has =
    ap (λ (y : After ℕ). record { answer = did (done y.outcome); next = record { shelf = y.shelf; area = area_after x.area d.bytes y.outcome } })
    (whole x d h v ok here has-view same has)
    ∙ ap (λ (l : List ℕ). record { answer = did (resulted tt); next = record { shelf = x.shelf; area = l } }) (area_is x d h v ok here has-view same has)
