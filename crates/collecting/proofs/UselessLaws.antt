-- The useless builds do not meet the third demand: each fails on the sample table, delivered section by section.
use Rattle.std.specs.Prelude.{Option}
use Prim.Native.Nat.{◌*◌, ◌+◌, ◌<◌, ◌≤◌, suc, zero, ℕ}
use mathlib.Core.Path.{◌∙◌, ◌≡◌, ap, refl, subst, sym}
use mathlib.Core.Bool.{Bool, false, not, true}
use mathlib.Core.List.{List, [], ◌∷◌}
use mathlib.Core.Logic.{⊎_elim}
use native.Mathlib.Omega.{arith}
use lib.Dec.{eqb, ltb}
use lib.ListN.{get_or-eq_default, drop, get_or, length, length-replicate, length-take, replicate}
use lib.Seq.{get_or-drop, get_or-take, paste}
use borrow.Author.Tests.{ltb-false, ltb-true}
use Rattle.logic.specs.Choices.{if_eq, pick}
use Rattle.logic.specs.Loops.{◌&◌, sum}
use Rattle.logic.proofs.LoopLaws.{both}
use Rattle.checksum.specs.Register.{four_bytes, sealed}
use Rattle.part.specs.Parts.{bytes_in}
use Rattle.part.specs.declared.Part.{Part}
use Rattle.refusal.specs.Outcomes.{Outcome, refused, resulted, or_refuse}
use Rattle.refusal.proofs.OutcomeLaws.{same_result}
use Rattle.shelf_state.specs.Records.{place_at, same_key}
use Rattle.shelf_state.specs.Searches.{place_of, watch_of}
use Rattle.shelf_state.specs.declared.records.Asked.{Asked}
use Rattle.shelf_state.specs.declared.records.Shelf.{Shelf}
use Rattle.shelf_state.proofs.RecordLaws.{replicate_at}
use Rattle.shelf_state.proofs.RuleLaws.{rules}
use Rattle.shelf.specs.Calls.{fetched, fetched_from}
use Rattle.shelf.specs.Delivery.{area_after, delivering}
use Rattle.shelf.proofs.CallLaws.{passed}
use Rattle.shelf.specs.Views.{Status, complete, held, unheard, Closing, Delivery, View, bytes_at, closes, held_or_complete, delivers, delivery_says, fresh_view, hears, put, same_edition, status_of, view, view_at}
use Rattle.shelf.specs.Steps.{Answer, State, Turn, did, fetched_bytes, gave, step, step_on, reported, view_in}
use Rattle.shelf_laws.proofs.AreaLaws.{paste_after, paste_before, paste_there}
use Rattle.shelf_laws.proofs.StayLaws.{delivery_stays}
use Rattle.shelf_laws.proofs.ViewLaws.{never_some, view_elsewhere}
use Rattle.collecting.proofs.KnownLaws.{Known, hearing, hears_it, tells_status}
use Rattle.collecting.proofs.SampleLaws.{eit_key_lem, empty_known, fresh_known, fresh_views, room, table}
use Rattle.collecting.proofs.SecondHalf.{second_half}
use Rattle.collecting.specs.Collecting.{Allowed, Build, Complete, Exchange, FirstHalf, Made, NoneRefused, Own, Stretch, state_after, and_then, deliver, end, fetch, history, here, no_more, one_more, recorded, status, status_told, goes_on, there, by_value, ours}
use Rattle.collecting.specs.More.{SecondHalf, Silent, nothing_yet}
use Rattle.collecting.specs.Samples.{eit, eit_header, empty_state, fresh, mine, opening, section, theirs}
use Rattle.collecting.specs.Useless.{Calls, complete_at_last, constant, has_heard, keeps_first_bytes, keeps_no_bytes, made_up, refuses_all, retold, stores_first, stores_nothing, telling}

-- ---- the table's sections, in order, on a shelf where nothing has been heard
abbrev blank : List ℕ
blank = replicate room 0

blank_size : length blank ≡ room
blank_size = length-replicate {A = ℕ} room 0

abbrev x : State
x = fresh blank

abbrev sends : ℕ → Turn
sends m = deliver 0x1D00 (section m)

abbrev in_order : List Turn
in_order = sends 0 ∷ sends 1 ∷ sends 2 ∷ []

known_0 : Known room fresh_views x
known_0 = fresh_known blank blank_size

-- ---- they are a stretch of any build
not_closing : (d : Delivery) (c : Closing) → delivers d ≡ closes c → ⊥
not_closing d c e = let z : ◌≡◌ {A = ℕ} 0 1 = cc in absurd (omega (arith, z))

same_bytes : (d e : Delivery) → delivers d ≡ delivers e → e.bytes ≡ d.bytes
same_bytes d e q = cc

module _ (f : Calls) where
  abbrev B : Build
  B = by_value f

  allowed : (z : State) (m : ℕ) → m ≤ 2 → Allowed B table z (sends m)
  allowed z m l = record {
    stays_open = λ c e. absurd (not_closing _ c e);
    no_other = λ d e _ _. record { number = m; upto = l; bytes_are = same_bytes _ d e };
  }

  stretches : Stretch B table x in_order
  stretches = goes_on (allowed x 0 (omega arith)) (goes_on (allowed _ 1 (omega arith)) (goes_on (allowed _ 2 (omega arith)) end))

  made : (m : ℕ) → m ≤ 2 → Made (sends m) in_order
  made zero l = here
  made (suc zero) l = there here
  made (suc (suc zero)) l = there (there here)
  made (suc (suc (suc m))) l = absurd (omega (arith, l))

  owned : Own (length x.area) in_order
  owned = subst (λ (n : ℕ). Own n in_order) (sym known_0.size) (one_more refl (one_more refl (one_more refl no_more)))

  meets : FirstHalf B → NoneRefused B table x in_order × Complete B table (state_after B x in_order)
  unfolding same_key ◌&◌
  meets h = h x mine (fresh_view 3) table in_order known_0.ok (known_0.views mine) (omega arith) owned stretches made

  first_done : FirstHalf B → (f x (sends 0)).answer ≡ did (resulted tt)
  first_done h = go (meets h).0
    where
      go : NoneRefused B table x in_order → (f x (sends 0)).answer ≡ did (resulted tt)
      go (and_then g _) = g 0 (omega arith) refl

-- ---- no two of these answers are one
not_refused : (n : ℕ) → did (refused n) ≡ did (resulted tt) → ⊥
not_refused n e = let z : ◌≡◌ {A = ℕ} 0 1 = cc in absurd (omega (arith, z))

not_told : (s : Status) → did (resulted tt) ≡ reported (resulted s) → ⊥
not_told s e = let z : ◌≡◌ {A = ℕ} 0 1 = cc in absurd (omega (arith, z))

not_unheard : (n : ℕ) → reported (resulted unheard) ≡ reported (resulted (complete n)) → ⊥
not_unheard n e = let z : ◌≡◌ {A = ℕ} 0 1 = cc in absurd (omega (arith, z))

not_part : (c n : ℕ) → reported (resulted (held c n)) ≡ reported (resulted (complete n)) → ⊥
not_part c n e = let z : ◌≡◌ {A = ℕ} 0 1 = cc in absurd (omega (arith, z))

same_count : (c d n : ℕ) → reported (resulted (held c n)) ≡ reported (resulted (held d n)) → c ≡ d
same_count c d n e = cc

-- ---- refusing, and one answer
pub not_refuses_all : (n : State → Turn → ℕ) → FirstHalf (by_value (refuses_all n)) → ⊥
not_refuses_all n h = not_refused (n x (sends 0)) (first_done (refuses_all n) h)

pub not_constant : (a : Answer) → FirstHalf (by_value (constant a)) → ⊥
not_constant a h = not_told (complete 3) (sym (first_done (constant a) h) ∙ (meets (constant a) h).1.says)

-- ---- storing
unheard_yet : (step x (status mine)).answer ≡ reported (resulted unheard)
unfolding same_key ◌&◌ status_of
unheard_yet = (tells_status x known_0 mine).answer

pub not_stores_nothing : FirstHalf (by_value stores_nothing) → ⊥
unfolding state_after
not_stores_nothing h = not_unheard 3 (sym unheard_yet ∙ (meets stores_nothing h).1.says)

-- after the first section, and after the second
abbrev with_section : ℕ → (Asked → Option View) → Asked → Option View
with_section m = hearing mine (section m) (eit_header 7 4 m 2)

abbrev one_on : State
one_on = (step x (sends 0)).next

known_1 : Known room (with_section 0 fresh_views) one_on
unfolding same_key ◌&◌ delivery_says or_refuse
known_1 = (hears_it x known_0 (table.sections 0 (omega arith)) (omega arith) refl).known

one_of_three : (step one_on (status mine)).answer ≡ reported (resulted (held 1 3))
unfolding same_key ◌&◌ hears put same_edition status_of held_or_complete if_eq sum
one_of_three = (tells_status one_on known_1 mine).answer

known_2 : Known room (with_section 1 (with_section 0 fresh_views)) (step one_on (sends 1)).next
unfolding same_key ◌&◌ hears delivery_says or_refuse
known_2 = (hears_it one_on known_1 (table.sections 1 (omega arith)) (omega arith) refl).known

two_of_three : (step (step one_on (sends 1)).next (status mine)).answer ≡ reported (resulted (held 2 3))
unfolding same_key ◌&◌ hears put same_edition status_of held_or_complete if_eq sum
two_of_three = (tells_status (step one_on (sends 1)).next known_2 mine).answer

-- the first section alone is there at the end
first_next : (f : Asked → Option View) (z : State) (m : ℕ) (history : Bool) → Known room f z → has_heard (f mine) ≡ history
    → (stores_first z (sends m)).next ≡ pick (not history) (step z (sends m)).next z
first_next f z m history i e = rw (eit_key_lem 0x1D00 7 4 m 2, i.views mine, e)

pub not_stores_first : FirstHalf (by_value stores_first) → ⊥
unfolding state_after same_key ◌&◌ hears
not_stores_first h =
    let e = ap (λ (z : State). state_after (by_value stores_first) z (sends 1 ∷ sends 2 ∷ [])) (first_next fresh_views x 0 false known_0 refl)
    ∙ ap (λ (z : State). state_after (by_value stores_first) z (sends 2 ∷ [])) (first_next (with_section 0 fresh_views) one_on 1 true known_1 refl)
    ∙ first_next (with_section 0 fresh_views) one_on 2 true known_1 refl in
    not_part 1 3 (sym one_of_three ∙ ap (λ (z : State). (step z (status mine)).answer) (sym e) ∙ (meets stores_first h).1.says)

-- ---- the bytes: section 1 has its number in byte 6, so it is fetched of no area that has 0 there in every place
abbrev NoNumber : List ℕ → Type 0
NoNumber area = (j : ℕ) → get_or area (j * 4096 + 6) 0 ≡ 0

byte_6 : (m : ℕ) → get_or (section m) 6 0 ≡ m
unfolding eit sealed
byte_6 m = refl

in_part : (area : List ℕ) (j n : ℕ) → NoNumber area → get_or (bytes_at area j n) 6 0 ≡ 0
in_part area j n z = ⊎_elim
    (λ b. get_or-take n (drop (j * 4096) area) 6 0 (ltb-true 6 n b) ∙ get_or-drop (j * 4096) area 6 0 ∙ z j)
    (λ b. get_or-eq_default (bytes_at area j n) 0 (omega (arith, ltb-false 6 n b, length-take n (drop (j * 4096) area))))
    (both (ltb 6 n))

same_bytes_given : (a b : List ℕ) → gave (resulted a) ≡ gave (resulted b) → a ≡ b
same_bytes_given a b e = cc

not_gave : {A : Type 0} (n : ℕ) (b : List ℕ) → gave (refused n) ≡ gave (resulted b) → A
not_gave n b e = let z : ◌≡◌ {A = ℕ} 0 1 = cc in absurd (omega (arith, z))

not_given : (z : State) → NoNumber z.area → (step z (fetch mine 1)).answer ≡ gave (resulted (section 1)) → ⊥
unfolding step step_on fetched fetched_from
not_given z none_there e = go (fetched s size mine 1).outcome refl e
  where
    s : Shelf
    s = z.shelf

    size : ℕ
    size = length z.area

    go : (o : Outcome Part) → (fetched s size mine 1).outcome ≡ o → gave (fetched_bytes z.area o) ≡ gave (resulted (section 1)) → ⊥
    go (refused k) f g = not_gave k (section 1) g
    go (resulted p) f g =
        let j : ℕ = place_of s (watch_of s mine) 1 in
        let obeyed = passed 14 s _ _ p f in
        let watched-one = passed 17 s _ _ p obeyed.1 in
        let held_one = passed 22 s _ _ p watched-one.1 in
        let at_place = same_result _ p held_one.1 in
        omega (
          arith,
          byte_6 1,
          ap (λ (b : List ℕ). get_or b 6 0) (same_bytes_given _ (section 1) g),
          ap (λ (u : Part). get_or (bytes_in z.area u) 6 0) at_place,
          in_part z.area j (place_at s j).length none_there,
        )

blank_everywhere : NoNumber blank
blank_everywhere j = replicate_at room (j * 4096 + 6) 0

pub not_keeps_no_bytes : FirstHalf (by_value keeps_no_bytes) → ⊥
unfolding state_after step step_on
not_keeps_no_bytes h = not_given (state_after (by_value keeps_no_bytes) x in_order) blank_everywhere ((meets keeps_no_bytes h).1.holds 1 (omega arith))

-- where section 0 alone is written, byte 6 of its place is its number, and so 0 too
pasted : (i : ℕ) → i < 5 → NoNumber (paste blank (i * 4096) (section 0) (length (section 0)))
unfolding eit sealed four_bytes
pasted i l j =
    let fits : i * 4096 + length (section 0) ≤ length blank = omega (arith, blank_size) in
    let P : List ℕ = paste blank (i * 4096) (section 0) (length (section 0)) in
    ⊎_elim
    (λ b. paste_before blank (i * 4096) (section 0) fits (j * 4096 + 6) (omega (arith, ltb-true j i b)) ∙ blank_everywhere j)
    (λ b. ⊎_elim
    (λ c. paste_after blank (i * 4096) (section 0) fits (j * 4096 + 6) (omega (arith, ltb-true i j c)) ∙ blank_everywhere j)
    (λ c. ap (λ (m : ℕ). get_or P (m * 4096 + 6) 0) (omega (arith, ltb-false j i b, ltb-false i j c))
    ∙ sym (get_or-take 14 (drop (i * 4096) P) 6 0 (omega arith) ∙ get_or-drop (i * 4096) P 6 0)
    ∙ ap (λ (l : List ℕ). get_or l 6 0) (paste_there blank (i * 4096) (section 0) fits)
    ∙ byte_6 0)
    (both (ltb i j)))
    (both (ltb j i))

first_written : NoNumber one_on.area
unfolding step step_on area_after state_after
first_written = go (delivering x.shelf (length blank) 0x1D00 (section 0)).outcome refl
  where
    go : (o : Outcome ℕ) → (delivering x.shelf (length blank) 0x1D00 (section 0)).outcome ≡ o → NoNumber (area_after blank (section 0) o)
    go (refused k) e = blank_everywhere
    go (resulted i) e = pasted i (below _ (rules x.shelf (length blank) known_0.ok).size.area_is (delivery_stays x.shelf blank 0x1D00 (section 0) i e).place_inside)
      where
        below : (n : ℕ) → length blank ≡ n * 4096 → i < n → i < 5
        below n p l = omega (arith, p, l, blank_size)

-- whether anything was heard is told without the area
heard_anywhere : (s : Shelf) (a b : List ℕ) (k : Asked) → has_heard (view s a k) ≡ has_heard (view s b k)
unfolding view_at
heard_anywhere s a b k = view_elsewhere has_heard s a b k (λ w. refl)

next_bytes : (z : State) (m : ℕ) (history : Bool) → has_heard (view_in z mine) ≡ history
    → (keeps_first_bytes z (sends m)).next ≡ record { shelf = (step z (sends m)).next.shelf; area = pick (not history) (step z (sends m)).next.area z.area }
next_bytes z m history e = rw (eit_key_lem 0x1D00 7 4 m 2, e)

abbrev two_on : State
two_on = record { shelf = (step one_on (sends 1)).next.shelf; area = one_on.area }

first_left : (state_after (by_value keeps_first_bytes) x in_order).area ≡ one_on.area
unfolding state_after same_key ◌&◌ hears
first_left =
    let heard-two = heard_anywhere two_on.shelf one_on.area (step one_on (sends 1)).next.area mine ∙ ap has_heard (known_2.views mine) in
    ap (λ (z : State). (state_after (by_value keeps_first_bytes) z (sends 1 ∷ sends 2 ∷ [])).area) (next_bytes x 0 false (ap has_heard (known_0.views mine)))
    ∙ ap (λ (z : State). (state_after (by_value keeps_first_bytes) z (sends 2 ∷ [])).area) (next_bytes one_on 1 true (ap has_heard (known_1.views mine)))
    ∙ ap (λ (z : State). z.area) (next_bytes two_on 2 true heard-two)

pub not_keeps_first_bytes : FirstHalf (by_value keeps_first_bytes) → ⊥
not_keeps_first_bytes h =
    not_given (state_after (by_value keeps_first_bytes) x in_order) (subst NoNumber (sym first_left) first_written) ((meets keeps_first_bytes h).1.holds 1 (omega arith))

-- ---- the number held: where deliveries and openings are answered as they should be, c of n is told as it is
abbrev before : State
before = empty_state 5 2 blank

abbrev opened_and : List Turn → List Turn
opened_and ts = opening mine 3 ∷ opening theirs 2 ∷ ts

module _ (f : ℕ → ℕ → Status) (h : SecondHalf (by_value (telling f))) where
  told_as : (ts : List Turn) (c n : ℕ) → Own room ts → state_after (by_value (telling f)) before ts ≡ state_after ours before ts → recorded (by_value (telling f)) before ts ≡ recorded ours before ts
      → (step (state_after ours before ts) (status mine)).answer ≡ reported (resulted (held c n)) → reported (resulted (f c n)) ≡ reported (resulted (held c n))
  told_as ts c n lent same_end same-record e =
      let i = empty_known blank blank_size in
      let silent : Silent before = λ k v q. never_some v (sym (i.views k) ∙ q) in
      let lent-it = subst (λ (m : ℕ). Own m ts) (sym i.size) lent in
      ap (retold f) (sym e)
      ∙ ap (λ (z : State). retold f (step z (status mine)).answer) (sym same_end)
      ∙ (h before mine ts i.ok silent lent-it).says
      ∙ ap (λ (es : List Exchange). reported (status_told (history mine (nothing_yet (view_in before mine)) es))) same-record
      ∙ sym (second_half before mine ts i.ok silent lent-it).says
      ∙ e

  after_one : reported (resulted (f 1 3)) ≡ reported (resulted (held 1 3))
  unfolding state_after recorded step step_on
  after_one = told_as (opened_and (sends 0 ∷ [])) 1 3 (one_more refl (one_more refl (one_more refl no_more))) refl refl one_of_three

  after_two : reported (resulted (f 2 3)) ≡ reported (resulted (held 2 3))
  unfolding state_after recorded step step_on
  after_two = told_as (opened_and (sends 0 ∷ sends 1 ∷ [])) 2 3 (one_more refl (one_more refl (one_more refl (one_more refl no_more)))) refl refl two_of_three

pub not_made_up : (c : ℕ) → SecondHalf (by_value (made_up c)) → ⊥
not_made_up c h =
    let one = same_count c 1 3 (after_one (λ _ n. held c n) h) in
    let two = same_count c 2 3 (after_two (λ _ n. held c n) h) in
    omega (arith, one, two)

pub not_complete_at_last : SecondHalf (by_value complete_at_last) → ⊥
not_complete_at_last h = not_part 2 3 (sym (after_two (λ c n. pick (eqb (c + 1) n) (complete n) (held c n)) h))
