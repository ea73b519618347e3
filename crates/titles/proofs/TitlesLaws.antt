-- Rows and units stored event by event: those that are left lead to the answer.
use Prim.Native.Nat.{ℕ, zero, suc, ◌+◌, ◌-◌, ◌*◌, ◌<◌, ◌≤◌}
use mathlib.Core.Path.{◌≡◌, refl, sym, ap, ◌∙◌}
use mathlib.Core.List.{List, [], ◌++◌}
use native.Mathlib.Numerals.{sub-one}
use native.Mathlib.Omega.{arith}
use lib.ListN.{length, length-append}
use lib.Seq.{sets, length-sets}
use Rattle.refusal.specs.Outcomes.{Outcome, refused, resulted}
use Rattle.refusal.proofs.TestLaws.{lets_le, stops_le}
use Rattle.kind.specs.declared.Kind.TheVariants.{Eit}
use Rattle.kind.specs.Kinds.{limits_of, only_of}
use Rattle.row.proofs.RowLaws.{sets_append}
use Rattle.eit.specs.Fields.{event_row, event_end}
use Rattle.eit.specs.Inner.{Events}
use Rattle.eit.proofs.RowLaws.{row_eight}
use Rattle.eit.proofs.EventsLaws.{body_events, events_step}
use Rattle.section.specs.declared.header.Header.{Header}
use Rattle.section.specs.Walked.{body_of}
use Rattle.section.specs.Sections.{section_by}
use Rattle.section.proofs.SectionLaws.{section_sound}
use Rattle.titles.specs.Titles.{TitleTold, no_title, no_strings, refused_title, text, title_told, units_told, blank_row, title_row, units_from, title_rows_from, event_count, first_event, Counts, room_for_titles, titles_in, with_title_rows, with_units}
use Rattle.titles.proofs.ReadLaws.{title_few, title_inside}

-- the number of units that a title adds
abbrev added : List ℕ → ℕ → ℕ
added s a = length (units_told (title_told s a))

-- ---- the units of several titles
none_left : (s : List ℕ) (k a : ℕ) → k ≡ 0 → units_from s k a ≡ []
unfolding units_from
none_left s k a e = rw e

first_left : (s : List ℕ) (k a : ℕ) → 0 < k → units_from s k a ≡ units_told (title_told s a) ++ units_from s (k - 1) (event_end s a)
unfolding units_from
first_left s zero a h = absurd (omega arith)
first_left s (suc k) a h = rw sub-one

count_left : (s : List ℕ) (k a : ℕ) → 0 < k → length (units_from s k a) ≡ added s a + length (units_from s (k - 1) (event_end s a))
count_left s k a h = ap length (first_left s k a h) ∙ length-append (units_told (title_told s a)) (units_from s (k - 1) (event_end s a))

-- eight at most for each byte of the section
pub units_few : (s : List ℕ) (k a : ℕ) → Events s k a → length (units_from s k a) + 8 * a ≤ 8 * length s
units_few s zero a v = omega (arith, ap length (none_left s zero a refl), v.begins)
units_few s (suc k) a v =
    let w : Events s k (event_end s a) = rw sub-one at (events_step s (suc k) a v (omega arith)) in
    let e = rw sub-one at (count_left s (suc k) a (omega arith)) in
    omega (arith, units_few s k (event_end s a) w, e, title_few s a, title_inside s a)

-- ---- counted, one after the other
pub record CountLeft (s : List ℕ) (total a n k : ℕ) : Type 0 where
  pub events : Events s k a
  pub leads : n + length (units_from s k a) ≡ total

pub count_first : {s : List ℕ} {a k left : ℕ} → Events s k a → left ≡ k → CountLeft s (length (units_from s k a)) a 0 left
count_first v e = rw e (record { events = v; leads = omega arith })

module _ {s : List ℕ} {total a n k : ℕ} (left : CountLeft s total a n k) where
  pub count_room : 0 < k → n + added s a ≤ total
  count_room h = omega (arith, left.leads, count_left s k a h)

  pub count_step : (b m next : ℕ) → 0 < k → next ≡ k - 1 → m ≡ added s a → b ≡ event_end s a → CountLeft s total b (n + m) next
  count_step b m next h fewer count behind =
      rw (fewer, behind, count)
      (record {
        events = events_step s k a left.events h;
        leads = omega (arith, left.leads, count_left s k a h);
      })

  pub count_done : k ≡ 0 → n ≡ total
  count_done e = omega (arith, left.leads, ap length (none_left s k a e))

-- ---- stored, one after the other
row_four : (n : ℕ) (t : TitleTold) → length (title_row n t) ≡ 4
unfolding title_row blank_row
row_four n no_title = refl
row_four n no_strings = refl
row_four n (refused_title k) = refl
row_four n (text us replaced) = refl

pub record TitlesLeft (s : List ℕ) (total : ℕ) (rows₀ rows₁ units₀ units₁ rows units : List ℕ) (a p n k : ℕ) : Type 0 where
  pub count : CountLeft s total a n k
  pub same_rows : length rows ≡ length rows₀
  pub same_units : length units ≡ length units₀
  pub room : p + 12 * k ≤ length rows₀
  pub rows_lead : sets rows p (title_rows_from s n k a) ≡ rows₁
  pub units_lead : sets units n (units_from s k a) ≡ units₁

pub titles_first : {s rows units : List ℕ} {a k left : ℕ} → Events s k a → 12 * k ≤ length rows → left ≡ k
    → TitlesLeft s (length (units_from s k a)) rows (sets rows 0 (title_rows_from s 0 k a)) units (sets units 0 (units_from s k a)) rows units a 0 0 left
titles_first v r e =
    rw e
    (record { count = count_first v refl; same_rows = refl; same_units = refl; room = omega (arith, r); rows_lead = refl; units_lead = refl })

module _ (s : List ℕ) where
  rows_more : (l : List ℕ) (p n k a : ℕ) → 0 < k
      → sets (sets (sets l p (event_row s a)) (p + 8) (title_row n (title_told s a))) (p + 12) (title_rows_from s (n + added s a) (k - 1) (event_end s a))
      ≡ sets l p (title_rows_from s n k a)
  unfolding title_rows_from
  rows_more l p n zero a h = absurd (omega arith)
  rows_more l p n (suc k) a h =
      let row = event_row s a in
      let four = title_row n (title_told s a) in
      let rest = title_rows_from s (n + added s a) k (event_end s a) in
      let w : length (row ++ four) ≡ 12 = length-append row four ∙ omega (arith, row_eight s a, row_four n (title_told s a)) in
      let e : sets (sets l p row) (p + 8) four ≡ sets l p (row ++ four) =
      ap (λ (j : ℕ). sets (sets l p row) (p + j) four) (sym (row_eight s a)) ∙ sym (sets_append row four l p) in
      rw (sub-one, e) (ap (λ (j : ℕ). sets (sets l p (row ++ four)) (p + j) rest) (sym w) ∙ sym (sets_append (row ++ four) rest l p))

  units_more : (l : List ℕ) (n k a : ℕ) → 0 < k
      → sets (sets l n (units_told (title_told s a))) (n + added s a) (units_from s (k - 1) (event_end s a)) ≡ sets l n (units_from s k a)
  units_more l n k a h =
      sym (sets_append (units_told (title_told s a)) (units_from s (k - 1) (event_end s a)) l n) ∙ ap (sets l n) (sym (first_left s k a h))

  rows_none : (l : List ℕ) (p n k a : ℕ) → k ≡ 0 → sets l p (title_rows_from s n k a) ≡ l
  unfolding title_rows_from
  rows_none l p n k a e = rw e

module _ {s : List ℕ} {total : ℕ} {rows₀ rows₁ units₀ units₁ rows units : List ℕ} {a p n k : ℕ}
    (left : TitlesLeft s total rows₀ rows₁ units₀ units₁ rows units a p n k) where
  -- the next title's numbers and units have room
  pub row_room : (rows' : List ℕ) → 0 < k → rows' ≡ sets rows p (event_row s a) → p + 8 + 4 ≤ length rows'
  row_room rows' h e = omega (arith, left.room, left.same_rows, ap length e ∙ length-sets rows p (event_row s a))

  pub units_room : 0 < k → total ≤ length units₀ → n + added s a ≤ length units
  units_room h r = omega (arith, count_room left.count h, left.same_units, r)

  pub titles_step : (rows' rows'' units' : List ℕ) (b m next : ℕ) → 0 < k → next ≡ k - 1 → rows' ≡ sets rows p (event_row s a)
      → rows'' ≡ sets rows' (p + 8) (title_row n (title_told s a)) → units' ≡ sets units n (units_told (title_told s a))
      → b ≡ event_end s a → m ≡ n + added s a
      → TitlesLeft s total rows₀ rows₁ units₀ units₁ rows'' units' b (p + 12) m next
  titles_step rows' rows'' units' b m next h fewer event four put behind count =
      let q : rows'' ≡ sets (sets rows p (event_row s a)) (p + 8) (title_row n (title_told s a)) = rw event at four in
      rw (fewer, count)
      (record {
        count = count_step left.count b (added s a) (k - 1) h refl refl behind;
        same_rows = ap length q ∙ length-sets (sets rows p (event_row s a)) (p + 8) (title_row n (title_told s a)) ∙ length-sets rows p (event_row s a) ∙ left.same_rows;
        same_units = ap length put ∙ length-sets units n (units_told (title_told s a)) ∙ left.same_units;
        room = omega (arith, left.room);
        rows_lead = rw (q, behind) (rows_more s rows p n k a h ∙ left.rows_lead);
        units_lead = rw (put, behind) (units_more s units n k a h ∙ left.units_lead);
      })

  pub rows_done : k ≡ 0 → rows ≡ rows₁
  rows_done e = sym (rows_none s rows p n k a e) ∙ left.rows_lead

  pub units_done : k ≡ 0 → units ≡ units₁
  units_done e = ap (sets units n) (sym (none_left s k a e)) ∙ left.units_lead

-- ---- whether both lists have room, and what they are then
module _ (s rows units : List ℕ) (k from : ℕ) (counted : k ≡ event_count s) (begins : from ≡ first_event) where
  abbrev Ends : Outcome Counts → List ℕ → List ℕ → Type 0
  Ends x rows' units' =
      (x ≡ titles_in s (length rows) (length units))
      × ((rows' ≡ with_title_rows s (titles_in s (length rows) (length units)) rows) × (units' ≡ with_units s (titles_in s (length rows) (length units)) units))

  refused_ends : refused 12 ≡ titles_in s (length rows) (length units) → Ends (refused 12) rows units
  unfolding with_title_rows with_units
  refused_ends e = (e, (rw (← e), rw (← e)))

  pub no_rows : length rows < 12 * k → Ends (refused 12) rows units
  unfolding titles_in room_for_titles
  no_rows h = refused_ends (stops_le 12 (12 * event_count s) (length rows) _ {r = refused 12} (rw counted at h) refl)

  pub no_units : 12 * k ≤ length rows → length units < length (units_from s k from) → Ends (refused 12) rows units
  unfolding titles_in room_for_titles
  no_units h l =
      refused_ends
      (lets_le 12 (12 * event_count s) (length rows) _ {r = refused 12} (rw counted at h)
      (stops_le 12 _ (length units) _ {r = refused 12} (rw (counted, begins) at l) refl))

  pub both_room : (rows' units' : List ℕ) (n : ℕ) → 12 * k ≤ length rows → length (units_from s k from) ≤ length units
      → n ≡ length (units_from s k from) → rows' ≡ sets rows 0 (title_rows_from s 0 k from) → units' ≡ sets units 0 (units_from s k from)
      → Ends (resulted (record { events = k; units = n })) rows' units'
  unfolding titles_in room_for_titles with_title_rows with_units
  both_room rows' units' n h l count put-rows put-units =
      let c : Counts = record { events = event_count s; units = length (units_from s (event_count s) first_event) } in
      let e : resulted c ≡ titles_in s (length rows) (length units) =
      lets_le 12 (12 * event_count s) (length rows) _ {r = resulted c} (rw counted at h)
      (lets_le 12 (length (units_from s (event_count s) first_event)) (length units) (resulted c) {r = resulted c} (rw (counted, begins) at l) refl) in
      (rw (count, counted, begins) e, (rw (← e, ← counted, ← begins) put-rows, rw (← e, ← counted, ← begins) put-units))

-- ---- the events of a section that was judged
pub judged_events : (s : List ℕ) (h : Header) → section_by (only_of Eit) s ≡ resulted h → Events s (event_count s) first_event
unfolding body_of
judged_events s h judged =
    let p = section_sound Eit s h judged in
    let b = body_events s (length s - 4) (limits_of Eit).body p.1.0 p.1.1 in
    record {
      end = length s - 4;
      stands = b.0;
      begins = omega (arith, b.1);
      inside = omega arith;
      small = omega (arith, p.0.largest, p.0.size);
    }
