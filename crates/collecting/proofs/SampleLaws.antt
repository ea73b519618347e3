-- The sample stretch, on any area: what each of its calls answers, and that it meets all that the first half of the third demand asks,
-- so that its table is collected.
use Rattle.std.specs.Prelude.{Option, None, Some}
use Prim.Native.Nat.{◌%◌, ◌*◌, ◌+◌, ◌/◌, ◌<◌, ◌≤◌, suc, zero, ℕ}
use mathlib.Core.Path.{◌∙◌, ◌≡◌, ap, refl, subst, sym}
use mathlib.Core.List.{List, [], ◌∷◌}
use native.Mathlib.Omega.{arith}
use lib.ListN.{length}
use borrow.Author.Tests.{le-leb}
use Rattle.logic.specs.Choices.{if_eq, if_lt, pick}
use Rattle.logic.specs.Loops.{◌&◌, ◌⇒◌, all, any, first, sum}
use Rattle.checksum.specs.Register.{bit_in, bits_in, four_bytes, poly, register_from, sealed}
use Rattle.checksum.proofs.Sealing.{sealed_sound}
use Rattle.bytes_at.specs.Walks.{bits_to, ends, fields_to, many, standing, then}
use Rattle.kind.specs.Kinds.{kind_of}
use Rattle.kind.specs.declared.Kind.TheVariants.{Eit}
use Rattle.refusal.specs.Outcomes.{refused, resulted, after, or_refuse}
use Rattle.section.specs.Walked.{body_of}
use Rattle.section.specs.Headers.{checksum_test, header_by, header_in, length_tests, number_tests, of_kind}
use Rattle.section.specs.Sections.{body_test, section_by}
use Rattle.shelf_state.specs.Records.{holds_for, is_of, same_key}
use Rattle.shelf_state.specs.Searches.{empty_shelf}
use Rattle.shelf_state.specs.Rules.{in_range, keys_differ, keys_in_range, last_below_quota, lengths_fit, none_above_quota, none_twice, obeys, places_owned, quota_of, quotas_fit, sizes_fit, sizes_in_range, unheard_empty, watchable}
use Rattle.shelf_state.specs.declared.records.Asked.{Asked}
use Rattle.shelf.specs.Calls.{made, opened, opened_in_range, or_refuse_with}
use Rattle.shelf.specs.Steps.{did, step, step_on, view_in}
use Rattle.shelf.specs.Views.{View, held_or_complete, current_of, current_on, delivers, delivery_says, fresh_view, hears, judged, key_in, next_view, put, same_edition, status_of}
use Rattle.shelf_laws.proofs.EmptyLaws.{empty_law}
use Rattle.collecting.proofs.FirstHalf.{first_half}
use Rattle.collecting.proofs.StretchLaws.{AllPlain, Harmless, all_plain, of_table, other_key, plain, stretch_of, too_many, unsound}
use Rattle.collecting.proofs.KnownLaws.{Answers, Known, answers_end, answers_next, gives_bytes, goes, hearing, hears_it, refuses_14, refuses_19, refuses_before, refuses_for, tells_status}
use Rattle.collecting.specs.Collecting.{Complete, Made, NoneRefused, Own, TableSection, Stretch, WholeTable, state_after, deliver, here, no_more, one_more, recorded, there, ours}
use Rattle.collecting.specs.Samples.{answers, answers_in, damaged, eit, eit_header, eit_key, empty_state, fresh, mine, opening, section, start, theirs, turns}
use Rattle.eit.specs.Walked as E

-- ---- the sections
word : (source : ℕ) → 0 + source ≡ source
word source = omega arith

fields : (source version number last : ℕ) → version < 32 → header_in Eit (eit source version number last) ≡ eit_header source version number last
unfolding eit sealed
fields source version number last v =
    let e : (0xC1 + 2 * version) / 2 % 32 ≡ version = omega (arith, v) in
    let f : (0xC1 + 2 * version) % 2 ≡ 1 = omega arith in
    λ i. record { kind = Eit; extension = word source i; version = e i; current = f i; number = number; last = last }

pub eit_sound : (source version number last : ℕ) → version < 32 → number ≤ last → last ≤ 255
    → judged (eit source version number last) ≡ resulted (eit_header source version number last)
unfolding judged header_by of_kind length_tests checksum_test number_tests if_lt if_eq kind_of eit sealed four_bytes section_by body_test body_of then many ends bits_to fields_to E.eit E.events or_refuse after standing
eit_sound source version number last v n l =
    rw (sealed_sound (0xCB ∷ 0xF0 ∷ 11 ∷ 0 ∷ source ∷ (0xC1 + 2 * version) ∷ number ∷ last ∷ 0 ∷ 0 ∷ []), le-leb number last n, le-leb last 255 l)
    (ap resulted (fields source version number last v))

pub damaged_refused : judged damaged ≡ refused 6
unfolding judged header_by of_kind length_tests checksum_test if_lt if_eq kind_of eit sealed four_bytes section_by register_from bits_in bit_in poly or_refuse after standing
damaged_refused = refl

pub eit_key_lem : (pid source version number last : ℕ) → key_in pid (eit source version number last) ≡ eit_key pid source
unfolding eit sealed
eit_key_lem pid source version number last = λ i. record { pid = pid; table_id = 0xCB; extension = word source i }

abbrev pub eit_section : (pid source version number last : ℕ) → version < 32 → number ≤ last → last ≤ 255
    → TableSection (eit_key pid source) version last number (eit source version number last)
eit_section pid source version number last v n l = record {
  head = eit_header source version number last;
  sound = eit_sound source version number last v n l;
  current = λ e. absurd (omega (arith, e));
  key = eit_key_lem pid source version number last;
  version_is = refl;
  last_is = refl;
  number_is = refl;
}

-- the section that the shelf holds at the start; the other watch's; one of a table with a section too many
abbrev old : TableSection mine 3 2 1 (eit 7 3 1 2)
old = eit_section 0x1D00 7 3 1 2 (omega arith) (omega arith) (omega arith)

abbrev their : (version last : ℕ) → version < 32 → last ≤ 255 → TableSection theirs version last 0 (eit 8 version 0 last)
their version last v l = eit_section 0x1D01 8 version 0 last v (omega arith) l

abbrev long : TableSection mine 5 3 0 (eit 7 5 0 3)
long = eit_section 0x1D00 7 5 0 3 (omega arith) (omega arith) (omega arith)

abbrev pub table : WholeTable mine
table = record { version = 4; last = 2; bytes = section; sections = λ m l. eit_section 0x1D00 7 4 m 2 (omega arith) l (omega arith) }

-- ---- on any area: the two watches, and the old section
abbrev pub room : ℕ
room = 5 * 4096

abbrev pub no_views : Asked → Option View
no_views k = None

abbrev pub mine_views : Asked → Option View
mine_views k = pick (same_key k mine) (Some (fresh_view 3)) None

abbrev pub fresh_views : Asked → Option View
fresh_views k = pick (same_key k theirs) (Some (fresh_view 2)) (mine_views k)

abbrev start_views : Asked → Option View
start_views = hearing mine (eit 7 3 1 2) (eit_header 7 3 1 2) fresh_views

both_open : ((opened (made 5 2).shelf room mine 3).outcome ≡ resulted tt) × ((opened (opened (made 5 2).shelf room mine 3).shelf room theirs 2).outcome ≡ resulted tt)
unfolding if_eq kind_of ◌&◌ ◌⇒◌ all any sum first same_key is_of holds_for empty_shelf quota_of watchable in_range keys_differ quotas_fit places_owned none_twice none_above_quota last_below_quota unheard_empty lengths_fit keys_in_range sizes_in_range sizes_fit obeys or_refuse_with made opened_in_range opened
both_open = (refl, refl)

module _ (area : List ℕ) (size : length area ≡ room) where
  pub empty_known : Known room no_views (empty_state 5 2 area)
  unfolding made or_refuse_with sizes_in_range ◌&◌
  empty_known = let e = empty_law 5 2 area refl size in record { ok = e.rules; size = size; views = e.no_view }

  pub fresh_known : Known room fresh_views (fresh area)
  unfolding state_after step step_on next_view ◌&◌
  fresh_known =
      let a = goes (empty_state 5 2 area) (opening mine 3) (did (resulted tt)) mine_views empty_known refl
      (ap (λ (n : ℕ). did (opened (made 5 2).shelf n mine 3).outcome) size ∙ ap did both_open.0) (λ k. refl) in
      (goes _ (opening theirs 2) (did (resulted tt)) fresh_views a.known refl
      (ap (λ (n : ℕ). did (opened (opened (made 5 2).shelf n mine 3).shelf n theirs 2).outcome) size ∙ ap did both_open.1) (λ k. refl)).known

  pub start_known : Known room start_views (start area)
  unfolding state_after delivery_says same_key ◌&◌ or_refuse
  start_known = (hears_it (fresh area) fresh_known old (omega arith) refl).known

-- ---- what each call of the stretch answers
sample_answers : Answers room start_views turns answers
unfolding delivery_says same_key ◌&◌ hears put same_edition status_of held_or_complete if_eq sum current_on in_range watchable kind_of or_refuse
sample_answers =
    answers_next (λ x i. hears_it x i (table.sections 2 (omega arith)) (omega arith) refl)
    (answers_next (λ x i. refuses_before x i 0x1D00 6 damaged (ap current_of damaged_refused))
    (answers_next (λ x i. hears_it x i (their 1 1 (omega arith) (omega arith)) (omega arith) refl)
    (answers_next (λ x i. tells_status x i mine)
    (answers_next (λ x i. hears_it x i (table.sections 0 (omega arith)) (omega arith) refl)
    (answers_next (λ x i. hears_it x i (table.sections 2 (omega arith)) (omega arith) refl)
    (answers_next (λ x i. hears_it x i (their 2 0 (omega arith) (omega arith)) (omega arith) refl)
    (answers_next (λ x i. refuses_for x i long (omega arith) 18 refl)
    (answers_next (λ x i. gives_bytes x i mine 0)
    (answers_next (λ x i. refuses_14 x i (delivers (record { pid = 0x1D00; bytes = section 1 })) [] refl refl)
    (answers_next (λ x i. refuses_19 x i mine 1 _ refl refl)
    (answers_next (λ x i. tells_status x i theirs)
    (answers_next (λ x i. hears_it x i (table.sections 1 (omega arith)) (omega arith) refl)
    (answers_next (λ x i. hears_it x i (table.sections 0 (omega arith)) (omega arith) refl)
    answers_end)))))))))))))

-- ---- what the first half asks of the stretch
abbrev old_view : View
old_view = hears (fresh_view 3) (eit_header 7 3 1 2) (eit 7 3 1 2)

stretch_own : Own room turns
stretch_own =
    one_more refl (one_more refl (one_more refl (one_more refl (one_more refl (one_more refl (one_more refl
    (one_more refl (one_more refl (one_more refl (one_more refl (one_more refl (one_more refl (one_more refl no_more)))))))))))))

not_mine : (b : List ℕ) → key_in 0x1D01 b ≡ mine → ⊥
not_mine b e = let n = ap (λ (a : Asked). a.pid) e in omega (arith, n)

stretch_plain : AllPlain table 3 turns
unfolding current_on or_refuse
stretch_plain =
    let its : (m : ℕ) → m ≤ 2 → Harmless table 3 (record { pid = 0x1D00; bytes = section m }) = λ m l. of_table (record { number = m; upto = l; bytes_are = refl }) in
    let of-theirs : (b : List ℕ) → Harmless table 3 (record { pid = 0x1D01; bytes = b }) = λ b. other_key (not_mine b) in
    let long-one : Harmless table 3 (record { pid = 0x1D00; bytes = eit 7 5 0 3 }) = too_many long.head (ap current_of long.sound) (omega arith) in
    plain (its 2 (omega arith))
    (plain (unsound 6 (ap current_of damaged_refused))
    (plain (of-theirs (eit 8 1 0 1))
    (plain tt
    (plain (its 0 (omega arith))
    (plain (its 2 (omega arith))
    (plain (of-theirs (eit 8 2 0 0))
    (plain long-one
    (plain tt
    (plain (its 1 (omega arith))
    (plain tt
    (plain tt
    (plain (its 1 (omega arith))
    (plain (its 0 (omega arith))
    all_plain)))))))))))))

stretch_made : (m : ℕ) → m ≤ 2 → Made (deliver 0x1D00 (section m)) turns
stretch_made zero l = there (there (there (there here)))
stretch_made (suc zero) l = there (there (there (there (there (there (there (there (there (there (there (there here)))))))))))
stretch_made (suc (suc zero)) l = here
stretch_made (suc (suc (suc m))) l = absurd (omega (arith, l))

module _ (area : List ℕ) (size : length area ≡ room) where
  start_view : view_in (start area) mine ≡ Some old_view
  unfolding same_key ◌&◌
  start_view = (start_known area size).views mine

  start_own : Own (length (start area).area) turns
  start_own = subst (λ (n : ℕ). Own n turns) (sym (start_known area size).size) stretch_own

  -- it is a stretch for the table, on which all that was said is answered; and so the table is collected
  pub sample_stretch : Stretch ours table (start area) turns
  unfolding hears
  sample_stretch = stretch_of mine table (start area) old_view turns (start_known area size).ok start_view start_own stretch_plain

  pub sample_answered : answers_in (recorded ours (start area) turns) ≡ answers
  sample_answered = sample_answers.given (start area) (start_known area size)

  pub sample_collected : NoneRefused ours table (start area) turns × Complete ours table (state_after ours (start area) turns)
  unfolding hears
  sample_collected = first_half (start area) mine old_view table turns (start_known area size).ok start_view (omega arith) start_own sample_stretch stretch_made
