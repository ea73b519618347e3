-- No refusal has the number 0, so a call's number and reply tell its answer.
use Prim.Native.Nat.{ℕ, zero, suc, ◌<◌, ◌+◌}
use mathlib.Core.Path.{◌≡◌, refl}
use mathlib.Core.Bool.{Bool, true, false, not}
use mathlib.Core.List.{List}
use native.Mathlib.Omega.{arith}
use lib.Dec.{eqb, leb}
use lib.ListN.{length}
use Rattle.std.specs.Prelude.{Err, Ok, Option, Some, None}
use Rattle.kind.specs.Kinds.{kind_of}
use Rattle.kind.specs.declared.Kind.{Kind}
use Rattle.kind.specs.declared.Limits.{Limits}
use Rattle.logic.specs.Loops.{any}
use Rattle.part.specs.declared.Part.{Part}
use Rattle.refusal.specs.Numbers.{number_of}
use Rattle.refusal.specs.Outcomes.{Outcome, refused, resulted, after, or_refuse}
use Rattle.bytes_at.specs.Walks.{standing, Walk}
use Rattle.refusal.proofs.TestLaws.{either_way}
use Rattle.refusal.specs.declared.Refusal.{Refusal}
use Rattle.refusal.specs.declared.Refusal.TheVariants.{TooShort, OtherTable, Indicator, LengthRange, ByteCount, Checksum, ProtocolVersion, SectionNumber, Body, NotAReadPair, BrokenText, OutputShort, NoSuchEntry, ShelfBroken, OutOfRange, NotCurrent, NotWatched, AboveQuota, AlreadyWatched, NoRecordLeft, NoPlacesLeft, NotHeld, FieldTooLarge, SectionTooLong}
use Rattle.section.specs.Headers.{checksum_test, header_by, length_tests, number_tests, of_kind}
use Rattle.section.specs.Sections.{body_test, body_walk, section_by}
use Rattle.section.specs.declared.header.Header.{Header}
use Rattle.shelf_state.specs.Records.{is_of}
use Rattle.shelf_state.specs.Searches.{watch_in, find_watch}
use Rattle.shelf_state.specs.declared.records.Asked.{Asked}
use Rattle.shelf_state.specs.declared.records.Shelf.{Shelf}
use Rattle.shelf_state.specs.declared.records.Watch.{Watch}
use Rattle.shelf.specs.Answers.{After}
use Rattle.shelf.specs.Views.{Status, complete, held, unheard, judged, key_in}
use Rattle.shelf.specs.Calls.{closed, fetched, fetched_from, opened, opened_in_range, or_refuse_with, status_after}
use Rattle.shelf.specs.Delivery.{arriving, by_judge, delivered, delivering, done, for_owner, owner_in, received, received_at}
use Rattle.shelf.specs.Steps.{is_result}
use Rattle.refusal.specs.Outputs.{number_in}
use Rattle.lent_memory.specs.Replies.{part_numbers, reply_after, status_numbers}
use Rattle.lent_memory.specs.Meaning.{number_at}
use Rattle.lent_laws.specs.Laws.{outcome_in, part_in, status_in}

abbrev pub Numbered : {A : Type 0} → Outcome A → Type 0
Numbered (refused k) = 0 < k
Numbered (resulted a) = Unit {0}

-- ---- what a caller reads is what was answered
pub unit_back : (o : Outcome (Unit {0})) → Numbered o → outcome_in (number_in o) tt ≡ o
unit_back (refused zero) h = absurd (omega (arith, h))
unit_back (refused (suc k)) h = refl
unit_back (resulted u) h = refl

pub status_back : (y : List ℕ) (o : Outcome Status) → Numbered o
    → outcome_in (number_in o) (status_in (number_at (reply_after status_numbers y o) 0) (number_at (reply_after status_numbers y o) 1) (number_at (reply_after status_numbers y o) 2)) ≡ o
status_back y (refused zero) h = absurd (omega (arith, h))
status_back y (refused (suc k)) h = refl
status_back y (resulted unheard) h = refl
status_back y (resulted (held c n)) h = refl
status_back y (resulted (complete n)) h = refl

pub part_back : (y : List ℕ) (o : Outcome Part) → Numbered o → outcome_in (number_in o) (part_in (number_at (reply_after part_numbers y o) 1) (number_at (reply_after part_numbers y o) 2)) ≡ o
part_back y (refused zero) h = absurd (omega (arith, h))
part_back y (refused (suc k)) h = refl
part_back y (resulted p) h = refl

pub number_refused : {A : Type 0} (o : Outcome A) → 0 < number_in o → is_result o ≡ false
number_refused (refused k) h = refl
number_refused (resulted a) h = absurd (omega (arith, h))

-- ---- the numbers
number_some : (k : Refusal) → 0 < number_of k
number_some TooShort = omega arith
number_some OtherTable = omega arith
number_some Indicator = omega arith
number_some LengthRange = omega arith
number_some ByteCount = omega arith
number_some Checksum = omega arith
number_some ProtocolVersion = omega arith
number_some SectionNumber = omega arith
number_some Body = omega arith
number_some NotAReadPair = omega arith
number_some BrokenText = omega arith
number_some OutputShort = omega arith
number_some NoSuchEntry = omega arith
number_some ShelfBroken = omega arith
number_some OutOfRange = omega arith
number_some NotCurrent = omega arith
number_some NotWatched = omega arith
number_some AboveQuota = omega arith
number_some AlreadyWatched = omega arith
number_some NoRecordLeft = omega arith
number_some NoPlacesLeft = omega arith
number_some NotHeld = omega arith
number_some FieldTooLarge = omega arith
number_some SectionTooLong = omega arith

-- ---- a section's tests
numbers_numbered : (l : Limits) (k : Kind) (s : List ℕ) → Numbered (number_tests l k s)
unfolding number_tests
numbers_numbered l k s =
    either_way Numbered _ _ _ (number_some l.zero_refusal) (either_way Numbered 8 _ _ (omega arith) (either_way Numbered 8 _ _ (omega arith) tt))

lengths_numbered : (l : Limits) (k : Kind) (s : List ℕ) → Numbered (length_tests l k s)
unfolding length_tests checksum_test
lengths_numbered l k s =
    either_way Numbered 3 _ _ (omega arith) (either_way Numbered 3 _ _ (omega arith)
    (either_way Numbered 4 _ _ (omega arith) (either_way Numbered 4 _ _ (omega arith)
    (either_way Numbered 5 _ _ (omega arith) (either_way Numbered 6 _ _ (omega arith) (numbers_numbered l k s))))))

kind_numbered : (s : List ℕ) (f : Option Kind) → Numbered (of_kind s f)
unfolding of_kind
kind_numbered s None = omega arith
kind_numbered s (Some k) = lengths_numbered _ k s

body_numbered : (w : Walk) (h : Header) → Numbered (after (standing w) (λ e. resulted h))
unfolding after standing
body_numbered (Ok e) h = tt
body_numbered (Err e) h = omega arith

with_numbered : (o : Outcome Header) (s : List ℕ) → Numbered o → Numbered (after o (λ h. body_test h s))
unfolding after body_test
with_numbered (refused n) s h = h
with_numbered (resulted x) s h = body_numbered (body_walk x.kind s) x

judged_numbered : (b : List ℕ) → Numbered (judged b)
unfolding judged section_by header_by
judged_numbered b = with_numbered (header_by kind_of b) b (either_way Numbered 1 _ _ (omega arith) (kind_numbered b _))

owner_picks : (a b c : Bool) (w : ℕ) → Numbered (or_refuse {A = ℕ} 16 (not a) (or_refuse 17 b (or_refuse 18 c (resulted w))))
unfolding or_refuse
owner_picks true b c w = omega arith
owner_picks false false c w = omega arith
owner_picks false true false w = omega arith
owner_picks false true true w = tt

owner_numbered : (ws : List Watch) (n : ℕ) (a : Asked) (h : Header) → Numbered (owner_in ws n a h)
unfolding owner_in or_refuse
owner_numbered ws n a h =
    owner_picks (eqb h.current 0) (any n (λ i. is_of (watch_in ws i) a)) (leb (h.last + 1) (watch_in ws (find_watch ws n a)).quota) (find_watch ws n a)

-- ---- the calls
chained : {A : Type 0} (n : ℕ) (s : Shelf) (b : Bool) (r : After A) → 0 < n → Numbered r.outcome → Numbered (or_refuse_with n s b r).outcome
unfolding or_refuse_with
chained n s true r h g = g
chained n s false r h g = h

module _ (s : Shelf) (area : ℕ) where
  pub opened_numbered : (a : Asked) (q : ℕ) → Numbered (opened s area a q).outcome
  unfolding opened opened_in_range
  opened_numbered a q = chained 14 s _ _ (omega arith) (chained 15 s _ _ (omega arith) (chained 19 s _ _ (omega arith) (chained 20 s _ _ (omega arith) (chained 21 s _ _ (omega arith) tt))))

  pub closed_numbered : (a : Asked) → Numbered (closed s area a).outcome
  unfolding closed
  closed_numbered a = chained 14 s _ _ (omega arith) (chained 17 s _ _ (omega arith) tt)

  pub status_numbered : (a : Asked) → Numbered (status_after s area a).outcome
  unfolding status_after
  status_numbered a = chained 14 s _ _ (omega arith) (chained 17 s _ _ (omega arith) tt)

  pub fetched_numbered : (a : Asked) (m : ℕ) → Numbered (fetched s area a m).outcome
  unfolding fetched fetched_from
  fetched_numbered a m = chained 14 s _ _ (omega arith) (chained 17 s _ _ (omega arith) (chained 22 s _ _ (omega arith) tt))

  done_numbered : (o : Outcome ℕ) → Numbered o → Numbered (done o)
  done_numbered (refused k) h = h
  done_numbered (resulted i) h = tt

  pub delivered_numbered : (pid : ℕ) (b : List ℕ) → Numbered (delivered s area pid b).outcome
  unfolding delivered delivering arriving by_judge received for_owner received_at
  delivered_numbered pid b = done_numbered (delivering s area pid b).outcome (chained 14 s _ _ (omega arith) (chained 15 s _ _ (omega arith) (by_judge_lem (judged b) (judged_numbered b))))
    where
      by_owner : (h : Header) (o : Outcome ℕ) → Numbered o → Numbered (for_owner s h (length b) o).outcome
      by_owner h (refused k) g = g
      by_owner h (resulted w) g = tt

      by_judge_lem : (o : Outcome Header) → Numbered o → Numbered (by_judge s pid b o).outcome
      by_judge_lem (refused k) g = g
      by_judge_lem (resulted h) g = by_owner h (owner_in s.watches s.records (key_in pid b) h) (owner_numbered s.watches s.records (key_in pid b) h)
