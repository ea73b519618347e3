-- What is printed for any record fits an output of 262,144 bytes: the line of an event has at most 48 bytes for each byte of the event
-- (8 units a byte of its title, 6 bytes a unit), and all else is short.
use Prim.Native.Nat.{ℕ, zero, suc, ◌+◌, ◌*◌, ◌^◌, ◌≤◌, ◌<◌}
use mathlib.Core.Path.{◌≡◌, refl, sym, ap}
use mathlib.Core.List.{List, ◌++◌}
use native.Mathlib.Numerals.{sub-one}
use native.Mathlib.Omega.{arith}
use lib.ListN.{length, drop, length-append, length-take}
use Rattle.std.specs.Prelude.{Ok, Err, Option, Some, None}
use Rattle.bytes_at.specs.Fields.{byte_at}
use Rattle.refusal.specs.Numbers.{number_of}
use Rattle.refusal.specs.Outcomes.{Outcome, refused, resulted, after}
use Rattle.bytes_at.specs.Walks.{standing, Walk}
use Rattle.refusal.proofs.TestLaws.{either_way}
use Rattle.kind.specs.declared.Kind.{Kind}
use Rattle.kind.specs.declared.Kind.TheVariants.{Mgt, Tvct, Rrt, Eit, Ett}
use Rattle.kind.specs.Kinds.{limits_of, kind_of}
use Rattle.format.specs.Repeats.{Bytes}
use Rattle.format.specs.Laws.OfBytes.{part_bytes}
use Rattle.format.specs.Laws.OfValues.{vals_fit}
use Rattle.section.specs.declared.header.Header.{Header}
use Rattle.section.specs.Headers.{header_by, of_kind, length_tests, checksum_test, number_tests}
use Rattle.section.specs.Sections.{body_walk, body_test, section_by}
use Rattle.strings.specs.Places.{text_at, text_end}
use Rattle.descriptor.specs.Places.{list_end}
use Rattle.eit.specs.declared.event.Event.{Event}
use Rattle.eit.specs.Format.{event_head}
use Rattle.eit.specs.Fields.{count_at, first_at, title_part, title_at, event_at, event_end}
use Rattle.eit.specs.Inner.{Events}
use Rattle.eit.proofs.EventsLaws.{events_step}
use Rattle.record.specs.Records.{pid_in, length_in, section_in}
use Rattle.shown.specs.Ascii.{ascii, decimal, field}
use Rattle.shown.specs.Titles.{title_shown}
use Rattle.lines.specs.Lines.{kind_word, key_shown, edition_shown, times_shown, event_line, event_lines, events_shown}
use Rattle.lines.specs.Lines.{rest_shown, refusal_shown, outcome_shown, section_shown}
use Rattle.lines.specs.Records.{last_line, record_lines, bad_lines}
use Rattle.shown.proofs.FewLaws.{number_few, field_few, title_few}
use Rattle.lines.proofs.EventLaws.{section_events}

-- ---- the lines of events, whose numbers are of bytes
event_few : (e : Event) → e.event_id < 2 ^ 64 → e.start_time < 2 ^ 64 → e.length_in_seconds < 2 ^ 64 → length (times_shown e) ≤ 81
unfolding times_shown
event_few e i t l =
    let start = field (ascii " start ") e.start_time in
    let size = field (ascii " length ") e.length_in_seconds in
    omega (
      arith,
      length-append (field (ascii "event ") e.event_id) (start ++ size),
      length-append start size,
      field_few (ascii "event ") _ i,
      field_few (ascii " start ") _ t,
      field_few (ascii " length ") _ l,
    )

times_few : (s : List ℕ) (a : ℕ) → length (times_shown (event_at s a)) ≤ 81
unfolding event_at
times_few s a =
    let f = vals_fit event_head s a 0 in
    event_few (event_at s a) (omega (arith, f.1.0)) (omega (arith, f.1.1.0)) (omega (arith, f.1.1.1.1.1.0))

-- the event's bytes beside its title stand for all else
line_few : (s : List ℕ) (a : ℕ) → length (event_line s a) + 48 * a ≤ 48 * event_end s a
unfolding event_line event_end event_at title_at title_part text_at text_end list_end
line_few s a =
    let times = times_shown (event_at s a) in
    let title = title_shown s (title_at s a) in
    omega (
      arith,
      length-append times (ascii " title " ++ (title ++ ascii "\n")),
      length-append title (ascii "\n"),
      times_few s a,
      title_few s (title_part s a).start (title_part s a).length,
    )

-- the next event begins where one ends
lines_few : (s : List ℕ) (n a : ℕ) → Events s n a → length (event_lines s n a) + 48 * a ≤ 48 * length s
unfolding event_lines
lines_few s zero a v = omega (arith, v.begins)
lines_few s (suc n) a v =
    let rest = lines_few s n (event_end s a) (rw sub-one at (events_step s (suc n) a v (omega arith))) in
    omega (arith, length-append (event_line s a) (event_lines s n (event_end s a)), line_few s a, rest)

-- ---- what judging a section tells: a refusal's number, or the header's
abbrev Told : Outcome Header → Type 0
Told (refused k) = k < 256
Told (resulted h) = (h.extension < 65536) × (h.version < 32) × (h.number < 256) × (h.last < 256)

zero_few : (k : Kind) → number_of (limits_of k).zero_refusal < 256
zero_few Mgt = omega arith
zero_few Tvct = omega arith
zero_few Rrt = omega arith
zero_few Eit = omega arith
zero_few Ett = omega arith

module _ (s : List ℕ) (z : Bytes s) where
  numbers_told : (k : Kind) → Told (number_tests (limits_of k) k s)
  unfolding number_tests
  numbers_told k =
      either_way Told _ _ _ (zero_few k)
      (either_way Told 8 _ _ (omega arith) (either_way Told 8 _ _ (omega arith) (omega (arith, z 3, z 4), omega arith, z 6, z 7)))

  lengths_told : (k : Kind) → Told (length_tests (limits_of k) k s)
  unfolding length_tests checksum_test
  lengths_told k =
      either_way Told 3 _ _ (omega arith) (either_way Told 3 _ _ (omega arith)
      (either_way Told 4 _ _ (omega arith) (either_way Told 4 _ _ (omega arith)
      (either_way Told 5 _ _ (omega arith) (either_way Told 6 _ _ (omega arith) (numbers_told k))))))

  kind_told : (f : Option Kind) → Told (of_kind s f)
  unfolding of_kind
  kind_told None = omega arith
  kind_told (Some k) = lengths_told k

  header_told : Told (header_by kind_of s)
  unfolding header_by
  header_told = either_way Told 1 _ _ (omega arith) (kind_told (kind_of (byte_at s 0)))

  body_told : (w : Walk) (h : Header) → Told (resulted h) → Told (after (standing w) (λ e. resulted h))
  unfolding after standing
  body_told (Ok e) h t = t
  body_told (Err x) h t = omega arith

  with_told : (o : Outcome Header) → Told o → Told (after o (λ h. body_test h s))
  unfolding after body_test
  with_told (refused k) t = t
  with_told (resulted h) t = body_told (body_walk h.kind s) h t

  section_told : Told (section_by kind_of s)
  unfolding section_by
  section_told = with_told (header_by kind_of s) header_told

-- ---- the lines of a section
refusal_few : (k : ℕ) → k < 256 → length (refusal_shown k) ≤ 30
unfolding refusal_shown
refusal_few k h = omega (arith, length-append (field (ascii " refused ") k) (ascii "\n"), field_few (ascii " refused ") k (omega arith))

kind_few : (k : Kind) → length (kind_word k) ≤ 6
unfolding kind_word
kind_few Mgt = omega arith
kind_few Tvct = omega arith
kind_few Rrt = omega arith
kind_few Eit = omega arith
kind_few Ett = omega arith

module _ (pid : ℕ) (h : Header) (p : pid < 65536) (t : Told (resulted h)) where
  key_few : length (key_shown pid h) ≤ 51
  unfolding key_shown
  key_few =
      let pids = field (ascii " pid ") pid in
      omega (
        arith,
        length-append pids (kind_word h.kind ++ decimal h.extension),
        length-append (kind_word h.kind) (decimal h.extension),
        field_few (ascii " pid ") pid (omega arith),
        kind_few h.kind,
        number_few h.extension (omega arith),
      )

  edition_few : length (edition_shown h) ≤ 64
  unfolding edition_shown
  edition_few =
      let number = field (ascii " ") h.number in
      let last = field (ascii "/") h.last in
      omega (
        arith,
        length-append (field (ascii " v") h.version) (number ++ last),
        length-append number last,
        field_few (ascii " v") h.version (omega arith),
        field_few (ascii " ") h.number (omega arith),
        field_few (ascii "/") h.last (omega arith),
      )

module _ (s : List ℕ) (z : Bytes s) where
  events_few : (at : ℕ) → Events s (count_at s at) (first_at at) → length (events_shown s at) ≤ 29 + 48 * length s
  unfolding events_shown
  events_few at v =
      let count = field (ascii " events ") (count_at s at) in
      let lines = event_lines s (count_at s at) (first_at at) in
      omega (
        arith,
        length-append count (ascii "\n" ++ lines),
        field_few (ascii " events ") (count_at s at) (omega (arith, z at)),
        lines_few s (count_at s at) (first_at at) v,
      )

  rest_few : (h : Header) → section_by kind_of s ≡ resulted h → (k : Kind) → h.kind ≡ k → length (rest_shown s k) ≤ 29 + 48 * length s
  unfolding rest_shown
  rest_few h p Mgt e = omega arith
  rest_few h p Tvct e = omega arith
  rest_few h p Rrt e = omega arith
  rest_few h p Eit e = let at = (limits_of Eit).body in events_few at (section_events s h at p e (ap (λ (k : Kind). (limits_of k).body) (sym e)))
  rest_few h p Ett e = omega arith

  outcome_few : (pid : ℕ) → pid < 65536 → (o : Outcome Header) → section_by kind_of s ≡ o → Told o
      → length (outcome_shown pid s o) ≤ 144 + 48 * length s
  unfolding outcome_shown
  outcome_few pid p (refused k) e t = omega (arith, refusal_few k (omega arith))
  outcome_few pid p (resulted h) e t =
      let rest = rest_shown s h.kind in
      omega (
        arith,
        length-append (key_shown pid h) (edition_shown h ++ rest),
        length-append (edition_shown h) rest,
        key_few pid h p t,
        edition_few pid h p t,
        rest_few h e h.kind refl,
      )

  section_few : (pid : ℕ) → pid < 65536 → length (section_shown pid s) ≤ 144 + 48 * length s
  unfolding section_shown outcome_shown
  section_few pid p =
      either_way (λ o. length (outcome_shown pid s o) ≤ 144 + 48 * length s) 15 _ (section_by kind_of s)
      (omega (arith, refusal_few 15 (omega arith))) (outcome_few pid p (section_by kind_of s) refl (section_told s z))

-- ---- a record
pub last_few : (n : ℕ) → n < 2 ^ 64 → length (last_line n) ≤ 25
unfolding last_line
last_few n h = omega (arith, length-append (field (ascii "end ") n) (ascii "\n"), field_few (ascii "end ") n h)

pub bad_few : (n : ℕ) → n < 2 ^ 64 → length (bad_lines n) ≤ 57
unfolding bad_lines
bad_few n h = omega (arith, length-append (decimal n) (ascii " bad record\n" ++ last_line n), number_few n h, last_few n h)

-- a section has at most 4,098 bytes
pub record_few : (n : ℕ) (r : List ℕ) → Bytes r → n < 2 ^ 64 → length (record_lines n r) ≤ 262144
unfolding record_lines
record_few n r z h =
    let size = 3 + length_in r in
    let s = section_in r in
    omega (
      arith,
      length-append (decimal n) (section_shown (pid_in r) s),
      number_few n h,
      length-take size (drop 4 r),
      section_few s (part_bytes r size 4 z) (pid_in r) (omega (arith, z 2, z 3)),
    )
