-- The entries of a section that was judged stand one after the other within it, so that 9 does not come a second time.
use Prim.Native.Nat.{ℕ, ◌-◌, ◌≤◌, ◌<◌}
use mathlib.Core.Path.{◌≡◌, refl, sym, ap, subst, ◌∙◌}
use mathlib.Core.List.{List}
use native.Mathlib.Omega.{arith}
use lib.ListN.{length}
use Rattle.std.specs.Prelude.{Result, Ok, Err, IsErrAnd, MatchResult}
use Rattle.std.proofs.lemmas.Result.{err_from_is_err_and}
use Rattle.bytes_at.specs.Walks.{Walk, standing}
use Rattle.bytes_at.specs.Inner.{Stands}
use Rattle.bytes_at.proofs.WalkLaws.{many_in, reached, stands_at, standing_to, standing_is}
use Rattle.refusal.specs.Outcomes.{Outcome, refused, resulted, outcome, after}
use Rattle.refusal.proofs.OutcomeLaws.{after_is}
use Rattle.refusal.proofs.TestLaws.{lets_lt, stops_lt, passed_lt}
use Rattle.kind.specs.Kinds.{only_of}
use Rattle.format.specs.Formats.{walks}
use Rattle.mgt.proofs.DefinedLaws.{defined_forward}
use Rattle.mgt.proofs.BodyLaws.{body_tables}
use Rattle.channel.proofs.ChannelLaws.{channel_forward}
use Rattle.tvct.proofs.BodyLaws.{body_channels}
use Rattle.rrt.proofs.WalkLaws.{dimension_forward, body_dimensions}
use Rattle.eit.proofs.EventLaws.{event_forward}
use Rattle.eit.proofs.EventsLaws.{body_events}
use Rattle.section.specs.declared.header.Header.{Header}
use Rattle.section.specs.Walked.{body_of}
use Rattle.section.specs.Sections.{body_walk, section_by}
use Rattle.section.proofs.KindLaws.{start_fits}
use Rattle.section.proofs.SectionLaws.{section_sound}
use Rattle.entry.specs.declared.Entry.{Entry}
use Rattle.entry.specs.declared.Entry.TheVariants.{Table, Channel, Dimension, Event}
use Rattle.refusal.specs.declared.Refusal.{Refusal}
use Rattle.refusal.specs.declared.Refusal.TheVariants.{Body}
use Rattle.refusal.specs.Numbers.{number_of}
use Rattle.entry.specs.Entries.{format_of, entry_count, first_entry, entry_walk, spot_in, spot_of, rest_in}
use Rattle.entry.specs.Records.{kind_of_entry, start_of}
use Rattle.entry.specs.Inner.{Begins, Inside}

-- ---- an entry that is counted begins where the walk stands, and 13 where it is not
module _ (e : Entry) (s : List ℕ) (i : ℕ) where
  pub spot_there : {r : Outcome ℕ} → i < entry_count e s → r ≡ standing (entry_walk e s i) → r ≡ spot_in e s i
  unfolding spot_in
  spot_there h w = lets_lt 13 i (entry_count e s) (standing (entry_walk e s i)) h w

  pub spot_none : entry_count e s ≤ i → refused 13 ≡ spot_in e s i
  unfolding spot_in
  spot_none h = stops_lt 13 i (entry_count e s) (standing (entry_walk e s i)) h refl

-- ---- where the entries of a section stand
-- an entry ends where its container does or before
pub entry_inside : (e : Entry) (s : List ℕ) (end a b : ℕ) → walks (format_of e) s end a ≡ Ok b → b ≤ end
unfolding format_of
entry_inside Table s end a b w = (defined_forward s end a b w).1
entry_inside Channel s end a b w = (channel_forward s end a b w).1
entry_inside Dimension s end a b w = (dimension_forward s end a b w).1
entry_inside Event s end a b w = (event_forward s end a b w).1

-- so entry i begins within the bytes
pub entries_inside : (e : Entry) (s : List ℕ) (i a : ℕ) → Begins e s → entry_walk e s i ≡ Ok a → a ≤ length s
unfolding entry_walk
entries_inside e s i a g w =
    many_in _ (length s) (λ b c v. let t = entry_inside e s (length s - 4) b c v in omega arith) i (first_entry e s) a g.first w

-- a body that is walked has as many entries as are counted
body_entries : (e : Entry) (s : List ℕ) (x : ℕ) → body_walk (kind_of_entry e) s ≡ Ok x
    → Stands (entry_walk e s (entry_count e s)) × (first_entry e s ≤ length s - 4)
unfolding body_of entry_walk entry_count first_entry format_of
body_entries Table s x w = let p = body_tables s (length s - 4) (start_of Table) x w in ((p.0, p.1.0), p.1.1.1)
body_entries Channel s x w = let p = body_channels s (length s - 4) (start_of Channel) x w in ((p.0, p.1.0), p.1.1.1)
body_entries Dimension s x w = let p = body_dimensions s (length s - 4) (start_of Dimension) x w in ((p.0, p.1.0), p.1.1.1)
body_entries Event s x w = body_events s (length s - 4) (start_of Event) x w

module _ (e : Entry) (s : List ℕ) (h : Header) (judged : section_by (only_of (kind_of_entry e)) s ≡ resulted h) where
  pub judged_entries : Stands (entry_walk e s (entry_count e s))
  judged_entries = let w = (section_sound (kind_of_entry e) s h judged).1 in (body_entries e s w.0 w.1).0

  pub judged_begins : Begins e s
  judged_begins =
      let p = section_sound (kind_of_entry e) s h judged in
      let f = (body_entries e s p.1.0 p.1.1).1 in
      let k = start_fits (kind_of_entry e) in
      let m = p.0.smallest in
      let n = p.0.size in
      record { body = omega arith; first = omega arith }

  -- an entry that the section has is found, and so is what follows them all
  pub entry_found : (i : ℕ) → i < entry_count e s → (a : ℕ) × (spot_of e s i ≡ resulted a)
  unfolding spot_of entry_walk after
  entry_found i l =
      let j = judged_entries in
      let r = reached _ i (entry_count e s) (first_entry e s) j.0 (omega arith) j.1 in
      let w = standing_to _ _ r.1 in
      (r.0, rw judged (sym (spot_there e s i {r = resulted r.0} l w)))

  pub rest_found : (b : ℕ) × (rest_in e s ≡ resulted b)
  unfolding rest_in
  rest_found = (judged_entries.0, sym (standing_to _ _ judged_entries.1))

-- an entry that was found stands, and ends before the checksum
pub entry_stands : (e : Entry) (s : List ℕ) (i a : ℕ) → spot_of e s i ≡ resulted a → Stands (walks (format_of e) s (length s - 4) a)
unfolding spot_of spot_in entry_walk
entry_stands e s i a q =
    let h = after_is (section_by (only_of (kind_of_entry e)) s) _ a q in
    let l = passed_lt 13 i (entry_count e s) _ a h.1.1 in
    let w = standing_is (entry_walk e s i) a l.1 in
    let j = judged_entries e s h.0 h.1.0 in
    stands_at _ i (entry_count e s) (first_entry e s) a j.0 l.0 j.1 w

-- where a spot is, is within the bytes; a refusal is nowhere
pub refused_inside : (s : List ℕ) {r : Result ℕ Refusal} {k : Refusal} → r ≡ Err k → Inside s r
refused_inside s e = rw e (record {})

pub spot_inside : (s : List ℕ) {r : Result ℕ Refusal} {a : ℕ} → Inside s r → r ≡ Ok a → a ≤ length s
spot_inside s g e = subst (Inside s) e g

-- a walk's place, or 9; it stands within the bytes where the walk's places do
pub placed : (s : List ℕ) (w : Walk) (r : Result ℕ Refusal) (P : ℕ → Refusal → Type 0) → ((x : ℕ) (k : Refusal) → P x k → k ≡ Body)
    → ((a : ℕ) → w ≡ Ok a → a ≤ length s) → MatchResult w (λ b. r ≡ Ok b) (λ x. IsErrAnd r (P x))
    → (outcome r ≡ standing w) × Inside s r
unfolding standing
placed s (Ok b) r P f g m = (ap outcome m, rw m (g b refl))
placed s (Err x) r P f g m =
    let q = err_from_is_err_and r m in
    (ap outcome q.1 ∙ ap (λ (k : Refusal). refused (number_of k)) (f x q.0 q.2), refused_inside _ q.1)
