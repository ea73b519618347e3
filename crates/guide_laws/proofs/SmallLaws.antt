-- Numbers of 32 bits, and what is one: a byte, a word, some bits, a place in a section.
use Prim.Native.Nat.{ℕ, ◌+◌, ◌-◌, ◌≤◌, ◌<◌}
use mathlib.Core.Path.{◌≡◌, refl, sym, subst}
use mathlib.Core.Bool.{Bool, true, false}
use mathlib.Core.List.{List, map, [], ◌∷◌, ◌++◌}
use native.Mathlib.Omega.{arith}
use lib.ListN.{length}
use Rattle.logic.specs.Choices.{pick}
use Rattle.refusal.specs.Outcomes.{Outcome, resulted}
use Rattle.refusal.proofs.OutcomeLaws.{after_is, same_result}
use Rattle.refusal.proofs.TestLaws.{passed_lt}
use Rattle.kind.specs.declared.Kind.{Kind}
use Rattle.kind.specs.declared.Kind.TheVariants.{Mgt, Tvct, Rrt, Eit, Ett}
use Rattle.kind.specs.Kinds.{limits_of, only_of}
use Rattle.bytes_at.specs.Fields.{word_at}
use Rattle.format.specs.Formats.{walks}
use Rattle.format.specs.Repeats.{Bytes}
use Rattle.format.specs.Values.{One}
use Rattle.part.specs.declared.Part.{Part}
use Rattle.row.specs.Rows.{part_row}
use Rattle.strings.specs.Places.{text_at, text_end}
use Rattle.descriptor.specs.Places.{list_at}
use Rattle.section.specs.declared.header.Header.{Header}
use Rattle.section.specs.Sections.{section_by}
use Rattle.section.proofs.SectionLaws.{section_sound}
use Rattle.entry.specs.declared.Entry.{Entry}
use Rattle.entry.specs.declared.Entry.TheVariants.{Dimension}
use Rattle.entry.specs.Entries.{spot_of, spot_in, rest_in, entry_walk, entry_count, value_spot}
use Rattle.entry.specs.Records.{kind_of_entry}
use Rattle.bytes_at.proofs.WalkLaws.{standing_is}
use Rattle.entry.proofs.EntryLaws.{entries_inside, judged_begins}
use Rattle.entry.proofs.ValueLaws.{values_inside}
use Rattle.rrt.specs.Walked.{value}
use Rattle.rrt.specs.Fields.{values_at, first_value_at}
use Rattle.bytes_at.specs.Walks.{many}
use Rattle.telling.specs.Told.{noted}
use Rattle.telling.proofs.ToldLaws.{as_told}

-- every number of a list has 32 bits
abbrev pub Small : List ℕ → Type 0
Small [] = One
Small (n ∷ l) = (n < 4294967296) × Small l

-- they are told as they are
pub small_whole : (l : List ℕ) → Small l → map noted l ≡ l
small_whole [] h = refl
small_whole (n ∷ l) h = sym (as_told h.0 (sym (small_whole l h.1)))

-- so is a result of such numbers
pub told_whole : {A : Type 0} (f : A → List ℕ) (a b : A) → ◌≡◌ {A = Outcome A} (resulted a) (resulted b) → Small (f a) → map noted (f b) ≡ f b
told_whole f a b e h = subst (λ x. map noted (f x) ≡ f x) (same_result a b e) (small_whole (f a) h)

pub small_join : (k l : List ℕ) → Small k → Small l → Small (k ++ l)
small_join [] l h g = g
small_join (n ∷ k) l h g = (h.0, small_join k l h.1 g)

-- what holds of both holds of the one that is picked
pub picked : {A : Type 0} (P : A → Type 0) (t : Bool) (a b : A) → P a → P b → P (pick t a b)
picked P true a b h g = h
picked P false a b h g = g

-- ---- fields
pub word_small : (s : List ℕ) → Bytes s → (i : ℕ) → word_at s i < 65536
word_small s g i = omega (arith, g i, g (i + 1))

-- ---- places
pub largest_small : (k : Kind) → (limits_of k).largest + 3 ≤ 4096
largest_small Mgt = omega arith
largest_small Tvct = omega arith
largest_small Rrt = omega arith
largest_small Eit = omega arith
largest_small Ett = omega arith

pub judged_size : (k : Kind) (s : List ℕ) (h : Header) → section_by (only_of k) s ≡ resulted h → length s ≤ 4096
judged_size k s h e = let p = (section_sound k s h e).0 in let m = largest_small k in omega (arith, m, p.largest, p.size)

-- where entry i begins, and where all are passed
pub spot_small : (e : Entry) (s : List ℕ) (i a : ℕ) → spot_of e s i ≡ resulted a → a ≤ 4096
unfolding spot_of spot_in
spot_small e s i a q =
    let h = after_is (section_by (only_of (kind_of_entry e)) s) _ a q in
    let l = passed_lt 13 i (entry_count e s) _ a h.1.1 in
    let w = standing_is (entry_walk e s i) a l.1 in
    let n = entries_inside e s i a (judged_begins e s h.0 h.1.0) w in
    omega (arith, n, judged_size (kind_of_entry e) s h.0 h.1.0)

pub rest_small : (e : Entry) (s : List ℕ) (h : Header) (b : ℕ) → section_by (only_of (kind_of_entry e)) s ≡ resulted h → rest_in e s ≡ resulted b → b ≤ 4096
unfolding rest_in
rest_small e s h b judged q =
    let w = standing_is (entry_walk e s (entry_count e s)) b q in
    let n = entries_inside e s (entry_count e s) b (judged_begins e s h judged) w in
    omega (arith, n, judged_size (kind_of_entry e) s h judged)

pub value_small : (s : List ℕ) (i d j a : ℕ) → spot_of Dimension s i ≡ resulted d → value_spot s d j ≡ resulted a → a ≤ 4096
unfolding spot_of value_spot
value_small s i d j a p q =
    let h = after_is (section_by (only_of (kind_of_entry Dimension)) s) _ d p in
    let l = passed_lt 13 j (values_at s d) _ a q in
    let w = standing_is (many (walks value s (length s - 4)) j (first_value_at s d)) a l.1 in
    omega (arith, values_inside s d j a l.0 w, judged_size Rrt s h.0 h.1.0)

-- ---- parts
pub part_small : (p : Part) → p.start < 4294967296 → p.length < 4294967296 → Small (part_row p)
unfolding part_row
part_small p a n = (a, (n, record {}))

pub list12_small : (s : List ℕ) (b : ℕ) → b ≤ 10000 → Small (part_row (list_at 4096 s b))
unfolding part_row list_at
list12_small s b h = (omega arith, (omega arith, record {}))

pub list10_small : (s : List ℕ) (b : ℕ) → b ≤ 10000 → Small (part_row (list_at 1024 s b))
unfolding part_row list_at
list10_small s b h = (omega arith, (omega arith, record {}))

module _ (s : List ℕ) (bytes : Bytes s) (at : ℕ) (low : at ≤ 8000) where
  pub text_small : Small (part_row (text_at s at))
  unfolding part_row text_at
  text_small = (omega arith, (omega (arith, bytes at), record {}))

  pub text_end_lem : text_end s at ≤ at + 256
  unfolding text_end
  text_end_lem = omega (arith, bytes at)
