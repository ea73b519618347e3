-- A title among all titles: a text that is refused is refused by 10 or 11, so that each sort has a number of its own; and it is the text
-- that is answered where that title is asked for alone.
use Rattle.std.specs.Prelude.{None, Some}
use Prim.Native.Nat.{ℕ}
use mathlib.Core.Path.{◌≡◌, subst}
use mathlib.Core.Logic.{◌⊎◌}
use mathlib.Core.List.{List, [], ◌∷◌}
use native.Mathlib.Omega.{arith}
use lib.ListN.{length}
use lib.Seq.{take-length}
use Rattle.format.proofs.KeptLaws.{laws}
use Rattle.refusal.specs.Outcomes.{Outcome, refused, resulted, after}
use Rattle.kind.specs.declared.Kind.TheVariants.{Eit}
use Rattle.kind.specs.Kinds.{only_of}
use Rattle.part.specs.declared.Part.{Part}
use Rattle.strings.specs.Strings.{text, structure, strings_of}
use Rattle.text.specs.Values.{units_of}
use Rattle.text.specs.Replaced.{replaced_of, told_from}
use Rattle.text.proofs.SoundLaws.{Fair, units_fair}
use Rattle.text.proofs.ValueLaws.{count_is, units_is}
use Rattle.eit.specs.declared.event.Title.TheVariants.{Text}
use Rattle.eit.specs.Format.{EventFields, event_format}
use Rattle.eit.specs.Fields.{title_at}
use Rattle.eit.specs.Values.{title_for}
use Rattle.eit.proofs.ThereLaws.{title_lies}
use Rattle.section.specs.declared.header.Header.{Header}
use Rattle.section.specs.Sections.{section_by}
use Rattle.entry.specs.declared.Entry.TheVariants.{Event}
use Rattle.entry.specs.Entries.{spot_in}
use Rattle.section_text.specs.declared.field.Which.TheVariants.{Title}
use Rattle.section_text.specs.Fields.{title_in, field_of}
use Rattle.section_text.specs.Texts.{text_units, text_replaced}
use Rattle.titles.specs.Titles.{refused_title, text_told, told_of, title_told}
use Rattle.section_laws.specs.Titled.{sort_told, title_record}

-- ---- the numbers of refused texts
abbrev OfText : ℕ → Type 0
OfText k = (k ≡ 10) ⊎ (k ≡ 11)

told_fair : (x : Outcome (List ℕ)) (replaced k : ℕ) → Fair x → text_told replaced x ≡ refused_title k → OfText k
unfolding text_told
told_fair (refused n) replaced k f e = let q : n ≡ k = cc in subst OfText q f
told_fair (resulted us) replaced k f e = let z : ◌≡◌ {A = ℕ} 0 1 = cc in absurd (omega arith)

text_sort : (t : text.Val) → text.Formed (record {}) t → (p : Part) (k : ℕ) → sort_told (title_for t p) t ≡ refused_title k → OfText k
unfolding text structure title_for sort_told strings_of
text_sort None o p k e = let z : ◌≡◌ {A = ℕ} 0 1 = cc in absurd (omega arith)
text_sort (Some []) o p k e = let z : ◌≡◌ {A = ℕ} 0 1 = cc in absurd (omega arith)
text_sort (Some (x ∷ xs)) o p k e =
    let t = Some (x ∷ xs) in
    let f = text.enc t in
    let sound = (text.law laws (record {})).sound f (length f) 0 t o (take-length f) (omega arith) in
    told_fair (units_of (x ∷ xs) 0) (replaced_of (x ∷ xs) 0) k (subst Fair (units_is t o 0) (units_fair f (length f) 0 (length f) sound 0 (omega (arith, count_is t o)))) e

-- of every event of a well-formed record
pub title_sort_lem : (a : ℕ) (e : EventFields) → event_format.Formed (record {}) e → (k : ℕ) → title_record a e ≡ refused_title k → OfText k
title_sort_lem a e o k q =
    let s = event_format.enc e in
    text_sort e.title (title_lies s ((event_format.law laws (record {})).bytes e o) 0 e o (take-length s)).0 _ k q

-- ---- a title that has text, asked for alone
pub title_alone : (s : List ℕ) (h : Header) → section_by (only_of Eit) s ≡ resulted h → (i a : ℕ) → spot_in Event s i ≡ resulted a
    → (p : Part) → title_at s a ≡ Text p → title_told s a ≡ text_told (text_replaced s (Title i) 0) (text_units s (Title i) 0)
unfolding title_told told_of text_units text_replaced told_from field_of title_in after
title_alone s h judged i a found p e = rw (judged, found, e)
