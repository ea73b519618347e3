-- Where a record lies, what is asked of the bytes of a text's field that is found there is told by the strings of that text.
use Rattle.std.specs.Prelude.{Option, None, Some}
use Prim.Native.Nat.{ℕ, ◌+◌}
use mathlib.Core.Path.{◌≡◌, refl, ap, ◌∙◌}
use mathlib.Core.List.{List, [], ◌∷◌}
use lib.ListN.{length}
use Rattle.part.specs.declared.Part.{Part}
use Rattle.refusal.specs.Outcomes.{Outcome, after, or_none}
use Rattle.part.specs.Parts.{bytes_in}
use Rattle.format.specs.Lawful.{Lies}
use Rattle.format.specs.Repeats.{Bytes}
use Rattle.strings.specs.Strings.{StringFields, structure, text, strings_of, as_text}
use Rattle.strings.specs.Places.{text_at}
use Rattle.descriptor.specs.Descriptors.{descriptors_of, content_advisory}
use Rattle.rating.specs.Values.{text_by, text_place}
use Rattle.rating.proofs.TextLaws.{text_lies, text_none}
use Rattle.rrt.specs.declared.table.Table.{Table as RrtTable}
use Rattle.rrt.specs.Format.{ValueFields, value_format, DimensionFields, dimension_format, RrtFields, rrt_format}
use Rattle.rrt.specs.Fields.{dimension_at, texts_at}
use Rattle.rrt.specs.Values.{texts_for, dimension_for}
use Rattle.rrt.proofs.ThereLaws as rrts
use Rattle.eit.specs.Format.{EventFields, event_format}
use Rattle.eit.specs.Fields.{title_at}
use Rattle.eit.specs.Questions.{advisory_text_at}
use Rattle.eit.specs.Values.{title_for, title_place, descriptors_place}
use Rattle.eit.proofs.ThereLaws as eits
use Rattle.ett.specs.declared.table.Table.{Table as EttTable}
use Rattle.ett.specs.Format.{EttFields, ett_format}
use Rattle.ett.specs.Fields.{fields_at}
use Rattle.ett.proofs.FieldLaws as etts
use Rattle.section_text.specs.Fields.{title_field}
use Rattle.section_laws.specs.Told.{strings_in}
use Rattle.section_laws.proofs.QuestionLaws.{place_told_lem}

-- ---- what is asked of a text's bytes, where that is said of the text: the text of a region, by where it is found
module _ {A : Type 0} (ask : List ℕ → Outcome A) (says : text.Val → Outcome A)
    (same : (t : text.Val) → text.Formed (record {}) t → ask (text.enc t) ≡ says t)
    (s : List ℕ) (z : Bytes s) (a : ℕ) (e : EventFields) (o : event_format.Formed (record {}) e) (l : Lies (event_format.enc e) s a) (region : ℕ) where
  found : (q : Option Part) → text_place region (descriptors_place a e).start (descriptors_of content_advisory e.descs) ≡ q
      → after (or_none q) (λ p. ask (bytes_in s p)) ≡ after (or_none (text_by region (descriptors_of content_advisory e.descs))) says
  unfolding after
  found None k =
      let d = eits.descriptors_lie s z a e o l in
      rw (text_none s z region (descriptors_place a e).start e.descs d.0 d.1 k) refl
  found (Some p) k =
      let d = eits.descriptors_lie s z a e o l in
      let u = text_lies s z region (descriptors_place a e).start e.descs d.0 d.1 p k in
      let n = ap (λ n. ask (bytes_in s (record { start = p.start; length = n }))) u.1.1.1.1 in
      rw u.1.0 (n ∙ ap ask u.1.1.1.0 ∙ same u.0 u.1.1.0)

  pub region_text_lem : after (or_none (text_place region (descriptors_place a e).start (descriptors_of content_advisory e.descs))) (λ p. ask (bytes_in s p))
      ≡ after (or_none (text_by region (descriptors_of content_advisory e.descs))) says
  region_text_lem = found _ refl

-- ---- where it is told by the text's strings: of every sort of text
module _ {A : Type 0} (ask : List ℕ → Outcome A) (tell : List StringFields → Outcome A)
    (same : (t : text.Val) → text.Formed (record {}) t → ask (text.enc t) ≡ tell (strings_of t)) (s : List ℕ) where
  -- the strings of a text that there may be
  strings_in_lem : (q : Option text.Val) → after (or_none q) (λ t. tell (strings_of t)) ≡ after (strings_in q) tell
  unfolding after
  strings_in_lem None = refl
  strings_in_lem (Some t) = refl

  -- a text alone
  lying : (a : ℕ) (t : text.Val) → text.Formed (record {}) t × Lies (text.enc t) s a
      → ask (bytes_in s (record { start = a; length = length (text.enc t) })) ≡ tell (strings_of t)
  lying a t h = ap ask h.1 ∙ same t h.0

  -- a title of none and one of no strings have no string, as an empty field has none
  titled : (a : ℕ) (t : text.Val) → text.Formed (record {}) t × Lies (text.enc t) s a
      → ask (bytes_in s (title_field (title_for t (record { start = a; length = length (text.enc t) })))) ≡ tell (strings_of t)
  unfolding text structure strings_of title_for
  titled a None h = same None (record {})
  titled a (Some []) h = same None (record {})
  titled a (Some (x ∷ xs)) h = lying a (Some (x ∷ xs)) h

  -- ---- an ETT
  pub extended_asked : (at end : ℕ) (b : EttFields) → ett_format.Formed (record {}) b → Lies (ett_format.enc b) s at
      → end ≡ at + length (ett_format.enc b) → ask (bytes_in s (fields_at s 0 at end).text) ≡ tell (strings_of (as_text b.text))
  unfolding text as_text
  extended_asked at end b o l whole =
      ap (λ (g : EttTable). ask (bytes_in s g.text)) (etts.fields_there s at end b o l whole 0)
      ∙ lying (at + 4) (as_text b.text) (etts.as_text_lies s at end b o l whole)

  module _ (z : Bytes s) where
    -- ---- an RRT, a dimension and a value
    pub region_asked : (at end : ℕ) (b : RrtFields) → rrt_format.Formed (record {}) b → Lies (rrt_format.enc b) s at
        → end ≡ at + length (rrt_format.enc b) → ask (bytes_in s (text_at s at)) ≡ tell (strings_of b.name)
    region_asked at end b o l whole =
        ap (λ (g : RrtTable). ask (bytes_in s g.name)) (rrts.fields_there s z at end b o l whole 0)
        ∙ lying (at + 1) b.name (rrts.name_lies s z at end b o l whole)

    pub dimension_asked : (d : ℕ) (x : DimensionFields) → dimension_format.Formed (record {}) x → Lies (dimension_format.enc x) s d
        → ask (bytes_in s (dimension_at s d).name) ≡ tell (strings_of x.name)
    dimension_asked d x o l =
        rw (rrts.dimension_there s z d x o l) (lying (dimension_for d x).name.start x.name (rrts.dimension_name_lies s z d x o l))

    module _ (a : ℕ) (v : ValueFields) (o : value_format.Formed (record {}) v) (l : Lies (value_format.enc v) s a) where
      pub short_asked : ask (bytes_in s (texts_at s a).short_text) ≡ tell (strings_of v.short)
      short_asked = rw (rrts.value_there s z a v o l) (lying (texts_for a v).short_text.start v.short (rrts.short_lies s z a v o l))

      pub long_asked : ask (bytes_in s (texts_at s a).long_text) ≡ tell (strings_of v.long)
      long_asked = rw (rrts.value_there s z a v o l) (lying (texts_for a v).long_text.start v.long (rrts.long_lies s z a v o l))

    -- ---- an event
    module _ (a : ℕ) (e : EventFields) (o : event_format.Formed (record {}) e) (l : Lies (event_format.enc e) s a) where
      pub title_asked : ask (bytes_in s (title_field (title_at s a))) ≡ tell (strings_of e.title)
      title_asked = rw (eits.title_there s z a e o l) (titled (title_place a e).start e.title (eits.title_lies s z a e o l))

      pub advisory_asked : (region : ℕ) → after (or_none (advisory_text_at s a region)) (λ p. ask (bytes_in s p))
          ≡ after (strings_in (text_by region (descriptors_of content_advisory e.descs))) tell
      advisory_asked region =
          ap (λ q. after (or_none q) (λ p. ask (bytes_in s p))) (place_told_lem s z a e o l region)
          ∙ region_text_lem ask (λ t. tell (strings_of t)) same s z a e o l region ∙ strings_in_lem (text_by region (descriptors_of content_advisory e.descs))
