-- SCOPE 2.4: the body of an EIT, and the values of an event by their names.
use Rattle.std.specs.Prelude.{ℕ, refl, List, [], ◌∷◌}
use Rattle.format.specs.Formats.{Format, Filling, seq, exact, under, under_all}
use Rattle.format.specs.Values.{One, Field, bits, reserved, Vals}
use Rattle.format.specs.Named.{named}
use Rattle.format.specs.Told.{counted8, sized8, sized12}
use Rattle.strings.specs.Strings.{text}
use Rattle.descriptor.specs.Descriptors.{descriptors, content_advisory}

-- ---- an event
-- r 2, event_id 14, start_time 32, r 2, ETM_location 2, length_in_seconds 20
abbrev pub event_head : List Field
event_head = reserved 2 ∷ bits 14 ∷ bits 32 ∷ reserved 2 ∷ bits 2 ∷ bits 20 ∷ []

pub record EventHead : Type 0 where
  pub r1 : ℕ
  pub id : ℕ
  pub start : ℕ
  pub r2 : ℕ
  pub etm : ℕ
  pub seconds : ℕ

abbrev pub head_of : EventHead → Vals event_head
head_of h = (h.r1, (h.id, (h.start, (h.r2, (h.etm, (h.seconds, record {}))))))

abbrev pub head_in : Vals event_head → EventHead
head_in v = record { r1 = v.0; id = v.1.0; start = v.1.1.0; r2 = v.1.1.1.0; etm = v.1.1.1.1.0; seconds = v.1.1.1.1.1.0 }

-- those; title_length 8, title; r 4, descriptors_length 12, descriptors. What fills a title and a list is told by their formats: a
-- text, and descriptors in which advisories are judged, where an event is read; any bytes, where they are given to be written
pub record EventOf (T D : Type 0) : Type 0 where
  pub head : EventHead
  pub title : T
  pub r : ℕ
  pub descs : D

abbrev pub event_of : Filling One → Filling One → Format One
event_of t d =
    under (seq (named event_head 9 refl) (seq (sized8 t) (sized12 d))) {Y = EventOf t.Val d.Val}
    (λ e. (head_of e.head, ((record {}, e.title), ((e.r, record {}), e.descs))))
    (λ x. record { head = head_in x.0; title = x.1.0.1; r = x.1.1.0.0; descs = x.1.1.1 })
    (λ x. refl) (λ y. refl)

abbrev pub EventFields : Type 0
EventFields = EventOf text.Val (descriptors content_advisory).Val

abbrev pub event_format : Format One
event_format = event_of text (descriptors content_advisory)

-- ---- the table
-- count 8, and the events
pub record EitOf (T D : Type 0) : Type 0 where
  pub events : List (EventOf T D)

abbrev pub eit_of : Filling One → Filling One → Filling One
eit_of t d =
    under_all (exact (counted8 (event_of t d))) {Y = EitOf t.Val d.Val} (λ b. (record {}, b.events))
    (λ x. record { events = x.1 }) (λ x. refl) (λ y. refl)

abbrev pub EitFields : Type 0
EitFields = EitOf text.Val (descriptors content_advisory).Val

abbrev pub eit_format : Filling One
eit_format = eit_of text (descriptors content_advisory)
