-- The tie of what is read to the format: where an encoding lies, what is answered is what it is the encoding of.
use Prim.Native.Nat.{ℕ, ◌+◌}
use mathlib.Core.Path.{◌≡◌, refl, sym, ap, ◌∙◌}
use mathlib.Core.List.{List, [], ◌∷◌, ◌++◌}
use native.Mathlib.Omega.{arith}
use lib.ListN.{length, length-append}
use Rattle.format.proofs.KeptLaws.{laws}
use Rattle.format.specs.Lawful.{Lies}
use Rattle.format.specs.Repeats.{Bytes, encs}
use Rattle.format.specs.Formats.{walks_all}
use Rattle.format.specs.Laws.OfBytes.{lies_at, lies_split}
use Rattle.format.specs.Laws.OfValues.{bytes_length}
use Rattle.format.specs.Values.{number, bytes_of, behind}
use Rattle.format.specs.Laws.OfNamed.{vals_there}
use Rattle.format.specs.Told.{sized8, sized12}
use Rattle.format.proofs.SizedLaws.{counted8_there}
use Rattle.format.proofs.ListedLaws.{Stand}
use Rattle.part.specs.Parts.{end_of}
use Rattle.strings.specs.Strings.{text}
use Rattle.strings.specs.Places.{text_at, text_end}
use Rattle.strings.proofs.TextLaws.{text_there}
use Rattle.descriptor.specs.Descriptors.{descriptors, content_advisory}
use Rattle.descriptor.specs.Places.{list_at}
use Rattle.descriptor.proofs.ListLaws.{list12_there}
use Rattle.row.specs.Rows.{part_row}
use Rattle.eit.specs.Format.{event_head, head_in, head_of, EventFields, event_format, EitFields, eit_format}
use Rattle.eit.specs.Walked.{event, events, eit}
use Rattle.eit.specs.Fields.{count_at, first_at, fields_at, head_at, title_part, descriptors_at, event_end, title_at, event_at, times_row, event_row}
use Rattle.eit.specs.Values.{title_for, title_place, descriptors_place, event_for, row_for, fields_for}
use Rattle.eit.proofs.EventLaws.{event_ends}
use Rattle.eit.proofs.TitleLaws.{title_is}

-- ---- an event
module _ (s : List ℕ) (z : Bytes s) (a : ℕ) (e : EventFields) (o : event_format.Formed (record {}) e) (l : Lies (event_format.enc e) s a) where
  -- its parts, in the order of their bytes
  parts_lie : Lies (bytes_of 9 (number event_head (head_of e.head))) s a
      × (Lies ((sized8 text).enc (record {}, e.title)) s (behind event_head a)
      × Lies ((sized12 (descriptors content_advisory)).enc ((e.r, record {}), e.descs)) s
      (behind event_head a + length ((sized8 text).enc (record {}, e.title))))
  parts_lie =
      let i = lies_split (bytes_of 9 (number event_head (head_of e.head))) _ s a l in
      (i.0, lies_split ((sized8 text).enc (record {}, e.title)) _ s _ (lies_at _ s _ _ (ap (a +◌) (bytes_length 9 _)) i.1))

  head_there : head_at s a ≡ e.head
  head_there = ap head_in (vals_there event_head 9 refl s a (head_of e.head) o.0 parts_lie.0)

  -- the title, with its length before it
  title_placed : (title_part s a ≡ title_place a e) × Lies (text.enc e.title) s (title_place a e).start
  unfolding title_part
  title_placed = text_there s (behind event_head a) z e.title o.1.0 parts_lie.1.0

  title_ends : text_end s (behind event_head a) ≡ end_of (title_place a e)
  unfolding title_part text_at text_end
  title_ends = ap end_of title_placed.0

  -- the descriptors, with theirs
  descriptors_placed : (list_at 4096 s (end_of (title_place a e)) ≡ descriptors_place a e)
      × Lies ((descriptors content_advisory).enc e.descs) s (descriptors_place a e).start
  descriptors_placed =
      let n = length-append (bytes_of 1 (0 + length (text.enc e.title))) (text.enc e.title) in
      let k = bytes_length 1 (0 + length (text.enc e.title)) in
      let at : behind event_head a + length ((sized8 text).enc (record {}, e.title)) ≡ end_of (title_place a e) = omega arith in
      list12_there content_advisory s (end_of (title_place a e)) z e.r e.descs o.1.1 (lies_at _ s _ _ at parts_lie.1.1)

  pub title_lies : text.Formed (record {}) e.title × Lies (text.enc e.title) s (title_place a e).start
  title_lies = (o.1.0.1.1.1, title_placed.1)

  pub title_there : title_at s a ≡ title_for e.title (title_place a e)
  unfolding title_at
  title_there = rw title_placed.0 (title_is s z (behind event_head a + 1) e.title title_lies.0 title_lies.1)

  pub descriptors_lie : (descriptors content_advisory).Formed (record {}) e.descs
      × Lies ((descriptors content_advisory).enc e.descs) s (descriptors_place a e).start
  descriptors_lie = (o.1.1.1.1.1, descriptors_placed.1)

  pub descriptors_there : descriptors_at s a ≡ descriptors_place a e
  unfolding descriptors_at
  descriptors_there = ap (list_at 4096 s) title_ends ∙ descriptors_placed.0

  pub event_there : event_at s a ≡ event_for a e
  unfolding event_at
  event_there =
      let h = head_there in
      let t = title_there in
      let d = descriptors_there in
      λ i. record {
        event_id = (h i).id;
        start_time = (h i).start;
        etm_location = (h i).etm;
        length_in_seconds = (h i).seconds;
        title = t i;
        descriptors = d i;
      }

  pub row_there : event_row s a ≡ row_for a e
  unfolding event_row times_row
  row_there =
      let h = head_there in
      let t = title_placed.0 in
      let d = descriptors_there in
      λ i. ((h i).id ∷ (h i).start ∷ (h i).etm ∷ (h i).seconds ∷ []) ++ (part_row (t i) ++ part_row (d i))

  pub end_there : event_end s a ≡ a + length (event_format.enc e)
  unfolding event
  end_there =
      let b = a + length (event_format.enc e) in
      sym (event_ends s b a b ((event_format.law laws (record {})).sound s b a e o l (omega arith)))

-- ---- the whole body
-- the code's promises name the body without the names of its values; its walk is the same
pub same_walk : (s : List ℕ) (end at : ℕ) → walks_all eit s end at ≡ walks_all eit_format s end at
unfolding eit events event
same_walk s end at = refl

module _ (s : List ℕ) (z : Bytes s) (at end : ℕ) (b : EitFields) (o : eit_format.Formed (record {}) b) (l : Lies (eit_format.enc b) s at)
    (whole : end ≡ at + length (eit_format.enc b)) where
  pub entries_there : (count_at s at ≡ length b.events) × Stand event_format s end (first_at at) b.events
  entries_there =
      let t = counted8_there s z at event_format b.events o l in
      let n = length-append (bytes_of 1 (0 + length b.events)) (encs event_format.enc b.events) in
      let k = bytes_length 1 (0 + length b.events) in
      (t.0, record { good = o.1.1.1; lies = t.1; inside = omega arith })

  pub fields_there : (extension : ℕ) → fields_at s extension at ≡ fields_for extension b
  fields_there extension = let c = entries_there.0 in λ i. record { source = extension; count = c i }
