-- The fields that are read are those of the format.
use Prim.Native.Nat.{ℕ, ◌+◌, ◌-◌, ◌*◌}
use mathlib.Core.Path.{◌≡◌, refl, ap}
use mathlib.Core.List.{List}
use native.Mathlib.Omega.{arith}
use lib.ListN.{length, length-append}
use Rattle.bytes_at.specs.Bits.{bits_at}
use Rattle.bytes_at.proofs.BitLaws.{all_at}
use Rattle.format.specs.Lawful.{Lies}
use Rattle.format.specs.Laws.OfBytes.{lies_at, lies_split}
use Rattle.format.specs.Laws.OfValues.{bytes_length}
use Rattle.format.specs.Formats.{walks_all}
use Rattle.format.specs.Laws.OfNamed.{vals_there}
use Rattle.format.specs.Values.{Vals, number, bytes_of, behind}
use Rattle.strings.specs.Strings.{text, structure, as_text}
use Rattle.ett.specs.Format.{etm_head, EttFields, ett_format}
use Rattle.ett.specs.Walked.{ett}
use Rattle.ett.specs.Fields.{fields_at}
use Rattle.ett.specs.Values.{fields_for}

-- what code reads, by its bits
pub fields_are : (s : List ℕ) (extension at end l n : ℕ) → bits_at s (8 * at) 32 ≡ l → n ≡ end - (at + 4)
    → record { extension = extension; etm_id = l; text = record { start = at + 4; length = n } } ≡ fields_at s extension at end
unfolding fields_at
fields_are s extension at end l n e f =
    let x = all_at s at at 0 (omega arith) 32 e in
    λ i. record { extension = extension; etm_id = x i; text = record { start = at + 4; length = f i } }

-- the code's promises name the body without the names of its values; its walk is the same
pub same_walk : (s : List ℕ) (end at : ℕ) → walks_all ett s end at ≡ walks_all ett_format s end at
unfolding ett
same_walk s end at = refl

-- where an encoding lies that takes the whole body, its fields are answered, and its text lies where it is said to
module _ (s : List ℕ) (at end : ℕ) (e : EttFields) (o : ett_format.Formed (record {}) e) (l : Lies (ett_format.enc e) s at)
    (whole : end ≡ at + length (ett_format.enc e)) where
  split : Lies (bytes_of 4 (number etm_head (e.etm, record {}))) s at × Lies (structure.enc e.text) s (behind etm_head at)
  split =
      let i = lies_split (bytes_of 4 (number etm_head (e.etm, record {}))) (structure.enc e.text) s at l in
      (i.0, lies_at (structure.enc e.text) s _ _ (ap (at +◌) (bytes_length 4 _)) i.1)

  pub fields_there : (extension : ℕ) → fields_at s extension at end ≡ fields_for extension at e
  unfolding fields_at
  fields_there extension =
      let v = ap (λ (v : Vals etm_head). v.0) (vals_there etm_head 4 refl s at (e.etm, record {}) o.0 split.0) in
      let n = length-append (bytes_of 4 (number etm_head (e.etm, record {}))) (structure.enc e.text) in
      let k = bytes_length 4 (number etm_head (e.etm, record {})) in
      let m : end - behind etm_head at ≡ length (structure.enc e.text) = omega arith in
      λ i. record { extension = extension; etm_id = v i; text = record { start = behind etm_head at; length = m i } }

  pub as_text_lies : text.Formed (record {}) (as_text e.text) × Lies (text.enc (as_text e.text)) s (at + 4)
  unfolding text as_text
  as_text_lies = (o.1, split.1)
