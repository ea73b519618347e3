-- An ETT that is written: the encoding of the record given, which reads as given; and what was read is written as it was.
use Rattle.std.specs.Prelude.{None, Some}
use Prim.Native.Nat.{ℕ, ◌-◌, ◌≤◌, ◌<◌}
use mathlib.Core.Path.{◌≡◌, refl, sym, ap, ◌∙◌, subst}
use mathlib.Core.Bool.{true}
use mathlib.Core.List.{List, []}
use native.Mathlib.Omega.{arith}
use lib.ListN.{length, length-append}
use borrow.Author.Tests.{ltb-true, lt-ltb}
use Rattle.logic.proofs.LoopLaws.{and_left, and_right, and_i}
use Rattle.refusal.specs.Outcomes.{resulted}
use Rattle.refusal.proofs.OutcomeLaws.{same_result, went_on}
use Rattle.kind.specs.declared.Kind.TheVariants.{Ett}
use Rattle.kind.specs.Kinds.{limits_of, only_of}
use Rattle.format.proofs.KeptLaws.{laws}
use Rattle.format.specs.Lawful.{Lies}
use Rattle.format.specs.Repeats.{Bytes}
use Rattle.format.specs.Formats.{walks_all}
use Rattle.format.specs.Laws.OfValues.{bytes_length}
use Rattle.format.specs.Values.{number, bytes_of}
use Rattle.format.specs.Laws.OfFull.{counting_full}
use Rattle.format.proofs.RelocationLaws.{own_bytes}
use Rattle.part.specs.Parts.{bytes_in}
use Rattle.strings.specs.Strings.{string, structure, text, as_text}
use Rattle.eit.specs.Given.{stands}
use Rattle.eit.proofs.GivenLaws.{stands_yes}
use Rattle.ett.specs.Format.{etm_head, EttFields, ett_format}
use Rattle.ett.specs.Values.{fields_for}
use Rattle.ett.proofs.FieldLaws.{as_text_lies}
use Rattle.section.specs.declared.write.Given.{Given}
use Rattle.section.specs.Sections.{section_by}
use Rattle.section.specs.Encoding.{Section, encode, WellFormed, OnesHeader, header_of}
use Rattle.section.proofs.EncodingLaws.{body_lies, body_ends, accepts}
use Rattle.reading.specs.Etts.{fields_of}
use Rattle.section_laws.proofs.TableLaws.{ett_reads_lem}
use Rattle.writing.specs.Written.{allowed, ett_bytes, ett_written}
use Rattle.writing_laws.specs.RoundTrips.{given_of, EncodingOf, EttWriter, GivesEtt, WritesEtt, ett_text_place, ReadsBackEtt, RewritesEtt}
use Rattle.writing_laws.proofs.TestLaws.{passes, fitted, fits, given, well_formed, header_passes, numbers_pass, largest_holds, header_read_lem, header_back}

-- ---- the text
not_nothing : (t : List ℕ) → 0 < length t → (x : text.Val) → text.Formed (record {}) x → t ≡ text.enc x
    → (y : structure.Val) × (structure.Formed (record {}) y × (t ≡ structure.enc y))
unfolding text
not_nothing t h None o e = absurd (omega (arith, ap length e))
not_nothing t h (Some y) o e = (y, (o, e))

-- one that is not empty and stands on its own is a structure
structure_is : (t : List ℕ) → Bytes t → 0 < length t → stands (walks_all text t (length t) 0) ≡ true
    → (y : structure.Val) × (structure.Formed (record {}) y × (t ≡ structure.enc y))
structure_is t z h e = let u = (own_bytes text (record {}) t z).0 (stands_yes _ e) in not_nothing t h u.0 u.1.0 u.1.1

structure_full : (y : structure.Val) → structure.Formed (record {}) y → 0 < length (structure.enc y)
unfolding structure
structure_full y o = counting_full [] 0 refl string (record {}, y) o

structure_stands : (y : structure.Val) → structure.Formed (record {}) y
    → stands (walks_all text (structure.enc y) (length (structure.enc y)) 0) ≡ true
unfolding text as_text
structure_stands y o = ap stands ((own_bytes text (record {}) (structure.enc y) ((structure.law laws (record {})).bytes y o)).1 (as_text y, (o, refl))).1

-- ---- what is written is the encoding of the record given
abbrev body_for : ℕ → structure.Val → EttFields
body_for etm x = record { etm = etm; text = x }

same_bytes : (g : Given) (etm : ℕ) (x : structure.Val) → ett_bytes g etm (structure.enc x) ≡ encode (given Ett g (body_for etm x))
unfolding ett_bytes
same_bytes g etm x = refl

smallest : (etm : ℕ) (x : structure.Val) → structure.Formed (record {}) x → 5 ≤ length (ett_format.enc (body_for etm x))
smallest etm x o =
    let n = number etm_head (etm, record {}) in
    omega (arith, length-append (bytes_of 4 n) (structure.enc x), bytes_length 4 n, structure_full x o)

module _ (g : Given) (etm : ℕ) (t : List ℕ) (room : ℕ) (z : Bytes t) (s : List ℕ) where
  written : ett_written g etm t room ≡ resulted s → EncodingOf (GivesEtt g etm t) s × (length s ≤ room)
  unfolding ett_written
  written e =
      let a = went_on 23 _ _ s e in
      let b = went_on 8 _ _ s a.1 in
      let c = went_on 9 _ _ s b.1 in
      let d = fitted Ett room (ett_bytes g etm t) s c.1 in
      let x = structure_is t z (ltb-true _ _ (and_left _ _ c.0)) (and_right _ _ c.0) in
      let y = body_for etm x.0 in
      let same : ett_bytes g etm t ≡ encode (given Ett g y) = ap (ett_bytes g etm) x.1.1 ∙ same_bytes g etm x.0 in
      let n = ap length same in
      let o = well_formed Ett g y (and_left _ _ a.0) b.0 (omega (arith, smallest etm x.0 x.1.0)) (omega arith)
      ((ltb-true _ _ (and_right _ _ a.0), record {}), x.1.0) in
      ((given Ett g y, (record { good = o; header = refl; id = refl; text = sym x.1.1 }, d.0 ∙ same)), omega (arith, ap length d.0))

writes : (g : Given) (etm : ℕ) (x : structure.Val) (room : ℕ) → WellFormed Ett (given Ett g (body_for etm x))
    → length (encode (given Ett g (body_for etm x))) ≤ room → ett_written g etm (structure.enc x) room ≡ resulted (encode (given Ett g (body_for etm x)))
unfolding ett_written
writes g etm x room o m =
    let y = body_for etm x in
    passes 23 _ _ _ (and_i _ _ (header_passes Ett g y o) (lt-ltb _ _ o.body.0.0))
    (passes 8 _ _ _ (numbers_pass Ett g y o)
    (passes 9 _ _ _ (and_i _ _ (lt-ltb _ _ (structure_full x o.body.1)) (structure_stands x o.body.1))
    (ap (allowed Ett room) (same_bytes g etm x) ∙ fits Ett room _ (largest_holds Ett g y o) m)))

pub writes_ett : WritesEtt ett_written
writes_ett g etm t room z s = (
  written g etm t room z s,
  (λ u.
      let y = u.0.0 in
      let v = u.0.1.0 in
      let e = u.0.1.1 in
      let same : y ≡ given Ett g (body_for etm y.body.text) =
      λ i. record { header = v.header i; body = record { etm = v.id i; text = y.body.text } } in
      let n = ap length (e ∙ ap encode same) in
      ap (λ l. ett_written g etm l room) (sym v.text)
      ∙ writes g etm y.body.text room (subst (λ y. WellFormed Ett y) same v.good) (omega arith) ∙ ap resulted (sym (e ∙ ap encode same))),
)

-- ---- so it reads as given, and what was read is written as it was
module _ (y : Section Ett) (o : WellFormed Ett y) where
  text_lies : Lies (structure.enc y.body.text) (encode y) 13
  unfolding text as_text
  text_lies = (as_text_lies (encode y) (limits_of Ett).body (length (encode y) - 4) y.body o.body (body_lies Ett y o) (body_ends Ett y o)).1

module _ (write : EttWriter) (w : WritesEtt write) where
  pub reads_back_ett : ReadsBackEtt write
  reads_back_ett g etm t room z s e =
      let u = ((w g etm t room z s).0 e).0 in
      let y = u.0 in
      let v = u.1.0 in
      let h = v.header in
      let n = v.id in
      let l = v.text in
      record {
        header = ap (section_by (only_of Ett)) u.1.1 ∙ accepts Ett y v.good ∙ ap resulted (header_read_lem Ett g y h);
        fields = ap fields_of u.1.1 ∙ ett_reads_lem.tells y v.good
            ∙ (λ i. resulted (record { extension = (h i).extension; etm_id = n i; text = ett_text_place (l i) }));
        text = ap (λ s. bytes_in s (ett_text_place t)) u.1.1 ∙ subst (λ t. bytes_in (encode y) (ett_text_place t) ≡ t) l (text_lies y v.good);
      }

  pub ett_again : (y : Section Ett) → WellFormed Ett y → OnesHeader y → (room : ℕ) → length (encode y) ≤ room
      → write (given_of (header_of y)) y.body.etm (structure.enc y.body.text) room ≡ resulted (encode y)
  ett_again y o a room m =
      (w (given_of (header_of y)) y.body.etm (structure.enc y.body.text) room ((structure.law laws (record {})).bytes y.body.text o.body.1) (encode y)).1
      ((y, (record { good = o; header = header_back Ett y a; id = refl; text = refl }, refl)), m)

  pub rewrites_ett : RewritesEtt write
  rewrites_ett s h f q r u room m =
      let y = u.0 in
      let o = u.1.0.0 in
      let e = u.1.1 in
      let n = ap length e in
      let p : h ≡ header_of y = same_result h (header_of y) (sym q ∙ ap (section_by (only_of Ett)) e ∙ accepts Ett y o) in
      let t : f ≡ fields_for y.header.extension (limits_of Ett).body y.body = same_result f _ (sym r ∙ ap fields_of e ∙ ett_reads_lem.tells y o) in
      (λ i. write (given_of (p i)) (t i).etm_id (bytes_in (e i) (t i).text) room)
      ∙ ap (λ l. write (given_of (header_of y)) y.body.etm l room) (text_lies y o) ∙ ett_again y o u.1.0.1 room (omega arith)
      ∙ ap resulted (sym e)
