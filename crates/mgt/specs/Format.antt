-- SCOPE 2.1: the body of an MGT, and the values of a defined table by their names.
use Rattle.std.specs.Prelude.{ℕ, refl, List, [], ◌∷◌}
use Rattle.format.specs.Formats.{Format, Filling, seq, exact, under, under_all}
use Rattle.format.specs.Values.{One, Field, bits, reserved, Vals}
use Rattle.format.specs.Named.{named}
use Rattle.format.specs.Told.{counted16, sized12}
use Rattle.descriptor.specs.Descriptors.{descriptors, no_tag}

-- table_type 16, r 3, PID 13, r 3, version 5, number_bytes 32
abbrev pub defined_head : List Field
defined_head = bits 16 ∷ reserved 3 ∷ bits 13 ∷ reserved 3 ∷ bits 5 ∷ bits 32 ∷ []

pub record DefinedHead : Type 0 where
  pub type : ℕ
  pub r1 : ℕ
  pub pid : ℕ
  pub r2 : ℕ
  pub version : ℕ
  pub bytes : ℕ

abbrev pub head_of : DefinedHead → Vals defined_head
head_of h = (h.type, (h.r1, (h.pid, (h.r2, (h.version, (h.bytes, record {}))))))

abbrev pub head_in : Vals defined_head → DefinedHead
head_in v = record { type = v.0; r1 = v.1.0; pid = v.1.1.0; r2 = v.1.1.1.0; version = v.1.1.1.1.0; bytes = v.1.1.1.1.1.0 }

-- those; r 4, descriptors_length 12, descriptors
pub record DefinedFields : Type 0 where
  pub head : DefinedHead
  pub r : ℕ
  pub descs : (descriptors no_tag).Val

abbrev pub defined_format : Format One
defined_format =
    under (seq (named defined_head 9 refl) (sized12 (descriptors no_tag))) {Y = DefinedFields}
    (λ d. (head_of d.head, ((d.r, record {}), d.descs)))
    (λ x. record { head = head_in x.0; r = x.1.0.0; descs = x.1.1 })
    (λ x. refl) (λ y. refl)

-- tables_defined 16, and the tables; r 4, descriptors_length 12, descriptors
pub record MgtFields : Type 0 where
  pub tables : List DefinedFields
  pub r : ℕ
  pub descs : (descriptors no_tag).Val

abbrev pub mgt_format : Filling One
mgt_format =
    under_all (exact (seq (counted16 defined_format) (sized12 (descriptors no_tag)))) {Y = MgtFields}
    (λ b. ((record {}, b.tables), ((b.r, record {}), b.descs)))
    (λ x. record { tables = x.0.1; r = x.1.0.0; descs = x.1.1 })
    (λ x. refl) (λ y. refl)
