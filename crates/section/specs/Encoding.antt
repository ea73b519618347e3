-- SCOPE 1.2 to 1.5: a section of a kind as a record, which of them are well formed, and their bytes.
use Rattle.std.specs.Prelude.{ℕ, ◌+◌, ◌≤◌, ◌<◌, ◌≡◌, List, [], ◌∷◌, ◌++◌, length}
use Rattle.checksum.specs.Register.{sealed}
use Rattle.kind.specs.declared.Kind.{Kind}
use Rattle.kind.specs.Kinds.{table_id_of, limits_of}
use Rattle.format.specs.Values.{Field, bits, reserved, Vals, number, bytes_of}
use Rattle.section.specs.declared.header.Header.{Header}
use Rattle.section.specs.Bodies.{body_format}

-- table_id 8, section_syntax_indicator 1, private_indicator 1, r 2, section_length 12, table_id_extension 16, r 2, version_number 5,
-- current_next_indicator 1, section_number 8, last_section_number 8, protocol_version 8
abbrev pub header_head : List Field
header_head =
    bits 8 ∷ bits 1 ∷ bits 1 ∷ reserved 2 ∷ bits 12 ∷ bits 16 ∷ reserved 2 ∷ bits 5 ∷ bits 1 ∷ bits 8 ∷ bits 8 ∷ bits 8 ∷ []

-- ---- a section as a record
-- what headers of a kind differ in; the other fields are told by the kind and the body
pub record HeaderFields : Type 0 where
  pub r1 : ℕ
  pub extension : ℕ
  pub r2 : ℕ
  pub version : ℕ
  pub current : ℕ
  pub number : ℕ
  pub last : ℕ

pub record Section (k : Kind) : Type 0 where
  pub header : HeaderFields
  pub body : (body_format k).Val

-- ---- its bytes
-- section_length counts the bytes after it, where the body has n: six of the header, the body, four of the checksum
abbrev pub length_with : ℕ → ℕ
length_with n = 6 + n + 4

-- both indicators are 1, and protocol_version is 0
abbrev pub head_for : Kind → HeaderFields → ℕ → Vals header_head
head_for k h n =
    (table_id_of k, (1, (1, (h.r1, (length_with n, (h.extension, (h.r2, (h.version, (h.current, (h.number, (h.last, (0, record {}))))))))))))

-- the bytes of a section with this body: the header, the body, and the checksum after them
abbrev pub unsealed : Kind → HeaderFields → List ℕ → List ℕ
unsealed k h body = bytes_of 9 (number header_head (head_for k h (length body))) ++ body

abbrev pub encode_with : Kind → HeaderFields → List ℕ → List ℕ
encode_with k h body = sealed (unsealed k h body)

abbrev pub body_bytes : {k : Kind} → Section k → List ℕ
body_bytes {k} y = (body_format k).enc y.body

abbrev pub encode : {k : Kind} → Section k → List ℕ
encode {k} y = encode_with k y.header (body_bytes y)

-- ---- which are well formed
-- each field fits its bits, the length and the numbers are those of the table of kinds, and the body is well formed
pub record WellFormed (k : Kind) (y : Section k) : Type 0 where
  pub r1 : y.header.r1 < 4
  pub extension : y.header.extension < 65536
  pub r2 : y.header.r2 < 4
  pub version : y.header.version < 32
  pub current : y.header.current < 2
  pub ordered : y.header.number ≤ y.header.last
  pub last : y.header.last ≤ (limits_of k).last
  pub smallest : (limits_of k).smallest ≤ length_with (length (body_bytes y))
  pub largest : length_with (length (body_bytes y)) ≤ (limits_of k).largest
  pub body : (body_format k).Formed (record {}) y.body

-- ---- what is told of it
-- the header that is answered
abbrev pub header_of : {k : Kind} → Section k → Header
header_of {k} y = record {
  kind = k;
  extension = y.header.extension;
  version = y.header.version;
  current = y.header.current;
  number = y.header.number;
  last = y.header.last;
}

-- the reserved bits of its header are ones
abbrev pub OnesHeader : {k : Kind} → Section k → Type 0
OnesHeader y = (y.header.r1 ≡ 3) × (y.header.r2 ≡ 3)
