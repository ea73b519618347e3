-- SCOPE 1.3, and SCOPE 6, numbers 1 to 8: the fields of the header, and its tests in the order of their numbers.
use Rattle.std.specs.Prelude.{ℕ, ◌+◌, ◌/◌, ◌%◌, not, List, eqb, leb, length, Option, Some, None}
use Rattle.bytes_at.specs.Fields.{byte_at, word_at}
use Rattle.checksum.specs.Register.{register}
use Rattle.refusal.specs.Numbers.{number_of}
use Rattle.refusal.specs.Outcomes.{Outcome, refused, resulted, or_refuse}
use Rattle.kind.specs.declared.Kind.{Kind}
use Rattle.kind.specs.declared.Limits.{Limits}
use Rattle.kind.specs.Kinds.{limits_of}
use Rattle.section.specs.declared.header.Header.{Header}

-- ---- the fields, by the names of SCOPE 1.3: the same as those of `header_head` in Encoding.antt (law `header_bits`), read by their bytes
abbrev pub table_id : List ℕ → ℕ
table_id s = byte_at s 0

abbrev pub syntax_indicator : List ℕ → ℕ
syntax_indicator s = byte_at s 1 / 128

abbrev pub private_indicator : List ℕ → ℕ
private_indicator s = byte_at s 1 / 64 % 2

abbrev pub section_length : List ℕ → ℕ
section_length s = word_at s 1 % 4096

abbrev pub table_id_extension : List ℕ → ℕ
table_id_extension s = word_at s 3

abbrev pub version_number : List ℕ → ℕ
version_number s = byte_at s 5 / 2 % 32

abbrev pub current_next_indicator : List ℕ → ℕ
current_next_indicator s = byte_at s 5 % 2

abbrev pub section_number : List ℕ → ℕ
section_number s = byte_at s 6

abbrev pub last_section_number : List ℕ → ℕ
last_section_number s = byte_at s 7

abbrev pub header_in : Kind → List ℕ → Header
header_in k s = record {
  kind = k;
  extension = table_id_extension s;
  version = version_number s;
  current = current_next_indicator s;
  number = section_number s;
  last = last_section_number s;
}

-- ---- the tests
-- the byte that must be 0, with its kind's refusal (7 of protocol_version), and 8
unfoldable pub number_tests : Limits → Kind → List ℕ → Outcome Header
number_tests l k s =
    or_refuse (number_of l.zero_refusal) (eqb (byte_at s l.zero_byte) 0)
    (or_refuse 8 (leb (section_number s) (last_section_number s))
    (or_refuse 8 (leb (last_section_number s) l.last)
    (resulted (header_in k s))))

-- 6
unfoldable pub checksum_test : Limits → Kind → List ℕ → Outcome Header
checksum_test l k s = or_refuse 6 (eqb (register s) 0) (number_tests l k s)

-- 3 to 5
unfoldable pub length_tests : Limits → Kind → List ℕ → Outcome Header
length_tests l k s =
    or_refuse 3 (not (eqb (syntax_indicator s) 0))
    (or_refuse 3 (not (eqb (private_indicator s) 0))
    (or_refuse 4 (leb l.smallest (section_length s))
    (or_refuse 4 (leb (section_length s) l.largest)
    (or_refuse 5 (eqb (length s) (section_length s + 3))
    (checksum_test l k s)))))

-- 2
unfoldable pub of_kind : List ℕ → Option Kind → Outcome Header
of_kind s None = refused 2
of_kind s (Some k) = length_tests (limits_of k) k s

-- 1 to 8 of a call that reads the kinds that `finds` finds by their table_id: all five (kind_of), or one (only_of k)
unfoldable pub header_by : (ℕ → Option Kind) → List ℕ → Outcome Header
header_by finds s = or_refuse 1 (leb 3 (length s)) (of_kind s (finds (table_id s)))
