-- The header's fields, as the tests read them, are the fields of its head by their bits.
use Prim.Native.Nat.{ℕ}
use mathlib.Core.Path.{◌≡◌, refl}
use mathlib.Core.List.{List}
use Rattle.bytes_at.specs.Fields.{byte_at}
use Rattle.bytes_at.proofs.BitLaws.{byte_bits_lem, word_bits, all_at, high_at, low_at, mid_at}
use Rattle.format.specs.Repeats.{Bytes}
use Rattle.format.specs.Values.{Vals}
use Rattle.format.specs.Heads.{vals_at}
use Rattle.section.specs.Headers.{table_id, syntax_indicator, private_indicator, section_length, table_id_extension, version_number, current_next_indicator, section_number, last_section_number}
use Rattle.section.specs.Encoding.{header_head}

pub record Are (s : List ℕ) (v : Vals header_head) : Type 0 where
  pub id : table_id s ≡ v.0
  pub syntax : syntax_indicator s ≡ v.1.0
  pub private : private_indicator s ≡ v.1.1.0
  pub size : section_length s ≡ v.1.1.1.1.0
  pub extension : table_id_extension s ≡ v.1.1.1.1.1.0
  pub version : version_number s ≡ v.1.1.1.1.1.1.1.0
  pub current : current_next_indicator s ≡ v.1.1.1.1.1.1.1.1.0
  pub number : section_number s ≡ v.1.1.1.1.1.1.1.1.1.0
  pub last : last_section_number s ≡ v.1.1.1.1.1.1.1.1.1.1.0
  pub protocol : byte_at s 8 ≡ v.1.1.1.1.1.1.1.1.1.1.1.0

pub header_bits : (s : List ℕ) → Bytes s → Are s (vals_at header_head s 0 0)
header_bits s z = record {
  id = all_at s 0 0 0 refl 8 (byte_bits_lem s 0 (z 0));
  syntax = high_at s 0 1 1 refl 1 7 (byte_bits_lem s 1 (z 1));
  private = mid_at s 0 1 1 refl 1 1 6 (byte_bits_lem s 1 (z 1));
  size = low_at s 0 1 1 refl 4 12 (word_bits s z 1);
  extension = all_at s 0 3 3 refl 16 (word_bits s z 3);
  version = mid_at s 0 5 5 refl 2 5 1 (byte_bits_lem s 5 (z 5));
  current = low_at s 0 5 5 refl 7 1 (byte_bits_lem s 5 (z 5));
  number = all_at s 0 6 6 refl 8 (byte_bits_lem s 6 (z 6));
  last = all_at s 0 7 7 refl 8 (byte_bits_lem s 7 (z 7));
  protocol = all_at s 0 8 8 refl 8 (byte_bits_lem s 8 (z 8));
}
