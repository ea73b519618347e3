-- The header's tests, one after another: what each refuses, and what passes them.
use Rattle.std.specs.Prelude.{Option}
use Prim.Native.Nat.{ℕ, ◌+◌, ◌≤◌, ◌<◌}
use mathlib.Core.Path.{◌≡◌, refl}
use mathlib.Core.List.{List}
use lib.ListN.{length}
use Rattle.bytes_at.specs.Fields.{byte_at}
use Rattle.refusal.specs.Numbers.{number_of}
use Rattle.refusal.specs.Outcomes.{Outcome, refused, resulted}
use Rattle.refusal.proofs.TestLaws.{lets_le, stops_le, lets_eq, stops_eq, lets_ne, stops_ne}
use Rattle.kind.specs.declared.Kind.{Kind}
use Rattle.kind.specs.declared.Limits.{Limits}
use Rattle.section.specs.declared.header.Header.{Header}
use Rattle.section.specs.Headers.{table_id, syntax_indicator, private_indicator, section_length, section_number, last_section_number, header_in, header_by, of_kind, length_tests, checksum_test, number_tests}

-- ---- 1
module _ (finds : ℕ → Option Kind) (s : List ℕ) where
  pub too_short : length s < 3 → refused 1 ≡ header_by finds s
  unfolding header_by
  too_short h = stops_le 1 3 (length s) (of_kind s (finds (table_id s))) h refl

  pub long_enough : {r : Outcome Header} → 3 ≤ length s → r ≡ of_kind s (finds (table_id s)) → r ≡ header_by finds s
  unfolding header_by
  long_enough h e = lets_le 1 3 (length s) (of_kind s (finds (table_id s))) h e

module _ (l : Limits) (k : Kind) (s : List ℕ) where
  -- ---- 3 to 5
  pub no_syntax : syntax_indicator s ≡ 0 → refused 3 ≡ length_tests l k s
  unfolding length_tests
  no_syntax h = stops_ne 3 (syntax_indicator s) 0 _ h refl

  pub no_private : (syntax_indicator s ≡ 0 → ⊥) → private_indicator s ≡ 0 → refused 3 ≡ length_tests l k s
  unfolding length_tests
  no_private a h = lets_ne 3 (syntax_indicator s) 0 _ a (stops_ne 3 (private_indicator s) 0 _ h refl)

  pub too_small : (syntax_indicator s ≡ 0 → ⊥) → (private_indicator s ≡ 0 → ⊥) → section_length s < l.smallest → refused 4 ≡ length_tests l k s
  unfolding length_tests
  too_small a b h = lets_ne 3 (syntax_indicator s) 0 _ a (lets_ne 3 (private_indicator s) 0 _ b (stops_le 4 l.smallest (section_length s) _ h refl))

  pub too_large : (syntax_indicator s ≡ 0 → ⊥) → (private_indicator s ≡ 0 → ⊥) → l.smallest ≤ section_length s → l.largest < section_length s
      → refused 4 ≡ length_tests l k s
  unfolding length_tests
  too_large a b c h =
      lets_ne 3 (syntax_indicator s) 0 _ a (lets_ne 3 (private_indicator s) 0 _ b
      (lets_le 4 l.smallest (section_length s) _ c (stops_le 4 (section_length s) l.largest _ h refl)))

  pub other_count : (syntax_indicator s ≡ 0 → ⊥) → (private_indicator s ≡ 0 → ⊥) → l.smallest ≤ section_length s → section_length s ≤ l.largest
      → (length s ≡ section_length s + 3 → ⊥) → refused 5 ≡ length_tests l k s
  unfolding length_tests
  other_count a b c d h =
      lets_ne 3 (syntax_indicator s) 0 _ a (lets_ne 3 (private_indicator s) 0 _ b
      (lets_le 4 l.smallest (section_length s) _ c (lets_le 4 (section_length s) l.largest _ d
      (stops_eq 5 (length s) (section_length s + 3) _ h refl))))

  pub lengths_pass : {r : Outcome Header} → (syntax_indicator s ≡ 0 → ⊥) → (private_indicator s ≡ 0 → ⊥) → l.smallest ≤ section_length s
      → section_length s ≤ l.largest → length s ≡ section_length s + 3 → r ≡ checksum_test l k s → r ≡ length_tests l k s
  unfolding length_tests
  lengths_pass a b c d h e =
      lets_ne 3 (syntax_indicator s) 0 _ a (lets_ne 3 (private_indicator s) 0 _ b
      (lets_le 4 l.smallest (section_length s) _ c (lets_le 4 (section_length s) l.largest _ d
      (lets_eq 5 (length s) (section_length s + 3) _ h e))))

  -- ---- the byte that must be 0, and 8
  pub not_zero : (byte_at s l.zero_byte ≡ 0 → ⊥) → refused (number_of l.zero_refusal) ≡ number_tests l k s
  unfolding number_tests
  not_zero h = stops_eq (number_of l.zero_refusal) (byte_at s l.zero_byte) 0 _ h refl

  pub above_last : byte_at s l.zero_byte ≡ 0 → last_section_number s < section_number s → refused 8 ≡ number_tests l k s
  unfolding number_tests
  above_last a h = lets_eq _ (byte_at s l.zero_byte) 0 _ a (stops_le 8 (section_number s) (last_section_number s) _ h refl)

  pub last_too_large : byte_at s l.zero_byte ≡ 0 → section_number s ≤ last_section_number s → l.last < last_section_number s
      → refused 8 ≡ number_tests l k s
  unfolding number_tests
  last_too_large a b h =
      lets_eq _ (byte_at s l.zero_byte) 0 _ a
      (lets_le 8 (section_number s) (last_section_number s) _ b (stops_le 8 (last_section_number s) l.last _ h refl))

  pub numbers_pass : {r : Outcome Header} → byte_at s l.zero_byte ≡ 0 → section_number s ≤ last_section_number s → last_section_number s ≤ l.last
      → r ≡ resulted (header_in k s) → r ≡ number_tests l k s
  unfolding number_tests
  numbers_pass a b c e =
      lets_eq _ (byte_at s l.zero_byte) 0 _ a
      (lets_le 8 (section_number s) (last_section_number s) _ b (lets_le 8 (last_section_number s) l.last _ c e))
