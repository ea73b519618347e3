-- What is accepted is the bytes of a well-formed section, with its header as the answer.
use Prim.Native.Nat.{ℕ, ◌+◌, ◌-◌, ◌≤◌, ◌<◌}
use mathlib.Core.Path.{◌≡◌, refl, sym, ap, ◌∙◌}
use mathlib.Core.Logic.{◌↔◌}
use mathlib.Core.List.{List, ◌++◌}
use native.Mathlib.Omega.{arith}
use lib.ListN.{length, take}
use lib.Seq.{take-add}
use Rattle.std.specs.Prelude.{Ok}
use Rattle.checksum.specs.Register.{sealed}
use Rattle.checksum.proofs.Sealing.{resealed}
use Rattle.refusal.specs.Outcomes.{resulted}
use Rattle.kind.specs.declared.Kind.{Kind}
use Rattle.kind.specs.Kinds.{limits_of, table_id_of, only_of}
use Rattle.format.proofs.KeptLaws.{laws}
use Rattle.format.specs.Repeats.{Bytes}
use Rattle.format.specs.Laws.OfBytes.{part_length}
use Rattle.format.specs.Laws.OfValues.{vals_fit, vals_number, bytes_part}
use Rattle.format.specs.Values.{number, bytes_of}
use Rattle.format.specs.Heads.{vals_at}
use Rattle.format.proofs.FormatLaws.{between, accepted_all}
use Rattle.section.specs.declared.header.Header.{Header}
use Rattle.section.specs.Bodies.{body_format}
use Rattle.section.specs.Headers.{table_id, syntax_indicator, private_indicator}
use Rattle.section.specs.Sections.{section_by}
use Rattle.section.specs.Encoding.{header_head, HeaderFields, Section, length_with, head_for, body_bytes, encode, WellFormed, header_of}
use Rattle.section.proofs.KindLaws.{known, same_walk}
use Rattle.section.proofs.HeaderLaws.{header_bits}
use Rattle.section.proofs.SectionLaws.{Passed, header_passed, section_header, section_sound}
use Rattle.section.proofs.EncodingLaws.{accepts}

bit_one : (x n : ℕ) → (x ≡ 0 → ⊥) → x ≡ n → n < 2 → 1 ≡ n
bit_one x n f e l = omega (arith, f)

length_is : (b l n v : ℕ) → b + 13 ≡ l → l ≡ n + 3 → n ≡ v → 6 + b + 4 ≡ v
length_is b l n v e f g = omega arith

both_equal : {a b c d : ℕ} → a ≡ c → b ≡ d → a ≤ b → c ≤ d
both_equal e f h = omega arith

module _ (k : Kind) (s : List ℕ) (z : Bytes s) (h : Header) (q : section_by (only_of k) s ≡ resulted h) where
  passed : (table_id s ≡ table_id_of k) × Passed k s h
  passed = header_passed k s h (section_header (only_of k) s h q)

  room : 13 ≤ length s
  room = let p = passed.1 in omega (arith, (known k).smallest, p.smallest, p.size)

  -- the body by its record
  body_walk_lem : (body_format k).walk (record {}) s (length s - 4) 9 ≡ Ok (length s - 4)
  body_walk_lem =
      let w = (section_sound k s h q).1 in
      let v = sym (ap (λ b. (body_format k).walk (record {}) s (length s - 4) b) (known k).body) ∙ sym (same_walk k s (length s - 4) (limits_of k).body) ∙ w.1 in
      v ∙ ap Ok (((body_format k).law laws (record {})).whole s (length s - 4) 9 w.0 v)

  body_value : (x : (body_format k).Val) × ((body_format k).Formed (record {}) x × (between s 9 (length s - 4) ≡ (body_format k).enc x))
  body_value = let r = room in (accepted_all s (length s - 4) 9 (omega arith) (omega arith) z (body_format k) (record {})).0 body_walk_lem

  abbrev header : HeaderFields
  header = let v = vals_at header_head s 0 0 in record {
    r1 = v.1.1.1.0;
    extension = v.1.1.1.1.1.0;
    r2 = v.1.1.1.1.1.1.0;
    version = v.1.1.1.1.1.1.1.0;
    current = v.1.1.1.1.1.1.1.1.0;
    number = v.1.1.1.1.1.1.1.1.1.0;
    last = v.1.1.1.1.1.1.1.1.1.1.0;
  }

  abbrev decode : Section k
  decode = record { header = header; body = body_value.0 }

  body_size : length ((body_format k).enc body_value.0) + 13 ≡ length s
  body_size =
      let r = room in
      let a = part_length s (length s - 4 - 9) 9 (omega arith) in
      omega (arith, ap length body_value.1.1)

  length_same : length_with (length (body_bytes decode)) ≡ (vals_at header_head s 0 0).1.1.1.1.0
  length_same = length_is _ _ _ _ body_size passed.1.size (header_bits s z).size

  -- its head is that of the bytes
  head_same : head_for k header (length (body_bytes decode)) ≡ vals_at header_head s 0 0
  head_same =
      let a = header_bits s z in
      let f = vals_fit header_head s 0 0 in
      let p = passed.1 in
      let e0 : table_id_of k ≡ (vals_at header_head s 0 0).0 = sym passed.0 ∙ a.id in
      let e1 = bit_one (syntax_indicator s) _ p.syntax_one a.syntax f.1.0 in
      let e2 = bit_one (private_indicator s) _ p.private_one a.private f.1.1.0 in
      let e3 = length_same in
      let e4 : 0 ≡ (vals_at header_head s 0 0).1.1.1.1.1.1.1.1.1.1.1.0 = sym p.byte_zero ∙ (known k).zero_byte s ∙ a.protocol in
      λ i. (e0 i, (e1 i, (e2 i, (header.r1, (e3 i, (header.extension, (header.r2, (header.version, (header.current, (header.number, (header.last, (e4 i, record {}))))))))))))

  well_formed : WellFormed k decode
  well_formed =
      let a = header_bits s z in
      let f = vals_fit header_head s 0 0 in
      let p = passed.1 in
      let e = length_same ∙ sym a.size in
      record {
        r1 = f.1.1.1.0;
        extension = f.1.1.1.1.1.0;
        r2 = f.1.1.1.1.1.1.0;
        version = f.1.1.1.1.1.1.1.0;
        current = f.1.1.1.1.1.1.1.1.0;
        ordered = both_equal a.number a.last p.number_last;
        last = both_equal a.last refl p.last_limit;
        smallest = both_equal refl (sym e) p.smallest;
        largest = both_equal (sym e) refl p.largest;
        body = body_value.1.0;
      }

  header_same : h ≡ header_of decode
  header_same =
      let a = header_bits s z in
      passed.1.fields
      ∙ (λ i. record { kind = k; extension = a.extension i; version = a.version i; current = a.current i; number = a.number i; last = a.last i })

  head_bytes : bytes_of 9 (number header_head (head_for k header (length (body_bytes decode)))) ≡ take 9 s
  head_bytes =
      let r = room in
      ap (λ v. bytes_of 9 (number header_head v)) head_same ∙ ap (bytes_of 9) (vals_number header_head s 0) ∙ bytes_part 9 s 0 z (omega arith)

  bytes_same : s ≡ encode decode
  bytes_same =
      let r = room in
      let b = body_value.1.1 in
      let n : 9 + (length s - 4 - 9) ≡ length s - 4 = omega arith in
      let t : take (length s - 4) s ≡ take 9 s ++ between s 9 (length s - 4) = sym (ap (λ n. take n s) n) ∙ take-add 9 (length s - 4 - 9) s in
      sym (resealed s (length s - 4) z (omega arith) passed.1.register_zero) ∙ ap sealed (t ∙ (λ i. sym head_bytes i ++ b i))

-- what is accepted, of one kind
pub exactly : (k : Kind) (s : List ℕ) → Bytes s → (h : Header)
    → (section_by (only_of k) s ≡ resulted h) ↔ ((y : Section k) × (WellFormed k y × ((s ≡ encode y) × (h ≡ header_of y))))
exactly k s z h = (
  (λ q. (decode k s z h q, (well_formed k s z h q, (bytes_same k s z h q, header_same k s z h q)))),
  (λ u. ap (section_by (only_of k)) u.1.1.0 ∙ accepts k u.0 u.1.0 ∙ ap resulted (sym u.1.1.1)),
)
