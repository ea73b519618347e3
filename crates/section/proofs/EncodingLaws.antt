-- The bytes of a well-formed section: how they lie, that they are accepted with its header, and that they are of it only.
use Prim.Native.Nat.{ℕ, zero, suc, ◌+◌, ◌-◌}
use mathlib.Core.Path.{◌≡◌, refl, sym, ap, ◌∙◌, subst}
use mathlib.Core.List.{List, ◌++◌, append_assoc}
use native.Mathlib.Omega.{arith}
use lib.ListN.{length, take, drop, length-append}
use lib.Seq.{take_at, drop_at}
use Rattle.std.specs.Prelude.{Ok}
use Rattle.checksum.specs.Register.{register, four_bytes, sealed}
use Rattle.checksum.proofs.Sealing.{sealed_sound}
use Rattle.refusal.specs.Outcomes.{Outcome, resulted, after}
use Rattle.bytes_at.specs.Walks.{standing, Walk}
use Rattle.kind.specs.declared.Kind.{Kind}
use Rattle.kind.specs.Kinds.{limits_of, only_of}
use Rattle.format.proofs.KeptLaws.{laws}
use Rattle.format.specs.Lawful.{Lies}
use Rattle.format.specs.Repeats.{Bytes}
use Rattle.format.specs.Laws.OfBytes.{bytes_append, same_front}
use Rattle.format.specs.Laws.OfValues.{number_lt, bytes_bytes, bytes_length}
use Rattle.format.specs.Values.{Vals, Fit, number, bytes_of}
use Rattle.format.specs.Heads.{vals_at}
use Rattle.format.specs.Laws.OfNamed.{vals_there}
use Rattle.section.specs.declared.header.Header.{Header}
use Rattle.section.specs.Bodies.{body_format}
use Rattle.section.specs.Headers.{header_in, header_by}
use Rattle.section.specs.Sections.{body_walk, body_test, section_by}
use Rattle.section.specs.Encoding.{header_head, HeaderFields, Section, head_for, unsealed, encode_with, body_bytes, encode, WellFormed, header_of}
use Rattle.section.proofs.HeaderLaws.{Are, header_bits}
use Rattle.section.proofs.KindLaws.{known, same_walk}
use Rattle.section.proofs.SectionLaws.{Passed, header_passes}

-- ---- any header and body
module _ (k : Kind) (h : HeaderFields) (body : List ℕ) where
  -- as header, body and checksum
  encoded : encode_with k h body ≡ bytes_of 9 (number header_head (head_for k h (length body))) ++ (body ++ four_bytes (register (unsealed k h body)))
  unfolding sealed
  encoded = append_assoc (bytes_of 9 (number header_head (head_for k h (length body)))) body (four_bytes (register (unsealed k h body)))

  pub encoded_size : length (encode_with k h body) ≡ length body + 13
  unfolding four_bytes
  encoded_size =
      let x = number header_head (head_for k h (length body)) in
      let w = four_bytes (register (unsealed k h body)) in
      ap length encoded ∙ omega (arith, length-append (bytes_of 9 x) (body ++ w), length-append body w, bytes_length 9 x)

-- the head of a record
abbrev head_of : (k : Kind) → Section k → Vals header_head
head_of k y = head_for k y.header (length (body_bytes y))

-- ---- how they lie
module _ (k : Kind) (y : Section k) (o : WellFormed k y) where
  fits : Fit header_head (head_of k y)
  fits =
      let n = known k in
      let m = o.ordered in
      let l = o.last in
      let b = o.largest in
      (n.id, (omega arith, (omega arith, (o.r1, (omega (arith, n.largest), (o.extension, (o.r2, (o.version, (o.current, (omega (arith, n.last), (omega (arith, n.last), (omega arith, record {}))))))))))))

  bytes : encode y ≡ bytes_of 9 (number header_head (head_of k y)) ++ (body_bytes y ++ four_bytes (register (unsealed k y.header (body_bytes y))))
  bytes = encoded k y.header (body_bytes y)

  pub size : length (encode y) ≡ length (body_bytes y) + 13
  size = encoded_size k y.header (body_bytes y)

  head_lies : Lies (bytes_of 9 (number header_head (head_of k y))) (encode y) 0
  head_lies = ap (take (length (bytes_of 9 (number header_head (head_of k y))))) bytes ∙ take_at (bytes_of 9 (number header_head (head_of k y))) _ _ refl

  -- the body, where the table of kinds has it begin
  pub body_lies : Lies (body_bytes y) (encode y) (limits_of k).body
  body_lies =
      ap (λ a. take (length (body_bytes y)) (drop a (encode y))) (known k).body
      ∙ ap (λ s. take (length (body_bytes y)) (drop 9 s)) bytes
      ∙ ap (take (length (body_bytes y))) (drop_at (bytes_of 9 (number header_head (head_of k y))) _ 9 (bytes_length 9 _))
      ∙ take_at (body_bytes y) _ _ refl

  -- and it takes all up to the checksum
  pub body_ends : length (encode y) - 4 ≡ (limits_of k).body + length (body_bytes y)
  body_ends = omega (arith, size, (known k).body)

  pub vals : vals_at header_head (encode y) 0 0 ≡ head_of k y
  vals = vals_there header_head 9 refl (encode y) 0 (head_of k y) fits head_lies

-- ---- its numbers are bytes
four_bytes_lem : (w : ℕ) → Bytes (four_bytes w)
unfolding four_bytes
four_bytes_lem w zero = omega arith
four_bytes_lem w (suc zero) = omega arith
four_bytes_lem w (suc (suc zero)) = omega arith
four_bytes_lem w (suc (suc (suc zero))) = omega arith
four_bytes_lem w (suc (suc (suc (suc i)))) = omega arith

pub encode_bytes : (k : Kind) (y : Section k) → WellFormed k y → Bytes (encode y)
encode_bytes k y o =
    let b = bytes_append (body_bytes y) (four_bytes (register (unsealed k y.header (body_bytes y)))) (((body_format k).law laws (record {})).bytes y.body o.body) (four_bytes_lem _) in
    let h = bytes_bytes 9 (number header_head (head_of k y)) (number_lt header_head (head_of k y) (fits k y o)) in
    subst (λ l. Bytes l) (sym (bytes k y o)) (bytes_append (bytes_of 9 (number header_head (head_of k y))) _ h b)

-- ---- it is accepted
stands : (k : Kind) (s : List ℕ) (h : Header) (e : ℕ) → header_by (only_of k) s ≡ resulted h → body_walk h.kind s ≡ Ok e
    → section_by (only_of k) s ≡ resulted h
unfolding section_by body_test after standing
stands k s h e p q = ap (λ (o : Outcome Header). after o (λ g. body_test g s)) p ∙ ap (λ (w : Walk). after (standing w) (λ x. resulted h)) q

module _ (k : Kind) (y : Section k) (o : WellFormed k y) where
  are : Are (encode y) (head_of k y)
  are = subst (λ v. Are (encode y) v) (vals k y o) (header_bits (encode y) (encode_bytes k y o))

  header_is : header_in k (encode y) ≡ header_of y
  header_is = λ i. record {
    kind = k;
    extension = are.extension i;
    version = are.version i;
    current = are.current i;
    number = are.number i;
    last = are.last i;
  }

  passed : Passed k (encode y) (header_of y)
  passed =
      let a = are in
      let n = size k y o in
      record {
        syntax_one = λ e. omega (arith, a.syntax, e);
        private_one = λ e. omega (arith, a.private, e);
        smallest = omega (arith, a.size, o.smallest);
        largest = omega (arith, a.size, o.largest);
        size = omega (arith, a.size);
        register_zero = sealed_sound (unsealed k y.header (body_bytes y));
        byte_zero = (known k).zero_byte (encode y) ∙ a.protocol;
        number_last = omega (arith, a.number, a.last, o.ordered);
        last_limit = omega (arith, a.last, o.last);
        fields = sym header_is;
      }

  walk_stands : body_walk k (encode y) ≡ Ok (length (encode y) - 4)
  walk_stands =
      same_walk k (encode y) (length (encode y) - 4) (limits_of k).body
      ∙ ((body_format k).law laws (record {})).sound (encode y) (length (encode y) - 4) (limits_of k).body y.body o.body (body_lies k y o) (body_ends k y o)

  pub accepts : section_by (only_of k) (encode y) ≡ resulted (header_of y)
  accepts =
      let h = header_passes k (encode y) (header_of y) (omega (arith, size k y o)) are.id passed in
      stands k (encode y) (header_of y) _ h walk_stands

-- ---- of one section only
module _ (k : Kind) (x y : Section k) (o : WellFormed k x) (r : WellFormed k y) (e : encode x ≡ encode y) where
  vals_once : head_of k x ≡ head_of k y
  vals_once = sym (vals k x o) ∙ ap (λ s. vals_at header_head s 0 0) e ∙ vals k y r

  body_once : x.body ≡ y.body
  body_once =
      let hx = number header_head (head_of k x) in
      let hy = number header_head (head_of k y) in
      let fx = four_bytes (register (unsealed k x.header (body_bytes x))) in
      let fy = four_bytes (register (unsealed k y.header (body_bytes y))) in
      let p =
      same_front (bytes_of 9 hx) (bytes_of 9 hy) (body_bytes x ++ fx) (body_bytes y ++ fy)
      (bytes_length 9 hx ∙ sym (bytes_length 9 hy)) (sym (bytes k x o) ∙ e ∙ bytes k y r) in
      let n : length (body_bytes x) ≡ length (body_bytes y) = omega (arith, size k x o, size k y r, ap length e) in
      ((body_format k).law laws (record {})).unique x.body y.body o.body r.body
      (same_front (body_bytes x) (body_bytes y) fx fy n p.1).0

  pub once : x ≡ y
  once = λ i. record {
    header = record {
      r1 = (vals_once i).1.1.1.0;
      extension = (vals_once i).1.1.1.1.1.0;
      r2 = (vals_once i).1.1.1.1.1.1.0;
      version = (vals_once i).1.1.1.1.1.1.1.0;
      current = (vals_once i).1.1.1.1.1.1.1.1.0;
      number = (vals_once i).1.1.1.1.1.1.1.1.1.0;
      last = (vals_once i).1.1.1.1.1.1.1.1.1.1.0;
    };
    body = body_once i;
  }
