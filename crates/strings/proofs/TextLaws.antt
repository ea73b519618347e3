-- Laws of a text with its length before it: where it ends, that it goes forward, and that its place is what its format says.
use Prim.Native.Nat.{ℕ, ◌+◌, ◌-◌, ◌≤◌, ◌<◌}
use mathlib.Core.Path.{◌≡◌, refl, ap, subst}
use mathlib.Core.List.{List, []}
use native.Mathlib.Omega.{arith}
use lib.ListN.{length, length-append}
use Rattle.std.specs.Prelude.{Ok}
use Rattle.bytes_at.specs.Fields.{byte_at}
use Rattle.bytes_at.proofs.WalkLaws.{then_inv, skipped}
use Rattle.format.proofs.KeptLaws.{laws}
use Rattle.format.specs.Lawful.{Lies}
use Rattle.format.specs.Repeats.{Bytes}
use Rattle.format.specs.Formats.{walks, walks_all}
use Rattle.format.specs.Laws.OfValues.{bytes_length}
use Rattle.format.specs.Values.{bytes_of}
use Rattle.format.specs.Told.{sized8}
use Rattle.format.proofs.FieldLaws.{fields_end}
use Rattle.format.proofs.SizedLaws.{sized8_there}
use Rattle.strings.specs.Strings.{text, sized_text}
use Rattle.strings.specs.Places.{text_at, text_end}

-- where a walk past it stands: it ends there, and its text fills what is between
module _ (s : List ℕ) (end at b : ℕ) (w : walks sized_text s end at ≡ Ok b) where
  passed : (b ≡ at + 1 + byte_at s at) × ((b ≤ end) × (walks_all text s b (at + 1) ≡ Ok b))
  unfolding sized_text
  passed =
      let p = then_inv _ _ b w in
      let t = fields_end 8 [] 1 refl at end p.0 p.1.0 in
      let q = then_inv _ _ b p.1.1 in
      let u = skipped 1 p.0 (byte_at s (p.0 - 1)) end q.0 q.1.0 in
      let v = (text.law laws (record {})).whole s q.0 p.0 b q.1.1 in
      let z : byte_at s (p.0 - 1) ≡ byte_at s at = ap (byte_at s) (omega arith) in (
        omega (arith, t, u, v, z),
        (omega (arith, u, v), subst (λ e. walks_all text s e (at + 1) ≡ Ok b) (omega (arith, v)) (subst (λ a. walks_all text s q.0 a ≡ Ok b) t.0 q.1.1)),
      )

  pub text_end_lem : b ≡ text_end s at
  unfolding text_end
  text_end_lem = passed.0

  pub text_inside : (at < b) × (b ≤ end)
  text_inside = (omega (arith, passed.0), passed.1.0)

  -- its text is sound where it stands
  pub text_sound : walks_all text s (text_end s at) (at + 1) ≡ Ok (text_end s at)
  text_sound = subst (λ e. walks_all text s e (at + 1) ≡ Ok e) text_end_lem passed.1.1

-- where a text lies with its length, its place is this
pub text_there : (s : List ℕ) (at : ℕ) → Bytes s → (x : text.Val) → (sized8 text).Formed (record {}) (record {}, x)
    → Lies ((sized8 text).enc (record {}, x)) s at
    → (text_at s at ≡ record { start = at + 1; length = length (text.enc x) }) × Lies (text.enc x) s (at + 1)
unfolding text_at
text_there s at z x o l = let t = sized8_there s z at text x o l in ((λ i. record { start = at + 1; length = t.0 i }), t.1)

-- and it ends behind its encoding
pub text_end_there : (s : List ℕ) (at : ℕ) → Bytes s → (x : text.Val) → (sized8 text).Formed (record {}) (record {}, x)
    → Lies ((sized8 text).enc (record {}, x)) s at → text_end s at ≡ at + length ((sized8 text).enc (record {}, x))
unfolding text_end
text_end_there s at z x o l =
    let t = (sized8_there s z at text x o l).0 in
    let n = length-append (bytes_of 1 (0 + length (text.enc x))) (text.enc x) in
    let k = bytes_length 1 (0 + length (text.enc x)) in
    omega arith
