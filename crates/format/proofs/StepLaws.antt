-- Laws of walks past fields of these widths: how far they come, and that they accept exactly as many bytes; and the steps of a walk
-- past fields have the fields' bits. `fields_law` and `steps_width` are among the laws that formats rest on (Laws/Statements.antt).
use Rattle.std.specs.Prelude.{ℕ, zero, suc, ◌+◌, ◌*◌, ◌/◌, ◌≤◌, ◌≡◌, refl, List, [], ◌∷◌, length, Ok}
use Rattle.std.proofs.Math.Path.{sym, ap}
use Rattle.std.proofs.Common.{◌∙◌}
use native.Mathlib.Omega.{arith}
use Rattle.bytes_at.specs.Walks.{bits_to, fields_to}
use Rattle.bytes_at.proofs.WalkLaws.{to_is, bits_on, bits_done}
use Rattle.format.specs.Lawful.{Lawful, total}
use Rattle.format.specs.Repeats.{Bytes}
use Rattle.format.specs.Values.{Field, bits, reserved, piece, width}
use Rattle.format.specs.Steps.{steps_after}
use Rattle.format.specs.Laws.OfBytes.{bits_begin, bytes_law}

bits_fit : (ns : List ℕ) (p end : ℕ) → p + total ns ≤ 8 * end → Ok ((p + total ns) / 8) ≡ bits_to ns p end
bits_fit [] p end h = bits_done p end _ (ap (λ n. n / 8) (omega arith))
bits_fit (n ∷ ns) p end h =
    bits_on n ns p end (omega arith) (ap (λ m. Ok (m / 8)) (omega arith) ∙ bits_fit ns (p + n) end (omega arith))

bits_took : (ns : List ℕ) (p end b : ℕ) → p ≤ 8 * end → bits_to ns p end ≡ Ok b
    → (b ≡ (p + total ns) / 8) × (p + total ns ≤ 8 * end)
bits_took [] p end b h e = (to_is (p / 8) b (bits_done p end (p / 8) refl ∙ e) ∙ ap (λ n. n / 8) (omega arith), omega arith)
bits_took (n ∷ ns) p end b h e =
    let t = bits_begin n ns p end b e in
    let u = bits_took ns (p + n) end b t.0 t.1 in
    (u.0 ∙ ap (λ m. m / 8) (omega arith), omega arith)

module _ (ns : List ℕ) (k : ℕ) (whole : total ns ≡ 8 * k) (at end : ℕ) where
  pub fields_fit : at + k ≤ end → fields_to ns at end ≡ Ok (at + k)
  unfolding fields_to
  fields_fit h = sym (bits_fit ns (8 * at) end (omega arith)) ∙ ap Ok (omega arith)

  pub fields_took : (b : ℕ) → at ≤ end → fields_to ns at end ≡ Ok b → (b ≡ at + k) × (b ≤ end)
  unfolding fields_to
  fields_took b h e = let t = bits_took ns (8 * at) end b (omega arith) e in (omega arith, omega arith)

pub fields_law : (ns : List ℕ) (k : ℕ) → total ns ≡ 8 * k
    → Lawful {X = List ℕ} (λ s end at. fields_to ns at end) (λ x. (length x ≡ k) × Bytes x) (λ x. x)
fields_law ns k whole =
    bytes_law k _ (λ s end at. fields_fit ns k whole at end) (λ s end at. fields_took ns k whole at end)

-- ---- the steps past fields
pub steps_width : (fs : List Field) (n : ℕ) → total (steps_after fs n) ≡ n + width fs
steps_width [] zero = refl
steps_width [] (suc n) = omega arith
steps_width (bits m ∷ fs) n = omega (arith, steps_width fs 0)
steps_width (reserved m ∷ fs) n = steps_width fs (n + m) ∙ omega arith
steps_width (piece m ∷ fs) n = steps_width fs (n + m) ∙ omega arith
