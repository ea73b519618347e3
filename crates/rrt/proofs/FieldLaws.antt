-- What code reads of a dimension, by its bits.
use Prim.Native.Nat.{ℕ, ◌*◌, ◌/◌, ◌%◌}
use mathlib.Core.Path.{◌≡◌, ap, ◌∙◌}
use mathlib.Core.List.{List}
use native.Mathlib.Omega.{arith}
use Rattle.bytes_at.specs.Bits.{bits_at}
use Rattle.bytes_at.specs.Fields.{byte_at}
use Rattle.bytes_at.proofs.BitLaws.{mid_at}
use Rattle.format.specs.Heads.{vals_at}
use Rattle.part.specs.declared.Part.{Part}
use Rattle.strings.specs.Places.{text_at, text_end}
use Rattle.rrt.specs.Format.{scale_head}
use Rattle.rrt.specs.Fields.{dimension_at}

pub dimension_is : (s : List ℕ) (d t x : ℕ) (p : Part) → p ≡ text_at s d → t ≡ text_end s d → x ≡ byte_at s t → bits_at s (8 * t) 8 ≡ x
    → record { name = p; graduated_scale = x / 16 % 2; values = x % 16 } ≡ dimension_at s d
unfolding dimension_at
dimension_is s d t x p e f g b =
    let scale = mid_at s t t 0 (omega arith) 3 1 4 b ∙ ap (λ i. (vals_at scale_head s i 0).1.0) f in
    let values = ap (λ n. n % 16) (g ∙ ap (byte_at s) f) in
    λ i. record { name = e i; graduated_scale = scale i; values = values i }
