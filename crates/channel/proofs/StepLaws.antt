-- The thirteen fields of a channel are passed in three steps.
use Prim.Native.Nat.{ℕ}
use mathlib.Core.Path.{◌≡◌, refl, ap, ◌∙◌}
use mathlib.Core.List.{List, [], ◌∷◌}
use native.Mathlib.Omega.{arith}
use Rattle.bytes_at.specs.Walks.{fields_to, then}
use Rattle.format.specs.Heads.{steps}
use Rattle.format.proofs.FieldLaws.{merge, split}
use Rattle.channel.specs.Format.{channel_head}

abbrev all : List ℕ
all = steps channel_head

-- those that begin in one byte are one step
merged : (d end : ℕ) → fields_to (2 ∷ 1 ∷ 1 ∷ 6 ∷ 6 ∷ 16 ∷ []) d end ≡ fields_to (10 ∷ 6 ∷ 16 ∷ []) d end
merged d end = merge 2 1 _ d end (omega arith) ∙ merge 3 1 _ d end (omega arith) ∙ merge 4 6 _ d end (omega arith)

pub three_steps : (at end : ℕ) → fields_to all at end
    ≡ then (fields_to (112 ∷ 14 ∷ 10 ∷ 8 ∷ []) at end) (λ b. then (fields_to (32 ∷ 16 ∷ 16 ∷ []) b end) (λ d. fields_to (10 ∷ 6 ∷ 16 ∷ []) d end))
three_steps at end =
    split (112 ∷ 14 ∷ 10 ∷ 8 ∷ []) _ 18 refl at end
    ∙ ap (then (fields_to (112 ∷ 14 ∷ 10 ∷ 8 ∷ []) at end)) (λ i b. (split (32 ∷ 16 ∷ 16 ∷ []) _ 8 refl b end
    ∙ ap (then (fields_to (32 ∷ 16 ∷ 16 ∷ []) b end)) (λ j d. merged d end j)) i)
