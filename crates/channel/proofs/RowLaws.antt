-- The row of a channel has 21 numbers, and is stored in parts.
use Prim.Native.Nat.{ℕ, ◌+◌}
use mathlib.Core.Path.{◌≡◌, refl, sym, ap, ap₂, ◌∙◌}
use mathlib.Core.List.{List, ◌++◌}
use native.Mathlib.Omega.{arith}
use lib.ListN.{length}
use lib.Seq.{sets}
use Rattle.part.specs.declared.Part.{Part}
use Rattle.row.specs.Rows.{part_row}
use Rattle.row.proofs.RowLaws.{sets_append}
use Rattle.channel.specs.declared.channel.Channel.{Channel}
use Rattle.channel.specs.Fields.{channel_at, descriptors_at, name_row, tuning_row, service_row, numbers_row, channel_row}

pub row_21 : (s : List ℕ) (a : ℕ) → length (channel_row s a) ≡ 21
unfolding channel_row numbers_row name_row tuning_row service_row part_row
row_21 s a = refl

-- numbers stored after others
pub joined : (k : ℕ) (xs ys l m : List ℕ) (p q : ℕ) → length xs ≡ k → q ≡ p + k → m ≡ sets l p xs → sets m q ys ≡ sets l p (xs ++ ys)
joined k xs ys l m p q h e f =
    ap₂ (λ (x : List ℕ) (i : ℕ). sets x i ys) f (e ∙ ap (λ (i : ℕ). p + i) (sym h)) ∙ sym (sets_append xs ys l p)

-- those before the descriptors, in three parts
pub numbers_stored : (c : Channel) (l m k : List ℕ) (p : ℕ) → m ≡ sets l p (name_row c.name) → k ≡ sets m (p + 7) (tuning_row c.tuning)
    → sets k (p + 13) (service_row c.service) ≡ sets l p (numbers_row c)
unfolding numbers_row name_row tuning_row
numbers_stored c l m k p e f =
    joined 6 (tuning_row c.tuning) (service_row c.service) m k (p + 7) (p + 13) refl (omega arith) f
    ∙ joined 7 (name_row c.name) (tuning_row c.tuning ++ service_row c.service) l m p (p + 7) refl refl e

-- and then the descriptors
pub row_stored : (s : List ℕ) (a : ℕ) (c : Channel) (l m : List ℕ) (p : ℕ) (d : Part) → c ≡ channel_at s a → m ≡ sets l p (numbers_row c)
    → d ≡ descriptors_at s a → sets m (p + 19) (part_row d) ≡ sets l p (channel_row s a)
unfolding channel_row numbers_row name_row tuning_row service_row
row_stored s a c l m p d e f g =
    ap (λ (y : Part). sets m (p + 19) (part_row y)) g
    ∙ joined 19 (numbers_row c) (part_row (descriptors_at s a)) l m p (p + 19) refl refl f
    ∙ ap (λ (x : Channel). sets l p (numbers_row x ++ part_row (descriptors_at s a))) e
