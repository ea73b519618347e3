-- The values and bytes of parts that stand several times, may be missing, or are of two kinds; and numbers that are bytes.
use Rattle.std.specs.Prelude.{ℕ, ◌<◌, ◌≡◌, List, [], ◌∷◌, ◌++◌, ◌⊎◌, Bool, true, false, Option, None, Some}
use Rattle.std.proofs.Common.{inl, inr}
use Rattle.bytes_at.specs.Fields.{byte_at}

-- the numbers of s are bytes
abbrev pub Bytes : List ℕ → Type 0
Bytes s = (i : ℕ) → byte_at s i < 256

-- each of them is well formed
abbrev pub All : {X : Type 0} → (X → Type 0) → List X → Type 0
All Formed [] = record {}
All Formed (x ∷ xs) = Formed x × All Formed xs

-- the bytes of them all
abbrev pub encs : {X : Type 0} → (X → List ℕ) → List X → List ℕ
encs enc [] = []
encs enc (x ∷ xs) = enc x ++ encs enc xs

-- the same for a value that may be missing
abbrev pub OkOpt : {X : Type 0} → (X → Type 0) → Option X → Type 0
OkOpt Formed None = record {}
OkOpt Formed (Some x) = Formed x

abbrev pub enc_opt : {X : Type 0} → (X → List ℕ) → Option X → List ℕ
enc_opt enc None = []
enc_opt enc (Some x) = enc x

-- the same for a value of the one type where the test holds, and of the other where it does not
abbrev pub OkSum : {X Y : Type 0} → Bool → (X → Type 0) → (Y → Type 0) → X ⊎ Y → Type 0
OkSum t OkA OkB (inl x) = (t ≡ true) × OkA x
OkSum t OkA OkB (inr y) = (t ≡ false) × OkB y

abbrev pub enc_sum : {X Y : Type 0} → (X → List ℕ) → (Y → List ℕ) → X ⊎ Y → List ℕ
enc_sum encA encB (inl x) = encA x
enc_sum encA encB (inr y) = encB y
