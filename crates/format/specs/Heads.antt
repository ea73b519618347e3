-- What formats of fields are made of: how a walk steps past fields (Steps.antt), and their values at their bits; what a reader reads from behind a
-- head; and when fields with what follows them are well formed.
use Rattle.std.specs.Prelude.{ℕ, ◌+◌, ◌^◌, ◌<◌, ◌≡◌, List, [], ◌∷◌, length}
use Rattle.bytes_at.specs.Bits.{bits_at, field_at}
use Rattle.format.specs.Repeats.{Bytes}
use Rattle.format.specs.Formats.{Format, Reader}
pub use Rattle.format.specs.Steps.{steps_after, steps}
use Rattle.format.specs.Values.{Field, bits_of, width, Vals, Fit}

-- the values that stand from o bits after the byte `at` on
abbrev pub vals_at : (fs : List Field) → List ℕ → ℕ → ℕ → Vals fs
vals_at [] s at o = record {}
vals_at (f ∷ fs) s at o = (field_at s at o (bits_of f), vals_at fs s at (o + bits_of f))

-- what is read behind a head is what its fields and its last n bits say
abbrev pub Tells : {C : Type 0} (fs : List Field) (n k : ℕ) → Reader k C → (Vals fs → ℕ → C) → Type 0
Tells fs n k r c = (h : List ℕ) → length h ≡ k → Bytes h → r.read h k ≡ c (vals_at fs h 0 0) (bits_at h (0 + width fs) n)

-- the fields fit, the last number fits its n bits, and what follows is well formed for what the head tells of it
abbrev pub OkTold : {C : Type 0} (fs : List Field) (n : ℕ) (c : Vals fs → ℕ → C) (f : Format C) → (f.Val → ℕ) → Vals fs × f.Val → Type 0
OkTold fs n c f tally y = Fit fs y.0 × ((tally y.1 < 2 ^ n) × f.Formed (c y.0 (tally y.1)) y.1)
