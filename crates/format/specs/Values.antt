-- Fields by their widths: their values, the number that they are together, and its bytes.
use Rattle.std.specs.Prelude.{ℕ, zero, suc, ◌+◌, ◌-◌, ◌*◌, ◌/◌, ◌%◌, ◌^◌, ◌<◌, ◌≡◌, List, [], ◌∷◌}

-- nothing: of which all is said
abbrev pub One : Type 0
One = record {}

-- a field of so many bits: one that has a meaning, one that is reserved, or a first piece of a longer one
pub data Field : Type 0 where
  bits : ℕ → Field
  reserved : ℕ → Field
  piece : ℕ → Field

abbrev pub bits_of : Field → ℕ
bits_of (bits n) = n
bits_of (reserved n) = n
bits_of (piece n) = n

abbrev pub width : List Field → ℕ
width [] = 0
width (f ∷ fs) = bits_of f + width fs

-- a number for each
abbrev pub Vals : List Field → Type 0
Vals [] = One
Vals (f ∷ fs) = ℕ × Vals fs

-- each fits its bits
abbrev pub Fit : (fs : List Field) → Vals fs → Type 0
Fit [] v = One
Fit (f ∷ fs) v = (v.0 < 2 ^ bits_of f) × Fit fs v.1

-- those that are reserved have all their bits 1
abbrev pub Ones : (fs : List Field) → Vals fs → Type 0
Ones [] v = One
Ones (bits n ∷ fs) v = Ones fs v.1
Ones (reserved n ∷ fs) v = (v.0 ≡ 2 ^ n - 1) × Ones fs v.1
Ones (piece n ∷ fs) v = Ones fs v.1

-- one after the other, the first highest, they are one number
abbrev pub number : (fs : List Field) → Vals fs → ℕ
number [] v = 0
number (f ∷ fs) v = v.0 * 2 ^ width fs + number fs v.1

-- the k bytes of a number, the highest first
unfoldable pub bytes_of : ℕ → ℕ → List ℕ
bytes_of zero n = []
bytes_of (suc k) n = n / 2 ^ (8 * k) ∷ bytes_of k (n % 2 ^ (8 * k))

-- fields, and a number t of n bits after them, k bytes in all
abbrev pub head_bytes : (fs : List Field) (n k : ℕ) → Vals fs → ℕ → List ℕ
head_bytes fs n k v t = bytes_of k (number fs v * 2 ^ n + t)

-- where what follows fields of whole bytes begins
abbrev pub behind : List Field → ℕ → ℕ
behind fs at = at + width fs / 8
