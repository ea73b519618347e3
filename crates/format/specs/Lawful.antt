-- What a format's `walk` and `law` are made of: what it is for a walk to accept exactly the encodings of values.
use Rattle.std.specs.Prelude.{ℕ, zero, suc, ◌+◌, ◌≤◌, ◌<◌, ◌≡◌, List, ◌++◌, [], ◌∷◌, length, take, drop, ltb, Ok}
use Rattle.logic.specs.Choices.{pick}
use Rattle.bytes_at.specs.Walks.{then, ends, Walk}
use Rattle.format.specs.Repeats.{Bytes}

-- the bits of fields of these widths
abbrev pub total : List ℕ → ℕ
total [] = 0
total (n ∷ ns) = n + total ns

-- a walk through a section: the bytes, the container's end, and the place where it starts
abbrev pub Walker : Type 0
Walker = List ℕ → ℕ → ℕ → Walk

-- l stands in s at the offset `at`
abbrev pub Lies : List ℕ → List ℕ → ℕ → Type 0
Lies l s at = take (length l) (drop at s) ≡ l

-- The walk of a format that tells by itself where it ends. X are the values, Formed says which of them are well formed, enc gives
-- their bytes. Sound: an encoding that lies within the container is walked. Complete: what is walked is an encoding. Unique: of
-- one value only, whatever follows. Within: a walk never leaves its container. Bytes: the
-- numbers of an encoding are bytes.
pub record Lawful {X : Type 0} (W : Walker) (Formed : X → Type 0) (enc : X → List ℕ) : Type 0 where
  pub sound : (s : List ℕ) (end at : ℕ) (x : X) → Formed x → Lies (enc x) s at → at + length (enc x) ≤ end
      → W s end at ≡ Ok (at + length (enc x))
  pub complete : (s : List ℕ) (end at e : ℕ) → at ≤ end → end ≤ length s → Bytes s → W s end at ≡ Ok e
      → (x : X) × (Formed x × (Lies (enc x) s at × (e ≡ at + length (enc x))))
  pub unique : (x y : X) (p q : List ℕ) → Formed x → Formed y → enc x ++ p ≡ enc y ++ q → x ≡ y
  pub within : (s : List ℕ) (end at e : ℕ) → at ≤ end → W s end at ≡ Ok e → (at ≤ e) × (e ≤ end)
  pub bytes : (x : X) → Formed x → Bytes (enc x)

-- The walk of a format that takes its whole container. Unique: of one value only, given the length. Whole: a walk that stands,
-- stands at the container's end.
pub record Fills {X : Type 0} (W : Walker) (Formed : X → Type 0) (enc : X → List ℕ) : Type 0 where
  pub sound : (s : List ℕ) (end at : ℕ) (x : X) → Formed x → Lies (enc x) s at → end ≡ at + length (enc x) → W s end at ≡ Ok end
  pub complete : (s : List ℕ) (end at : ℕ) → at ≤ end → end ≤ length s → Bytes s → W s end at ≡ Ok end
      → (x : X) × (Formed x × (Lies (enc x) s at × (end ≡ at + length (enc x))))
  pub unique : (x y : X) → Formed x → Formed y → enc x ≡ enc y → x ≡ y
  pub whole : (s : List ℕ) (end at e : ℕ) → W s end at ≡ Ok e → e ≡ end
  pub bytes : (x : X) → Formed x → Bytes (enc x)

-- no value is empty
abbrev pub NotEmpty : {X : Type 0} → (X → Type 0) → (X → List ℕ) → Type 0
NotEmpty {X} Formed enc = (x : X) → Formed x → 0 < length (enc x)

-- the walk p until the container's end. The first number bounds the steps: the bytes left are enough
unfoldable pub unto : (ℕ → ℕ → Walk) → ℕ → ℕ → ℕ → Walk
unto p zero end at = ends end at
unto p (suc f) end at = pick (ltb at end) (then (p end at) (unto p f end)) (ends end at)
