-- What the inner functions of a segment promise: a find, and the pair's outcome as one number and one array.
use Rattle.std.specs.Prelude.{◌≡◌, ℕ, ◌+◌, ◌*◌, ◌-◌, ◌/◌, ◌%◌, ◌^◌, ◌<◌, ◌≤◌, List, [], ◌∷◌, Option, Some, None, length, get_or, drop}
use Rattle.std.proofs.lemmas.List.Edits.{sets}
use Rattle.annex_c.specs.Codes.{Reading, symbol, early}
use Rattle.annex_c.specs.Tree.{tree, walk}
use Rattle.segment.specs.Bits.{all_bits}
use Rattle.segment.specs.Text.{Text, done, stopped, unit}
use Rattle.segment.specs.Segment.{coded_text, raw_text}
use Rattle.refusal.specs.Outcomes.{Outcome, refused, resulted}

-- ---- a text as its judge and its reader see it
-- the units of a text, as far as it goes
unfoldable pub units : Text → List ℕ
units done = []
units (stopped k) = []
units (unit u x) = u ∷ units x

-- the answer, where n units stand before it
unfoldable pub judged_text : ℕ → Text → Outcome ℕ
judged_text n done = resulted n
judged_text n (stopped k) = refused k
judged_text n (unit u x) = judged_text (n + 1) x

-- ---- finding a symbol
-- w is the eight bits from `at` on, with 0 for each past the end
pub record Window (s : List ℕ) (at w : ℕ) : Type 0 where
  pub bit : (j : ℕ) → j < 8 → w / 2 ^ (7 - j) % 2 ≡ get_or (all_bits s) (at + j) 0
  pub small : w < 256

-- the walk from node n on
abbrev pub on_from : List ℕ → ℕ → ℕ → List ℕ → Reading
on_from t n p bs = walk (tree t p) n bs

-- after the prior symbol p the bits of s from `at` on begin with the symbol u, and the bit after it is `next`
pub record SymbolAt (read : ℕ → List ℕ → Reading) (s : List ℕ) (at p u next : ℕ) : Type 0 where
  pub reads : read p (drop at (all_bits s)) ≡ symbol u (drop next (all_bits s))
  pub onward : at < next
  pub inside : next ≤ 8 * length s

-- what a find says: the symbol and the place of the bit after it, or nothing where the bits end early
abbrev pub Finds : (ℕ → List ℕ → Reading) → List ℕ → ℕ → ℕ → Option (ℕ × ℕ) → Type 0
Finds read s at p None = read p (drop at (all_bits s)) ≡ early
Finds read s at p (Some (u, next)) = SymbolAt read s at p u next

-- ---- the pair that hands over
-- the place after the last unit, where n units stand before, or 4096 and a refusal's number
unfoldable pub answer : ℕ → Text → ℕ
answer n done = n
answer n (stopped k) = 4096 + k
answer n (unit u x) = answer (n + 1) x

-- the text x is read with n units in the array l: the answer is r, and the array is then e
pub record PairOutcome (x : Text) (n : ℕ) (l : List ℕ) (r : ℕ) (e : List ℕ) : Type 0 where
  pub answers : r ≡ answer n x
  pub stores : e ≡ sets l n (units x)

-- so the bits of s from `at` on are read, from a coded symbol after the prior symbol p, by any number that is at least the bits left
pub record CodedAt (read : ℕ → List ℕ → Reading) (s : List ℕ) (at p n : ℕ) (l : List ℕ) (r : ℕ) (e : List ℕ) : Type 0 where
  pub by : (k : ℕ) → 8 * length s ≤ at + k → PairOutcome (coded_text read k p (drop at (all_bits s))) n l r e

-- and from a raw character on, of a symbol that began with `left` bits left
pub record RawAt (read : ℕ → List ℕ → Reading) (s : List ℕ) (at left n : ℕ) (l : List ℕ) (r : ℕ) (e : List ℕ) : Type 0 where
  pub by : (k : ℕ) → 8 * length s ≤ at + k → PairOutcome (raw_text read k left (drop at (all_bits s))) n l r e

-- where the pair stands: the place is inside the bits, and the array has room for a unit for each bit left
pub record Room (s : List ℕ) (at n : ℕ) : Type 0 where
  pub short : length s ≤ 255
  pub inside : at ≤ 8 * length s
  pub space : n + 8 * length s ≤ 2040 + at

-- ---- writing
-- the output l with the units of x stored from place n on, those that have room; a refusal stores none
unfoldable pub written : List ℕ → ℕ → Text → List ℕ
written l n x = elim (judged_text 0 x) [ resulted k ↦ sets l n (units x) | refused k ↦ l ]
