-- SCOPE 4.9 to 4.11: what is shown of a decode table and its printed list.
use Rattle.std.specs.Prelude.{◌≡◌, ℕ, ◌*◌, ◌<◌, ◌≤◌, List, [], ◌∷◌, ◌++◌, length, take}
use Rattle.annex_c.specs.Codes.{Code, code, HasRow, Reading, symbol, early, codes_of, escape_alone, printed}
use Rattle.annex_c.specs.Tree.{tree, nodes, walk, walked}
use Rattle.annex_c.specs.Test.{pair155}

-- a list of bits
pub data Bits : List ℕ → Type 0 where
  none : Bits []
  more : {b : ℕ} {bs : List ℕ} → b < 2 → Bits bs → Bits (b ∷ bs)

-- a symbol that was read is below 128, and what is left are bits
abbrev pub SoundReading : Reading → Type 0
SoundReading (symbol s rest) = (s < 128) × Bits rest
SoundReading early = Unit {0}

-- for every prior symbol and all bits
pub record Means (t : List ℕ) (k : ℕ) (list : List Code) : Type 0 where
  -- the tree reads what the printed list says
  pub alike : (p : ℕ) → p < 128 → (bs : List ℕ) → Bits bs → walked t p bs ≡ printed list p bs
  -- every printed code gives its symbol, whatever follows it
  pub gives : (p s : ℕ) (c bs : List ℕ) → p < 128 → HasRow list (code p s c) → walked t p (c ++ bs) ≡ symbol s bs
  pub sound : (p : ℕ) → p < 128 → (bs : List ℕ) → Bits bs → SoundReading (walked t p bs)
  -- the tree's own bytes are enough: no child stands outside
  pub inside : (p : ℕ) → p < 128 → (bs : List ℕ) → Bits bs → walk (take (2 * nodes t p) (tree t p)) 0 bs ≡ walked t p bs
  -- k bits reach a leaf
  pub ends : (p : ℕ) → p < 128 → (bs : List ℕ) → Bits bs → k ≤ length bs → walked t p bs ≡ early → ⊥
  -- the trees of two bytes 155 are those of the priors for which the escape alone is printed
  pub pairs : (p : ℕ) → p < 128 → pair155 (tree t p) ≡ escape_alone (codes_of list p)
