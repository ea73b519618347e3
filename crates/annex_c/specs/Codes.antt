-- SCOPE 4.9 and 4.11: the codes' meaning is the printed list. This page says what a list of rows (prior symbol, symbol, code)
-- makes of bits; the lists themselves are Printed1 and Printed2.
use Rattle.std.specs.Prelude.{ℕ, ◌≡◌, ◌⊎◌, List, [], ◌∷◌, Bool, true, false, eqb}
use Rattle.logic.specs.Loops.{◌&◌}

-- a printed row: the prior symbol, the symbol that follows it, its code
pub data Code : Type 0 where
  code : ℕ → ℕ → List ℕ → Code

-- the list has this row
unfoldable pub HasRow : List Code → Code → Type 0
HasRow [] row = ⊥
HasRow (first ∷ rows) row = (first ≡ row) ⊎ HasRow rows row

-- what reading one coded symbol finds: the symbol and the bits that are left, or bits that end early
pub data Reading : Type 0 where
  symbol : ℕ → List ℕ → Reading
  early : Reading

-- the symbol s where its code begins the bits, otherwise what the other rows say
unfoldable pub begins : ℕ → List ℕ → List ℕ → Reading → Reading
begins s [] bs other = symbol s bs
begins s (c ∷ cs) [] other = other
begins s (c ∷ cs) (b ∷ bs) other = elim (eqb c b) [ true ↦ begins s cs bs other | false ↦ other ]

-- the first symbol of these rows whose code begins the bits
unfoldable pub first_code : List Code → List ℕ → Reading
first_code [] bs = early
first_code (code p s c ∷ rows) bs = begins s c bs (first_code rows bs)

-- the rows of the prior symbol p
unfoldable pub codes_of : List Code → ℕ → List Code
codes_of [] p = []
codes_of (code q s c ∷ rows) p = elim (eqb q p) [ true ↦ code q s c ∷ codes_of rows p | false ↦ codes_of rows p ]

-- only the escape is printed, with the code 1
unfoldable pub escape_alone : List Code → Bool
escape_alone [] = false
escape_alone (code p s [] ∷ rows) = false
escape_alone (code p s (c ∷ []) ∷ []) = eqb s 27 & eqb c 1
escape_alone (code p s (c ∷ []) ∷ row ∷ rows) = false
escape_alone (code p s (c ∷ d ∷ cs) ∷ rows) = false

-- the rule for the trees of two bytes 155, which are those of the priors with the escape alone (`pairs` of Meaning.antt): both bits mean escape
-- although one code is printed
unfoldable pub meant : ℕ → List Code → List Code
meant p rows = elim (escape_alone rows) [ true ↦ code p 27 (0 ∷ []) ∷ rows | false ↦ rows ]

-- one coded symbol after the prior symbol p, by the printed list
unfoldable pub printed : List Code → ℕ → List ℕ → Reading
printed list p bs = first_code (meant p (codes_of list p)) bs
