-- SCOPE 4.10 (annex C, section C1.2): how a decode table is read. Its first 256 bytes are 128 offsets of trees, one a prior symbol, and a
-- node of a tree is two bytes, for the bit 0 and for the bit 1.
use Rattle.std.specs.Prelude.{ℕ, ◌+◌, ◌*◌, ◌-◌, ◌/◌, List, [], ◌∷◌, true, false, length, get_or, drop, leb, eqb}
use Rattle.annex_c.specs.Codes.{Reading, symbol, early}

-- where the tree of the prior symbol p begins
unfoldable pub root : List ℕ → ℕ → ℕ
root t p = 256 * get_or t (2 * p) 0 + get_or t (2 * p + 1) 0

-- the bytes from there on
unfoldable pub tree : List ℕ → ℕ → List ℕ
tree t p = drop (root t p) t

-- its nodes: it ends where the next one begins, and the last with the table
unfoldable pub nodes : List ℕ → ℕ → ℕ
nodes t p = (elim (eqb p 127) [ true ↦ length t | false ↦ root t (p + 1) ] - root t p) / 2

-- the byte of node n for the bit b: 128 + s is the symbol s, a leaf, and less is the number of the next node
unfoldable pub child : List ℕ → ℕ → ℕ → ℕ
child u n b = get_or u (2 * n + b) 0

-- along the bits from node n on
unfoldable pub walk : List ℕ → ℕ → List ℕ → Reading
walk u n [] = early
walk u n (b ∷ bs) = elim (leb 128 (child u n b)) [ true ↦ symbol (child u n b - 128) bs | false ↦ walk u (child u n b) bs ]

-- one coded symbol after the prior symbol p, by the decode table
unfoldable pub walked : List ℕ → ℕ → List ℕ → Reading
walked t p bs = walk (tree t p) 0 bs
