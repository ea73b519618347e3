-- SCOPE 4.10: the computed test of a decode table against its printed list, node by node with the rows that lead there: the node stands
-- inside its tree, each row goes on by a bit (0 or 1), and each leaf has just the one row that ends there, for its symbol. So every walk
-- ends in a leaf, every printed code leads to its symbol and ends on the leaf, and every leaf's path is a printed code.
use Rattle.std.specs.Prelude.{ℕ, zero, suc, ◌-◌, List, [], ◌∷◌, Bool, true, false, leb, ltb, eqb}
use Rattle.logic.specs.Loops.{◌&◌}
use Rattle.logic.specs.Inner.{equal_bool}
use Rattle.annex_c.specs.Codes.{Code, code, codes_of, meant, escape_alone}
use Rattle.annex_c.specs.Tree.{tree, nodes, child}

-- every row has a digit to go on by, which is a bit
unfoldable pub go_on : List Code → Bool
go_on [] = true
go_on (code p s [] ∷ rows) = false
go_on (code p s (c ∷ cs) ∷ rows) = ltb c 2 & go_on rows

-- the rows that go on by the bit b, without it
unfoldable pub by : ℕ → List Code → List Code
by b [] = []
by b (code p s [] ∷ rows) = by b rows
by b (code p s (c ∷ cs) ∷ rows) = elim (eqb c b) [ true ↦ code p s cs ∷ by b rows | false ↦ by b rows ]

-- the one row ends here, for the symbol s
unfoldable pub ends_for : ℕ → List Code → Bool
ends_for s [] = false
ends_for s (code p r [] ∷ []) = eqb r s & ltb s 128
ends_for s (code p r [] ∷ row ∷ rows) = false
ends_for s (code p r (c ∷ cs) ∷ rows) = false

-- node n of the tree u of m nodes, within k bits of the leaves below it
unfoldable pub agrees : ℕ → List ℕ → ℕ → ℕ → List Code → Bool
agrees zero u m n rows = false
agrees (suc k) u m n rows =
    ltb n m
    & go_on rows
    & elim (leb 128 (child u n 0)) [ true ↦ ends_for (child u n 0 - 128) (by 0 rows) | false ↦ agrees k u m (child u n 0) (by 0 rows) ]
    & elim (leb 128 (child u n 1)) [ true ↦ ends_for (child u n 1 - 128) (by 1 rows) | false ↦ agrees k u m (child u n 1) (by 1 rows) ]

-- a tree of two bytes 155: both children of the root are the escape
unfoldable pub pair155 : List ℕ → Bool
pair155 u = eqb (child u 0 0) 155 & eqb (child u 0 1) 155

-- one prior: its tree agrees with its rows, and is two bytes 155 exactly where the escape stands alone
unfoldable pub prior_agrees : ℕ → List ℕ → List Code → ℕ → Bool
prior_agrees k t list p =
    equal_bool (pair155 (tree t p)) (escape_alone (codes_of list p)) & agrees k (tree t p) (nodes t p) 0 (meant p (codes_of list p))

-- the first n priors
unfoldable pub priors_agree : ℕ → List ℕ → List Code → ℕ → Bool
priors_agree k t list zero = true
priors_agree k t list (suc p) = prior_agrees k t list p & priors_agree k t list p

-- the test of a table whose trees end within k bits
unfoldable pub table_agrees : ℕ → List ℕ → List Code → Bool
table_agrees k t list = priors_agree k t list 128
