-- The two decode tables of annex C by one name: that of titles, or that of descriptions; and the same as words of eight bytes.
use Rattle.std.specs.Prelude.{ℕ, Bool, true, false, List}
use Rattle.annex_c.specs.Table1.{table1}
use Rattle.annex_c.specs.Table2.{table2}
use Rattle.trees.specs.Words1.{words1}
use Rattle.trees.specs.Words2.{words2}

unfoldable pub table_of : Bool → List ℕ
table_of true = table1
table_of false = table2

unfoldable pub words_of : Bool → List ℕ
words_of true = words1
words_of false = words2
