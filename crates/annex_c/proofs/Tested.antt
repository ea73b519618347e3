-- The two tables pass the test, which antt computes, and so each means what its printed list says.
use mathlib.Core.Path.{◌≡◌, refl}
use mathlib.Core.Bool.{true}
use Rattle.logic.specs.Loops.{◌&◌}
use Rattle.logic.specs.Inner.{equal_bool}
use Rattle.annex_c.specs.Codes.{codes_of, escape_alone, meant}
use Rattle.annex_c.specs.Tree.{root, tree, nodes, child}
use Rattle.annex_c.specs.Test.{go_on, by, ends_for, agrees, pair155, prior_agrees, priors_agree, table_agrees}
use Rattle.annex_c.specs.Meaning.{Means}
use Rattle.annex_c.specs.Table1.{table1}
use Rattle.annex_c.specs.Table2.{table2}
use Rattle.annex_c.specs.Printed1.{printed1}
use Rattle.annex_c.specs.Printed2.{printed2}
use Rattle.annex_c.proofs.TestLaws.{means}

tested1 : table_agrees 10 table1 printed1 ≡ true
unfolding table1 printed1 ◌&◌ codes_of escape_alone meant root tree nodes child go_on by ends_for agrees equal_bool pair155 prior_agrees priors_agree table_agrees
tested1 = refl

tested2 : table_agrees 11 table2 printed2 ≡ true
unfolding table2 printed2 ◌&◌ codes_of escape_alone meant root tree nodes child go_on by ends_for agrees equal_bool pair155 prior_agrees priors_agree table_agrees
tested2 = refl

-- type 1: titles
pub titles_mean : Means table1 10 printed1
titles_mean = means 10 table1 printed1 tested1

-- type 2: descriptions
pub descriptions_mean : Means table2 11 printed2
descriptions_mean = means 11 table2 printed2 tested2
