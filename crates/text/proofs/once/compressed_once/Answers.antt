-- `compressed_once` meets its contract.
use Rattle.text.proofs.PassLaws.{once_after, once_text, once_broken}
use Rattle.refusal.specs.declared.Refusal.TheVariants.{BrokenText}
use Rattle.annex_c.specs.Tree.{walked}
use Rattle.trees.specs.Which.{table_of}
use native.Mathlib.Omega.{arith}
use mathlib.Core.Path.{refl}
use Rattle.text.proofs.once.compressed_once.Goals as goal

pub overflow_sub-result : goal.overflow_sub-result
overflow_sub-result c =
    let a = c.args in
    omega (arith, once_after (walked (table_of a.titles)) a.s.now _ _ a.n _ c.requires.1 c.read-r.ensures c.if-r-lt4096.true)

pub returns-then-r-lt4096 : goal.returns-then-r-lt4096
returns-then-r-lt4096 c =
    let a = c.args in
    once_text (walked (table_of a.titles)) a.s.now _ _ a.n _ c.requires.1 c.read-r.ensures c.if-r-lt4096.true

pub returns-else-r-lt4096 : goal.returns-else-r-lt4096
returns-else-r-lt4096 c =
    let a = c.args in
    once_broken (walked (table_of a.titles)) a.s.now _ _ a.n _ c.requires.1 c.read-r.ensures BrokenText refl c.if-r-lt4096.false
