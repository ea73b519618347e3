-- `read_text` meets its contract.
use native.Mathlib.Omega.{arith}
use Rattle.format.specs.Laws.OfBytes.{part_bytes}
use Rattle.text.proofs.AmountLaws.{replaced_few}
use Rattle.titles.specs.Titles.{told_of}
use Rattle.titles.proofs.ReadLaws.{read_found}
use Rattle.titles.proofs.title.read_text.Goals as goal

pub returns : goal.returns
unfolding told_of
returns c =
    let e = rw c.part_of-f.ensures at c.string_read.ensures in
    let a = c.args in
    read_found _ _ _ _ c.told-o (replaced_few _ (part_bytes a.s.now a.p.length a.p.start (λ i. omega (arith, c.type_inv.s i))) _ 0 0) _ e
