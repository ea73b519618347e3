-- `put_title` meets its contract.
use native.Mathlib.Omega.{arith}
use Rattle.titles.proofs.ReadLaws.{count_told_lem, row_told, units_told_lem}
use Rattle.titles.proofs.title.put_title.Goals as goal

pub copy_units-requires : goal.copy_units-requires
copy_units-requires c =
    let r = c.read_title-t.ensures in
    let k = c.units_of-k.ensures in
    (omega (arith, k, r.few), omega (arith, k, count_told_lem r c.read_title-t.array_long, c.requires.3))

pub returns : goal.returns
returns c =
    let r = c.read_title-t.ensures in
    let l = c.read_title-t.array_long in
    let k = c.units_of-k.ensures in record { next = omega (arith, k, count_told_lem r l); rows = rw (row_told r l _) at c.put_found.ensures; units = rw (k, units_told_lem r l) at c.copy_units.ensures }
