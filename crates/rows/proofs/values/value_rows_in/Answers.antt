-- `value_rows_in` meets its contract: 12, or the rows.
use native.Mathlib.Omega.{arith}
use Rattle.rows.proofs.ValuesLaws.{dimensions_few, values_short, values_fit}
use Rattle.rows.proofs.values.value_rows_in.Goals as goal

pub count_values-count-requires : goal.count_values-count-requires
count_values-count-requires c =
    let n = c.count_of-n.ensures in
    let few = dimensions_few c.args.s.now (λ i. omega (arith, c.shared_slice_known-1.given i)) in
    (omega (arith, n, few), rw (n, c.first_of-from.ensures) c.requires.1)

pub returns-then-out-count : goal.returns-then-out-count
returns-then-out-count c =
    let a = c.args in
    let e = rw (c.count_of-n.ensures, c.first_of-from.ensures) at c.count_values-count.ensures.0 in
    let ends = values_short a.s.now a.out.now _ e c.if-out-count.true in record { told = ends.0; put = ends.1 }

pub put_dimensions-requires : goal.put_dimensions-requires
put_dimensions-requires c =
    let n = c.count_of-n.ensures in
    let few = dimensions_few c.args.s.now (λ i. omega (arith, c.shared_slice_known-1.given i)) in
    ((omega (arith, n, few), rw (n, c.first_of-from.ensures) c.requires.1), rw (← c.count_values-count.ensures.0) c.if-out-count.false)

pub returns : goal.returns
returns c =
    let a = c.args in
    let n = c.count_of-n.ensures in
    let e = rw (n, c.first_of-from.ensures) at c.count_values-count.ensures.0 in
    let p = rw (n, c.first_of-from.ensures) at c.put_dimensions.ensures in
    let ends = values_fit a.s.now a.out.now _ e _ c.if-out-count.false p in record { told = ends.0; put = ends.1 }
