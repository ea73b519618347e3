-- `rows_in` meets its contract: 12, or the rows.
use native.Mathlib.Nat.{mul-le-mul}
use native.Mathlib.Omega.{arith}
use Rattle.rows.proofs.RowsLaws.{count_small, no_room, enough_room}
use Rattle.rows.proofs.rows_in.Goals as goal

pub overflow_mul-width_of : goal.overflow_mul-width_of
overflow_mul-width_of c =
    let n = c.count_of-n.ensures in
    let h = count_small c.args.entry c.args.s.now (λ i. omega (arith, c.shared_slice_known-1.given i)) in
    omega (arith, mul-le-mul {n₁ = c.width_of.result} {m₁ = c.count_of-n.result} {n₂ = 21} {m₂ = 65535} c.width_of.ensures.1 (omega (arith, n, h)))

pub returns-then-out-width_of : goal.returns-then-out-width_of
returns-then-out-width_of c =
    let n = c.count_of-n.ensures in
    let a = c.args in
    let ends = no_room a.entry a.s.now a.out.now _ _ c.width_of.ensures.0 n c.if-out-width_of.true in record { told = ends.0; put = ends.1 }

pub returns : goal.returns
returns c =
    let n = c.count_of-n.ensures in
    let b = c.first_of.ensures in
    let a = c.args in
    let ends = enough_room a.entry a.s.now a.out.now _ _ c.width_of.ensures.0 n _ _ c.if-out-width_of.false b c.put_rows.ensures in record { told = ends.0; put = ends.1 }
