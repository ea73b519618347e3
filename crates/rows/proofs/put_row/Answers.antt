-- `put_row` meets its contract: the row of each table is stored by its own room.
use mathlib.Core.Path.{subst}
use native.Mathlib.Omega.{arith}
use Rattle.rows.specs.Rows.{row_at, next_at}
use Rattle.rows.specs.Inner.{Entries}
use Rattle.rows.proofs.RowsLaws.{dimension_stands}
use Rattle.rows.proofs.put_row.Goals as goal

pub put_row-requires-in-Dimension : goal.put_row-requires-in-Dimension
put_row-requires-in-Dimension c =
    let r = c.requires in
    let e = c.in-Dimension.is in
    ((dimension_stands _ 1 _ (omega arith) (subst (λ x. Entries x c.args.s.now 1 c.args.a) e r.0), r.0.small), rw e at r.1)

pub returns-in-Table : goal.returns-in-Table
unfolding row_at next_at
returns-in-Table c =
    let e = c.in-Table.is in
    let q = c.put_row.ensures in
    record { next = rw e q.next; puts = rw e q.puts }

pub returns-in-Channel : goal.returns-in-Channel
unfolding row_at next_at
returns-in-Channel c =
    let e = c.in-Channel.is in
    let q = c.put_row-in-Channel.ensures in
    record { next = rw e q.next; puts = rw e q.puts }

pub returns-in-Dimension : goal.returns-in-Dimension
unfolding row_at next_at
returns-in-Dimension c =
    let e = c.in-Dimension.is in
    let q = c.put_row-in-Dimension.ensures in
    record { next = rw e q.next; puts = rw e q.puts }

pub returns-in-Event : goal.returns-in-Event
unfolding row_at next_at
returns-in-Event c =
    let e = c.in-Event.is in
    let q = c.put_row-in-Event.ensures in
    record { next = rw e q.next; puts = rw e q.puts }
