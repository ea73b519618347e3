-- `put_titles` meets its contract: the rows and units that are left lead to the answer.
use mathlib.Core.Path.{◌≡◌}
use Prim.Native.Nat.{◌-◌}
use native.Mathlib.Omega.{arith}
use Rattle.titles.proofs.TitlesLaws.{units_few, count_done, titles_first, row_room, units_room, titles_step, rows_done, units_done}
use Rattle.titles.proofs.put_titles.Goals as goal

pub loop-init : goal.loop-init
loop-init c = titles_first c.requires.0 c.requires.1 (omega arith)

pub put_title-n-requires : goal.put_title-n-requires
put_title-n-requires c =
    let l = c.loop.invariant in
    let r = c.requires in (
      l.count.events.begins,
      row_room l _ (omega arith) c.put_row-next.ensures.puts,
      omega (arith, l.count.leads, units_few _ _ _ r.0, r.0.small),
      units_room l (omega arith) r.2,
    )

pub loop-preserved : goal.loop-preserved
loop-preserved c =
    let e = c.put_row-next.ensures in
    let t = c.put_title-n.ensures in
    titles_step c.loop.invariant _ _ _ _ _ _ (omega arith) (omega arith) e.puts t.rows t.units e.next t.next

pub returns : goal.returns
returns c =
    let l = c.loop.invariant in
    let e : c.args.k - c.loop.counter ≡ 0 = omega arith in
    record { counts = count_done l.count e; rows = rows_done l e; units = units_done l e }
