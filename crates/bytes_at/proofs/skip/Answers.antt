-- `skip` meets its contract.
use native.Mathlib.Omega.{arith}
use Prim.Native.Nat.{◌+◌, ◌<◌}
use Rattle.bytes_at.proofs.WalkLaws.{skip_fits, skip_past}
use Rattle.bytes_at.proofs.skip.Goals.{else-at-end-via-then-at-end+else-n-end, else-at-end-via-else-at-end}
use Rattle.bytes_at.proofs.skip.Goals as goal

pub returns-then-n-end : goal.returns-then-n-end
returns-then-n-end c = skip_fits _ _ _ _ (omega arith)

pub returns-else-at-end : goal.returns-else-at-end
returns-else-at-end c =
    let past : c.args.end < c.args.at + c.args.n = elim c.else-at-end.branch [
      | else-at-end-via-then-at-end+else-n-end w ↦ omega (arith, w.if-n-end)
      | else-at-end-via-else-at-end w ↦ omega (arith, w.if-at-end)
    ] in
    skip_past _ _ _ _ _ past c.saturating_sub.ensures
