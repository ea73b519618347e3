-- `segment_through` meets its contract: the units go from the array to the output.
use Rattle.text.proofs.FewLaws.{segment_room}
use Rattle.text.proofs.AmountLaws.{handed}
use Rattle.text.proofs.PassLaws.{through_units, through_few, through_refused}
use Prim.Native.Nat.{◌+◌}
use native.Mathlib.Omega.{arith}
use Rattle.text.proofs.once.segment_through.Goals as goal

pub returns-in_err-k : goal.returns-in_err-k
returns-in_err-k c =
    let a = c.args in
    let w = c.segment_once.ensures in
    through_refused w a.out.now a.n (handed c.from_residual.ensures.1) c.in_err-k.was

pub copy-requires : goal.copy-requires
copy-requires c =
    let a = c.args in
    let w = c.segment_once.ensures in
    let room = segment_room a.s.now a.at (omega (arith, c.type_inv.s (a.at + 2))) in
    omega (arith, through_few w a.out.now a.n _ room c.in_ok-k.was, c.segment_once.array_long)

pub returns : goal.returns
returns c =
    let a = c.args in
    let w = c.segment_once.ensures in
    let room = segment_room a.s.now a.at (omega (arith, c.type_inv.s (a.at + 2))) in
    through_units w a.out.now a.n _ _ c.told-o room c.in_ok-k.was c.copy.ensures
