-- `fresh_watch` meets its contract: what is in range fits the narrow record.
use native.Mathlib.Omega.{arith}
use Rattle.shelf_state.proofs.RuleLaws.{in_range_lem}
use Rattle.shelf.proofs.calls.fresh_watch.Goals as goal

pub key_of-requires : goal.key_of-requires
key_of-requires c = let r = in_range_lem _ _ c.requires in (omega (arith, r.pid_13), r.id_8)

pub overflow_cast-result : goal.overflow_cast-result
overflow_cast-result c = omega (arith, (in_range_lem _ _ c.requires).quota_64)
