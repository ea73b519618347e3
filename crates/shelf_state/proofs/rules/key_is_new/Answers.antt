-- `key_is_new` meets its contract: the first watch with the key is not below i.
use mathlib.Core.Path.{refl}
use native.Mathlib.Omega.{arith}
use lib.Seq.{length-take-le}
use Rattle.logic.proofs.LoopLaws.{not_any_first}
use Rattle.shelf_state.proofs.SearchLaws.{watch_found}
use Rattle.logic.proofs.TestLaws.{if_is}
use Rattle.shelf_state.specs.Tests.{key_is_new}
use Rattle.shelf_state.proofs.rules.key_is_new.Goals as goal

pub returns-else-not-w : goal.returns-else-not-w
unfolding key_is_new
returns-else-not-w c = rw (if_is, c.if-not-w.false, ← c.asked_of.ensures, c.find_watch.ensures, watch_found c.args.ws.now c.args.i (refl, length-take-le _ _ (omega (arith, c.requires)))) (not_any_first _ _)
