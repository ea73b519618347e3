-- `free_place` meets its contract: what is found has no other before it.
use mathlib.Core.Bool.{not}
use mathlib.Core.Path.{◌∙◌}
use Rattle.std.proofs.Common.{rules, tests}
use Rattle.std.proofs.lemmas.Iterator.{YieldsList-from_slice}
use Rattle.std.proofs.lemmas.Iterator.Search.{position_from_yields_List}
use Rattle.shelf_state.proofs.SearchLaws.{sought}
use Rattle.shelf_state.specs.Records.{blank_place}
use Rattle.shelf_state.proofs.inner.free_place.Goals as goal

pub returns : goal.returns
returns c = let l = c.args.ps.now in
    c.unwrap_or.ensures ∙ sought (λ p. not p.used) blank_place l (position_from_yields_List _ _ _ _ c.position.ensures.ran (YieldsList-from_slice l cc) (λ x b q k. search (rules, tests)))
