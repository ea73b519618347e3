-- `find_watch` meets its contract: what is found has no other before it.
use mathlib.Core.Path.{◌∙◌}
use Rattle.std.proofs.Common.{rules, tests}
use Rattle.std.proofs.lemmas.Iterator.{YieldsList-from_slice}
use Rattle.std.proofs.lemmas.Iterator.Search.{position_from_yields_List}
use Rattle.shelf_state.proofs.SearchLaws.{sought}
use Rattle.shelf_state.specs.Records.{blank_watch, is_of}
use Rattle.shelf_state.proofs.inner.find_watch.Goals as goal

pub returns : goal.returns
returns c = let l = c.args.ws.now in
    c.unwrap_or.ensures ∙ sought (λ w. is_of w c.args.a) blank_watch l (position_from_yields_List _ _ _ _ c.position.ensures.ran (YieldsList-from_slice l cc) (λ x b q k. search (rules, tests)))
