-- What is asked of a watch by its record is told by its view.
use mathlib.Core.Path.{ap, sym}
use mathlib.Core.Bool.{not}
use Rattle.logic.proofs.LoopLaws.{first_cong}
use Rattle.shelf.proofs.InnerLaws.{kept_view}
use Rattle.shelf.specs.Inner.{lowest_missing}
use Rattle.shelf.specs.Views.{view_at}
use Rattle.shelf_laws.proofs.ViewLaws.{kept_held}
use Rattle.shelf_laws.specs.Inner.{KeptByView, MissingByView}

pub kept_by_view : KeptByView
unfolding view_at
kept_by_view = kept_view

pub missing_by_view : MissingByView
unfolding lowest_missing view_at
missing_by_view s area w = first_cong _ _ _ (λ m _. ap not (sym (kept_held s area w m)))
