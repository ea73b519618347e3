-- `progress_of` meets its contract.
use mathlib.Core.Path.{◌∙◌}
use native.Mathlib.Omega.{arith}
use Rattle.logic.proofs.LoopLaws.{not_e}
use Rattle.shelf_state.proofs.SearchLaws.{held_same}
use Rattle.logic.proofs.TestLaws.{not_no}
use Rattle.shelf.proofs.CallLaws.{status_complete, status_part, status_unheard}
use Rattle.shelf.proofs.inner.progress_of.Goals as goal

pub returns-then-not-e : goal.returns-then-not-e
returns-then-not-e c = status_unheard _ _ (not_e _ c.if-not-e.true)

pub returns-then-held-of : goal.returns-then-held-of
returns-then-held-of c = status_complete _ _ _ _ (not_no _ c.if-not-e.false) (c.held_in-held.ensures ∙ held_same _ _ c.places_in_use.ensures _ ∙ c.requires.2) (omega (arith, c.from-of.ensures)) c.if-held-of.true

pub returns : goal.returns
returns c = status_part _ _ _ _ (not_no _ c.if-not-e.false) (c.held_in-held.ensures ∙ held_same _ _ c.places_in_use.ensures _ ∙ c.requires.2) (omega (arith, c.from-of.ensures)) c.if-held-of.false
