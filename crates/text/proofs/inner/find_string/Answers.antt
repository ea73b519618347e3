-- `find_string` meets its contract.
use Rattle.text.proofs.TextLaws.{count_there, place_there, place_none, stands_bad, stands}
use Rattle.text.proofs.AmountLaws.{told_as, handed}
use Rattle.format.proofs.FieldLaws.{pad}
use Rattle.bytes_at.specs.Walks.{standing}
use Rattle.bytes_at.proofs.WalkLaws.{standing_is}
use Rattle.refusal.specs.Outcomes.{outcome}
use native.Mathlib.Omega.{arith}
use mathlib.Core.List.{[], ◌∷◌}
use mathlib.Core.Path.{ap, refl, ◌∙◌}
use Rattle.text.proofs.inner.find_string.Goals as goal

pub returns-then-count_strings-k : goal.returns-then-count_strings-k
returns-then-count_strings-k c = place_none _ _ _ _ (omega (arith, c.count_strings.ensures.0))

pub overflow_add-at : goal.overflow_add-at
overflow_add-at c = let a = c.args in
    let h = count_there a.s.now a.end a.at (omega (arith, c.count_strings.ensures.0)) in
    omega arith

pub returns-in_err-b : goal.returns-in_err-b
returns-in_err-b c =
    let w = told_as (c.standing.ensures ∙ ap standing c.strings.ensures) c.in_err-b.was in
    ap outcome (handed c.from_residual.ensures.1) ∙ place_there _ _ _ _ (omega (arith, c.count_strings.ensures.0)) (stands_bad _ _ _ w)

pub returns : goal.returns
returns c =
    let w = standing_is _ _ (told_as (c.standing.ensures ∙ ap standing c.strings.ensures) c.in_ok-b.was) in
    let v = c.standing-2.ensures ∙ ap standing (c.skip_fields.ensures ∙ pad 24 (8 ∷ []) 2 _ _) in
    place_there _ _ _ _ (omega (arith, c.count_strings.ensures.0)) (v ∙ stands _ _ _ _ w refl)
