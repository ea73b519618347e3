-- `spot_past` meets its contract.
use borrow.Author.Rules.{rules}
use mathlib.Core.Path.{sym, ap, ◌∙◌}
use Rattle.bytes_at.specs.Walks.{standing}
use Rattle.entry.proofs.EntryLaws.{entries_inside, placed}
use Rattle.entry.proofs.spot_past.Goals as goal

pub returns : goal.returns
returns c =
    let a = c.args in
    let e = c.past.ensures in
    let p = placed a.s.now _ _ _ (λ x k p. search rules) (λ b q. entries_inside a.entry a.s.now a.i b c.requires (sym e ∙ q)) c.map_err.ensures.cases in
    (p.0 ∙ ap standing e, p.1)
