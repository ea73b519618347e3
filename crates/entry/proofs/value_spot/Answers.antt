-- `value_spot` meets its contract.
use borrow.Author.Rules.{rules}
use Prim.Native.Nat.{◌<◌}
use mathlib.Core.Path.{sym, ap, ◌∙◌}
use native.Mathlib.Omega.{arith}
use Rattle.bytes_at.specs.Walks.{standing}
use Rattle.rrt.specs.Fields.{values_at}
use Rattle.entry.proofs.EntryLaws.{placed}
use Rattle.entry.proofs.ValueLaws.{values_inside, value_there, value_none}
use Rattle.entry.proofs.value_spot.Goals as goal

pub returns-then-j-values : goal.returns-then-j-values
returns-then-j-values c = (value_none _ _ _ (omega (arith, c.if-j-values.true, c.values.ensures.0)), record {})

pub returns : goal.returns
returns c =
    let a = c.args in
    let l : a.j < values_at a.s.now a.d = omega (arith, c.if-j-values.false, c.values.ensures.0) in
    let e = rw (c.first_value.ensures, c.body_end.ensures) at c.past_values.ensures in
    let p = placed a.s.now _ _ _ (λ x k p. search rules) (λ b q. values_inside a.s.now a.d a.j b l (sym e ∙ q)) c.map_err.ensures.cases in
    (value_there _ _ _ l (p.0 ∙ ap standing e), p.1)
