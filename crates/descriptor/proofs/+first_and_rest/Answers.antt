-- `first_and_rest` meets its contract: the bytes left fall at each call.
use Prim.Native.Nat.{◌-◌}
use mathlib.Core.Path.{sym, ◌∙◌}
use native.Mathlib.Omega.{arith}
use Rattle.bytes_at.proofs.WalkLaws.{exit, seq_to}
use Rattle.format.proofs.RepeatLaws.{list_none, list_first}
use Rattle.descriptor.proofs.ListLaws.{descriptor_forward}
use Rattle.descriptor.proofs.+first_and_rest.Goals as goal

pub returns-then-end-at : goal.returns-then-end-at
returns-then-end-at t c = λ f h. c.at_end.ensures ∙ list_none _ f _ _ c.if-end-at.true

pub returns-in_err-e : goal.returns-in_err-e
returns-in_err-e t c = λ f h.
    exit _ c.from_residual.ensures.1 c.one_descriptor.ensures c.in_err-e.was ∙ list_first _ f _ _ c.if-end-at.false h

pub first_and_rest-requires : goal.first_and_rest-requires
first_and_rest-requires t c =
    omega (arith, c.if-end-at.false, descriptor_forward _ _ _ _ _ (sym c.one_descriptor.ensures ∙ c.in_ok-e.was))

pub returns : goal.returns
returns t c = λ f h.
    let l = descriptor_forward _ _ _ _ _ (sym c.one_descriptor.ensures ∙ c.in_ok-e.was) in
    seq_to _ c.one_descriptor.ensures c.in_ok-e.was (c.first_and_rest.ensures (f - 1) (omega (arith, l)))
    ∙ list_first _ f _ _ c.if-end-at.false h
