-- `store` meets its contract: the first i units are stored.
use Rattle.text.specs.Inner.{plain_pairs}
use Rattle.segment.proofs.TextLaws.{copied, sets_past}
use lib.Seq.{sets}
use lib.ListN.{length, take, set}
use native.Mathlib.Omega.{arith}
use Prim.Native.Nat.{ℕ, ◌+◌, ◌<◌}
use mathlib.Core.List.{List}
use mathlib.Core.Path.{ap, ◌∙◌}
use Rattle.text.proofs.segments.store.Goals as goal

pub returns-then-out-n : goal.returns-then-out-n
returns-then-out-n c = let a = c.args in sets_past (take a.k (plain_pairs a.wide a.s.now)) a.out.now a.n c.if-out-n.true

pub loop-i-preserved : goal.loop-i-preserved
loop-i-preserved c = let q = c.loop-i in
    let a = c.args in
    let us = plain_pairs a.wide a.s.now in
    let h : q.i < length (plain_pairs a.wide a.s.now) = omega (arith, c.requires.1) in
    c.put_unit.ensures ∙ ap (λ (l : List ℕ). set l (a.n + q.i) c.unit_at.result) q.invariant
    ∙ ap (λ (u : ℕ). set (sets a.out.now a.n (take q.i us)) (a.n + q.i) u) c.unit_at.ensures
    ∙ copied a.out.now us a.n q.i h
