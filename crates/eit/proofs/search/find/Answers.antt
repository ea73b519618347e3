-- `find` meets its contract.
use Prim.Native.Nat.{◌-◌}
use mathlib.Core.Path.{sym, ◌∙◌}
use native.Mathlib.Omega.{arith}
use Rattle.eit.proofs.HeadLaws.{id_is}
use Rattle.eit.proofs.EventsLaws.{one_less, events_step, find_here, find_next, find_none}
use Rattle.eit.proofs.search.find.Goals as goal

pub returns-then-word-id : goal.returns-then-word-id
returns-then-word-id c = let l = c.loop in
    find_here _ _ (c.args.n - l.counter) l.a (omega arith) (sym (id_is _ _ c.word.ensures.1.1) ∙ omega arith) ∙ l.invariant.1

pub loop-preserved : goal.loop-preserved
loop-preserved c = let l = c.loop in
    let s = c.args.s.now in
    let n = c.args.n - l.counter in
    rw (c.event_end-a.ensures, one_less c.args.n l.counter) (
      events_step s n l.a l.invariant.0 (omega arith),
      find_next _ _ n l.a (omega arith) (λ f. omega (arith, id_is s l.a c.word.ensures.1.1)) ∙ l.invariant.1,
    )

pub returns : goal.returns
returns c = find_none _ _ (c.args.n - c.loop.counter) _ (omega arith) ∙ c.loop.invariant.1
