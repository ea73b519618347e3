-- `answer` meets its contract: the steps that are left lead where all of them lead.
use native.Mathlib.Omega.{arith}
use Rattle.lister.proofs.AnswerLaws.{takes, a_record_on, stands}
use Rattle.lister.proofs.answer.Goals as goal

pub overflow_add-at : goal.overflow_add-at
overflow_add-at g c =
    let t = takes _ _ _ _ c.step-s.ensures c.in-Record.is c.loop-n.invariant.0 in omega arith

pub loop-n-preserved : goal.loop-n-preserved
loop-n-preserved g c =
    let u = c.step-s.ensures in let q = c.in-Record.is in
    (takes _ _ _ _ u q c.loop-n.invariant.0, a_record_on _ _ _ _ u _ q c.loop-n.invariant.1)

pub returns-in-Wait : goal.returns-in-Wait
returns-in-Wait g c =
    stands _ _ _ _ c.step-s.ensures _ c.in-Wait.is c.loop-n.invariant.0 c.loop-n.invariant.1
