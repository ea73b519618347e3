-- `defined_at` meets its contract: what is read is the numbers that the format names.
use Rattle.mgt.specs.Fields.{descriptors_at, defined_at}
use Rattle.mgt.proofs.HeadLaws.{numbers_are}
use Rattle.mgt.proofs.defined.defined_at.Goals as goal

pub returns : goal.returns
unfolding defined_at
returns c =
    let a = c.args in
    rw c.descriptors_at-descriptors.ensures.0
    (numbers_are (λ t p v n. record { table_type = t; pid = p; version = v; number_bytes = n; descriptors = descriptors_at a.s.now a.a }) _ _ c.word.ensures.1.1 c.word-2.ensures.1.1
    c.byte.ensures.1.1 c.long.ensures.1.1)
