-- `put_digits` meets its contract: the digits before the last two are those of a hundredth.
use Rattle.shown.proofs.PutLaws.{number_small, number_pair, number_more}
use Rattle.shown.proofs.put.+put_digits.Goals as goal

pub returns-then-x-lt10 : goal.returns-then-x-lt10
returns-then-x-lt10 t c = λ most h. number_small _ most h c.if-x-lt10.true (rw c.digit_of.ensures at c.put.ensures)

pub returns-then-x-lt100 : goal.returns-then-x-lt100
returns-then-x-lt100 t c = λ most h. number_pair _ most h c.if-x-lt10.false c.if-x-lt100.true c.put_pair.ensures

pub returns : goal.returns
returns t c = λ most h. number_more _ most h c.if-x-lt100.false c.put_digits-m.ensures c.put_pair-2.ensures
