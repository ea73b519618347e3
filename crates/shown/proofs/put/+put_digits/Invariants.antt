-- The number falls at each call of `put_digits`.
use Rattle.shown.proofs.put.+put_digits.Given as goal

abbrev pub decreases-put_digits : goal.decreases-put_digits
decreases-put_digits l = l.x
