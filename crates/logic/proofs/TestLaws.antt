-- What code joins by `&&`, `||` and `!` is what definitions join by `&` and `⇒`.
use mathlib.Core.Path.{◌≡◌, refl, sym}
use mathlib.Core.Bool.{Bool, false, not, true, ◌&&◌, ◌||◌}
use Rattle.std.proofs.lemmas.Bool.Decides.{nat_tests}
use Rattle.logic.specs.Loops.{◌&◌, ◌⇒◌}

pub and_is : (a b : Bool) → (a & b) ≡ (a && b)
unfolding ◌&◌
and_is true b = refl
and_is false b = refl

pub if_is : (a b : Bool) → (a ⇒ b) ≡ (not a || b)
unfolding ◌⇒◌
if_is true b = refl
if_is false b = refl

-- a test that is not failed is met
pub not_no : (b : Bool) → not b ≡ false → b ≡ true
not_no true e = refl
not_no false e = sym e

pub ruleset joined = (nat_tests, and_is, if_is)
