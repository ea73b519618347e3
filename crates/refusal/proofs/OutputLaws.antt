-- What the number of those that were stored says of them.
use mathlib.Core.Path.{◌≡◌, refl, sym, ap}
use mathlib.Core.List.{List}
use Prim.Native.Nat.{ℕ}
use lib.ListN.{length}
use Rattle.refusal.specs.Outcomes.{Outcome, refused, resulted, after}
use Rattle.refusal.proofs.OutcomeLaws.{same_result, not_both}
use Rattle.refusal.specs.Outputs.{counted}

pub counted_result : (us : List ℕ) → counted (resulted us) ≡ resulted (length us)
unfolding counted after
counted_result us = refl

pub counted_refused : (n : ℕ) → counted (refused n) ≡ refused n
unfolding counted after
counted_refused n = refl

-- a number was answered: there are so many
pub from_number : (x : Outcome (List ℕ)) (n : ℕ) → resulted n ≡ counted x → (us : List ℕ) × ((x ≡ resulted us) × (n ≡ length us))
unfolding counted after
from_number (refused k) n e = not_both k n (sym e)
from_number (resulted us) n e = (us, (refl, same_result n (length us) e))

-- a refusal was answered: it is that of what was to be stored
pub from_refusal : (x : Outcome (List ℕ)) (n : ℕ) → refused n ≡ counted x → x ≡ refused n
unfolding counted after
from_refusal (refused k) n e = let q : k ≡ n = cc in ap refused q
from_refusal (resulted us) n e = not_both n (length us) e
