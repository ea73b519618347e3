-- What the program's functions hand on: the bytes in hand, and how the input stands.
use Rattle.std.specs.Prelude.{ℕ, zero, suc, ◌-◌, ◌≤◌, ◌<◌, ◌≡◌, List, length, take, drop, ℤ, pos, negsuc, Result, Ok, Err}
use Rattle.listing.specs.declared.Input.{Input}
use Rattle.listing.specs.declared.Input.TheVariants.{More, Ended}
use Rattle.listing.specs.declared.Next.TheVariants.{Wait}
use Rattle.listing.specs.Runs.{all_steps}
use Rattle.lister.specs.declared.Hand.{Hand}
use Rattle.lister.specs.declared.Answered.{Answered}

-- the bytes of the room from one place up to another
abbrev pub in_hand : List ℕ → ℕ → ℕ → List ℕ
in_hand room from to = take (to - from) (drop from room)

-- a read as the number that C tells of it: how many bytes came, or one below 0 where it failed
abbrev pub told_read : {E : Type 0} → Result ℕ E → ℤ
told_read (Ok n) = pos n
told_read (Err e) = negsuc zero

-- SCOPE 8.6: what a read means for the input. One that fails is no end
abbrev pub ReadMeans : ℤ → Input → Type 0
ReadMeans (pos zero) i = i ≡ Ended
ReadMeans (pos (suc k)) i = i ≡ More
ReadMeans (negsuc k) i = i ≡ Ended → ⊥

-- behind what was in hand in the room l stands what was read, in the room e
pub record Fetched (l : List ℕ) (from to : ℕ) (h : Hand) (e : List ℕ) : Type 0 where
  pub begins : h.from ≤ h.to
  pub within : h.to ≤ length e
  pub size : length e ≡ length l
  pub kept : take (to - from) (in_hand e h.from h.to) ≡ in_hand l from to

-- where the run goes on, all steps were taken that the bytes in hand allow
pub record StepsTaken (n : ℕ) (s : List ℕ) (i : Input) (r : Answered) : Type 0 where
  pub within : r.taken ≤ length s
  pub few : length s - r.taken < 4102
  pub number : (all_steps n s i).number ≡ r.number
  pub held : (all_steps n s i).held ≡ drop r.taken s
  pub next : (all_steps n s i).next ≡ Wait
