-- SCOPE 8, as the program runs: input that comes in pieces; a piece is put behind what is in hand, and steps are taken until more input is needed.
use Rattle.std.specs.Prelude.{ℕ, zero, suc, List, [], ◌∷◌, ◌++◌, length, drop}
use Rattle.lines.specs.Records.{first_line}
use Rattle.listing.specs.Listing.{Ending, ended, unread}
use Rattle.listing.specs.Steps.{Step, step_of}
use Rattle.listing.specs.declared.Input.{Input}
use Rattle.listing.specs.declared.Input.TheVariants.{More, Ended, Unread}
use Rattle.listing.specs.declared.Next.{Next}
use Rattle.listing.specs.declared.Next.TheVariants.{Record, Wait, Over}

-- after some steps: what they put, the number of the next record, what is in hand, and what comes next
pub record Steps : Type 0 where
  pub lines : List ℕ
  pub number : ℕ
  pub held : List ℕ
  pub next : Next

-- a step, and behind one that took a record the steps that follow it
unfoldable pub going_on : ℕ → List ℕ → Step → Next → Steps → Steps
going_on n s x Record r = record { lines = x.lines ++ r.lines; number = r.number; held = r.held; next = r.next }
going_on n s x Wait r = record { lines = x.lines; number = n; held = s; next = Wait }
going_on n s x Over r = record { lines = x.lines; number = n; held = s; next = Over }

-- steps while they take records, at most `most`: a record has bytes, so one more than there are bytes is enough
unfoldable pub steps_of : ℕ → ℕ → List ℕ → Input → Steps
steps_of zero n s i = record { lines = []; number = n; held = s; next = Record }
steps_of (suc most) n s i = going_on n s (step_of n s i) (step_of n s i).next (steps_of most (suc n) (drop (step_of n s i).taken s) i)

abbrev pub all_steps : ℕ → List ℕ → Input → Steps
all_steps n s i = steps_of (suc (length s)) n s i

-- once the run is over, no more is read
abbrev pub unless_over : Next → List ℕ → List ℕ
unless_over Record l = l
unless_over Wait l = l
unless_over Over l = []

-- what a step is told at the end
abbrev pub told_by : Ending → Input
told_by ended = Ended
told_by unread = Unread

unfoldable pub run_from : ℕ → List ℕ → List (List ℕ) → Ending → List ℕ
run_from n s [] e = (all_steps n s (told_by e)).lines
run_from n s (p ∷ ps) e =
    let r = all_steps n (s ++ p) More in
    r.lines ++ unless_over r.next (run_from r.number r.held ps e)

unfoldable pub runs : List (List ℕ) → Ending → List ℕ
runs ps e = first_line ++ run_from 0 [] ps e

-- the pieces as one input
abbrev pub whole_input : List (List ℕ) → List ℕ
whole_input [] = []
whole_input (p ∷ ps) = p ++ whole_input ps
