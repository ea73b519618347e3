-- SCOPE 8.1, 8.4 and 8.6, step by step: what one step over the bytes in hand does: the record at their front, or where the run stands without one.
use Rattle.std.specs.Prelude.{ℕ, ◌+◌, ◌≡◌, Bool, true, false, List, [], length}
use Rattle.logic.specs.Choices.{if_lt, if_eq}
use Rattle.record.specs.Records.{head_size, to_come, whole}
use Rattle.lines.specs.Records.{last_line, record_lines, bad_lines}
use Rattle.shown.specs.Output.{Put}
use Rattle.listing.specs.declared.Input.{Input}
use Rattle.listing.specs.declared.Input.TheVariants.{More, Ended, Unread}
use Rattle.listing.specs.declared.Next.{Next}
use Rattle.listing.specs.declared.Next.TheVariants.{Record, Wait, Over}
use Rattle.listing.specs.declared.Stepped.{Stepped}

-- how many of the bytes in hand are done with, what is put, and what comes next
pub record Step : Type 0 where
  pub taken : ℕ
  pub lines : List ℕ
  pub next : Next

abbrev pub over : List ℕ → Step
over lines = record { taken = 0; lines = lines; next = Over }

-- the first bytes tell of more than is in hand, or are not all there
unfoldable pub short_step : ℕ → List ℕ → Input → Step
short_step n s More = record { taken = 0; lines = []; next = Wait }
short_step n s Ended = if_eq (length s) 0 (over (last_line n)) (over (bad_lines n))
short_step n s Unread = over (bad_lines n)

unfoldable pub full_step : ℕ → List ℕ → Bool → Step
full_step n s true = record { taken = head_size + to_come s; lines = record_lines n s; next = Record }
full_step n s false = over (bad_lines n)

unfoldable pub step_of : ℕ → List ℕ → Input → Step
step_of n s i = if_lt (length s) (head_size + to_come s) (short_step n s i) (full_step n s (whole s))

-- an answer tells a step whose lines were put into the output l, which is then e
pub record Tells (x : Step) (l : List ℕ) (r : Stepped) (e : List ℕ) : Type 0 where
  pub puts : Put x.lines l 0 r.put e
  pub taken : r.taken ≡ x.taken
  pub next : r.next ≡ x.next
