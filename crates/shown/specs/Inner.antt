-- What the private functions are lent and hand on.
use Rattle.std.specs.Prelude.{ℕ, ◌≤◌, ◌<◌, List, length, take, Result, Ok, Err}
use Rattle.part.specs.Parts.{end_of}
use Rattle.refusal.specs.Numbers.{number_of}
use Rattle.refusal.specs.Outcomes.{Outcome, refused, resulted}
use Rattle.eit.specs.declared.event.Title.{Title}
use Rattle.eit.specs.declared.event.Title.TheVariants.{None, NoStrings, Text}
use Rattle.refusal.specs.declared.Refusal.{Refusal}
use Rattle.text.specs.declared.answer.Amount.{Amount}

-- a title that stands within so many bytes, and whose length has 8 bits
abbrev pub Placed : ℕ → Title → Type 0
Placed size None = record {}
Placed size NoStrings = record {}
Placed size (Text p) = (end_of p ≤ size) × (p.length < 256)

-- the text that an answer tells, its units at the list's start, and that it stands there
unfoldable pub told : Result Amount Refusal → List ℕ → Outcome (List ℕ)
told (Err k) us = refused (number_of k)
told (Ok a) us = resulted (take a.units us)

abbrev pub Fits : Result Amount Refusal → List ℕ → Type 0
Fits (Err k) us = record {}
Fits (Ok a) us = a.units ≤ length us
