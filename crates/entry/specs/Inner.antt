-- What functions over a section that was judged are lent, and hand on.
use Rattle.std.specs.Prelude.{ℕ, ◌≤◌, List, length, Result, Ok, Err}
use Rattle.entry.specs.declared.Entry.{Entry}
use Rattle.refusal.specs.declared.Refusal.{Refusal}
use Rattle.entry.specs.Entries.{first_entry}
use Rattle.entry.specs.Records.{start_of}

-- the body and the first entry begin within the bytes
pub record Begins (e : Entry) (s : List ℕ) : Type 0 where
  pub body : start_of e ≤ length s
  pub first : first_entry e s ≤ length s

-- a spot stands within the bytes
abbrev pub Inside : List ℕ → Result ℕ Refusal → Type 0
Inside s (Err k) = record {}
Inside s (Ok a) = a ≤ length s
