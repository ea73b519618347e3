-- SCOPE 6.1 and 12.3: every call ends in a result or in one numbered refusal. What a call answers, in these numbers and values.
use Rattle.std.specs.Prelude.{ℕ, Bool, true, false, Option, None, Some, Result, Ok, Err}
use Rattle.refusal.specs.declared.Refusal.{Refusal}
use Rattle.refusal.specs.Numbers.{number_of}

pub data Outcome (A : Type 0) : Type 0 where
  refused : ℕ → Outcome A
  resulted : A → Outcome A

-- what an answer of the code means: its value as f reads it, or its refusal by the number
abbrev pub outcome_by : {A B : Type 0} → (A → B) → Result A Refusal → Outcome B
outcome_by f (Ok a) = resulted (f a)
outcome_by f (Err k) = refused (number_of k)

-- the same where the value is told as it is
abbrev pub outcome : {A : Type 0} → Result A Refusal → Outcome A
outcome (Ok a) = resulted a
outcome (Err k) = refused (number_of k)

-- what comes after a call that was not refused; a refusal's number goes out as it is
unfoldable pub after : {A B : Type 0} → Outcome A → (A → Outcome B) → Outcome B
after (refused n) k = refused n
after (resulted a) k = k a

-- a refusal is given exactly where its test fails and none before it did
unfoldable pub or_refuse : {A : Type 0} → ℕ → Bool → Outcome A → Outcome A
or_refuse n true o = o
or_refuse n false o = refused n

-- 13 where there is nothing of that number
abbrev pub or_none : {A : Type 0} → Option A → Outcome A
or_none None = refused 13
or_none (Some a) = resulted a
