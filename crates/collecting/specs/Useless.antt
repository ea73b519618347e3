-- SCOPE 12.6 and 12.7: calls by value that the third demand shuts out (proofs/). Each spoils the answers of the shelf's own calls, or
-- what they keep.
use Rattle.std.specs.Prelude.{ℕ, ◌+◌, Bool, true, false, not, eqb, Option, Some, None}
use Rattle.logic.specs.Choices.{pick}
use Rattle.refusal.specs.Outcomes.{refused, resulted}
use Rattle.shelf.specs.Views.{Status, complete, held, unheard, Call, Delivery, View, asks, closes, delivers, fetches, key_in, opens}
use Rattle.shelf_laws.specs.Laws.{refused_as}
use Rattle.shelf.specs.Steps.{Answer, State, Step, Turn, did, gave, step, reported, view_in}

abbrev pub Calls : Type 0
Calls = State → Turn → Step

-- ---- everything is refused, each call by any number; everything has one answer
abbrev pub refuses_all : (State → Turn → ℕ) → Calls
refuses_all n x t = record { answer = refused_as t.call (n x t); next = x }

abbrev pub constant : Answer → Calls
constant a x t = record { answer = a; next = (step x t).next }

-- ---- answers as they should be, but a section is stored only where p says so
abbrev pub stored_by : (State → Delivery → Bool) → State → Call → Bool
stored_by p x (opens o) = true
stored_by p x (closes c) = true
stored_by p x (asks q) = true
stored_by p x (fetches f) = true
stored_by p x (delivers d) = p x d

abbrev pub storing : (State → Delivery → Bool) → Calls
storing p x t = record { answer = (step x t).answer; next = pick (stored_by p x t.call) (step x t).next x }

abbrev pub stores_nothing : Calls
stores_nothing = storing (λ x d. false)

-- the first section of a watch alone
abbrev pub has_heard : Option View → Bool
has_heard None = false
has_heard (Some v) = v.edition.heard

abbrev pub unheard_before : State → Delivery → Bool
unheard_before x d = not (has_heard (view_in x (key_in d.pid d.bytes)))

abbrev pub stores_first : Calls
stores_first = storing unheard_before

-- ---- answers and records as they should be, so that every status is, but a section's bytes are written only where p says so
abbrev pub keeping_bytes : (State → Delivery → Bool) → Calls
keeping_bytes p x t = record {
  answer = (step x t).answer;
  next = record { shelf = (step x t).next.shelf; area = pick (stored_by p x t.call) (step x t).next.area x.area };
}

abbrev pub keeps_no_bytes : Calls
keeps_no_bytes = keeping_bytes (λ x d. false)

abbrev pub keeps_first_bytes : Calls
keeps_first_bytes = keeping_bytes unheard_before

-- ---- c of n told by another status
abbrev pub retold : (ℕ → ℕ → Status) → Answer → Answer
retold f (did o) = did o
retold f (reported (refused n)) = reported (refused n)
retold f (reported (resulted unheard)) = reported (resulted unheard)
retold f (reported (resulted (held c n))) = reported (resulted (f c n))
retold f (reported (resulted (complete n))) = reported (resulted (complete n))
retold f (gave o) = gave o

abbrev pub telling : (ℕ → ℕ → Status) → Calls
telling f x t = record { answer = retold f (step x t).answer; next = (step x t).next }

abbrev pub made_up : ℕ → Calls
made_up c = telling (λ _ n. held c n)

-- complete where c is last
abbrev pub complete_at_last : Calls
complete_at_last = telling (λ c n. pick (eqb (c + 1) n) (complete n) (held c n))
