-- SCOPE 5.9, of one call: the places promised move by the quota that it opens or closes. This holds of every call on a shelf that obeys its
-- rules, whatever memory it is lent, since quotas stand in the records and not in the area.
use Rattle.std.specs.Prelude.{ℕ, ◌+◌, ◌≡◌, Bool, Option, Some, None}
use Rattle.logic.specs.Choices.{pick}
use Rattle.logic.specs.Loops.{◌&◌}
use Rattle.shelf_state.specs.Records.{same_key}
use Rattle.shelf_state.specs.Rules.{promised}
use Rattle.shelf_state.specs.declared.records.Asked.{Asked}
use Rattle.shelf.specs.Steps.{State, Turn, accepted, step, view_in}
use Rattle.shelf.specs.Views.{Call, View, asks, closes, delivers, fetches, opens}
use Rattle.shelf_laws.specs.Laws.{Obeys}

-- ---- the quota of a key, 0 where it is not watched; and its next one, by the call and whether it was accepted
abbrev pub quota_in : Option View → ℕ
quota_in None = 0
quota_in (Some v) = v.quota

unfoldable pub quota_next : Asked → Call → Bool → ℕ → ℕ
quota_next k (opens o) y n = pick (y & same_key k o.key) o.quota n
quota_next k (closes c) y n = pick (y & same_key k c.key) 0 n
quota_next k (asks q) y n = n
quota_next k (fetches f) y n = n
quota_next k (delivers d) y n = n

-- ---- what a call promises; and what it takes back, by the quotas that the keys have
unfoldable pub quota_opened : Call → Bool → ℕ
quota_opened (opens o) y = pick y o.quota 0
quota_opened (closes c) y = 0
quota_opened (asks q) y = 0
quota_opened (fetches f) y = 0
quota_opened (delivers d) y = 0

unfoldable pub quota_closed : Call → Bool → (Asked → ℕ) → ℕ
quota_closed (opens o) y f = 0
quota_closed (closes c) y f = pick y (f c.key) 0
quota_closed (asks q) y f = 0
quota_closed (fetches g) y f = 0
quota_closed (delivers d) y f = 0

-- ---- the laws
abbrev pub QuotasLaw : Type 0
QuotasLaw = (x : State) (t : Turn) (k : Asked) → Obeys x
    → quota_in (view_in (step x t).next k) ≡ quota_next k t.call (accepted (step x t).answer) (quota_in (view_in x k))

abbrev pub PromisesLaw : Type 0
PromisesLaw = (x : State) (t : Turn) → Obeys x
    → promised (step x t).next.shelf + quota_closed t.call (accepted (step x t).answer) (λ k. quota_in (view_in x k))
    ≡ promised x.shelf + quota_opened t.call (accepted (step x t).answer)
