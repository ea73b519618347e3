-- The places promised are the quotas opened less the quotas closed, told by the record alone.
use Prim.Native.Nat.{◌+◌, ℕ}
use mathlib.Core.Path.{◌∙◌, ◌≡◌, ap, refl}
use mathlib.Core.Bool.{Bool}
use mathlib.Core.List.{List, [], ◌∷◌}
use native.Mathlib.Omega.{arith}
use Rattle.shelf_state.specs.Rules.{promised}
use Rattle.shelf_state.specs.declared.records.Asked.{Asked}
use Rattle.shelf.specs.Steps.{State, Turn, accepted, step, view_in}
use Rattle.shelf.specs.Views.{Call}
use Rattle.shelf_laws.specs.Laws.{Obeys}
use Rattle.shelf_laws.specs.Promised.{quota_closed, quota_in, quota_next}
use Rattle.shelf_laws.proofs.StepLaws.{promises_law, quotas_law, step_law}
use Rattle.collecting.proofs.TurnLaws.{empty_now}
use Rattle.collecting.specs.Collecting.{state_after, recorded, ours}
use Rattle.collecting.specs.More.{PlacesPromised, quotas_closed, quotas_opened}

closed_cong : (c : Call) (y : Bool) (f g : Asked → ℕ) → ((k : Asked) → f k ≡ g k) → quota_closed c y f ≡ quota_closed c y g
closed_cong c y f g e = ap (quota_closed c y) (λ i k. e k i)

-- ---- a stretch, from any state whose quotas are f
moved : (x : State) (ts : List Turn) (f : Asked → ℕ) → Obeys x → ((k : Asked) → quota_in (view_in x k) ≡ f k)
    → promised (state_after ours x ts).shelf + quotas_closed f (recorded ours x ts) ≡ promised x.shelf + quotas_opened (recorded ours x ts)
unfolding state_after recorded quotas_closed quotas_opened
moved x [] f ok q = refl
moved x (t ∷ ts) f ok q =
    let y : Bool = accepted (step x t).answer in
    let rest = moved (step x t).next ts (λ k. quota_next k t.call y (f k)) (step_law x t ok).keeps
    (λ k. quotas_law x t k ok ∙ ap (quota_next k t.call y) (q k)) in
    omega (arith, rest, promises_law x t ok, closed_cong t.call y (λ k. quota_in (view_in x k)) f q)

pub places_promised : PlacesPromised ours
places_promised x ts e =
    let m = empty_now x e in
    omega (arith, moved x ts (λ k. 0) m.rules (λ k. ap quota_in (m.no_view k)), m.nothing_promised)
