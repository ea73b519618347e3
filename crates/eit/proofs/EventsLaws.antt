-- The events of a body that was walked, one after the other, and the search among them.
use Prim.Native.Nat.{ℕ, zero, suc, ◌+◌, ◌-◌, ◌≤◌, ◌<◌}
use mathlib.Core.Path.{◌≡◌, refl, ap, subst}
use mathlib.Core.List.{List, []}
use native.Mathlib.Numerals.{sub-one}
use native.Mathlib.Omega.{arith}
use Rattle.std.specs.Prelude.{Ok, None, Some}
use Rattle.bytes_at.specs.Fields.{byte_at}
use Rattle.bytes_at.specs.Walks.{many}
use Rattle.bytes_at.specs.Inner.{Stands}
use Rattle.bytes_at.proofs.WalkLaws.{then_inv, many_inv}
use Rattle.logic.proofs.ChoiceLaws.{eq_yes, eq_no}
use Rattle.format.specs.Formats.{walks, walks_all}
use Rattle.format.proofs.FieldLaws.{fields_end}
use Rattle.eit.specs.Walked.{event, events, eit}
use Rattle.eit.specs.Fields.{count_at, first_at, head_at, event_end}
use Rattle.eit.specs.Questions.{find_from}
use Rattle.eit.specs.Inner.{Events}
use Rattle.eit.proofs.EventLaws.{event_forward, event_ends}

-- of n, as many as are left before the first, and behind one more
pub all_left : (n : ℕ) → n - 0 ≡ n
all_left n = omega arith

pub one_less : (n i : ℕ) → n - (i + 1) ≡ n - i - 1
one_less n i = omega arith

-- as many as are counted, from behind the count on
pub body_events : (s : List ℕ) (end at e : ℕ) → walks_all eit s end at ≡ Ok e
    → Stands (many (walks event s end) (count_at s at) (first_at at)) × (first_at at ≤ end)
unfolding eit events
body_events s end at e w =
    let p = then_inv _ _ e w in
    let q = then_inv _ _ p.0 p.1.0 in
    let t = fields_end 8 [] 1 refl at end q.0 q.1.0 in
    let n : byte_at s (q.0 - 1) ≡ byte_at s at = ap (byte_at s) (omega arith) in
    ((p.0, rw (n, t.0) at q.1.1), omega arith)

-- behind an event come the others
pub events_step : (s : List ℕ) (n a : ℕ) → Events s n a → 0 < n → Events s (n - 1) (event_end s a)
events_step s n a v h =
    let m = many_inv _ n a v.stands.0 h v.stands.1 in
    let e = event_ends s v.end a m.0 m.1.0 in
    let f = event_forward s v.end a m.0 m.1.0 in
    record {
      end = v.end;
      stands = (v.stands.0, subst (λ b. many (walks event s v.end) (n - 1) b ≡ Ok v.stands.0) e m.1.1);
      begins = omega (arith, e, f, v.inside);
      inside = v.inside;
      small = v.small;
    }

-- the first that has an id: it is this one, one of those that follow, or none
module _ (s : List ℕ) (id : ℕ) where
  pub find_here : (n a : ℕ) → 0 < n → (head_at s a).id ≡ id → Some a ≡ find_from s id n a
  unfolding find_from
  find_here zero a h e = absurd (omega arith)
  find_here (suc n) a h e = eq_yes (head_at s a).id id _ _ e refl

  pub find_next : (n a : ℕ) → 0 < n → ((head_at s a).id ≡ id → ⊥) → find_from s id (n - 1) (event_end s a) ≡ find_from s id n a
  unfolding find_from
  find_next zero a h e = absurd (omega arith)
  find_next (suc n) a h e = rw sub-one (eq_no (head_at s a).id id _ _ e refl)

  pub find_none : (n a : ℕ) → n ≡ 0 → None ≡ find_from s id n a
  unfolding find_from
  find_none n a e = rw e
