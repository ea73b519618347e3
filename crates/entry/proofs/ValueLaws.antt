-- The values of a dimension stand one after the other within the section.
use Prim.Native.Nat.{ℕ, ◌-◌, ◌≤◌, ◌<◌}
use mathlib.Core.Path.{◌≡◌, refl, sym}
use mathlib.Core.Logic.{⊎_elim}
use mathlib.Core.List.{List}
use native.Mathlib.Nat.{eq-zero-or-pos}
use native.Mathlib.Omega.{arith}
use lib.ListN.{length}
use Rattle.std.specs.Prelude.{Ok}
use Rattle.bytes_at.specs.Fields.{byte_at}
use Rattle.bytes_at.specs.Walks.{many, standing}
use Rattle.bytes_at.specs.Inner.{Stands}
use Rattle.bytes_at.proofs.FieldLaws.{past}
use Rattle.bytes_at.proofs.WalkLaws.{many_in, reached, stands_at, standing_is, standing_to}
use Rattle.refusal.specs.Outcomes.{Outcome, refused, resulted}
use Rattle.refusal.proofs.TestLaws.{lets_lt, stops_lt, passed_lt}
use Rattle.format.specs.Formats.{walks}
use Rattle.strings.specs.Places.{text_end}
use Rattle.rrt.specs.Walked.{value, dimension}
use Rattle.rrt.specs.Fields.{values_at, first_value_at}
use Rattle.rrt.proofs.WalkLaws.{value_forward, values_walked}
use Rattle.entry.specs.Entries.{value_spot}

-- a byte that is not 0 is there
present : (s : List ℕ) (i : ℕ) → 0 < byte_at s i → i < length s
present s i h = ⊎_elim (λ e. absurd (omega (arith, past s i (omega arith)))) (λ e. omega arith) (eq-zero-or-pos (length s - i))

pub values_inside : (s : List ℕ) (d j a : ℕ) → j < values_at s d → many (walks value s (length s - 4)) j (first_value_at s d) ≡ Ok a → a ≤ length s
values_inside s d j a h w =
    let t = present s (text_end s d) (omega arith) in
    many_in _ (length s) (λ b c v. let u = value_forward s (length s - 4) b c v in omega arith) j (first_value_at s d) a (omega arith) w

-- a value that is counted begins where the walk stands, and 13 where it is not
module _ (s : List ℕ) (d j : ℕ) where
  pub value_there : {r : Outcome ℕ} → j < values_at s d → r ≡ standing (many (walks value s (length s - 4)) j (first_value_at s d)) → r ≡ value_spot s d j
  unfolding value_spot
  value_there h w = lets_lt 13 j (values_at s d) (standing (many (walks value s (length s - 4)) j (first_value_at s d))) h w

  pub value_none : values_at s d ≤ j → refused 13 ≡ value_spot s d j
  unfolding value_spot
  value_none h = stops_lt 13 j (values_at s d) (standing (many (walks value s (length s - 4)) j (first_value_at s d))) h refl

-- of a dimension that stands: a value that it has is found, and one that is found stands
module _ (s : List ℕ) (d b : ℕ) (w : walks dimension s (length s - 4) d ≡ Ok b) where
  pub value_found : (j : ℕ) → j < values_at s d → (a : ℕ) × (value_spot s d j ≡ resulted a)
  value_found j l =
      let v = (values_walked s (length s - 4) d b w).0 in
      let r = reached _ j (values_at s d) (first_value_at s d) b (omega arith) v in (
        r.0,
        sym (value_there s d j {r = resulted r.0} l (standing_to _ _ r.1)),
      )

  pub value_stands : (j a : ℕ) → value_spot s d j ≡ resulted a → Stands (walks value s (length s - 4) a)
  unfolding value_spot
  value_stands j a q =
      let l = passed_lt 13 j (values_at s d) _ a q in
      let v = (values_walked s (length s - 4) d b w).0 in
      stands_at _ j (values_at s d) (first_value_at s d) a b l.0 v (standing_is _ a l.1)
