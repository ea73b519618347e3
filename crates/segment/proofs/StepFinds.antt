-- What a step finds: a symbol, an early end, or a node from which the tree goes on.
use mathlib.Core.Path.{◌≡◌, ap, ◌∙◌}
use mathlib.Core.List.{List}
use Prim.Native.Nat.{ℕ, zero, suc, ◌+◌, ◌*◌, ◌-◌, ◌/◌, ◌%◌, ◌^◌, ◌<◌, ◌≤◌}
use native.Mathlib.Omega.{arith}
use lib.ListN.{length, get_or, drop}
use Rattle.annex_c.specs.Codes.{symbol, early}
use Rattle.annex_c.specs.Tree.{tree, walked}
use Rattle.steps.specs.Steps.{step_table}
use Rattle.steps.specs.Reaches.{Stepping}
use Rattle.steps.proofs.StepLaws.{stepping}
use Rattle.segment.specs.Bits.{all_bits}
use Rattle.segment.specs.Inner.{Window, on_from, SymbolAt, Finds}
use Rattle.std.specs.Prelude.{Option, Some, None}
use Rattle.segment.proofs.BitLaws.{length_bits}

module _ (t s : List ℕ) (at p e : ℕ) (step : Stepping (tree t p) (all_bits s) at e) where
  pub step_rest : e < 2048 → (f : Option (ℕ × ℕ)) → Finds (on_from t (e / 16)) s (at + e % 16) p f → Finds (walked t) s at p f
  unfolding walked
  step_rest h None r = step.reach.node (omega arith) ∙ r
  step_rest h (Some (u, j)) r = record {
    reads = step.reach.node (omega arith) ∙ r.reads;
    onward = omega (arith, r.onward);
    inside = r.inside;
  }

  pub step_over : 2048 ≤ e → 8 * length s < at + e % 16 → walked t p (drop at (all_bits s)) ≡ early
  unfolding walked
  step_over h b = step.reach.over (omega arith) (omega (arith, length_bits s))

  pub step_leaf : 2048 ≤ e → at + e % 16 ≤ 8 * length s → SymbolAt (walked t) s at p (e / 16 % 128) (at + e % 16)
  unfolding walked
  step_leaf h b =
      let v : e / 16 - 128 ≡ e / 16 % 128 = omega (arith, step.low) in
      record {
        reads = step.reach.leaf (omega arith) (omega (arith, length_bits s)) ∙ ap (λ (x : ℕ). symbol x (drop (at + e % 16) (all_bits s))) v;
        onward = omega (arith, step.onward h);
        inside = b;
      }

-- the first four of the eight bits
four : (w j : ℕ) → j < 4 → w / 16 / 2 ^ (3 - j) ≡ w / 2 ^ (7 - j)
four w zero l = omega arith
four w (suc zero) l = omega arith
four w (suc (suc zero)) l = omega arith
four w (suc (suc (suc zero))) l = omega arith
four w (suc (suc (suc (suc j)))) l = absurd (omega arith)

pub step_made : (t s : List ℕ) (at p w e : ℕ) → Window s at w → e ≡ get_or (step_table t) (16 * p + w / 16) 0 → e < 4096 → Stepping (tree t p) (all_bits s) at e
step_made t s at p w e z q low =
    stepping t (all_bits s) p at (w / 16) e (omega (arith, z.small))
    (λ j l. ap (λ (x : ℕ). x % 2) (four w j l) ∙ z.bit j (omega arith)) q low
