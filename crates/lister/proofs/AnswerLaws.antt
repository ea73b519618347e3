-- Where the steps over what is in hand lead, one step further.
use Prim.Native.Nat.{ℕ, suc, ◌+◌, ◌-◌, ◌≤◌}
use mathlib.Core.Path.{◌≡◌, sym, ap, ◌∙◌, subst}
use mathlib.Core.List.{List}
use native.Mathlib.Numerals.{add-one}
use native.Mathlib.Omega.{arith}
use lib.ListN.{length, take, drop, length-drop}
use lib.Seq.{take_all, drop-drop}
use Rattle.listing.specs.declared.Input.{Input}
use Rattle.listing.specs.declared.Next.TheVariants.{Record, Wait}
use Rattle.listing.specs.declared.Stepped.{Stepped}
use Rattle.listing.specs.Steps.{step_of, Tells}
use Rattle.listing.specs.Runs.{Steps, all_steps}
use Rattle.listing.proofs.NextLaws.{Alike, record_taken, wait_few, on_behind, wait_here}
use Rattle.lister.specs.Reading.{StepsTaken}

onward : {x y z : Steps} → Alike x y → Alike y z → Alike x z
onward p q = record { number = p.number ∙ q.number; held = p.held ∙ q.held; next = p.next ∙ q.next }

module _ (s : List ℕ) (i : Input) (n at : ℕ) {l e : List ℕ} {r : Stepped} (u : Tells (step_of n (take (length s - at) (drop at s)) i) l r e) where
  -- the step is over all bytes from `at` on
  t : Tells (step_of n (drop at s) i) l r e
  t = subst (λ (x : List ℕ). Tells (step_of n x i) l r e) (take_all (length s - at) (drop at s) (omega (arith, length-drop at s))) u

  -- a record is in hand
  pub takes : r.next ≡ Record → at ≤ length s → at + r.taken ≤ length s
  takes q h =
      let f = record_taken n (drop at s) i (sym t.next ∙ q) in
      omega (arith, f.1, t.taken, length-drop at s)

  pub a_record_on : (number : ℕ) → r.next ≡ Record → Alike (all_steps number s i) (all_steps n (drop at s) i)
      → Alike (all_steps number s i) (all_steps (n + 1) (drop (at + r.taken) s) i)
  a_record_on number q p =
      let a = onward p (on_behind n (drop at s) i (sym t.next ∙ q)) in
      let d : drop (step_of n (drop at s) i).taken (drop at s) ≡ drop (at + r.taken) s =
      ap (λ (k : ℕ). drop k (drop at s)) (sym t.taken) ∙ drop-drop r.taken at s in
      rw add-one (subst (λ (x : List ℕ). Alike (all_steps number s i) (all_steps (suc n) x i)) d a)

  pub stands : (number : ℕ) → r.next ≡ Wait → at ≤ length s → Alike (all_steps number s i) (all_steps n (drop at s) i)
      → StepsTaken number s i (record { number = n; taken = at })
  stands number q h p =
      let w = sym t.next ∙ q in
      let here = wait_here n (drop at s) i w in
      record {
        within = h;
        few = omega (arith, wait_few n (drop at s) i w, length-drop at s);
        number = p.number ∙ ap (λ (x : Steps). x.number) here;
        held = p.held ∙ ap (λ (x : Steps). x.held) here;
        next = p.next ∙ ap (λ (x : Steps). x.next) here;
      }
