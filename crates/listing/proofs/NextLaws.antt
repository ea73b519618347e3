-- What a step leaves to be done: a record takes bytes, and the steps go on behind it; more input is awaited only while a record is short.
use Prim.Native.Nat.{ℕ, zero, suc, ◌+◌, ◌≤◌, ◌<◌}
use mathlib.Core.Path.{◌≡◌, refl, sym, ap, ◌∙◌, subst}
use mathlib.Core.Bool.{true, false}
use mathlib.Core.List.{List}
use native.Mathlib.Omega.{arith}
use lib.ListN.{length, drop, length-drop}
use Rattle.shown.proofs.BothLaws.{lt_either, eq_either}
use Rattle.record.specs.Records.{mark_in, head_size, length_in, to_come}
use Rattle.lines.specs.Records.{last_line, bad_lines}
use Rattle.listing.specs.Listing.{after_record}
use Rattle.listing.specs.Steps.{Step, over, short_step, full_step, step_of}
use Rattle.listing.specs.Runs.{Steps, going_on, steps_of, all_steps}
use Rattle.listing.specs.declared.Input.{Input}
use Rattle.listing.specs.declared.Input.TheVariants.{More, Ended, Unread}
use Rattle.listing.specs.declared.Next.{Next}
use Rattle.listing.specs.declared.Next.TheVariants.{Record, Wait, Over}
use Rattle.listing.proofs.StepLaws.{too_short, long_enough}
use Rattle.listing.proofs.FrontLaws.{Front, short, wrong, found, front, wrong_whole, wrong_to_come, found_whole, found_to_come}
use Rattle.listing.proofs.RunLaws.{behind_fewer, then, taking, short_steps, wrong_steps, found_steps}

to_come_few : (s : List ℕ) → to_come s < 4096
unfolding to_come
to_come_few s =
    let few : ℕ → Type 0 = λ k. k < 4096 in
    lt_either few 0 _ (omega arith) (eq_either few (length_in s) 0 (omega arith) (omega arith) (mark_in s) 0xA55A) (length s) head_size

-- ---- the next thing, by the front
abbrev NoRecord : Step → Type 0
NoRecord x = x.next ≡ Record → ⊥

module _ (n : ℕ) (s : List ℕ) (i : Input) where
  over_no_record : (ls : List ℕ) → NoRecord (over ls)
  over_no_record ls q = let z : ◌≡◌ {A = ℕ} 0 1 = cc in omega arith

  wrong_step : head_size ≤ length s → (mark_in s ≡ 0xA55A → ⊥) → over (bad_lines n) ≡ step_of n s i
  unfolding full_step
  wrong_step l w = long_enough n s i false (omega (arith, l, wrong_to_come s l w)) (sym (wrong_whole s l w))

  found_step : head_size + length_in s ≤ length s → mark_in s ≡ 0xA55A → full_step n s true ≡ step_of n s i
  found_step l w = long_enough n s i true (omega (arith, l, found_to_come s l w)) (sym (found_whole s l w))

  short_no_record : (j : Input) → NoRecord (short_step n s j)
  unfolding short_step
  short_no_record More q = let z : ◌≡◌ {A = ℕ} 0 1 = cc in omega arith
  short_no_record Ended q =
      eq_either NoRecord (over (last_line n)) (over (bad_lines n)) (over_no_record (last_line n)) (over_no_record (bad_lines n)) (length s) 0 q
  short_no_record Unread q = over_no_record (bad_lines n) q

  taken_by : Front s → (step_of n s i).next ≡ Record → (0 < (step_of n s i).taken) × ((step_of n s i).taken ≤ length s)
  unfolding full_step
  taken_by (short h w) q = absurd (short_no_record i (ap (λ (x : Step). x.next) (too_short n s i h) ∙ q))
  taken_by (wrong l w) q = absurd (over_no_record (bad_lines n) (ap (λ (x : Step). x.next) (wrong_step l w) ∙ q))
  taken_by (found l w) q =
      let t = ap (λ (x : Step). x.taken) (found_step l w) in
      (omega (arith, t), omega (arith, t, l, found_to_come s l w))

  pub record_taken : (step_of n s i).next ≡ Record → (0 < (step_of n s i).taken) × ((step_of n s i).taken ≤ length s)
  record_taken = taken_by (front s)

  wait_by : Front s → (step_of n s i).next ≡ Wait → length s < 4102
  unfolding full_step
  wait_by (short h w) q = omega (arith, h, to_come_few s)
  wait_by (wrong l w) q = let e = ap (λ (x : Step). x.next) (wrong_step l w) ∙ q in let z : ◌≡◌ {A = ℕ} 0 1 = cc in omega arith
  wait_by (found l w) q = let e = ap (λ (x : Step). x.next) (found_step l w) ∙ q in let z : ◌≡◌ {A = ℕ} 0 1 = cc in omega arith

  pub wait_few : (step_of n s i).next ≡ Wait → length s < 4102
  wait_few = wait_by (front s)

-- ---- all the steps
module _ (i : Input) where
  over_alone : (n : ℕ) (s : List ℕ) (x : Step) (a : Next) (r u : Steps) → (a ≡ Record → ⊥) → going_on n s x a r ≡ going_on n s x a u
  unfolding going_on
  over_alone n s x Record r u h = absurd (h refl)
  over_alone n s x Wait r u h = refl
  over_alone n s x Over r u h = refl

  abbrev Enough : ℕ → Type 0
  Enough m = (k n : ℕ) (s : List ℕ) → length s ≤ m → length s ≤ k → steps_of (suc m) n s i ≡ steps_of (suc k) n s i

  short_enough : (m k n : ℕ) (s : List ℕ) → length s < head_size + to_come s → steps_of (suc m) n s i ≡ steps_of (suc k) n s i
  short_enough m k n s h =
      short_steps m n s i h ∙ over_alone n s (short_step n s i) (short_step n s i).next _ _ (short_no_record n s i i) ∙ sym (short_steps k n s i h)

  enough_none : (k n : ℕ) (s : List ℕ) → length s ≤ 0 → Front s → steps_of 1 n s i ≡ steps_of (suc k) n s i
  enough_none k n s h (short x w) = short_enough 0 k n s x
  enough_none k n s h (wrong l w) = absurd (omega (arith, l, h))
  enough_none k n s h (found l w) = absurd (omega (arith, l, h))

  enough_some : (m : ℕ) → Enough m → (k n : ℕ) (s : List ℕ) → length s ≤ suc m → length s ≤ k → Front s → steps_of (suc (suc m)) n s i ≡ steps_of (suc k) n s i
  enough_some m ih k n s h g (short x w) = short_enough (suc m) k n s x
  enough_some m ih k n s h g (wrong l w) = wrong_steps (suc m) n s i l w ∙ sym (wrong_steps k n s i l w)
  enough_some m ih zero n s h g (found l w) = absurd (omega (arith, l, g))
  enough_some m ih (suc k) n s h g (found l w) =
      found_steps (suc m) n s i l w
      ∙ ap (then n s) (ih k (suc n) (after_record s) (behind_fewer s m l h) (behind_fewer s k l g))
      ∙ sym (found_steps (suc k) n s i l w)

  enough : (m : ℕ) → Enough m
  enough zero k n s h g = enough_none k n s h (front s)
  enough (suc m) k n s h g = enough_some m (enough m) k n s h g (front s)

  all_of : (m n : ℕ) (s : List ℕ) → length s < m → steps_of m n s i ≡ all_steps n s i
  all_of zero n s h = absurd (omega (arith, h))
  all_of (suc m) n s h = enough m (length s) n s (omega (arith, h)) (omega arith)

-- two runs of steps lead to the same place
pub record Alike (x y : Steps) : Type 0 where
  pub number : x.number ≡ y.number
  pub held : x.held ≡ y.held
  pub next : x.next ≡ y.next

behind_record : (n : ℕ) (s : List ℕ) (x : Step) {r u : Steps} → r ≡ u → Alike (going_on n s x Record r) u
unfolding going_on
behind_record n s x e =
    record { number = ap (λ (y : Steps). y.number) e; held = ap (λ (y : Steps). y.held) e; next = ap (λ (y : Steps). y.next) e }

module _ (n : ℕ) (s : List ℕ) (i : Input) where
  step_after : (a : Next) → (step_of n s i).next ≡ a
      → all_steps n s i ≡ going_on n s (step_of n s i) a (steps_of (length s) (suc n) (drop (step_of n s i).taken s) i)
  step_after a q = taking (length s) n s i refl ∙ ap (λ (b : Next). going_on n s (step_of n s i) b (steps_of (length s) (suc n) (drop (step_of n s i).taken s) i)) q

  -- behind a record the steps go on
  pub on_behind : (step_of n s i).next ≡ Record → Alike (all_steps n s i) (all_steps (suc n) (drop (step_of n s i).taken s) i)
  on_behind q =
      let t = (step_of n s i).taken in
      let f = record_taken n s i q in
      let e = all_of i (length s) (suc n) (drop t s) (omega (arith, length-drop t s, f.0, f.1)) in
      subst (λ (x : Steps). Alike x (all_steps (suc n) (drop t s) i)) (sym (step_after Record q)) (behind_record n s (step_of n s i) e)

  pub wait_here : (step_of n s i).next ≡ Wait → all_steps n s i ≡ record { lines = (step_of n s i).lines; number = n; held = s; next = Wait }
  unfolding going_on
  wait_here q = step_after Wait q
