-- The steps of a run print the listing, however the input comes in pieces.
use Prim.Native.Nat.{ℕ, zero, suc, ◌+◌, ◌≤◌, ◌<◌}
use mathlib.Core.Path.{◌≡◌, refl, sym, ap, ◌∙◌}
use mathlib.Core.Bool.{Bool, true, false}
use lib.Dec.{eqb}
use mathlib.Core.List.{List, [], ◌∷◌, ◌++◌, append_assoc, append-nil}
use native.Mathlib.Omega.{arith}
use lib.ListN.{length, drop, length-append, length-drop}
use Rattle.logic.specs.Choices.{pick, if_eq}
use Rattle.logic.proofs.ChoiceLaws.{eq_no}
use Rattle.record.specs.Records.{mark_in, head_size, length_in, to_come, whole}
use Rattle.lines.specs.Records.{first_line, last_line, record_lines, bad_lines}
use Rattle.listing.specs.Listing.{Ending, ended, unread, stop_lines, after_record, lines_from, listing}
use Rattle.listing.specs.Steps.{Step, over, short_step, full_step, step_of}
use Rattle.listing.specs.Runs.{Steps, going_on, steps_of, all_steps, unless_over, told_by, run_from, runs, whole_input}
use Rattle.listing.specs.declared.Input.{Input}
use Rattle.listing.specs.declared.Input.TheVariants.{More}
use Rattle.listing.specs.declared.Next.TheVariants.{Over}
use Rattle.listing.proofs.StepLaws.{too_short, long_enough}
use Rattle.listing.proofs.FrontLaws.{Front, short, wrong, found, front, wrong_whole, wrong_to_come, found_whole, found_to_come, mark_kept, length_kept, behind_kept, lines_kept}

-- ---- the listing's lines, by the front
module _ (n : ℕ) (s : List ℕ) (e : Ending) where
  no_record : (m : ℕ) → whole s ≡ false → lines_from m n s e ≡ stop_lines n s e
  unfolding lines_from
  no_record zero w = refl
  no_record (suc m) w = rw w

  a_record : (m : ℕ) → true ≡ whole s → lines_from (suc m) n s e ≡ record_lines n s ++ lines_from m (suc n) (after_record s) e
  unfolding lines_from
  a_record m w = rw (sym w)

bad_stop : (n : ℕ) (s : List ℕ) (e : Ending) → 0 < length s → bad_lines n ≡ stop_lines n s e
unfolding stop_lines
bad_stop n s ended h = eq_no (length s) 0 (last_line n) (bad_lines n) (λ z. omega (arith, h, z)) refl
bad_stop n s unread h = refl

wrong_lines : (m n : ℕ) (s : List ℕ) (e : Ending) → head_size ≤ length s → (mark_in s ≡ 0xA55A → ⊥) → lines_from m n s e ≡ bad_lines n
wrong_lines m n s e h w = no_record n s e m (sym (wrong_whole s h w)) ∙ sym (bad_stop n s e (omega (arith, h)))

pub behind_fewer : (s : List ℕ) (m : ℕ) → head_size + length_in s ≤ length s → length s ≤ suc m → length (after_record s) ≤ m
behind_fewer s m h g = omega (arith, length-drop (head_size + length_in s) s, h, g)

-- any number of records that is large enough will do
module _ (e : Ending) where
  abbrev Enough : ℕ → Type 0
  Enough m = (k n : ℕ) (s : List ℕ) → length s ≤ m → length s ≤ k → lines_from m n s e ≡ lines_from k n s e

  enough_none : (k n : ℕ) (s : List ℕ) → length s ≤ 0 → Front s → lines_from 0 n s e ≡ lines_from k n s e
  enough_none k n s h (short x w) = no_record n s e 0 w ∙ sym (no_record n s e k w)
  enough_none k n s h (wrong l w) = absurd (omega (arith, l, h))
  enough_none k n s h (found l w) = absurd (omega (arith, l, h))

  enough_some : (m : ℕ) → Enough m → (k n : ℕ) (s : List ℕ) → length s ≤ suc m → length s ≤ k → Front s → lines_from (suc m) n s e ≡ lines_from k n s e
  enough_some m ih k n s h g (short x w) = no_record n s e (suc m) w ∙ sym (no_record n s e k w)
  enough_some m ih k n s h g (wrong l w) = wrong_lines (suc m) n s e l w ∙ sym (wrong_lines k n s e l w)
  enough_some m ih zero n s h g (found l w) = absurd (omega (arith, l, g))
  enough_some m ih (suc k) n s h g (found l w) =
      let t = found_whole s l w in
      a_record n s e m t
      ∙ ap (λ (x : List ℕ). record_lines n s ++ x) (ih k (suc n) (after_record s) (behind_fewer s m l h) (behind_fewer s k l g))
      ∙ sym (a_record n s e k t)

  enough : (m : ℕ) → Enough m
  enough zero k n s h g = enough_none k n s h (front s)
  enough (suc m) k n s h g = enough_some m (enough m) k n s h g (front s)

-- ---- steps, by the front
-- a record, and the steps behind it
unfoldable pub then : ℕ → List ℕ → Steps → Steps
then n s r = record { lines = record_lines n s ++ r.lines; number = r.number; held = r.held; next = r.next }

module _ (m n : ℕ) (s : List ℕ) (i : Input) where
  pub taking : {x : Step} → x ≡ step_of n s i → steps_of (suc m) n s i ≡ going_on n s x x.next (steps_of m (suc n) (drop x.taken s) i)
  unfolding steps_of
  taking {x} q = sym (ap (λ (y : Step). going_on n s y y.next (steps_of m (suc n) (drop y.taken s) i)) q)

  pub short_steps : length s < head_size + to_come s → steps_of (suc m) n s i ≡ going_on n s (short_step n s i) (short_step n s i).next (steps_of m (suc n) (drop (short_step n s i).taken s) i)
  short_steps h = taking (too_short n s i h)

  pub wrong_steps : head_size ≤ length s → (mark_in s ≡ 0xA55A → ⊥) → steps_of (suc m) n s i ≡ record { lines = bad_lines n; number = n; held = s; next = Over }
  unfolding full_step going_on
  wrong_steps h w = taking (long_enough n s i false (omega (arith, h, wrong_to_come s h w)) (sym (wrong_whole s h w)))

  pub found_steps : head_size + length_in s ≤ length s → mark_in s ≡ 0xA55A → steps_of (suc m) n s i ≡ then n s (steps_of m (suc n) (after_record s) i)
  unfolding full_step going_on then
  found_steps h w =
      let t = found_to_come s h w in
      taking (long_enough n s i true (omega (arith, h, t)) (sym (found_whole s h w)))
      ∙ ap (λ (k : ℕ). then n s (steps_of m (suc n) (drop (head_size + k) s) i)) (sym t)

-- ---- the steps at the input's end
either_end : (n : ℕ) (s : List ℕ) (r : Steps) (t : Bool)
    → (going_on n s (pick t (over (last_line n)) (over (bad_lines n))) (pick t (over (last_line n)) (over (bad_lines n))).next r).lines ≡ pick t (last_line n) (bad_lines n)
unfolding going_on
either_end n s r true = refl
either_end n s r false = refl

short_end : (n : ℕ) (s : List ℕ) (e : Ending) (r : Steps) → (going_on n s (short_step n s (told_by e)) (short_step n s (told_by e)).next r).lines ≡ stop_lines n s e
unfolding going_on short_step stop_lines if_eq
short_end n s ended r = either_end n s r (eqb (length s) 0)
short_end n s unread r = refl

module _ (e : Ending) where
  abbrev Ends : ℕ → Type 0
  Ends m = (n : ℕ) (s : List ℕ) → length s ≤ m → (steps_of (suc m) n s (told_by e)).lines ≡ lines_from m n s e

  ends_none : (n : ℕ) (s : List ℕ) → length s ≤ 0 → Front s → (steps_of 1 n s (told_by e)).lines ≡ lines_from 0 n s e
  ends_none n s h (short x w) = ap (λ (r : Steps). r.lines) (short_steps 0 n s (told_by e) x) ∙ short_end n s e _ ∙ sym (no_record n s e 0 w)
  ends_none n s h (wrong l w) = absurd (omega (arith, l, h))
  ends_none n s h (found l w) = absurd (omega (arith, l, h))

  ends_some : (m : ℕ) → Ends m → (n : ℕ) (s : List ℕ) → length s ≤ suc m → Front s → (steps_of (suc (suc m)) n s (told_by e)).lines ≡ lines_from (suc m) n s e
  unfolding then
  ends_some m ih n s h (short x w) =
      ap (λ (r : Steps). r.lines) (short_steps (suc m) n s (told_by e) x) ∙ short_end n s e _ ∙ sym (no_record n s e (suc m) w)
  ends_some m ih n s h (wrong l w) = ap (λ (r : Steps). r.lines) (wrong_steps (suc m) n s (told_by e) l w) ∙ sym (wrong_lines (suc m) n s e l w)
  ends_some m ih n s h (found l w) =
      ap (λ (r : Steps). r.lines) (found_steps (suc m) n s (told_by e) l w)
      ∙ ap (λ (x : List ℕ). record_lines n s ++ x) (ih (suc n) (after_record s) (behind_fewer s m l h))
      ∙ sym (a_record n s e m (found_whole s l w))

  ends : (m : ℕ) → Ends m
  ends zero n s h = ends_none n s h (front s)
  ends (suc m) n s h = ends_some m (ends m) n s h (front s)

-- ---- the steps while more may come: what they leave in hand, with what comes behind it, has the lines that are left
module _ (t : List ℕ) (e : Ending) where
  left : Steps → List ℕ
  left r = r.lines ++ unless_over r.next (lines_from (length (r.held ++ t)) r.number (r.held ++ t) e)

  abbrev Goes : ℕ → Type 0
  Goes m = (k n : ℕ) (s : List ℕ) → length s ≤ m → length (s ++ t) ≤ k → lines_from k n (s ++ t) e ≡ left (steps_of (suc m) n s More)

  short_goes : (m k n : ℕ) (s : List ℕ) → length (s ++ t) ≤ k → length s < head_size + to_come s → lines_from k n (s ++ t) e ≡ left (steps_of (suc m) n s More)
  unfolding left going_on short_step
  short_goes m k n s g x = enough e k (length (s ++ t)) n (s ++ t) g (omega arith) ∙ ap left (sym (short_steps m n s More x))

  wrong_goes : (m k n : ℕ) (s : List ℕ) → head_size ≤ length s → (mark_in s ≡ 0xA55A → ⊥) → lines_from k n (s ++ t) e ≡ left (steps_of (suc m) n s More)
  unfolding left
  wrong_goes m k n s l w =
      wrong_lines k n (s ++ t) e (omega (arith, l, length-append s t)) (λ z. w (sym (mark_kept s t l) ∙ z))
      ∙ sym (append-nil (bad_lines n)) ∙ ap left (sym (wrong_steps m n s More l w))

  found_goes : (m k n : ℕ) (s : List ℕ) → Goes m → length s ≤ suc m → length (s ++ t) ≤ suc k → head_size + length_in s ≤ length s → mark_in s ≡ 0xA55A
      → lines_from (suc k) n (s ++ t) e ≡ left (steps_of (suc (suc m)) n s More)
  unfolding left then
  found_goes m k n s ih h g l w =
      let f : head_size ≤ length s = omega (arith, l) in
      let c : head_size + length_in (s ++ t) ≤ length (s ++ t) = omega (arith, l, length-append s t, length_kept s t f) in
      let b = behind_kept s t f l in
      let r = steps_of (suc m) (suc n) (after_record s) More in
      a_record n (s ++ t) e k (found_whole (s ++ t) c (mark_kept s t f ∙ w))
      ∙ ap (λ (x : List ℕ). x ++ lines_from k (suc n) (after_record (s ++ t)) e) (lines_kept s t f l n)
      ∙ ap (λ (x : List ℕ). record_lines n s ++ lines_from k (suc n) x e) b
      ∙ ap (λ (x : List ℕ). record_lines n s ++ x) (ih k (suc n) (after_record s) (behind_fewer s m l h) (omega (arith, ap length b, behind_fewer (s ++ t) k c g)))
      ∙ sym (append_assoc (record_lines n s) r.lines (unless_over r.next (lines_from (length (r.held ++ t)) r.number (r.held ++ t) e)))
      ∙ ap left (sym (found_steps (suc m) n s More l w))

  goes_none : (k n : ℕ) (s : List ℕ) → length s ≤ 0 → length (s ++ t) ≤ k → Front s → lines_from k n (s ++ t) e ≡ left (steps_of 1 n s More)
  goes_none k n s h g (short x w) = short_goes 0 k n s g x
  goes_none k n s h g (wrong l w) = absurd (omega (arith, l, h))
  goes_none k n s h g (found l w) = absurd (omega (arith, l, h))

  goes_some : (m : ℕ) → Goes m → (k n : ℕ) (s : List ℕ) → length s ≤ suc m → length (s ++ t) ≤ k → Front s
      → lines_from k n (s ++ t) e ≡ left (steps_of (suc (suc m)) n s More)
  goes_some m ih k n s h g (short x w) = short_goes (suc m) k n s g x
  goes_some m ih k n s h g (wrong l w) = wrong_goes (suc m) k n s l w
  goes_some m ih zero n s h g (found l w) = absurd (omega (arith, l, g, length-append s t))
  goes_some m ih (suc k) n s h g (found l w) = found_goes m k n s ih h g l w

  goes : (m : ℕ) → Goes m
  goes zero k n s h g = goes_none k n s h g (front s)
  goes (suc m) k n s h g = goes_some m (goes m) k n s h g (front s)

-- ---- the run
run_lines : (ps : List (List ℕ)) (n : ℕ) (s : List ℕ) (e : Ending) → run_from n s ps e ≡ lines_from (length (s ++ whole_input ps)) n (s ++ whole_input ps) e
unfolding run_from left
run_lines [] n s e = ends e (length s) n s (omega arith) ∙ ap (λ (x : List ℕ). lines_from (length x) n x e) (sym (append-nil s))
run_lines (p ∷ ps) n s e =
    let r = all_steps n (s ++ p) More in
    ap (λ (x : List ℕ). r.lines ++ unless_over r.next x) (run_lines ps r.number r.held e)
    ∙ sym (goes (whole_input ps) e (length (s ++ p)) (length ((s ++ p) ++ whole_input ps)) n (s ++ p) (omega arith) (omega arith))
    ∙ ap (λ (x : List ℕ). lines_from (length x) n x e) (append_assoc s p (whole_input ps))

-- however the input comes in pieces, and however it ends: what the steps put is the listing of the whole input
pub run_listing : (ps : List (List ℕ)) (e : Ending) → runs ps e ≡ listing (whole_input ps) e
unfolding runs listing
run_listing ps e = ap (λ (x : List ℕ). first_line ++ x) (run_lines ps 0 [] e)
