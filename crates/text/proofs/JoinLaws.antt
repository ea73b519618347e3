-- The segments of a string, one after another.
use mathlib.Core.Path.{◌≡◌, refl, sym, ap, ◌∙◌}
use mathlib.Core.List.{List, [], ◌∷◌, ◌++◌}
use Prim.Native.Nat.{ℕ, zero, suc, ◌+◌, ◌*◌, ◌≤◌}
use native.Mathlib.Nat.{add-zero}
use native.Mathlib.Omega.{arith}
use lib.ListN.{length, length-append}
use lib.Seq.{sets, length-sets}
use Rattle.std.specs.Prelude.{Result, Ok, Err}
use Rattle.bytes_at.specs.Walks.{then, many, standing, Walk}
use Rattle.bytes_at.proofs.WalkLaws.{skipped, then_inv}
use Rattle.refusal.specs.Numbers.{number_of}
use Rattle.refusal.specs.Outcomes.{Outcome, refused, resulted, outcome, after}
use Rattle.refusal.specs.declared.Refusal.{Refusal}
use Rattle.refusal.proofs.OutcomeLaws.{same_result, not_both}
use Rattle.row.proofs.RowLaws.{sets_append}
use Rattle.format.specs.Formats.{walks}
use Rattle.format.proofs.FieldLaws.{fields_end}
use Rattle.strings.specs.Strings.{segment}
use Rattle.text.specs.declared.answer.Amount.{Amount}
use Rattle.text.specs.Answers.{amount_of}
use Rattle.text.specs.Strings.{segment_units, joined_units}
use Rattle.text.specs.Values.{joined}
use Rattle.refusal.specs.Outputs.{counted}
use Rattle.text.specs.Inner.{plain_units, joined_of, joined_plain, stored_units, Wrote, WroteAll}
use Rattle.refusal.proofs.OutputLaws.{from_number, from_refusal}
use Rattle.text.proofs.AmountLaws.{amount_refused, amount_counted}

-- ---- the walk past one segment
pub many_once : (p : ℕ → Walk) (at : ℕ) → many p 1 at ≡ p at
unfolding many then
many_once p at = by (p at)
  where
    by : (w : Walk) → then w (many p 0) ≡ w
    by (Ok b) = refl
    by (Err x) = refl

pub segment_ends : (s : List ℕ) (end at b : ℕ) → walks segment s end at ≡ Ok b → at + 3 ≤ b
unfolding segment
segment_ends s end at b e =
    let h = then_inv _ _ b e in
    let f = fields_end 8 (8 ∷ 8 ∷ []) 3 refl at end h.0 h.1.0 in
    omega (arith, f, skipped 1 h.0 _ end b h.1.1)

-- ---- joined texts
-- the number of units, where n stand before them
unfoldable pub counted_from : ℕ → Outcome (List ℕ) → Outcome ℕ
counted_from n x = after x (λ us. resulted (n + length us))

counted_first : (x : Outcome (List ℕ)) → counted_from 0 x ≡ counted x
unfolding counted_from counted after
counted_first (refused k) = refl
counted_first (resulted us) = ap resulted (omega arith)

counted_on : (n : ℕ) (us : List ℕ) (y : Outcome (List ℕ)) → counted_from n (joined (resulted us) y) ≡ counted_from (n + length us) y
unfolding counted_from joined after
counted_on n us (refused k) = refl
counted_on n us (resulted vs) = ap resulted (omega (arith, length-append us vs))

joined_inv : (us vs : List ℕ) (y : Outcome (List ℕ)) → joined (resulted us) y ≡ resulted vs → (ws : List ℕ) × ((y ≡ resulted ws) × (vs ≡ us ++ ws))
unfolding joined after
joined_inv us vs (refused k) e = not_both k vs e
joined_inv us vs (resulted ws) e = (ws, (refl, same_result vs (us ++ ws) (sym e)))

pub joined_refused : (x y : Outcome (List ℕ)) (q : ℕ) → x ≡ refused q → joined x y ≡ refused q
unfolding joined after
joined_refused x y q e = rw e

-- ---- one segment more, where one fewer are then left
module _ (told : ℕ → Outcome (List ℕ)) (s : List ℕ) (end left next at : ℕ) (h : left ≡ suc next) where
  of_step : joined_of told s end left at ≡ after (standing (walks segment s end at)) (λ b. joined (told at) (joined_of told s end next b))
  unfolding joined_of
  of_step = rw h

  pub of_bad : (k : ℕ) → standing (walks segment s end at) ≡ refused k → joined_of told s end left at ≡ refused k
  unfolding after
  of_bad k e = of_step ∙ rw e

  pub of_on : (b : ℕ) → standing (walks segment s end at) ≡ resulted b → joined_of told s end left at ≡ joined (told at) (joined_of told s end next b)
  unfolding after
  of_on b e = of_step ∙ rw e

pub of_none : (told : ℕ → Outcome (List ℕ)) (s : List ℕ) (end left at : ℕ) → left ≡ 0 → joined_of told s end left at ≡ resulted []
unfolding joined_of
of_none told s end left at e = rw e

of_units : (s : List ℕ) (end m at : ℕ) → joined_of (segment_units s) s end m at ≡ joined_units s end m at
unfolding joined_of joined_units
of_units s end zero at = refl
of_units s end (suc m) at = λ i. after (standing (walks segment s end at)) (λ b. joined (segment_units s at) (of_units s end m b i))

pub units_none : (s : List ℕ) (end left at : ℕ) → left ≡ 0 → joined_units s end left at ≡ resulted []
units_none s end left at e = sym (of_units s end left at) ∙ of_none (segment_units s) s end left at e

module _ (s : List ℕ) (end left next at : ℕ) (h : left ≡ suc next) where
  pub units_bad : (k : ℕ) → standing (walks segment s end at) ≡ refused k → joined_units s end left at ≡ refused k
  units_bad k e = sym (of_units s end left at) ∙ of_bad (segment_units s) s end left next at h k e

  pub units_on : (b : ℕ) → standing (walks segment s end at) ≡ resulted b
      → joined_units s end left at ≡ joined (segment_units s at) (joined_units s end next b)
  units_on b e =
      sym (of_units s end left at) ∙ of_on (segment_units s) s end left next at h b e ∙ ap (joined (segment_units s at)) (of_units s end next b)

  -- where no segment is compressed the plain bytes are all
  pub all_plain : (b : ℕ) → standing (walks segment s end at) ≡ resulted b → plain_units s at ≡ segment_units s at
      → joined_plain s end next b ≡ joined_units s end next b → joined_plain s end left at ≡ joined_units s end left at
  all_plain b w e f = of_on (plain_units s) s end left next at h b w ∙ (λ i. joined (e i) (f i)) ∙ sym (units_on b w)

pub plain_wrote : {x y : Outcome (List ℕ)} {p : ℕ} {l : List ℕ} {r : Result Amount Refusal} {e : List ℕ} → x ≡ y → WroteAll x p l r e → WroteAll y p l r e
plain_wrote q w = rw q at w

-- ---- the loop: of the units x, with the output l₀ at first, the units y are left after i segments, with n units stored in l
pub record Going (x : Outcome (List ℕ)) (l₀ : List ℕ) (y : Outcome (List ℕ)) (l : List ℕ) (i n : ℕ) : Type 0 where
  pub few : n ≤ 2040 * i
  pub answers : counted_from n y ≡ counted x
  pub stores : (us : List ℕ) → x ≡ resulted us → (vs : List ℕ) × ((y ≡ resulted vs) × (sets l n vs ≡ sets l₀ 0 us))
  pub long : length l ≡ length l₀

pub going_first : (x y : Outcome (List ℕ)) (l : List ℕ) → y ≡ x → Going x l y l 0 0
going_first x y l q = record {
  few = omega arith;
  answers = ap (counted_from 0) q ∙ counted_first x;
  stores = λ us e. (us, (q ∙ e, refl));
  long = refl;
}

pub wrote_few : {z : Outcome (List ℕ)} {l : List ℕ} {n : ℕ} {u : Result ℕ Refusal} {e : List ℕ} (k : ℕ) → Wrote z l n u e → u ≡ Ok k → k ≤ 2040
wrote_few {z} {l} {n} {u} {e} k w q =
    let v : Wrote z l n (Ok k) e = rw q at w in
    let f = from_number z k v.answers in
    omega (arith, v.few f.0 f.1.0, f.1.1)

module _ {x : Outcome (List ℕ)} {l₀ : List ℕ} {y : Outcome (List ℕ)} {l : List ℕ} {i n : ℕ} (g : Going x l₀ y l i n) where
  pub going_refused : (p : ℕ) {v : Result Amount Refusal} {r : Refusal} (e : List ℕ) → v ≡ Err r → y ≡ refused (number_of r) → WroteAll x p l₀ v e
  unfolding counted_from after
  going_refused p {v} {r} e h q = record {
    answers = ap outcome h ∙ sym (ap (amount_of p) (from_refusal x (number_of r) (rw q at g.answers)) ∙ amount_refused p (number_of r));
    stores = λ us u. not_both (number_of r) (g.stores us u).0 (sym q ∙ (g.stores us u).1.0);
  }

  pub going_done : (p : ℕ) → p ≡ 0 → y ≡ resulted [] → WroteAll x p l₀ (Ok (record { units = n; replaced = 0 })) l
  unfolding counted_from after
  going_done p none q = record {
    answers = amount_counted p x n none (ap resulted (sym (add-zero n)) ∙ (rw q at g.answers));
    stores = λ us u.
        let v = g.stores us u in
        let e : [] ≡ v.0 = same_result [] v.0 (sym q ∙ v.1.0) in
        ap (sets l n) e ∙ v.1.1;
  }

  module _ (z y' : Outcome (List ℕ)) (l' : List ℕ) (j : y ≡ joined z y') where
    pub going_stop : (p : ℕ) {v : Result Amount Refusal} (u : Result ℕ Refusal) {r : Refusal} → v ≡ Err r → Wrote z l n u l' → u ≡ Err r → WroteAll x p l₀ v l'
    going_stop p u {r} h w q =
        let e : z ≡ refused (number_of r) = from_refusal z (number_of r) (rw q at w.answers) in
        going_refused p l' h (j ∙ joined_refused z y' (number_of r) e)

    pub going_next : (us : List ℕ) (k : ℕ) → z ≡ resulted us → k ≡ length us → length us ≤ 2040 → l' ≡ sets l n us
        → Going x l₀ y' l' (i + 1) (n + k)
    going_next us k a q b e =
        let d : y ≡ joined (resulted us) y' = rw a at j in
        record {
          few = omega (arith, g.few);
          answers = ap (λ (j : ℕ). counted_from (n + j) y') q ∙ sym (ap (counted_from n) d ∙ counted_on n us y') ∙ g.answers;
          stores = λ vs t.
              let o = g.stores vs t in
              let w = joined_inv us o.0 y' (sym d ∙ o.1.0) in
              (w.0, (w.1.0, rw (e, q) (sym (sets_append us w.0 l n) ∙ ap (sets l n) (sym w.1.1) ∙ o.1.1)));
          long = ap length e ∙ length-sets l n us ∙ g.long;
        }

    pub going_on : (k : ℕ) (u : Result ℕ Refusal) → Wrote z l n u l' → u ≡ Ok k → Going x l₀ y' l' (i + 1) (n + k)
    unfolding stored_units
    going_on k u w q =
        let v : Wrote z l n (Ok k) l' = rw q at w in
        let f = from_number z k v.answers in
        going_next f.0 k f.1.0 f.1.1 (v.few f.0 f.1.0) (rw f.1.0 at v.stores)
