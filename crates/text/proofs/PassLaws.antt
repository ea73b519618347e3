-- One pass: what is answered and stored of a segment, and of the segments of a string.
use mathlib.Core.Path.{◌≡◌, refl, sym, ap, subst, ◌∙◌}
use mathlib.Core.List.{List, []}
use Prim.Native.Nat.{ℕ, zero, suc, ◌+◌, ◌-◌, ◌*◌, ◌<◌, ◌≤◌}
use native.Mathlib.Omega.{arith}
use lib.ListN.{length, take}
use lib.Seq.{sets, length-sets}
use Rattle.bytes_at.specs.Fields.{byte_at}
use Rattle.refusal.specs.Numbers.{number_of}
use Rattle.refusal.specs.Outcomes.{Outcome, refused, resulted}
use Rattle.refusal.specs.declared.Refusal.{Refusal}
use Rattle.annex_c.specs.Codes.{Reading}
use Rattle.segment.specs.Bits.{all_bits}
use Rattle.segment.specs.Text.{Text, done, unit}
use Rattle.segment.specs.Inner.{units, judged_text, answer}
use Rattle.segment.specs.Text as texts
use Rattle.segment.specs.Segment.{segment_text}
use Rattle.segment.specs.Inner as pair
use Rattle.segment.proofs.BitLaws.{length_bits}
use Rattle.segment.proofs.TextLaws.{Fits, answer_count, stored}
use Rattle.segment.proofs.SegmentLaws.{coded_fits}
use Rattle.text.specs.declared.answer.Amount.{Amount}
use Rattle.std.specs.Prelude.{Result, Ok, Err}
use Rattle.text.specs.Segments.{units_or_refusal}
use Rattle.text.specs.Strings.{segment_units}
use Rattle.text.specs.Inner as inner
use Rattle.text.specs.Inner.{Wrote, Once, WroteAll, OnceAll}
use Rattle.refusal.proofs.OutcomeLaws.{same_result, not_both}
use Rattle.refusal.proofs.OutputLaws.{counted_result, counted_refused, from_number, from_refusal}
use Rattle.text.proofs.UnitLaws.{text_refusal, text_units_lem, wrote_units, wrote_refused}
use Rattle.text.proofs.AmountLaws.{amount_refused, from_amount}
use Rattle.text.proofs.FewLaws.{Few, segment_few}
use Rattle.text.proofs.JoinLaws.{Going, going_refused, going_done, going_next, joined_refused}
use Rattle.text.specs.Values.{joined}

-- ---- one segment
pub once_units : (x : Outcome (List ℕ)) (l : List ℕ) (n k : ℕ) (us e : List ℕ) → x ≡ resulted us → k ≡ length us → e ≡ sets l n us
    → Once x l n (Ok k) e
once_units x l n k us e q c w = record {
  answers = rw (q, c, counted_result us);
  stores = λ vs v. w ∙ ap (sets l n) (same_result us vs (sym q ∙ v));
  long = ap length w ∙ length-sets l n us;
}

pub once_refused : (x : Outcome (List ℕ)) (l : List ℕ) (n : ℕ) (r : Refusal) (e : List ℕ) → x ≡ refused (number_of r) → length e ≡ length l
    → Once x l n (Err r) e
once_refused x l n r e q w = record {
  answers = rw (q, counted_refused (number_of r));
  stores = λ vs v. not_both (number_of r) vs (sym q ∙ v);
  long = w;
}

length_stored : (l : List ℕ) (n : ℕ) (x : Outcome (List ℕ)) → length (inner.stored_units l n x) ≡ length l
unfolding inner.stored_units
length_stored l n (refused k) = refl
length_stored l n (resulted us) = length-sets l n us

pub once_wrote : {x : Outcome (List ℕ)} {l : List ℕ} {n : ℕ} {r : Result ℕ Refusal} {e : List ℕ} → Wrote x l n r e → Once x l n r e
unfolding inner.stored_units
once_wrote {x} {l} {n} {r} {e} w = record {
  answers = w.answers;
  stores = λ us q. w.stores ∙ ap (inner.stored_units l n) q;
  long = ap length w.stores ∙ length_stored l n x;
}

-- an answer below 4096 is a text that ends well, and another one that is refused, wherever the count begins
well : (n m : ℕ) (x : Text) → answer n x < 4096 → judged_text m x ≡ resulted (m + length (units x))
unfolding answer judged_text units
well n m done h = ap resulted (omega arith)
well n m (texts.stopped k) h = absurd (omega arith)
well n m (unit u x) h = well (n + 1) (m + 1) x h ∙ ap resulted (omega arith)

broken : (n m k : ℕ) (x : Text) → Fits k x → n + k < 4096 → 4096 ≤ answer n x → judged_text m x ≡ refused 11
unfolding answer judged_text
broken n m k done f b h = absurd (omega arith)
broken n m k (texts.stopped j) f b h = ap refused f
broken n m zero (unit u x) f b h = absurd f
broken n m (suc k) (unit u x) f b h = broken (n + 1) (m + 1) k x f (omega arith) h

module _ (read : ℕ → List ℕ → Reading) (s : List ℕ) (l e : List ℕ) (n a : ℕ) (room : n + 8 * length s ≤ 2040)
    (o : pair.PairOutcome (segment_text read s) n l a e) where
  fits : Fits (length (all_bits s)) (segment_text read s)
  unfolding segment_text
  fits = coded_fits read (length (all_bits s)) 0 (all_bits s)

  place : a < 4096 → a ≡ n + length (units (segment_text read s))
  place h = o.answers ∙ answer_count n (segment_text read s) (rw o.answers at h)

  pub once_after : a < 4096 → n ≤ a
  once_after h = omega (arith, place h)

  pub once_text : a < 4096 → Once (units_or_refusal (segment_text read s)) l n (Ok (a - n)) e
  once_text h =
      let d = well n 0 (segment_text read s) (rw o.answers at h) in
      once_units (units_or_refusal (segment_text read s)) l n (a - n) (units (segment_text read s)) e (text_units_lem 0 _ (segment_text read s) d) (omega (arith, place h)) o.stores

  pub once_broken : (r : Refusal) → number_of r ≡ 11 → 4096 ≤ a → Once (units_or_refusal (segment_text read s)) l n (Err r) e
  once_broken r q h =
      let d = broken n 0 (length (all_bits s)) (segment_text read s) fits (omega (arith, length_bits s)) (rw o.answers at h) in
      once_refused (units_or_refusal (segment_text read s)) l n r e (text_refusal 0 11 (segment_text read s) d ∙ ap refused (sym q)) (ap length o.stores ∙ length-sets l n (units (segment_text read s)))

-- ---- the segments of a string
no_amount : {B : Type 0} {r : Refusal} {a : Amount} → ◌≡◌ {A = Result Amount Refusal} (Err r) (Ok a) → B
no_amount e = let z : ◌≡◌ {A = ℕ} 0 1 = cc in absurd (omega arith)

are_units : (n : ℕ) (a : Amount) → ◌≡◌ {A = Result Amount Refusal} (Ok (record { units = n; replaced = 0 })) (Ok a) → n ≡ a.units
are_units n a e = ap units_of e
  where
    units_of : Result Amount Refusal → ℕ
    units_of (Err r) = 0
    units_of (Ok b) = b.units

module _ (s : List ℕ) (at : ℕ) {l : List ℕ} {n : ℕ} {u : Result ℕ Refusal} {e : List ℕ} where
  pub once_few : (k : ℕ) → Once (segment_units s at) l n u e → u ≡ Ok k → k ≤ 8 * (byte_at s (at + 2) + 3)
  once_few k w q =
      let v : Once (segment_units s at) l n (Ok k) e = rw q at w in
      let f = from_number (segment_units s at) k v.answers in
      let b : length f.0 ≤ 8 * (byte_at s (at + 2) + 3) = subst (Few (8 * (byte_at s (at + 2) + 3))) f.1.0 (segment_few s at) in
      omega (arith, b, f.1.1)

module _ {x : Outcome (List ℕ)} {l₀ : List ℕ} {y : Outcome (List ℕ)} {l : List ℕ} {i n : ℕ} (g : Going x l₀ y l i n) where
  pub onced_refused : (p : ℕ) {v : Result Amount Refusal} {r : Refusal} → v ≡ Err r → y ≡ refused (number_of r) → OnceAll x p l₀ v l
  onced_refused p h q = record { wrote = going_refused g p l h q; long = g.long; few = λ a w. no_amount (sym h ∙ w) }

  pub onced_done : (p : ℕ) → p ≡ 0 → n ≤ 2040 → y ≡ resulted [] → OnceAll x p l₀ (Ok (record { units = n; replaced = 0 })) l
  onced_done p none h q = record { wrote = going_done g p none q; long = g.long; few = λ a v. omega (arith, are_units n a v) }

  module _ (z y' : Outcome (List ℕ)) (l' : List ℕ) (j : y ≡ joined z y') (u : Result ℕ Refusal) (w : Once z l n u l') where
    pub onced_stop : (p : ℕ) {v : Result Amount Refusal} {r : Refusal} → v ≡ Err r → u ≡ Err r → OnceAll x p l₀ v l'
    onced_stop p {v} {r} h q =
        let e : z ≡ refused (number_of r) = from_refusal z (number_of r) (rw q at w.answers) in
        record {
          wrote = going_refused g p l' h (j ∙ joined_refused z y' (number_of r) e);
          long = w.long ∙ g.long;
          few = λ a t. no_amount (sym h ∙ t);
        }

    pub onced_on : (k : ℕ) → u ≡ Ok k → k ≤ 2040 → Going x l₀ y' l' (i + 1) (n + k)
    onced_on k q b =
        let v : Once z l n (Ok k) l' = rw q at w in
        let f = from_number z k v.answers in
        going_next g z y' l' j f.0 k f.1.0 f.1.1 (omega (arith, f.1.1)) (v.stores f.0 f.1.0)

pub onced_missing : (x : Outcome (List ℕ)) (p : ℕ) (l : List ℕ) {v : Result Amount Refusal} {r : Refusal} → v ≡ Err r → x ≡ refused (number_of r) → OnceAll x p l v l
onced_missing x p l {v} {r} h q = record {
  wrote = record { answers = rw (h, q, amount_refused p (number_of r)); stores = λ us u. not_both (number_of r) us (sym q ∙ u) };
  long = refl;
  few = λ a t. no_amount (sym h ∙ t);
}

-- ---- the units out of the array
-- one segment, whose units go from the array to place n of the output
module _ {x : Outcome (List ℕ)} {o₀ o : List ℕ} {u : Result ℕ Refusal} (w : Once x o₀ 0 u o) (l : List ℕ) (n : ℕ) where
  pub through_units : (k : ℕ) (e : List ℕ) → length o₀ ≡ 2040 → Few 2040 x → u ≡ Ok k → e ≡ sets l n (take k o) → Wrote x l n (Ok k) e
  through_units k e h few q c =
      let v : Once x o₀ 0 (Ok k) o = rw q at w in
      let f = from_number x k v.answers in
      let m : length f.0 ≤ 2040 = subst (Few 2040) f.1.0 few in
      let t : take k o ≡ f.0 =
      ap (take k) (v.stores f.0 f.1.0) ∙ ap (λ (i : ℕ). take i (sets o₀ 0 f.0)) f.1.1 ∙ stored o₀ f.0 (omega (arith, h)) in
      wrote_units x l n k f.0 e f.1.0 f.1.1 m (c ∙ ap (sets l n) t)

  pub through_few : (k : ℕ) → Few 2040 x → u ≡ Ok k → k ≤ 2040
  through_few k few q =
      let v : Once x o₀ 0 (Ok k) o = rw q at w in
      let f = from_number x k v.answers in
      let m : length f.0 ≤ 2040 = subst (Few 2040) f.1.0 few in
      omega (arith, m, f.1.1)

  pub through_refused : {v : Result ℕ Refusal} {r : Refusal} → v ≡ Err r → u ≡ Err r → Wrote x l n v l
  through_refused {v} {r} h q =
      rw h (wrote_refused x l n r l (from_refusal x (number_of r) (rw q at w.answers)) refl)

pub copied_all : (x : Outcome (List ℕ)) (p : ℕ) (l o₀ o e : List ℕ) (a : Amount) (r : Result Amount Refusal) → OnceAll x p o₀ r o → r ≡ Ok a → length o ≡ 2040
    → e ≡ sets l 0 (take a.units o) → WroteAll x p l (Ok a) e
copied_all x p l o₀ o e a r w q h c =
    let v : OnceAll x p o₀ (Ok a) o = rw q at w in
    let n : ℕ = a.units in
    let b = v.few a refl in
    record {
      answers = v.wrote.answers;
      stores = λ us t.
          let f = from_number x n (from_amount p x a v.wrote.answers) in
          let d : us ≡ f.0 = same_result us f.0 (sym t ∙ f.1.0) in
          let k : n ≡ length us = f.1.1 ∙ ap length (sym d) in
          let p : length us ≤ length o₀ = omega (arith, v.long) in
          c ∙ ap (sets l 0) (ap (take n) (v.wrote.stores us t) ∙ ap (λ (i : ℕ). take i (sets o₀ 0 us)) k ∙ stored o₀ us p);
    }
