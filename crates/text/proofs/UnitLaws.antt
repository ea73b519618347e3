-- One segment: the units of plain bytes and of compressed ones, and what is answered and stored of them.
use mathlib.Core.Path.{◌≡◌, refl, sym, ap, ◌∙◌}
use mathlib.Core.Bool.{Bool, true, false}
use mathlib.Core.Logic.{◌⊎◌, inl, inr}
use mathlib.Core.List.{List, [], ◌∷◌}
use Prim.Native.Nat.{ℕ, zero, suc, ◌+◌, ◌*◌, ◌/◌, ◌%◌, ◌<◌, ◌≤◌}
use native.Mathlib.Omega.{arith}
use lib.ListN.{length, get_or, take, drop}
use lib.Seq.{sets, take_all}
use Rattle.bytes_at.specs.Fields.{byte_at}
use Rattle.refusal.specs.Numbers.{number_of}
use Rattle.refusal.specs.Outcomes.{Outcome, refused, resulted, after}
use Rattle.refusal.specs.declared.Refusal.{Refusal}
use Rattle.refusal.proofs.OutcomeLaws.{same_result, not_both}
use Rattle.refusal.proofs.TestLaws.{lets_eq, stops_eq}
use Rattle.std.specs.Prelude.{Ok, Err}
use Rattle.segment.specs.Text.{Text, done, unit}
use Rattle.segment.specs.Inner.{judged_text, units}
use Rattle.segment.specs.Text as texts
use Rattle.segment.proofs.TextLaws.{Fits}
use Rattle.text.specs.declared.segments.Way.{Way}
use Rattle.text.specs.declared.segments.Way.TheVariants.{Plain, Utf16, Titles, Descriptions, Unread}
use Rattle.text.specs.Segments.{way_of, pairs, utf16_units, units_or_refusal, units_by}
use Rattle.text.specs.Strings.{segment_units}
use Rattle.text.specs.Inner.{plain_pairs, plain_by, plain_units, stored_units, Wrote}
use Rattle.refusal.proofs.OutputLaws.{counted_result, counted_refused}

-- ---- pairs of bytes
pub pairs_length : (s : List ℕ) → length (pairs s) ≡ length s / 2
unfolding pairs
pairs_length [] = refl
pairs_length (a ∷ []) = refl
pairs_length (a ∷ b ∷ s) = omega (arith, pairs_length s)

pub pairs_at : (s : List ℕ) (i : ℕ) → 2 * i + 1 < length s → get_or (pairs s) i 0 ≡ 256 * get_or s (2 * i) 0 + get_or s (2 * i + 1) 0
unfolding pairs
pairs_at [] i h = absurd (omega arith)
pairs_at (a ∷ []) i h = absurd (omega arith)
pairs_at (a ∷ b ∷ s) zero h = refl
pairs_at (a ∷ b ∷ s) (suc i) h =
    let e : 2 * suc i ≡ suc (suc (2 * i)) = omega arith in
    let f : 2 * suc i + 1 ≡ suc (suc (2 * i + 1)) = omega arith in
    rw (f, e) (pairs_at s i (omega arith))

pub utf16_even : (s : List ℕ) → length s % 2 ≡ 0 → utf16_units s ≡ resulted (pairs s)
unfolding utf16_units
utf16_even s h = sym (lets_eq 11 (length s % 2) 0 (resulted (pairs s)) h refl)

pub utf16_odd : (s : List ℕ) → (length s % 2 ≡ 0 → ⊥) → utf16_units s ≡ refused 11
unfolding utf16_units
utf16_odd s h = sym (stops_eq 11 (length s % 2) 0 (resulted (pairs s)) h refl)

-- ---- what is answered and stored
pub wrote_units : (x : Outcome (List ℕ)) (l : List ℕ) (n k : ℕ) (us e : List ℕ) → x ≡ resulted us → k ≡ length us → length us ≤ 2040
    → e ≡ sets l n us → Wrote x l n (Ok k) e
unfolding stored_units
wrote_units x l n k us e q c m w = record {
  answers = rw (q, c, counted_result us);
  stores = rw q w;
  few = λ vs v. rw (same_result us vs (sym q ∙ v)) at m;
}

pub wrote_refused : (x : Outcome (List ℕ)) (l : List ℕ) (n : ℕ) (r : Refusal) (e : List ℕ) → x ≡ refused (number_of r) → e ≡ l
    → Wrote x l n (Err r) e
unfolding stored_units
wrote_refused x l n r e q w = record {
  answers = rw (q, counted_refused (number_of r));
  stores = rw q w;
  few = λ vs v. not_both (number_of r) vs (sym q ∙ v);
}

-- the first k of k units are they
pub all_of : (l us : List ℕ) (n k : ℕ) (e : List ℕ) → length us ≤ k → e ≡ sets l n (take k us) → e ≡ sets l n us
all_of l us n k e h w = rw (take_all k us h) at w

-- ---- a compressed segment is refused by 11 only
pub judged_refusal : (m n k : ℕ) (x : Text) → Fits m x → judged_text n x ≡ refused k → k ≡ 11
unfolding judged_text
judged_refusal m n k done f e = let z : ◌≡◌ {A = ℕ} 0 1 = cc in absurd (omega arith)
judged_refusal m n k (texts.stopped j) f e = let q : j ≡ k = cc in omega arith
judged_refusal zero n k (unit u x) f e = absurd f
judged_refusal (suc m) n k (unit u x) f e = judged_refusal m (n + 1) k x f e

-- ---- what its judge says of its units
pub text_units_lem : (n k : ℕ) (x : Text) → judged_text n x ≡ resulted k → units_or_refusal x ≡ resulted (units x)
unfolding judged_text units_or_refusal units after
text_units_lem n k done e = refl
text_units_lem n k (texts.stopped j) e = let z : ◌≡◌ {A = ℕ} 0 1 = cc in absurd (omega arith)
text_units_lem n k (unit u x) e = ap (λ (o : Outcome (List ℕ)). after o (λ us. resulted (u ∷ us))) (text_units_lem (n + 1) k x e)

pub text_refusal : (n k : ℕ) (x : Text) → judged_text n x ≡ refused k → units_or_refusal x ≡ refused k
unfolding judged_text units_or_refusal after
text_refusal n k done e = let z : ◌≡◌ {A = ℕ} 0 1 = cc in absurd (omega arith)
text_refusal n k (texts.stopped j) e = let q : j ≡ k = cc in ap refused q
text_refusal n k (unit u x) e = ap (λ (o : Outcome (List ℕ)). after o (λ us. resulted (u ∷ us))) (text_refusal (n + 1) k x e)

-- ---- plain bytes, one or two a unit
module _ (wide : Bool) (s : List ℕ) (i : ℕ) (h : i < length (plain_pairs wide s)) where
  pub pair_there : wide ≡ true → 2 * i + 1 < length s
  unfolding plain_pairs
  pair_there e = omega (arith, pairs_length s, rw e at h)

  pub pair_at : wide ≡ true → 256 * get_or s (2 * i) 0 + get_or s (2 * i + 1) 0 ≡ get_or (plain_pairs wide s) i 0
  unfolding plain_pairs
  pair_at e = rw e (sym (pairs_at s i (pair_there e)))

  pub byte_there : wide ≡ false → i < length s
  unfolding plain_pairs
  byte_there e = rw e at h

  pub byte_at_lem : wide ≡ false → get_or s i 0 ≡ get_or (plain_pairs wide s) i 0
  unfolding plain_pairs
  byte_at_lem e = rw e

-- ---- a segment where it stands
pub units_at : (s p : List ℕ) (at c m n : ℕ) (w : Way) → c ≡ byte_at s at → m ≡ byte_at s (at + 1) → n ≡ byte_at s (at + 2) → w ≡ way_of c m
    → p ≡ take n (drop (at + 3) s) → units_by w p ≡ segment_units s at
unfolding segment_units
units_at s p at c m n w a b d e f = rw (e, f, a, b, d)

pub plain_at : (s p : List ℕ) (at c m n : ℕ) (w : Way) → c ≡ byte_at s at → m ≡ byte_at s (at + 1) → n ≡ byte_at s (at + 2) → w ≡ way_of c m
    → p ≡ take n (drop (at + 3) s) → plain_by w p ≡ plain_units s at
unfolding plain_units
plain_at s p at c m n w a b d e f = rw (e, f, a, b, d)

-- a way that is none of the two reads plain bytes
pub plain_else : (w : Way) → (w ≡ Titles → ⊥) → (w ≡ Descriptions → ⊥) → (b : List ℕ) → plain_by w b ≡ units_by w b
unfolding plain_by
plain_else Plain f g b = refl
plain_else Utf16 f g b = refl
plain_else Titles f g b = absurd (f refl)
plain_else Descriptions f g b = absurd (g refl)
plain_else Unread f g b = refl

-- and the others are of no read pair, to those who read plain bytes only
pub plain_none : (w : Way) (s : List ℕ) → (w ≡ Titles) ⊎ ((w ≡ Descriptions) ⊎ (w ≡ Unread)) → plain_by w s ≡ refused 10
unfolding plain_by units_by
plain_none w s (inl e) = rw e
plain_none w s (inr (inl e)) = rw e
plain_none w s (inr (inr e)) = rw e

-- a segment that is not compressed
pub plain_same : (s : List ℕ) (at c m : ℕ) (w : Way) → c ≡ byte_at s at → m ≡ byte_at s (at + 1) → w ≡ way_of c m
    → ((b : List ℕ) → plain_by w b ≡ units_by w b) → plain_units s at ≡ segment_units s at
unfolding plain_units segment_units
plain_same s at c m w a b e f =
    let q : w ≡ way_of (byte_at s at) (byte_at s (at + 1)) = rw (a, b) at e in
    rw q at (f (take (byte_at s (at + 2)) (drop (at + 3) s)))
