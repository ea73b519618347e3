-- Tests one after the other: which of them refuses, and what a length that was answered says of them.
use Prim.Native.Nat.{ℕ, ◌+◌, ◌≤◌}
use mathlib.Core.Path.{◌≡◌, refl, sym, ap, ◌∙◌}
use mathlib.Core.Bool.{Bool, true, false, not}
use mathlib.Core.List.{List}
use native.Mathlib.Omega.{arith}
use lib.ListN.{length}
use borrow.Author.Tests.{leb-true, not-true, not-false}
use Rattle.logic.proofs.LoopLaws.{and_left, and_right}
use Rattle.refusal.specs.Outcomes.{Outcome, refused, resulted, after, or_refuse}
use Rattle.refusal.specs.Outputs.{counted}
use Rattle.refusal.proofs.OutcomeLaws.{same_result, went_on}
use Rattle.kind.specs.declared.Kind.{Kind}
use Rattle.kind.specs.Kinds.{limits_of}
use Rattle.section.specs.declared.write.Given.{Given}
use Rattle.section.specs.Encoding.{encode_with}
use Rattle.section.specs.Writing.{header_given, header_fits, length_fits}
use Rattle.section.proofs.EncodingLaws.{encoded_size}
use Rattle.writing.specs.Written.{allowed}
use Rattle.writing.specs.Inner.{Fits}

-- ---- one test, as the code has it, and those behind it
module _ (n : ℕ) (b : Bool) (o : Outcome (List ℕ)) {t : Bool} (told : t ≡ b) where
  pub refuses : not t ≡ true → refused n ≡ counted (or_refuse n b o)
  unfolding or_refuse counted after
  refuses e = rw (sym told ∙ not-true t e)

  pub goes_on : {x : Outcome ℕ} → not t ≡ false → x ≡ counted o → x ≡ counted (or_refuse n b o)
  unfolding or_refuse
  goes_on e f = rw (sym told ∙ not-false t e) f

-- ---- 24
counted_or : (b : Bool) (s : List ℕ) → or_refuse 24 b (resulted (length s)) ≡ counted (or_refuse 24 b (resulted s))
unfolding or_refuse counted after
counted_or true s = refl
counted_or false s = refl

pub told_length : {x : Outcome ℕ} (k : Kind) (room : ℕ) (s : List ℕ) (n : ℕ) → length s ≡ n
    → x ≡ or_refuse 24 (length_fits k room n) (resulted n) → x ≡ counted (allowed k room s)
unfolding allowed
told_length k room s n l e =
    e ∙ ap (λ m. or_refuse 24 (length_fits k room m) (resulted m)) (sym l) ∙ counted_or (length_fits k room (length s)) s

-- a section that came to a result has room
module _ (k : Kind) (g : Given) (body : List ℕ) (n room : ℕ) (small : (limits_of k).largest ≤ 4093) (size : length body ≡ n) where
  pub has_room : (s : List ℕ) → header_fits g ≡ true → allowed k room (encode_with k (header_given g) body) ≡ resulted s
      → Fits g n room × (encode_with k (header_given g) body ≡ s)
  unfolding allowed length_fits
  has_room s h e =
      let m = length (encode_with k (header_given g) body) in
      let w = went_on 24 (length_fits k room m) _ s e in
      let l = leb-true m ((limits_of k).largest + 3) (and_left _ _ w.0) in
      let r = leb-true m room (and_right _ _ w.0) in
      let z = encoded_size k (header_given g) body in
      (record { header = h; largest = omega arith; room = omega arith }, same_result _ _ w.1)
