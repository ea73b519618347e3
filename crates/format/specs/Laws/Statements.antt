-- What formats' laws rest on, beside what is proved in these files: a format carries its law for the case that these hold, and they do
-- (theorem `laws` of proofs/KeptLaws.antt). They stand apart from their proofs so that what is defined in specs/ rests on statements alone.
use Rattle.std.specs.Prelude.{ℕ, ◌+◌, ◌*◌, ◌≡◌, List, ◌++◌, length}
use Rattle.bytes_at.specs.Walks.{fields_to, then}
use Rattle.format.specs.Lawful.{Walker, Lies, Lawful, Fills, NotEmpty, total}
use Rattle.format.specs.Repeats.{Bytes}
use Rattle.format.specs.Values.{Field, width}
use Rattle.format.specs.Steps.{steps_after}
use Rattle.format.specs.Laws.OfContainers.{ExactLaw, OptLaw}
use Rattle.format.specs.Laws.OfRepeats.{SomeLaw, ListLaw}

pub record Laws : Type 1 where
  -- bytes that are taken as they are, by fields of these widths
  pub fields_law : (ns : List ℕ) (k : ℕ) → total ns ≡ 8 * k
      → Lawful {X = List ℕ} (λ s end at. fields_to ns at end) (λ x. (length x ≡ k) × Bytes x) (λ x. x)
  -- a head of k bytes, and a body of which the head tells c; the walk reads c from behind the head
  pub head_law : {C X : Type 0} {B : C → Walker} {Formed : C → X → Type 0} {enc : X → List ℕ} (ns : List ℕ) (k : ℕ) (whole : total ns ≡ 8 * k)
      (c : List ℕ → ℕ → C) (same : (s : List ℕ) (at : ℕ) (h : List ℕ) → length h ≡ k → Lies h s at → c s (at + k) ≡ c h k)
      (body : (n : C) → Lawful (B n) (Formed n) enc)
      → Lawful {X = List ℕ × X} (λ s end at. then (fields_to ns at end) (λ b. B (c s b) s end b))
      (λ x. ((length x.0 ≡ k) × Bytes x.0) × Formed (c x.0 k) x.1) (λ x. x.0 ++ enc x.1)
  -- the steps past fields have their bits
  pub steps_width : (fs : List Field) (n : ℕ) → total (steps_after fs n) ≡ n + width fs
  -- a format that tells where it ends, and nothing after it
  pub exact_law : {X : Type 0} {A : Walker} {Formed : X → Type 0} {enc : X → List ℕ} (a : Lawful A Formed enc) → ExactLaw a
  -- nothing, or a format none of whose values is empty
  pub opt_law : {X : Type 0} {F : Walker} {Formed : X → Type 0} {enc : X → List ℕ} (f : Fills F Formed enc) (full : NotEmpty Formed enc) → OptLaw f full
  -- a format whose count must not be 0
  pub some_law : {X : Type 0} {W : Walker} {Formed : X → Type 0} {enc : X → List ℕ} (back n : ℕ) (a : Lawful W Formed enc) → SomeLaw back n a
  -- a format until the container's end
  pub list_law : {X : Type 0} {P : Walker} {Formed : X → Type 0} {enc : X → List ℕ} (a : Lawful P Formed enc) (full : NotEmpty Formed enc) → ListLaw a full
