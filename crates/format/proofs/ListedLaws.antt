-- Values that lie one after the other: a walk past some of them comes where the next lies.
use Prim.Native.Nat.{ℕ, zero, suc, ◌+◌, ◌≤◌, ◌<◌}
use mathlib.Core.Path.{◌≡◌, refl, ap, ◌∙◌}
use mathlib.Core.List.{List, [], ◌∷◌}
use native.Mathlib.Omega.{arith}
use lib.ListN.{length, length-append}
use Rattle.std.specs.Prelude.{Ok}
use Rattle.bytes_at.specs.Walks.{many}
use Rattle.bytes_at.proofs.WalkLaws.{then_to}
use Rattle.format.specs.Lawful.{Lies}
use Rattle.format.specs.Repeats.{All, encs}
use Rattle.format.specs.Values.{One}
use Rattle.format.specs.Laws.OfBytes.{lies_split}
use Rattle.format.proofs.KeptLaws.{laws}
use Rattle.format.specs.Formats.{Format, walks}
use Rattle.format.specs.Listed.{nth_of}

-- well-formed values lie in s one after the other, the first at a, in a container that ends at `end`
pub record Stand (f : Format One) (s : List ℕ) (end a : ℕ) (xs : List f.Val) : Type 0 where
  pub good : All (f.Formed (record {})) xs
  pub lies : Lies (encs f.enc xs) s a
  pub inside : a + length (encs f.enc xs) ≤ end

module _ (f : Format One) (s : List ℕ) (end : ℕ) where
  -- so does the first, and so do those behind it
  pub first_lies : (a : ℕ) (x : f.Val) (xs : List f.Val) → Stand f s end a (x ∷ xs) → Lies (f.enc x) s a
  first_lies a x xs g = (lies_split (f.enc x) (encs f.enc xs) s a g.lies).0

  pub rest_stand : (a : ℕ) (x : f.Val) (xs : List f.Val) → Stand f s end a (x ∷ xs) → Stand f s end (a + length (f.enc x)) xs
  rest_stand a x xs g =
      let i = g.inside in
      record {
        good = g.good.1;
        lies = (lies_split (f.enc x) (encs f.enc xs) s a g.lies).1;
        inside = omega (arith, length-append (f.enc x) (encs f.enc xs));
      }

  pub first_inside : (a : ℕ) (x : f.Val) (xs : List f.Val) → Stand f s end a (x ∷ xs) → a + length (f.enc x) ≤ end
  first_inside a x xs g = let i = g.inside in omega (arith, length-append (f.enc x) (encs f.enc xs))

  pub first_walks : (a : ℕ) (x : f.Val) (xs : List f.Val) → Stand f s end a (x ∷ xs) → walks f s end a ≡ Ok (a + length (f.enc x))
  first_walks a x xs g = (f.law laws (record {})).sound s end a x g.good.0 (first_lies a x xs g) (first_inside a x xs g)

  -- past them all
  pub all_walk : (a : ℕ) (xs : List f.Val) → Stand f s end a xs → many (walks f s end) (length xs) a ≡ Ok (a + length (encs f.enc xs))
  unfolding many
  all_walk a [] g = ap Ok (omega arith)
  all_walk a (x ∷ xs) g =
      let j : a + length (f.enc x) + length (encs f.enc xs) ≡ a + length (encs f.enc (x ∷ xs)) =
      omega (arith, length-append (f.enc x) (encs f.enc xs)) in
      then_to _ _ (a + length (f.enc x)) _ (first_walks a x xs g) (all_walk (a + length (f.enc x)) xs (rest_stand a x xs g) ∙ ap Ok j)

  -- of number i, where a walk past i of them comes, what is told of the place is what is told of the value
  module _ {A : Type 0} (answer : ℕ → A) (told : ℕ → f.Val → A) (absent : A)
      (same : (a : ℕ) (x : f.Val) → f.Formed (record {}) x → Lies (f.enc x) s a → a + length (f.enc x) ≤ end → answer a ≡ told a x) where
    pub nth_told : (a : ℕ) (xs : List f.Val) (i : ℕ) → Stand f s end a xs → i < length xs
        → (b : ℕ) × ((many (walks f s end) i a ≡ Ok b) × (answer b ≡ nth_of f.enc told absent a xs i))
    unfolding many nth_of
    nth_told a [] i g h = absurd (omega arith)
    nth_told a (x ∷ xs) zero g h = (a, (refl, same a x g.good.0 (first_lies a x xs g) (first_inside a x xs g)))
    nth_told a (x ∷ xs) (suc i) g h =
        let u = nth_told (a + length (f.enc x)) xs i (rest_stand a x xs g) (omega arith) in
        (u.0, (then_to _ _ (a + length (f.enc x)) _ (first_walks a x xs g) u.1.0, u.1.1))

    pub nth_absent : (a : ℕ) (xs : List f.Val) (i : ℕ) → length xs ≤ i → nth_of f.enc told absent a xs i ≡ absent
    unfolding nth_of
    nth_absent a [] i h = refl
    nth_absent a (x ∷ xs) zero h = absurd (omega arith)
    nth_absent a (x ∷ xs) (suc i) h = nth_absent (a + length (f.enc x)) xs i (omega arith)

-- what is made of what is told
pub nth_made : {X A B : Type 0} (g : A → B) (enc : X → List ℕ) (told : ℕ → X → A) (absent : A) (a : ℕ) (xs : List X) (i : ℕ)
    → g (nth_of enc told absent a xs i) ≡ nth_of enc (λ a x. g (told a x)) (g absent) a xs i
unfolding nth_of
nth_made g enc told absent a [] i = refl
nth_made g enc told absent a (x ∷ xs) zero = refl
nth_made g enc told absent a (x ∷ xs) (suc i) = nth_made g enc told absent (a + length (enc x)) xs i

-- what is told of a value where it lies is what is said of it, wherever that is: so it is of number i
module _ {X A : Type 0} (Formed : X → Type 0) (enc : X → List ℕ) (s : List ℕ) (told says : ℕ → X → A) (absent : A)
    (same : (a b : ℕ) (x : X) → Formed x → Lies (enc x) s a → told a x ≡ says b x) where
  pub nth_said : (a b : ℕ) (xs : List X) (i : ℕ) → All Formed xs → Lies (encs enc xs) s a
      → nth_of enc told absent a xs i ≡ nth_of enc says absent b xs i
  unfolding nth_of
  nth_said a b [] i g l = refl
  nth_said a b (x ∷ xs) zero g l = same a b x g.0 (lies_split (enc x) (encs enc xs) s a l).0
  nth_said a b (x ∷ xs) (suc i) g l =
      nth_said (a + length (enc x)) (b + length (enc x)) xs i g.1 (lies_split (enc x) (encs enc xs) s a l).1
