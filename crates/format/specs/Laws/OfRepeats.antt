-- Laws of a format that stands several times: as often as is told, or until the container's end.
use Prim.Native.Nat.{ℕ, zero, suc, ◌+◌, ◌-◌, ◌≤◌, ◌<◌}
use Rattle.std.specs.Prelude.{◌≡◌, refl, eqb, Ok, Err}
use Rattle.std.proofs.Common.{sym, ◌∙◌}
use Rattle.std.proofs.Math.Path.{ap}
use mathlib.Core.List.{List, [], ◌∷◌, ◌++◌, append_assoc}
use native.Mathlib.Omega.{arith}
use Rattle.std.proofs.Math.ListN.{length, length-append}
use Rattle.logic.specs.Choices.{pick}
use Rattle.bytes_at.specs.Walks.{many}
use Rattle.bytes_at.proofs.WalkLaws.{to_is, then_to, then_inv}
use Rattle.format.specs.Lawful.{Walker, Lies, Lawful, Fills, NotEmpty, unto}
use Rattle.format.specs.Repeats.{Bytes, All, encs}
use Rattle.format.specs.Laws.OfBytes.{bytes_append, after, lies_at, lies_join, lies_split}

-- ---- as often as is told
module _ {X : Type 0} {P : Walker} {Formed : X → Type 0} {enc : X → List ℕ} (a : Lawful P Formed enc) where
  many_sound : (n : ℕ) (s : List ℕ) (end at : ℕ) (xs : List X) → length xs ≡ n → All Formed xs → Lies (encs enc xs) s at
      → at + length (encs enc xs) ≤ end → many (P s end) n at ≡ Ok (at + length (encs enc xs))
  unfolding many
  many_sound zero s end at [] o g l h = ap Ok (omega arith)
  many_sound zero s end at (x ∷ xs) o g l h = absurd (omega arith)
  many_sound (suc n) s end at [] o g l h = absurd (omega arith)
  many_sound (suc n) s end at (x ∷ xs) o g l h =
      let j = length-append (enc x) (encs enc xs) in
      let i = lies_split (enc x) (encs enc xs) s at l in
      let u = a.sound s end at x g.0 i.0 (omega arith) in
      let v = many_sound n s end (at + length (enc x)) xs (omega arith) g.1 i.1 (omega arith) in
      then_to _ _ _ _ u (v ∙ ap Ok (omega arith))

  many_within : (n : ℕ) (s : List ℕ) (end at e : ℕ) → at ≤ end → many (P s end) n at ≡ Ok e → (at ≤ e) × (e ≤ end)
  unfolding many
  many_within zero s end at e h w = let t = to_is at e w in (omega arith, omega arith)
  many_within (suc n) s end at e h w =
      let p = then_inv (P s end at) (many (P s end) n) e w in
      let i = a.within s end at p.0 h p.1.0 in
      let j = many_within n s end p.0 e i.1 p.1.1 in
      (omega arith, j.1)

  many_complete : (n : ℕ) (s : List ℕ) (end at e : ℕ) → at ≤ end → end ≤ length s → Bytes s → many (P s end) n at ≡ Ok e
      → (xs : List X) × (((length xs ≡ n) × All Formed xs) × (Lies (encs enc xs) s at × (e ≡ at + length (encs enc xs))))
  unfolding many
  many_complete zero s end at e h m z w = let t = to_is at e w in ([], ((refl, record {}), (refl, omega arith)))
  many_complete (suc n) s end at e h m z w =
      let p = then_inv (P s end at) (many (P s end) n) e w in
      let i = a.within s end at p.0 h p.1.0 in
      let u = a.complete s end at p.0 h m z p.1.0 in
      let v = many_complete n s end p.0 e i.1 m z p.1.1 in (
        u.0 ∷ v.0,
        (
          (ap suc v.1.0.0, (u.1.0, v.1.0.1)),
          (
            lies_join (enc u.0) (encs enc v.0) s at u.1.1.0 (lies_at _ s _ _ u.1.1.1 v.1.1.0),
            omega (arith, length-append (enc u.0) (encs enc v.0)),
          ),
        ),
      )

  many_unique : (xs ys : List X) (p q : List ℕ) → length xs ≡ length ys → All Formed xs → All Formed ys
      → encs enc xs ++ p ≡ encs enc ys ++ q → xs ≡ ys
  many_unique [] [] p q h o r e = refl
  many_unique [] (y ∷ ys) p q h o r e = absurd (omega arith)
  many_unique (x ∷ xs) [] p q h o r e = absurd (omega arith)
  many_unique (x ∷ xs) (y ∷ ys) p q h o r e =
      let e2 : enc x ++ (encs enc xs ++ p) ≡ enc y ++ (encs enc ys ++ q) =
      sym (append_assoc (enc x) (encs enc xs) p) ∙ e ∙ append_assoc (enc y) (encs enc ys) q in
      let f : x ≡ y = a.unique x y _ _ o.0 r.0 e2 in
      let g : xs ≡ ys = many_unique xs ys p q (omega arith) o.1 r.1 (after enc x y _ _ f e2) in
      cc

  pub many_bytes : (xs : List X) → All Formed xs → Bytes (encs enc xs)
  many_bytes [] o = λ i. omega arith
  many_bytes (x ∷ xs) o = bytes_append (enc x) (encs enc xs) (a.bytes x o.0) (many_bytes xs o.1)

  pub times_law : (n : ℕ) → Lawful {X = List X} (λ s end at. many (P s end) n at) (λ xs. (length xs ≡ n) × All Formed xs) (encs enc)
  times_law n = record {
    sound = λ s end at xs o l h. many_sound n s end at xs o.0 o.1 l h;
    complete = many_complete n;
    unique = λ xs ys p q o r e. many_unique xs ys p q (o.0 ∙ sym r.0) o.1 r.1 e;
    within = many_within n;
    bytes = λ xs o. many_bytes xs o.1;
  }

-- a format whose count must not be 0: what is to hold (proofs/TimesLaws.antt)
module _ {X : Type 0} {W : Walker} {Formed : X → Type 0} {enc : X → List ℕ} (back n : ℕ) (a : Lawful W Formed enc) where
  abbrev pub SomeLaw : Type 0
  SomeLaw = Lawful {X = X} (λ s end at. pick (eqb n 0) (Err (at - back)) (W s end at)) (λ x. (0 < n) × Formed x) enc

-- ---- until the container's end: what is to hold (proofs/TimesLaws.antt)
module _ {X : Type 0} {P : Walker} {Formed : X → Type 0} {enc : X → List ℕ} (a : Lawful P Formed enc) (full : NotEmpty Formed enc) where
  abbrev pub ListLaw : Type 0
  ListLaw = Fills {X = List X} (λ s end at. unto (P s) end end at) (All Formed) (encs enc)
