-- What a walk that stands tells of an RRT, a dimension and a value.
use Prim.Native.Nat.{ℕ, zero, suc, ◌+◌, ◌-◌, ◌%◌, ◌≤◌, ◌<◌}
use mathlib.Core.Path.{◌≡◌, refl, sym, ap, ◌∙◌}
use mathlib.Core.Bool.{Bool, true, false}
use mathlib.Core.List.{List, [], ◌∷◌}
use native.Mathlib.Omega.{arith}
use lib.Dec.{eqb}
use Rattle.logic.specs.Choices.{pick}
use Rattle.std.specs.Prelude.{Ok, Err}
use Rattle.bytes_at.specs.Fields.{byte_at}
use Rattle.bytes_at.specs.Walks.{fields_to, then, many, Walk}
use Rattle.bytes_at.proofs.WalkLaws.{to_is, never, then_inv, ended}
use Rattle.format.proofs.KeptLaws.{laws}
use Rattle.format.specs.Formats.{Format, walks, walks_all}
use Rattle.format.specs.Values.{One}
use Rattle.format.specs.Formats.{one_or_more}
use Rattle.format.proofs.FieldLaws.{fields_end, merge}
use Rattle.strings.specs.Strings.{sized_text}
use Rattle.strings.specs.Places.{text_end}
use Rattle.strings.proofs.TextLaws.{text_end_lem, text_inside}
use Rattle.descriptor.specs.Descriptors.{no_tag}
use Rattle.descriptor.specs.Places.{list10}
use Rattle.rrt.specs.Walked.{value, dimension, dimensions, dimensions_and_list, rrt}
use Rattle.rrt.specs.Fields.{count_at, first_at, values_at, first_value_at, value_end, values_end, dimension_end}

-- ---- a count that is not 0, of which g is made, and as many of a format
module _ (f : Format One) (g : ℕ → ℕ) (s : List ℕ) (end at b : ℕ) where
  counted : (w : Walk) (x : ℕ) → pick (eqb (g (byte_at s at)) 0) (Err x) w ≡ Ok b → w ≡ Ok b
  counted w x e = by (eqb (g (byte_at s at)) 0) e
    where
      by : (t : Bool) → pick t (Err x) w ≡ Ok b → w ≡ Ok b
      by true e = never x b e
      by false e = e

  some_stands : then (fields_to (8 ∷ []) at end) (λ c. (one_or_more 1 f).walk (g (byte_at s (c - 1))) s end c) ≡ Ok b
      → (many (walks f s end) (g (byte_at s at)) (at + 1) ≡ Ok b) × (at + 1 ≤ end)
  some_stands w =
      let p = then_inv _ _ b w in
      let t = fields_end 8 [] 1 refl at end p.0 p.1.0 in
      let i : at + 1 - 1 ≡ at = omega arith in
      (counted _ at (rw (t.0, i) at p.1.1), omega (arith, t))

-- ---- a value: its two texts
module _ (s : List ℕ) (end a b : ℕ) (w : walks value s end a ≡ Ok b) where
  pub value_parts : (walks sized_text s end a ≡ Ok (text_end s a)) × (walks sized_text s end (text_end s a) ≡ Ok b)
  unfolding value sized_text
  value_parts =
      let p = then_inv _ _ b w in
      let e = text_end_lem s end a p.0 p.1.0 in
      (p.1.0 ∙ ap Ok e, ap (walks sized_text s end) (sym e) ∙ p.1.1)

  pub value_forward : (a < b) × (b ≤ end)
  value_forward =
      let t = text_inside s end a (text_end s a) value_parts.0 in
      let u = text_inside s end (text_end s a) b value_parts.1 in
      (omega (arith, t, u), u.1)

  pub value_ends : b ≡ value_end s a
  value_ends = text_end_lem s end (text_end s a) b value_parts.1

-- and several, one after the other
values_end_lem : (s : List ℕ) (end n a b : ℕ) → many (walks value s end) n a ≡ Ok b → b ≡ values_end s n a
unfolding many values_end
values_end_lem s end zero a b w = to_is a b w
values_end_lem s end (suc n) a b w =
    let p = then_inv _ _ b w in
    values_end_lem s end n p.0 b p.1.1 ∙ ap (values_end s n) (value_ends s end a p.0 p.1.0)

-- ---- a dimension: its name, and its values
module _ (s : List ℕ) (end d b : ℕ) (w : walks dimension s end d ≡ Ok b) where
  parts : (c : ℕ) × ((walks sized_text s end d ≡ Ok c)
      × (then (fields_to (8 ∷ []) c end) (λ x. (one_or_more 1 value).walk (byte_at s (x - 1) % 16) s end x) ≡ Ok b))
  unfolding dimension value sized_text
  parts =
      let p = then_inv _ _ b w in
      (p.0, (p.1.0, ap (λ v. then v (λ x. (one_or_more 1 value).walk (byte_at s (x - 1) % 16) s end x)) (sym (merge 4 4 [] p.0 end (omega arith))) ∙ p.1.1))

  pub name_walked : walks sized_text s end d ≡ Ok (text_end s d)
  name_walked = parts.1.0 ∙ ap Ok (text_end_lem s end d parts.0 parts.1.0)

  pub values_walked : (many (walks value s end) (values_at s d) (first_value_at s d) ≡ Ok b) × (first_value_at s d ≤ end)
  values_walked =
      let e = text_end_lem s end d parts.0 parts.1.0 in
      some_stands value (λ n. n % 16) s end (text_end s d) b (rw e at parts.1.1)

  pub dimension_forward : (d ≤ b) × (b ≤ end)
  dimension_forward =
      let t = text_inside s end d (text_end s d) name_walked in
      (dimension.law laws (record {})).within s end d b (omega (arith, t)) w

  pub dimension_ends : b ≡ dimension_end s d
  unfolding dimension_end
  dimension_ends = values_end_lem s end (values_at s d) (first_value_at s d) b values_walked.0

-- ---- the table: the region name, the dimensions, and the table's own descriptors
module _ (s : List ℕ) (end at e : ℕ) (w : walks_all rrt s end at ≡ Ok e) where
  pub region_walked : walks sized_text s end at ≡ Ok (text_end s at)
  unfolding rrt
  region_walked =
      let p = then_inv _ _ e w in
      let q = then_inv _ _ p.0 p.1.0 in
      q.1.0 ∙ ap Ok (text_end_lem s end at q.0 q.1.0)

  pub body_dimensions : (b : ℕ) × ((many (walks dimension s end) (count_at s at) (first_at s at) ≡ Ok b)
      × ((walks (list10 no_tag) s end b ≡ Ok e) × (first_at s at ≤ end)))
  unfolding rrt dimensions_and_list dimensions
  body_dimensions =
      let p = then_inv _ _ e w in
      let q = then_inv _ _ p.0 p.1.0 in
      let d = ended end p.0 e p.1.1 in
      let t = text_end_lem s end at q.0 q.1.0 in
      let r = then_inv _ _ p.0 (ap (walks dimensions_and_list s end) (sym t) ∙ q.1.1) in
      let m = some_stands dimension (λ n. n) s end (text_end s at) r.0 r.1.0 in
      (r.0, (m.0, (r.1.1 ∙ ap Ok (d.0 ∙ sym d.1), m.1)))
