-- The first match in byte order, in the terms of the formats: what the walk of a format passes is what is searched, and the first
-- that begins with the number asked for is the one that is told.
use Prim.Native.Nat.{ℕ, zero, suc, ◌+◌, ◌-◌, ◌*◌, ◌%◌, ◌≤◌, ◌<◌}
use mathlib.Core.Path.{◌≡◌, refl, sym, ap, ◌∙◌}
use mathlib.Core.List.{List, [], ◌∷◌}
use native.Mathlib.Numerals.{sub-one}
use native.Mathlib.Omega.{arith}
use Rattle.std.specs.Prelude.{Ok}
use Rattle.bytes_at.specs.Fields.{byte_at}
use Rattle.logic.specs.Choices.{if_lt, if_eq}
use Rattle.bytes_at.specs.Walks.{fields_to, many, Walk}
use Rattle.bytes_at.proofs.WalkLaws.{to_is, then_to, then_inv, skipped}
use Rattle.format.proofs.KeptLaws.{laws}
use Rattle.format.specs.Formats.{walks, walks_all}
use Rattle.format.proofs.FieldLaws.{fields_end}
use Rattle.format.proofs.RepeatLaws.{run_fits}
use Rattle.strings.specs.Strings.{text, sized_text}
use Rattle.descriptor.specs.Descriptors.{dimension, rated, region, descriptor, descriptors, content_advisory}
use Rattle.rating.specs.Ratings.{descriptor_size, rated_size, region_size, first_match, advisory_in, region_in, dimension_in}
use Rattle.rating.proofs.FirstLaws.{dimensions_fit, first_none, first_past, first_here, first_next}
use Rattle.rating.proofs.DescriptorLaws.{size_taken, two, counted}

-- what is walked past n is walked past each of them
module _ (p : ℕ → Walk) where
  passed : (n k at a e : ℕ) → k < n → many p n at ≡ Ok e → many p k at ≡ Ok a → (b : ℕ) × (p a ≡ Ok b)
  unfolding many
  passed zero k at a e h m r = absurd (omega arith)
  passed (suc n) zero at a e h m r =
      let q = then_inv (p at) (many p n) e m in
      (q.0, ap p (to_is at a r) ∙ q.1.0)
  passed (suc n) (suc k) at a e h m r =
      let q = then_inv (p at) (many p n) e m in
      let u = then_inv (p at) (many p k) a r in
      let c = to_is q.0 u.0 (sym q.1.0 ∙ u.1.0) in
      passed n k q.0 a e (omega arith) q.1.1 (ap (many p k) (sym c) ∙ u.1.1)

-- a walk that takes each thing's size
module _ (p : ℕ → Walk) (size : ℕ → ℕ) (end : ℕ) (takes : (at e : ℕ) → p at ≡ Ok e → (e ≡ at + size at) × (e ≤ end)) where
  -- where n come to the end, and k do not, k are fewer
  fewer : ((at : ℕ) → 0 < size at) → (n k at a : ℕ) → many p n at ≡ Ok end → many p k at ≡ Ok a → a < end → k < n
  unfolding many
  fewer some zero zero at a m r h = absurd (omega (arith, to_is at end m, to_is at a r))
  fewer some zero (suc k) at a m r h =
      let q = then_inv (p at) (many p k) a r in
      let t = takes at q.0 q.1.0 in
      absurd (omega (arith, to_is at end m, some at))
  fewer some (suc n) zero at a m r h = omega arith
  fewer some (suc n) (suc k) at a m r h =
      let q = then_inv (p at) (many p n) end m in
      let u = then_inv (p at) (many p k) a r in
      let c = to_is q.0 u.0 (sym q.1.0 ∙ u.1.0) in
      omega (arith, fewer some n k q.0 a q.1.1 (ap (many p k) (sym c) ∙ u.1.1) h)

  module _ (s : List ℕ) (x : ℕ) where
    -- none of the first n begins with x
    abbrev None : ℕ → ℕ → Type 0
    None n at = (i a : ℕ) → i < n → many p i at ≡ Ok a → byte_at s a ≡ x → ⊥

    none_next : (n at b : ℕ) → p at ≡ Ok b → None (suc n) at → None n b
    unfolding many
    none_next n at b e none_here i a h m = none_here (suc i) a (omega arith) (then_to _ (many p i) b (Ok a) e m)

    module _ {A : Type 0} (told : ℕ → A) (absent : A) where
      -- past one that is another
      first_rest : (n at b : ℕ) → 0 < n → p at ≡ Ok b → (byte_at s at ≡ x → ⊥)
          → first_match s size n end at x told absent ≡ first_match s size (n - 1) end b x told absent
      first_rest n at b h w other =
          let t = takes at b w in
          sym (first_next s size end at x told absent _ refl _ refl (omega arith) n h other)
          ∙ ap (λ c. first_match s size (n - 1) end c x told absent) (sym t.0)

      first_is : (n k at a e : ℕ) → many p n at ≡ Ok e → k < n → many p k at ≡ Ok a → byte_at s a ≡ x → None k at
          → first_match s size n end at x told absent ≡ told a
      unfolding many
      first_is n zero at a e m h r b none_before =
          let w = passed p n 0 at a e h m r in
          let t = takes a w.0 w.1 in
          ap (λ at. first_match s size n end at x told absent) (sym (to_is at a r))
          ∙ sym (first_here s size end a x told absent _ refl _ refl (omega arith) n h b)
      first_is zero (suc k) at a e m h r b none_before = absurd (omega arith)
      first_is (suc n) (suc k) at a e m h r b none_before =
          let q = then_inv (p at) (many p n) e m in
          let u = then_inv (p at) (many p k) a r in
          let c = to_is q.0 u.0 (sym q.1.0 ∙ u.1.0) in
          first_rest (suc n) at q.0 (omega arith) q.1.0 (none_before 0 at (omega arith) refl)
          ∙ rw sub-one
          (first_is n k q.0 a e q.1.1 (omega arith) (ap (many p k) (sym c) ∙ u.1.1) b
          (none_next k at q.0 q.1.0 none_before))

      first_not : (n at e : ℕ) → many p n at ≡ Ok e → None n at → first_match s size n end at x told absent ≡ absent
      unfolding many
      first_not zero at e m none_here = sym (first_none s size end at x told absent 0 refl)
      first_not (suc n) at e m none_here =
          let q = then_inv (p at) (many p n) e m in
          first_rest (suc n) at q.0 (omega arith) q.1.0 (none_here 0 at (omega arith) refl)
          ∙ rw sub-one (first_not n q.0 e q.1.1 (none_next n at q.0 q.1.0 none_here))

      -- where n come to the end, more are no more
      first_more : ((at : ℕ) → 0 < size at) → (n m at : ℕ) → many p n at ≡ Ok end → n ≤ m
          → first_match s size m end at x told absent ≡ first_match s size n end at x told absent
      unfolding many first_match
      first_more some_size zero m at w h =
          let c = to_is at end w in
          let z = some_size at in
          sym (first_past s size end at x told absent _ refl m (omega arith))
      first_more some_size (suc n) zero at w h = absurd (omega arith)
      first_more some_size (suc n) (suc m) at w h =
          let q = then_inv (p at) (many p n) end w in
          let t = takes at q.0 q.1.0 in
          ap (λ r. if_lt end (at + size at) absent (if_eq (byte_at s at) x (told at) r))
          (first_more some_size n m (at + size at) (ap (many p n) (sym t.0) ∙ q.1.1) (omega arith))

-- ---- dimensions
-- of a region at p the first such dimension is told, and where none is such it is absent
module _ (s : List ℕ) (p number : ℕ) {A : Type 0} (told : ℕ → A) (absent : A) where
  -- past one of them
  abbrev walk : ℕ → Walk
  walk a = fields_to (8 ∷ 8 ∷ []) a (p + region_size s p)

  -- past k dimensions
  past_some : (k : ℕ) → k ≤ byte_at s (p + 1) → many walk k (p + 2) ≡ Ok (p + 2 + 2 * k)
  past_some k h = sym (run_fits 2 (p + region_size s p) k (p + 2) (omega (arith, dimensions_fit s p _ refl)))

  takes_two : (at e : ℕ) → walk at ≡ Ok e → (e ≡ at + 2) × (e ≤ p + region_size s p)
  takes_two at = fields_end 8 (8 ∷ []) 2 refl at (p + region_size s p)

  pub dimension_is : (k : ℕ) → k < byte_at s (p + 1) → byte_at s (p + 2 + 2 * k) ≡ number
      → ((i : ℕ) → i < k → byte_at s (p + 2 + 2 * i) ≡ number → ⊥) → dimension_in s number p told absent ≡ told (p + 2 + 2 * k)
  dimension_is k h b none_before =
      first_is walk (λ q. 2) _ takes_two s number told absent _ k (p + 2) _ _ (past_some _ (omega arith)) h (past_some k (omega arith)) b
      (λ i a l m e. none_before i l (ap (byte_at s) (to_is a _ (sym m ∙ past_some i (omega arith))) ∙ e))

  pub dimension_not : ((i : ℕ) → i < byte_at s (p + 1) → byte_at s (p + 2 + 2 * i) ≡ number → ⊥)
      → dimension_in s number p told absent ≡ absent
  dimension_not none_here =
      first_not walk (λ q. 2) _ takes_two s number told absent _ (p + 2) _ (past_some _ (omega arith))
      (λ i a l m e. none_here i l (ap (byte_at s) (to_is a _ (sym m ∙ past_some i (omega arith))) ∙ e))

-- ---- regions
-- dimensions take two bytes each
dimensions_taken : (end n at e : ℕ) → many (λ a. fields_to (8 ∷ 8 ∷ []) a end) n at ≡ Ok e → e ≡ at + 2 * n
unfolding many
dimensions_taken end zero at e m = to_is at e m ∙ omega arith
dimensions_taken end (suc n) at e m =
    let q = then_inv (fields_to (8 ∷ 8 ∷ []) at end) _ e m in
    let t = fields_end 8 (8 ∷ []) 2 refl at end q.0 q.1.0 in
    omega (arith, dimensions_taken end n q.0 e q.1.1)

-- a region's text stands behind its dimensions
pub text_behind : (s : List ℕ) (end at e : ℕ) → walks region s end at ≡ Ok e → walks sized_text s end (at + rated_size s at) ≡ Ok e
unfolding region rated dimension rated_size
text_behind s end at e w =
    let p = then_inv _ _ e w in
    let q = then_inv _ _ p.0 p.1.0 in
    let t = fields_end 8 (8 ∷ []) 2 refl at end q.0 q.1.0 in
    let d = dimensions_taken end _ q.0 p.0 q.1.1 in
    let n : byte_at s (q.0 - 1) ≡ byte_at s (at + 1) = ap (byte_at s) (omega arith) in
    let m : at + (2 + 2 * byte_at s (at + 1)) ≡ p.0 = omega arith in
    ap (walks sized_text s end) m ∙ p.1.1

pub region_taken : (s : List ℕ) (end at e : ℕ) → walks region s end at ≡ Ok e → (e ≡ at + region_size s at) × (e ≤ end)
unfolding sized_text region_size
region_taken s end at e w =
    let u = then_inv _ _ e (text_behind s end at e w) in
    let v = fields_end 8 [] 1 refl (at + rated_size s at) end u.0 u.1.0 in
    let x = then_inv _ _ e u.1.1 in
    let y = skipped 1 u.0 (byte_at s (u.0 - 1)) end x.0 x.1.0 in
    let z = (text.law laws (record {})).whole s x.0 u.0 e x.1.1 in
    let m : byte_at s (u.0 - 1) ≡ byte_at s (at + rated_size s at) = ap (byte_at s) (omega arith) in
    (omega arith, omega arith)

-- of a content advisory at a, whose regions the walk passes, the first such region is told, and where none is such it is absent
module _ (s : List ℕ) (a number : ℕ) {A : Type 0} (told : ℕ → A) (absent : A) where
  -- past k regions the walk comes to p
  abbrev Regions : ℕ → ℕ → Type 0
  Regions k p = many (walks region s (a + descriptor_size s a)) k (a + 3) ≡ Ok p

  module _ (e : ℕ) (walked : Regions (byte_at s (a + 2) % 64) e) where
    pub region_is : (k p : ℕ) → k < byte_at s (a + 2) % 64 → Regions k p → byte_at s p ≡ number
        → ((i q : ℕ) → i < k → Regions i q → byte_at s q ≡ number → ⊥) → region_in s number a told absent ≡ told p
    region_is k p h r b none_before =
        first_is _ (region_size s) _ (region_taken s _) s number told absent _ k (a + 3) p e walked h r b none_before

    pub region_not : ((i q : ℕ) → i < byte_at s (a + 2) % 64 → Regions i q → byte_at s q ≡ number → ⊥)
        → region_in s number a told absent ≡ absent
    region_not = first_not _ (region_size s) _ (region_taken s _) s number told absent _ (a + 3) e walked

-- ---- descriptors
-- of a list that the walk accepts, the first content advisory is told, and where none is one it is absent
module _ (judged : ℕ) (s : List ℕ) (end from : ℕ) (accepted : walks_all (descriptors judged) s end from ≡ Ok end)
    {A : Type 0} (told : ℕ → A) (absent : A) where
  -- past k descriptors the walk comes to a
  abbrev Descriptors : ℕ → ℕ → Type 0
  Descriptors k a = many (walks (descriptor judged) s end) k from ≡ Ok a

  -- as many steps as the list has descriptors are enough
  enough : (n : ℕ) → Descriptors n end → from + 2 * n ≤ end
      → advisory_in s end from told absent ≡ first_match s (descriptor_size s) n end from content_advisory told absent
  enough n m h =
      first_more _ (descriptor_size s) end (size_taken judged s end) s content_advisory told absent
      (λ a. omega (arith, two s a)) n end from m (omega arith)

  pub advisory_is : (k a : ℕ) → a < end → Descriptors k a → byte_at s a ≡ content_advisory
      → ((i c : ℕ) → i < k → Descriptors i c → byte_at s c ≡ content_advisory → ⊥) → advisory_in s end from told absent ≡ told a
  advisory_is k a h r b none_before =
      let n = counted judged s end from accepted in
      let l = fewer _ (descriptor_size s) end (size_taken judged s end) (λ a. omega (arith, two s a)) n.0 k from a n.1.0 r h in
      enough n.0 n.1.0 n.1.1
      ∙ first_is _ (descriptor_size s) end (size_taken judged s end) s content_advisory told absent
      n.0 k from a end n.1.0 l r b none_before

  pub advisory_not : ((i c : ℕ) → c < end → Descriptors i c → byte_at s c ≡ content_advisory → ⊥)
      → advisory_in s end from told absent ≡ absent
  advisory_not none_here =
      let n = counted judged s end from accepted in
      enough n.0 n.1.0 n.1.1
      ∙ first_not _ (descriptor_size s) end (size_taken judged s end) s content_advisory told absent n.0 from end n.1.0
      (λ i a h r.
      let w = passed _ n.0 i from a end h n.1.0 r in
      let t = size_taken judged s end a w.0 w.1 in
      none_here i a (omega (arith, two s a)) r)
