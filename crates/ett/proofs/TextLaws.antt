-- The text of an ETT whose body was walked.
use Prim.Native.Nat.{ℕ, ◌≤◌}
use mathlib.Core.Path.{◌≡◌, refl, ap, ◌∙◌, subst}
use mathlib.Core.Bool.{Bool, true, false}
use mathlib.Core.List.{List, []}
use lib.Dec.{eqb}
use borrow.Author.Tests.{eqb-true}
use Rattle.logic.specs.Choices.{pick}
use Rattle.std.specs.Prelude.{Ok}
use Rattle.bytes_at.specs.Walks.{then, ends}
use Rattle.bytes_at.proofs.WalkLaws.{then_to, then_inv, ended, ends_at}
use Rattle.format.specs.Formats.{walks, walks_all}
use Rattle.format.specs.Values.{behind}
use Rattle.format.proofs.FieldLaws.{fields_end}
use Rattle.strings.specs.Strings.{text, structure}
use Rattle.ett.specs.Format.{etm_head}
use Rattle.ett.specs.Walked.{ett}

-- a structure that fills its container is a text
structure_text : (s : List ℕ) (end at : ℕ) → walks structure s end at ≡ Ok end → walks_all text s end at ≡ Ok end
unfolding text
structure_text s end at w = by (eqb at end) refl
  where
    by : (t : Bool) → eqb at end ≡ t → pick t (Ok at) (then (walks structure s end at) (ends end)) ≡ Ok end
    by true e = ap Ok (eqb-true at end e)
    by false e = then_to _ (ends end) end (Ok end) w (ends_at end end refl)

-- the text stands behind ETM_id, within the body, and is sound
pub body_text : (s : List ℕ) (end at e : ℕ) → walks_all ett s end at ≡ Ok e
    → (behind etm_head at ≤ end) × (walks_all text s end (behind etm_head at) ≡ Ok end)
unfolding ett
body_text s end at e w =
    let p = then_inv _ _ e w in
    let t = fields_end 32 [] 4 refl at end p.0 p.1.0 in
    let q = then_inv _ _ e p.1.1 in
    let d = ended end q.0 e q.1.1 in (
      subst (λ x. x ≤ end) t.0 t.1,
      subst (λ x. walks_all text s end x ≡ Ok end) t.0 (structure_text s end p.0 (q.1.0 ∙ ap Ok d.0)),
    )
