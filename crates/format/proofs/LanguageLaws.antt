-- Every word of the language means what Language.antt says.
use Prim.Native.Nat.{ℕ, ◌-◌}
use mathlib.Core.Path.{◌≡◌, refl, sym, ◌∙◌}
use mathlib.Core.Logic.{◌↔◌}
use native.Mathlib.Omega.{arith}
use lib.ListN.{length}
use lib.Seq.{take_all}
use Rattle.format.specs.Language.{Language}
use Rattle.format.proofs.FormatLaws.{accepted_all}

same : {A : Type 0} → A ↔ A
same = ((λ a. a), (λ a. a))

-- a format with a head says beside that what follows has the number that it gives itself
said : {A B C : Type 0} {n : ℕ} → (A × (B × ((n ≡ n) × C))) ↔ (A × (B × C))
said = ((λ o. (o.0, (o.1.0, o.1.1.1))), (λ o. (o.0, (o.1.0, (refl, o.1.1)))))

said_not_none : {A B C D : Type 0} {n : ℕ} → (A × (B × (D × ((n ≡ n) × C)))) ↔ (A × (B × (D × C)))
said_not_none = ((λ o. (o.0, (o.1.0, (o.1.1.0, o.1.1.1.1)))), (λ o. (o.0, (o.1.0, (o.1.1.0, (refl, o.1.1.1))))))

pub language : Language
language = record {
  of_named = λ fs k w x. (same, refl);
  of_seq = λ f g x. (same, refl);
  of_before = λ f g x. (same, refl);
  of_exact = λ f x. (same, refl);
  of_any_bytes = λ x. (same, refl);
  of_opt = λ f p x. (same, refl);
  of_list = λ f p x. (same, refl);
  of_choice = λ test f g c x. (same, refl);
  of_raws = λ fs k w x. (said, refl);
  of_sizing = λ fs k w f x. (said, refl);
  of_counting = λ fs k w f x. (said, refl);
  of_few = λ fs n w f x. (said, refl);
  of_few_not_none = λ fs n w f x. (said_not_none, refl);
  of_sized8 = λ f x. (said, refl);
  of_sized12 = λ f x. (said, refl);
  of_sized10 = λ f x. (said, refl);
  of_counted8 = λ f x. (said, refl);
  of_counted16 = λ f x. (said, refl);
  of_not_none = λ f x. (said_not_none, refl);
  of_tagged = λ f x. (said, refl);
  of_under = λ f to from p q x. (same, refl);
  of_under_all = λ f to from p q x. (same, refl);
  of_walked = λ f s z.
      let a = accepted_all s (length s) 0 (omega arith) (omega arith) z f (record {}) in
      let b = take_all (length s - 0) s (omega arith) in
      ((λ w. let u = a.0 w in (u.0, (u.1.0, sym b ∙ u.1.1))), (λ u. a.1 (u.0, (u.1.0, b ∙ u.1.1))));
}
