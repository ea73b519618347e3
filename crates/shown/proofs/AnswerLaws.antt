-- A text that was read into an array is told by its answer and the array.
use Prim.Native.Nat.{ℕ, ◌≤◌}
use mathlib.Core.Path.{◌≡◌, refl, sym, ap, ◌∙◌}
use mathlib.Core.List.{List, ◌++◌}
use native.Mathlib.Omega.{arith}
use lib.ListN.{length, take, length-append}
use lib.Seq.{take_at, sets-eq}
use Rattle.refusal.specs.Numbers.{number_of}
use Rattle.refusal.specs.Outcomes.{Outcome, refused, resulted, outcome}
use Rattle.refusal.proofs.OutcomeLaws.{same_result, not_both}
use Rattle.text.specs.declared.answer.Amount.{Amount}
use Rattle.std.specs.Prelude.{Result, Ok, Err}
use Rattle.refusal.specs.declared.Refusal.{Refusal}
use Rattle.text.proofs.AmountLaws.{amount_result, amount_refused}
use Rattle.text.specs.Inner.{OnceAll}
use Rattle.shown.specs.Inner.{told, Fits}

told_units : (r : Result Amount Refusal) (b : Amount) (us rest e : List ℕ) → outcome r ≡ resulted b → b.units ≡ length us → e ≡ us ++ rest
    → Fits r e × (told r e ≡ resulted us)
unfolding told
told_units (Err k) b us rest e h l g = not_both (number_of k) b h
told_units (Ok a) b us rest e h l g =
    let q : a.units ≡ length us = ap (λ (x : Amount). x.units) (same_result a b h) ∙ l in
    let t : take a.units e ≡ us = ap (take a.units) g ∙ take_at us rest a.units (sym q) in
    (omega (arith, q, ap length g ∙ length-append us rest), ap resulted t)

told_refusal : (r : Result Amount Refusal) (k : ℕ) (e : List ℕ) → outcome r ≡ refused k → Fits r e × (told r e ≡ refused k)
unfolding told
told_refusal (Err j) k e h = (record {}, let q : number_of j ≡ k = cc in ap refused q)
told_refusal (Ok a) k e h = not_both k a (sym h)

-- a result's number is no more than the array has room for
count_few : (r : Result Amount Refusal) (b : Amount) → outcome r ≡ resulted b → ((a : Amount) → r ≡ Ok a → a.units ≤ 2040) → b.units ≤ 2040
count_few (Err k) b h few = not_both (number_of k) b h
count_few (Ok a) b h few = omega (arith, few a refl, ap (λ (x : Amount). x.units) (same_result a b h))

pub told_is : (x : Outcome (List ℕ)) (p : ℕ) (r : Result Amount Refusal) (l e : List ℕ) → length l ≡ 2040 → OnceAll x p l r e → Fits r e × (told r e ≡ x)
told_is (refused k) p r l e h o = told_refusal r k e (o.wrote.answers ∙ amount_refused p k)
told_is (resulted us) p r l e h o =
    let q = o.wrote.answers ∙ amount_result p us in
    let room : length us ≤ 2040 = count_few r _ q o.few in
    told_units r _ us _ e q refl (o.wrote.stores us refl ∙ sets-eq us l 0 (omega arith))
