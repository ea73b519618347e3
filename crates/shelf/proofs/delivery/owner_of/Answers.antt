-- `owner_of` meets its contract: 14, 15, then the judge, then 16, 17 and 18.
use Prim.Native.Nat.{ℕ}
use mathlib.Core.Path.{◌∙◌, ◌≡◌, ap, refl, sym}
use mathlib.Core.List.{List}
use borrow.Author.Tests.{le-leb, lt-leb}
use Rattle.refusal.proofs.OutcomeLaws.{exit, went}
use Rattle.refusal.specs.Outcomes.{Outcome, or_refuse}
use Rattle.section.specs.declared.header.Header.{Header}
use Rattle.shelf_state.specs.declared.records.Asked.{Asked}
use Rattle.shelf_state.specs.declared.records.Watch.{Watch}
use Rattle.shelf.specs.Delivery.{owner_in}
use Rattle.shelf_state.proofs.RuleLaws.{rules}
use Rattle.shelf.specs.Inner.{going}
use Rattle.shelf.proofs.delivery.owner_of.Goals as goal

-- of the section's own key
owned : (ws : List Watch) (n : ℕ) (h : Header) {a b : Asked} {o : Outcome ℕ} → a ≡ b → o ≡ owner_in ws n a h → o ≡ owner_in ws n b h
owned ws n h e f = f ∙ ap (λ (x : Asked). owner_in ws n x h) e

pub returns-then-not-obeys_rules : goal.returns-then-not-obeys_rules
unfolding going or_refuse
returns-then-not-obeys_rules c = rw (sym c.obeys_rules.ensures ∙ c.if-not-obeys_rules.true)

pub returns-then-pid-gt8191 : goal.returns-then-pid-gt8191
unfolding going or_refuse
returns-then-pid-gt8191 c = rw (sym c.obeys_rules.ensures ∙ c.if-not-obeys_rules.false, lt-leb _ _ c.if-pid-gt8191.true)

pub returns-in_err-header : goal.returns-in_err-header
unfolding going or_refuse
returns-in_err-header c = rw (sym c.obeys_rules.ensures ∙ c.if-not-obeys_rules.false, le-leb _ _ c.if-pid-gt8191.false) (exit _ _ c.from_residual.ensures.1 c.judge.ensures c.in_err-header.was)

pub find_owner-requires : goal.find_owner-requires
find_owner-requires c = (rules _ _ (sym c.obeys_rules.ensures ∙ c.if-not-obeys_rules.false)).size.records_16

pub returns-in_err-watch : goal.returns-in_err-watch
unfolding going or_refuse
returns-in_err-watch c = rw (sym c.obeys_rules.ensures ∙ c.if-not-obeys_rules.false, le-leb _ _ c.if-pid-gt8191.false)
    (went _ c.judge.ensures c.in_ok-header.was (exit _ _ c.from_residual-in_err-watch.ensures.1 (owned c.args.s.now.watches _ _ c.key_in.ensures c.find_owner.ensures) c.in_err-watch.was))

pub returns : goal.returns
unfolding going or_refuse
returns c = rw (sym c.obeys_rules.ensures ∙ c.if-not-obeys_rules.false, le-leb _ _ c.if-pid-gt8191.false)
    (went _ c.judge.ensures c.in_ok-header.was (went _ (owned c.args.s.now.watches _ _ c.key_in.ensures c.find_owner.ensures) c.in_ok-watch.was refl))
