-- A build that agrees with the calls by value collects as they do.
use Rattle.std.specs.Prelude.{Option}
use Prim.Native.Nat.{◌+◌}
use mathlib.Core.Path.{◌∙◌, ◌≡◌, ap, ap₂, refl, subst, sym}
use mathlib.Core.List.{List, [], ◌∷◌}
use Rattle.shelf_state.specs.Rules.{promised}
use Rattle.shelf_state.specs.declared.records.Asked.{Asked}
use Rattle.shelf.specs.Steps.{Answer, State, Turn, accepted}
use Rattle.lent_laws.proofs.StepLaws.{lent_step_lem, refused_keeps}
use Rattle.collecting.proofs.FirstHalf.{first_half}
use Rattle.collecting.proofs.SecondHalf.{from_empty, second_half}
use Rattle.collecting.proofs.PromisedLaws.{places_promised}
use Rattle.collecting.specs.Collecting.{Allowed, Build, Complete, Exchange, Heard, NoneRefused, StartsEmpty, Stretch, WholeTable, ToldBy, state_after, and_then, end, fetch, history, none_left, recorded, status, goes_on, ours}
use Rattle.collecting.specs.More.{AgreeingCollect, Agrees, LentHolds, lent_build, quotas_closed, quotas_opened}

module _ (B : Build) (g : Agrees B) where
  after_is : (x : B.Memory) (ts : List Turn) → B.means (state_after B x ts) ≡ state_after ours (B.means x) ts
  unfolding state_after
  after_is x [] = refl
  after_is x (t ∷ ts) = after_is (B.turn x t).next ts ∙ ap (λ (y : State). state_after ours y ts) (g.next_is x t)

  recorded_is : (x : B.Memory) (ts : List Turn) → recorded B x ts ≡ recorded ours (B.means x) ts
  unfolding recorded
  recorded_is x [] = refl
  recorded_is x (t ∷ ts) = ap₂ (λ (a : Answer) (es : List Exchange). record { call = t.call; answer = a } ∷ es) (g.answer_is x t)
      (recorded_is (B.turn x t).next ts ∙ ap (λ (y : State). recorded ours y ts) (g.next_is x t))

  empty_is : (x : B.Memory) → StartsEmpty B x → StartsEmpty ours (B.means x)
  empty_is x e = record { places = e.places; records = e.records; made_so = e.made_so; shelf_is = e.shelf_is; area_is = e.area_is }

  told_is : (x : B.Memory) (k : Asked) (hs : Option (List Heard)) → ToldBy ours (B.means x) k hs → ToldBy B x k hs
  told_is x k hs t = record { says = g.answer_is x (status k) ∙ t.says; gives = λ m. g.answer_is x (fetch k m) ∙ t.gives m }

  -- what is told of the shelf that the memory means is told of the memory
  told_after : (x : B.Memory) (k : Asked) (ts : List Turn) (hs : Option (List Heard))
      → ToldBy ours (state_after ours (B.means x) ts) k (history k hs (recorded ours (B.means x) ts)) → ToldBy B (state_after B x ts) k (history k hs (recorded B x ts))
  told_after x k ts hs t = told_is (state_after B x ts) k (history k hs (recorded B x ts))
      (subst (λ (y : State). ToldBy ours y k (history k hs (recorded B x ts))) (sym (after_is x ts))
      (subst (λ (es : List Exchange). ToldBy ours (state_after ours (B.means x) ts) k (history k hs es)) (sym (recorded_is x ts)) t))

  module _ {k : Asked} (table : WholeTable k) where
    allowed_is : (x : B.Memory) (t : Turn) → Allowed B table x t → Allowed ours table (B.means x) t
    allowed_is x t a = record {
      stays_open = λ c e q. sym (ap accepted (g.answer_is x t)) ∙ a.stays_open c e q;
      no_other = λ d e q y. a.no_other d e q (ap accepted (g.answer_is x t) ∙ y);
    }

    stretch_is : (x : B.Memory) (ts : List Turn) → Stretch B table x ts → Stretch ours table (B.means x) ts
    stretch_is x [] end = end
    stretch_is x (t ∷ ts) (goes_on a st) = goes_on (allowed_is x t a) (subst (λ (y : State). Stretch ours table y ts) (g.next_is x t) (stretch_is (B.turn x t).next ts st))

    none_is : (x : B.Memory) (ts : List Turn) → NoneRefused ours table (B.means x) ts → NoneRefused B table x ts
    none_is x [] none_left = none_left
    none_is x (t ∷ ts) (and_then f r) =
        and_then (λ m l e. g.answer_is x t ∙ f m l e) (none_is (B.turn x t).next ts (subst (λ (y : State). NoneRefused ours table y ts) (sym (g.next_is x t)) r))

    complete_is : (x : B.Memory) → Complete ours table (B.means x) → Complete B table x
    complete_is x c = record {
      says = g.answer_is x (status k) ∙ c.says;
      holds = λ m l. g.answer_is x (fetch k m) ∙ c.holds m l;
      no_other = λ m l. g.answer_is x (fetch k m) ∙ c.no_other m l;
    }

pub agreeing_collect : AgreeingCollect
agreeing_collect B g = record {
  first_half = λ x k v table ts ok is room own st made.
      let f = first_half (B.means x) k v table ts ok is room own (stretch_is B g table x ts st) made in
      (none_is B g table x ts f.0, complete_is B g table (state_after B x ts) (subst (Complete ours table) (sym (after_is B g x ts)) f.1));
  second_half = λ x k ts ok silent own. told_after B g x k ts _ (second_half (B.means x) k ts ok silent own);
  from_empty = λ x k ts e own. told_after B g x k ts _ (from_empty (B.means x) k ts (empty_is B g x e) own);
  places_promised = λ x ts e.
      ap₂ (λ (y : State) (es : List Exchange). promised y.shelf + quotas_closed (λ k. 0) es) (after_is B g x ts) (recorded_is B g x ts)
      ∙ places_promised (B.means x) ts (empty_is B g x e)
      ∙ ap quotas_opened (sym (recorded_is B g x ts));
}

pub lent_holds : LentHolds
lent_holds = record {
  collects = λ reply. agreeing_collect (lent_build reply) (record { answer_is = λ x t. (lent_step_lem reply x t).1; next_is = λ x t. (lent_step_lem reply x t).0 });
  refused_keeps = refused_keeps;
}
