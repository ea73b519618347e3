-- An empty shelf is made where its sizes are in range; it obeys the rules, promises nothing, and watches no key.
use Rattle.std.specs.Prelude.{None}
use Prim.Native.Nat.{◌*◌, ℕ}
use mathlib.Core.Path.{◌∙◌, ◌≡◌, ap, refl, subst, sym}
use mathlib.Core.Bool.{Bool, false, true}
use mathlib.Core.List.{List}
use native.Mathlib.Omega.{arith}
use lib.ListN.{length, length-replicate}
use borrow.Author.Tests.{leb-true}
use Rattle.logic.proofs.CountLaws.{sum_cong, sum_zero}
use Rattle.logic.proofs.LoopLaws.{and_left, and_right, true_false}
use Rattle.refusal.specs.Outcomes.{Outcome, or_refuse, resulted}
use Rattle.shelf_state.specs.Records.{blank_place, blank_watch, is_of, place_at, watch_at}
use Rattle.shelf_state.specs.Searches.{empty_shelf}
use Rattle.shelf_state.specs.Rules.{obeys, promised, quota_of, sizes_in_range}
use Rattle.shelf_state.specs.declared.records.Asked.{Asked}
use Rattle.shelf_state.specs.declared.records.Place.{Place}
use Rattle.shelf_state.specs.declared.records.Shelf.{Shelf}
use Rattle.shelf_state.specs.declared.records.Watch.{Watch}
use Rattle.shelf_state.proofs.RecordLaws.{is_of_shut, replicate_at}
use Rattle.shelf_state.proofs.RuleLaws.{Sizes, obeys_i, quota_shut}
use Rattle.shelf.specs.Answers.{After}
use Rattle.shelf.specs.Calls.{answered, made, or_refuse_with}
use Rattle.shelf.specs.Views.{view}
use Rattle.shelf.proofs.CallLaws.{go_on, passed}
use Rattle.shelf_laws.specs.Laws.{Empty, EmptyLaw, MadeLaw}
use Rattle.shelf_laws.proofs.ViewLaws.{view_none}

module _ (places records : ℕ) where
  abbrev s : Shelf
  s = empty_shelf places records

  watch_blank : (i : ℕ) → watch_at s i ≡ blank_watch
  unfolding empty_shelf
  watch_blank i = replicate_at 16 i blank_watch

  place_blank : (i : ℕ) → place_at s i ≡ blank_place
  unfolding empty_shelf
  place_blank i = replicate_at 64 i blank_place

  shut : {A : Type 0} (i : ℕ) → (watch_at s i).live ≡ true → A
  shut i v = true_false false (sym (ap (λ (w : Watch). w.live) (watch_blank i)) ∙ v) refl

  free : {A : Type 0} (i : ℕ) → (place_at s i).used ≡ true → A
  free i u = true_false false (sym (ap (λ (p : Place). p.used) (place_blank i)) ∙ u) refl

  none_promised : promised s ≡ 0
  none_promised =
      sum_cong s.records (λ i. quota_of (watch_at s i)) (λ _. 0) (λ i _. ap quota_of (watch_blank i) ∙ quota_shut blank_watch refl)
      ∙ sum_zero s.records

  none_viewed : (area : List ℕ) (a : Asked) → view s area a ≡ None
  none_viewed area a = view_none s area a (λ i _. ap (λ (w : Watch). is_of w a) (watch_blank i) ∙ is_of_shut blank_watch a refl)

  module _ (area : ℕ) (e : sizes_in_range places records ≡ true) (f : area ≡ places * 4096) where
    fitting : Sizes s area
    unfolding empty_shelf sizes_in_range
    fitting =
        let e₁ = and_right _ _ e in
        let e₂ = and_right _ _ e₁ in
        record {
          watches_16 = length-replicate 16 blank_watch;
          places_64 = length-replicate 64 blank_place;
          count_1 = leb-true _ _ (and_left _ _ e);
          count_64 = leb-true _ _ (and_left _ _ e₁);
          records_1 = leb-true _ _ (and_left _ _ e₂);
          records_16 = leb-true _ _ (and_right _ _ e₂);
          area_is = f;
        }

    empty_obeys : obeys s area ≡ true
    empty_obeys = obeys_i s area (record {
      size = fitting;
      keys_differ_lem = λ i j l m v. shut j v;
      promise = omega (arith, none_promised);
      owned = λ i l u. free i u;
      once = λ i j l m u. free j u;
      last_below = λ i l v g. shut i v;
      short = λ i l u. free i u;
      range = λ i l v. shut i v;
    })

pub made_law : MadeLaw
unfolding made or_refuse_with or_refuse
made_law places records = go (sizes_in_range places records)
  where
    go : (b : Bool) → ◌≡◌ {A = Outcome (Unit {0})} (or_refuse_with 14 (empty_shelf 0 0) b (answered tt (empty_shelf places records))).outcome (or_refuse 14 b (resulted tt))
    go true = refl
    go false = refl

pub empty_law : EmptyLaw
unfolding made empty_shelf
empty_law places records area e f =
    let p = passed 14 (empty_shelf 0 0) _ _ tt e in
    subst (λ (r : After (Unit {0})). Empty places records (record { shelf = r.shelf; area = area })) (go_on 14 (empty_shelf 0 0) _ _ p.0 refl)
    (record { places_are = refl; records_are = refl; rules = empty_obeys places records (length area) p.0 f; nothing_promised = none_promised places records; no_view = none_viewed places records area })
