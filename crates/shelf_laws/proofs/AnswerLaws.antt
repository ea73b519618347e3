-- What the calls answer on a shelf that obeys its rules, by the key's view; and that one which breaks them is refused by 14.
use Rattle.std.specs.Prelude.{None, Some}
use Prim.Native.Nat.{◌*◌, ◌+◌, ℕ}
use mathlib.Core.Path.{◌∙◌, ◌≡◌, ap, refl, sym}
use mathlib.Core.Bool.{Bool, false, not, true}
use mathlib.Core.List.{List}
use lib.Dec.{eqb, leb}
use lib.ListN.{length}
use Rattle.logic.proofs.LoopLaws.{isnt}
use Rattle.logic.specs.Choices.{pick}
use Rattle.logic.specs.Loops.{any, one}
use Rattle.logic.proofs.CountLaws.{sum_cong}
use Rattle.refusal.specs.Outcomes.{Outcome, refused, resulted, or_refuse}
use Rattle.section.specs.declared.header.Header.{Header}
use Rattle.shelf_state.specs.Records.{blank_watch, place_at, watch_at}
use Rattle.shelf_state.specs.Searches.{dropped, free_record, is_held, place_of, set_watch, watch_of, watched}
use Rattle.shelf_state.specs.Rules.{in_range, obeys, promised}
use Rattle.shelf_state.specs.declared.records.Asked.{Asked}
use Rattle.shelf_state.specs.declared.records.Shelf.{Shelf}
use Rattle.shelf.specs.Answers.{After}
use Rattle.shelf.specs.Calls.{answered, closed, fetched, fetched_from, fresh, held_numbers, opened, opened_in_range, or_refuse_with, refused_with, status_after}
use Rattle.shelf.specs.Delivery.{arriving, by_judge, delivered, delivering, done, for_owner, owner_in, received, received_at}
use Rattle.shelf.specs.Steps.{Lent, State, did, fetched_bytes, gave, lent_to, step, step_on, reported}
use Rattle.shelf.specs.Views.{Call, asks, at_first, bytes_at, bytes_or22, closes, closing_says, current_of, current_on, delivers, delivery_says, fetches, fetching_says, held_in, is_some, judged, kept_at, key_in, opening_says, opens, status_of, status_says, view, view_at}
use Rattle.shelf_laws.specs.Laws.{BrokenLaw, refused_as}
use Rattle.shelf_laws.proofs.ViewLaws.{kept_held}

-- 14 is not given
passes : {A B : Type 0} (f : After A → B) (s : Shelf) (area : ℕ) → obeys s area ≡ true → (rest : After A) → f (or_refuse_with 14 s (obeys s area) rest) ≡ f rest
unfolding or_refuse_with
passes f s area ok rest = ap (λ (b : Bool). f (or_refuse_with 14 s b rest)) ok

-- 14 is given, and the call is refused
breaks : {A B : Type 0} (f : After A → B) (s : Shelf) (area : ℕ) → obeys s area ≡ false → (rest : After A) → f (or_refuse_with 14 s (obeys s area) rest) ≡ f (refused_with 14 s)
unfolding or_refuse_with
breaks f s area e rest = ap (λ (b : Bool). f (or_refuse_with 14 s b rest)) e

broken_on : (x : State) (u : Lent) (l : List ℕ) (c : Call) → obeys x.shelf (length l) ≡ false → (step_on x u l c).answer ≡ refused_as c 14
unfolding step_on opened closed status_after fetched delivered delivering
broken_on x u l (opens o) e = breaks (λ r. did r.outcome) x.shelf (length l) e _
broken_on x u l (closes c) e = breaks (λ r. did r.outcome) x.shelf (length l) e _
broken_on x u l (asks q) e = breaks (λ r. reported r.outcome) x.shelf (length l) e _
broken_on x u l (fetches f) e = breaks (λ r. gave (fetched_bytes l r.outcome)) x.shelf (length l) e _
broken_on x u l (delivers d) e = breaks (λ r. did (done r.outcome)) x.shelf (length l) e _

pub broken_law : BrokenLaw
unfolding step
broken_law x t n = broken_on x t.lent (lent_to x t.lent) t.call (isnt _ n)

module _ (s : Shelf) (area : List ℕ) (ok : obeys s (length area) ≡ true) where
  module _ (a : Asked) where
    abbrev w : ℕ
    w = watch_of s a

    pub opening_says_lem : (q : ℕ) → (opened s (length area) a q).outcome ≡ opening_says s (view s area a) (record { key = a; quota = q })
    unfolding opened opened_in_range or_refuse_with opening_says or_refuse view at_first
    opening_says_lem q =
        passes (λ r. r.outcome) s (length area) ok _
        ∙ go (in_range a q) (watched s a) (any s.records (λ i. not (watch_at s i).live)) (leb (promised s + q) s.count)
      where
        go : (b c d e : Bool)
            → ◌≡◌ {A = Outcome (Unit {0})}
            (or_refuse_with 15 s b (or_refuse_with 19 s (not c) (or_refuse_with 20 s d (or_refuse_with 21 s e (answered tt (set_watch s (free_record s) (fresh a q))))))).outcome
            (or_refuse 15 b (or_refuse 19 (not (is_some (pick c (Some (view_at s area w)) None))) (or_refuse 20 d (or_refuse 21 e (resulted tt)))))
        go false c d e = refl
        go true true d e = refl
        go true false false e = refl
        go true false true false = refl
        go true false true true = refl

    pub closing_says_lem : (closed s (length area) a).outcome ≡ closing_says (view s area a)
    unfolding closed or_refuse_with view at_first
    closing_says_lem = passes (λ r. r.outcome) s (length area) ok _ ∙ go (watched s a)
      where
        go : (b : Bool) → (or_refuse_with 17 s b (answered tt (set_watch (dropped s w) w blank_watch))).outcome ≡ closing_says (pick b (Some (view_at s area w)) None)
        go true = refl
        go false = refl

    held_is : held_numbers s w ≡ held_in (view_at s area w)
    unfolding held_numbers view_at
    held_is = sum_cong ((watch_at s w).edition.last + 1) (λ m. one (is_held s w m)) (λ m. one (is_some (kept_at s area w m))) (λ m _. ap one (sym (kept_held s area w m)))

    pub status_says_lem : (status_after s (length area) a).outcome ≡ status_says (view s area a)
    unfolding status_after or_refuse_with view at_first view_at
    status_says_lem = passes (λ r. r.outcome) s (length area) ok _ ∙ go (watched s a)
      where
        go : (b : Bool) → (or_refuse_with 17 s b (answered (status_of (watch_at s w).edition (held_numbers s w)) s)).outcome ≡ status_says (pick b (Some (view_at s area w)) None)
        go true = ap (λ (c : ℕ). resulted (status_of (watch_at s w).edition c)) held_is
        go false = refl

    fetched_is : (m : ℕ) → fetched_bytes area (fetched_from s w m).outcome ≡ bytes_or22 (kept_at s area w m)
    unfolding fetched_from or_refuse_with kept_at at_first
    fetched_is m = go (is_held s w m)
      where
        go : (b : Bool) → fetched_bytes area (or_refuse_with 22 s b (answered (record { start = place_of s w m * 4096; length = (place_at s (place_of s w m)).length }) s)).outcome
            ≡ bytes_or22 (pick b (Some (record { bytes = bytes_at area (place_of s w m) (place_at s (place_of s w m)).length })) None)
        go true = refl
        go false = refl

    pub fetching_says_lem : (m : ℕ) → fetched_bytes area (fetched s (length area) a m).outcome ≡ fetching_says (view s area a) m
    unfolding fetched or_refuse_with view at_first view_at
    fetching_says_lem m = passes (λ r. fetched_bytes area r.outcome) s (length area) ok _ ∙ go (watched s a)
      where
        go : (b : Bool) → fetched_bytes area (or_refuse_with 17 s b (fetched_from s w m)).outcome ≡ fetching_says (pick b (Some (view_at s area w)) None) m
        go true = fetched_is m
        go false = refl

    -- 16, 17 and 18
    received_says : (h : Header) (n : ℕ) → done (received s a h n).outcome ≡ delivery_says (view s area a) (current_of (resulted h))
    unfolding received for_owner received_at owner_in delivery_says view at_first view_at or_refuse
    received_says h n = owner (owner_in s.watches s.records a h) ∙ go (eqb h.current 0) (watched s a)
      where
        owner : (o : Outcome ℕ) → done (for_owner s h n o).outcome ≡ done o
        owner (refused k) = refl
        owner (resulted i) = refl

        room : (b : Bool) → done (or_refuse 18 b (resulted w)) ≡ or_refuse 18 b (resulted tt)
        room true = refl
        room false = refl

        go : (b c : Bool) → done (or_refuse 16 (not b) (or_refuse 17 c (or_refuse 18 (leb (h.last + 1) (watch_at s w).quota) (resulted w))))
            ≡ delivery_says (pick c (Some (view_at s area w)) None) (or_refuse 16 (not b) (resulted h))
        go true c = refl
        go false true = room (leb (h.last + 1) (watch_at s w).quota)
        go false false = refl

  pub delivery_says_lem : (pid : ℕ) (b : List ℕ) → done (delivering s (length area) pid b).outcome ≡ delivery_says (view s area (key_in pid b)) (current_on pid b)
  unfolding delivering arriving by_judge or_refuse_with current_on delivery_says or_refuse
  delivery_says_lem pid b = passes (λ r. done r.outcome) s (length area) ok _ ∙ range (leb pid 8191)
    where
      found : (o : Outcome Header) → done (by_judge s pid b o).outcome ≡ delivery_says (view s area (key_in pid b)) (current_of o)
      found (refused k) = refl
      found (resulted h) = received_says (key_in pid b) h (length b)

      range : (c : Bool) → done (or_refuse_with 15 s c (by_judge s pid b (judged b))).outcome ≡ delivery_says (view s area (key_in pid b)) (or_refuse 15 c (current_of (judged b)))
      range true = found (judged b)
      range false = refl
