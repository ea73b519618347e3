-- The third demand, first half: a watch with room for a table ends complete, holding exactly its bytes.
use Rattle.std.specs.Prelude.{Option, None, Some}
use Prim.Native.Nat.{◌+◌, ◌<◌, ◌≤◌, ℕ}
use mathlib.Core.Path.{◌∙◌, ◌≡◌, ap, refl, subst, sym}
use mathlib.Core.Bool.{Bool, false, true}
use mathlib.Core.List.{List, [], ◌∷◌}
use mathlib.Core.Logic.{◌⊎◌, inl, inr, ⊎_elim}
use native.Mathlib.Omega.{arith}
use lib.Dec.{eqb}
use lib.ListN.{length}
use borrow.Author.Tests.{eq-eqb, eqb-true, le-leb, ne_eqb}
use Rattle.logic.specs.Choices.{pick}
use Rattle.logic.specs.Loops.{◌&◌, count}
use Rattle.logic.proofs.LoopLaws.{all_i, and_i, and_left, and_right, both, true_false}
use Rattle.refusal.specs.Outcomes.{Outcome, refused, resulted, or_refuse}
use Rattle.section.specs.declared.header.Header.{Header}
use Rattle.shelf_state.specs.Records.{same_key}
use Rattle.shelf_state.specs.Searches.{watched}
use Rattle.shelf_state.specs.declared.records.Asked.{Asked}
use Rattle.shelf_state.specs.declared.records.Edition.{Edition}
use Rattle.shelf_state.specs.declared.records.Shelf.{Shelf}
use Rattle.shelf_state.proofs.RecordLaws.{key_is, key_self}
use Rattle.shelf.specs.Views.{complete, held, Call, Kept, Opening, View, asks, bytes_or22, closes, current_on, delivers, delivery_says, edition_of, fetches, fetching_says, fresh_view, hears, hears_in, is_some, judged, key_in, next_view, opens, put, same_edition, status_of, status_says}
use Rattle.shelf.specs.Calls.{opened}
use Rattle.shelf.specs.Steps.{State, Turn, accepted, did, gave, is_result, lent_to, own_or14, step, step_on, reported, view_in}
use Rattle.shelf_laws.specs.Laws.{Obeys, OneStep}
use Rattle.shelf_laws.proofs.OpenLaws.{opening_passed}
use Rattle.shelf_laws.proofs.StepLaws.{step_law}
use Rattle.shelf_laws.proofs.ViewLaws.{none_above, pid_small, same_some, viewed}
use Rattle.collecting.proofs.TurnLaws.{count_says, own_next, says_bytes, says_delivered, says_status}
use Rattle.collecting.specs.Collecting.{Allowed, Complete, FirstHalf, Made, NoneRefused, OneOf, Own, Stretch, WholeTable, state_after, and_then, deliver, end, fetch, here, none_left, one_more, goes_on, there, ours}

-- ---- an open watch's key is not opened again
open_refused : (s : Shelf) (area : ℕ) (a : Asked) (q : ℕ) → watched s a ≡ true → is_result (opened s area a q).outcome ≡ false
open_refused s area a q w = go (opened s area a q).outcome refl
  where
    go : (o : Outcome (Unit {0})) → (opened s area a q).outcome ≡ o → is_result o ≡ false
    go (refused n) e = refl
    go (resulted u) e = true_false (watched s a) w (opening_passed s area a q e).new

-- ---- a table of a key
module _ (k : Asked) (table : WholeTable k) where
  abbrev head : (n : ℕ) → n ≤ table.last → Header
  head n l = (table.sections n l).head

  abbrev edition : Edition
  edition = record { heard = true; version = table.version; last = table.last }

  edition_is : (n : ℕ) (l : n ≤ table.last) → edition_of (head n l) ≡ edition
  edition_is n l = λ i. record { heard = true; version = (table.sections n l).version_is i; last = (table.sections n l).last_is i }

  -- section m is kept, in the table's edition
  record Got (m : ℕ) (v : View) : Type 0 where
    in_edition : v.edition ≡ edition
    bytes_are : v.kept m ≡ Some (record { bytes = table.bytes m })

  -- the table's section n is heard: n is got, and what was got stays so
  module _ (v : View) (n : ℕ) (l : n ≤ table.last) where
    abbrev heard : View
    heard = hears v (head n l) (table.bytes n)

    same_room : heard.quota ≡ v.quota
    unfolding hears
    same_room = refl

    now_got : Got n heard
    unfolding hears put
    now_got = record { in_edition = edition_is n l; bytes_are = rw (eq-eqb n (head n l).number (sym (table.sections n l).number_is)) }

    same_edition_lem : v.edition ≡ edition → same_edition v.edition (head n l) ≡ true
    unfolding same_edition
    same_edition_lem e = rw e (and_i true _ refl (and_i _ _ (eq-eqb _ _ (sym (table.sections n l).version_is)) (eq-eqb _ _ (sym (table.sections n l).last_is))))

    still_got : (m : ℕ) → Got m v → Got m heard
    unfolding hears put
    still_got m g = ⊎_elim
        (λ e. subst (λ (j : ℕ). Got j heard) (sym (eqb-true m (head n l).number e ∙ (table.sections n l).number_is)) now_got)
        (λ (e : eqb m (head n l).number ≡ false). record { in_edition = edition_is n l; bytes_are = rw (e, same_edition_lem g.in_edition) g.bytes_are })
        (both (eqb m (head n l).number))

  -- ---- one turn
  module _ (x : State) (v : View) (ok : Obeys x) (is : view_in x k ≡ Some v) where
    module _ (t : Turn) (lent : own_or14 (length x.area) t.lent ≡ true) where
      abbrev y : Bool
      y = accepted (step x t).answer

      view_next : view_in (step x t).next k ≡ next_view k t.call y (Some v)
      view_next = (step_law x t ok).views lent k ∙ ap (next_view k t.call y) is

      -- the watch is still open, with its quota, and what was got stays so
      pub record Stays : Type 0 where
        pub view : View
        pub is_view : view_in (step x t).next k ≡ Some view
        pub same_quota : view.quota ≡ v.quota
        still : (m : ℕ) → Got m v → Got m view

      unmoved : view_in (step x t).next k ≡ Some v → Stays
      unmoved e = record { view = v; is_view = e; same_quota = refl; still = λ m g. g }

      hears_one : (n : ℕ) (l : n ≤ table.last) → view_in (step x t).next k ≡ Some (heard v n l) → Stays
      hears_one n l e = record { view = heard v n l; is_view = e; same_quota = same_room v n l; still = still_got v n l }

      -- a call about one key: another key's view stays
      of_key : (a : Asked) (w : Option View) → view_in (step x t).next k ≡ pick (y & same_key k a) w (Some v)
          → (a ≡ k → y ≡ true → view_in (step x t).next k ≡ w → Stays) → Stays
      of_key a w e f = ⊎_elim
          (λ b. f (sym (key_is k a (and_right y (same_key k a) b))) (and_left y (same_key k a) b) (e ∙ ap (λ (c : Bool). pick c w (Some v)) b))
          (λ b. unmoved (e ∙ ap (λ (c : Bool). pick c w (Some v)) b))
          (both (y & same_key k a))

      opens_no_more : (o : Opening) → t.call ≡ opens o → o.key ≡ k → y ≡ false
      unfolding step step_on
      opens_no_more o e q =
          ap (λ (c : Call). accepted (step_on x t.lent (lent_to x t.lent) c).answer) e
          ∙ open_refused x.shelf (length (lent_to x t.lent)) o.key o.quota (rw q (viewed x.shelf x.area k v is))

      pub turned : Allowed ours table x t → Stays
      unfolding next_view
      turned al = go t.call refl
        where
          next_is : (c : Call) → t.call ≡ c → view_in (step x t).next k ≡ next_view k c y (Some v)
          next_is c e = view_next ∙ ap (λ (d : Call). next_view k d y (Some v)) e

          go : (c : Call) → t.call ≡ c → Stays
          go (opens o) e = of_key o.key (Some (fresh_view o.quota)) (next_is (opens o) e) (λ q a _. true_false y a (opens_no_more o e q))
          go (closes c) e = of_key c.key None (next_is (closes c) e) (λ q a _. true_false y a (al.stays_open c e q))
          go (asks q) e = unmoved (next_is (asks q) e)
          go (fetches f) e = unmoved (next_is (fetches f) e)
          go (delivers d) e = of_key (key_in d.pid d.bytes) (hears_in (Some v) d.bytes (judged d.bytes)) (next_is (delivers d) e) (λ q a w.
              let o : OneOf table d.bytes = al.no_other d e q a in
              hears_one o.number o.upto
              (w ∙ ap (λ (b : List ℕ). hears_in (Some v) b (judged b)) o.bytes_are
              ∙ ap (hears_in (Some v) (table.bytes o.number)) (table.sections o.number o.upto).sound))

    -- ---- where the watch has room for the table, a delivery of section m is accepted and heard
    module _ (room : table.last + 1 ≤ v.quota) (m : ℕ) (l : m ≤ table.last) where
      abbrev turn : Turn
      turn = deliver k.pid (table.bytes m)

      current : current_on k.pid (table.bytes m) ≡ resulted (head m l)
      unfolding current_on or_refuse
      current = rw (le-leb k.pid 8191 (pid_small x k v ok is), (table.sections m l).sound, ne_eqb (head m l).current 0 (table.sections m l).current)

      accepts : (step x turn).answer ≡ did (resulted tt)
      unfolding delivery_says or_refuse
      accepts =
          says_delivered x k.pid (table.bytes m) ok
          ∙ rw ((table.sections m l).key, current, is, le-leb ((head m l).last + 1) v.quota (omega (arith, room, (table.sections m l).last_is)))

      is_heard : view_in (step x turn).next k ≡ Some (heard v m l)
      unfolding next_view
      is_heard =
          let w : Option View = hears_in (Some v) (table.bytes m) (judged (table.bytes m)) in
          view_next turn refl
          ∙ ap (λ (b : Bool). pick b w (Some v)) (and_i _ _ (ap accepted accepts) (ap (same_key k) (table.sections m l).key ∙ key_self k))
          ∙ ap (hears_in (Some v) (table.bytes m)) (table.sections m l).sound

      -- so number m is got in the view after it
      gets_it : (t : Turn) (w : View) → view_in (step x t).next k ≡ Some w → t ≡ turn → Got m w
      gets_it t w f e = subst (Got m) (same_some (heard v m l) w (sym is_heard ∙ ap (λ (u : Turn). view_in (step x u).next k) (sym e) ∙ f)) (now_got v m l)

  -- ---- a stretch
  abbrev Split : Turn → List Turn → Type 0
  Split t [] = ⊥
  Split t (u ∷ ts) = (u ≡ t) ⊎ Made t ts

  split : (t : Turn) (ts : List Turn) → Made t ts → Split t ts
  split t [] x' = elim x' [ ]
  split t (u ∷ ts) here = inl refl
  split t (u ∷ ts) (there o) = inr o

  record Ends (v : View) (x : State) (ts : List Turn) : Type 0 where
    finally : View
    keeps : Obeys (state_after ours x ts)
    view_is : view_in (state_after ours x ts) k ≡ Some finally
    gets : (m : ℕ) → m ≤ table.last → Made (deliver k.pid (table.bytes m)) ts ⊎ Got m v → Got m finally
    none_refused : NoneRefused ours table x ts

  ends : (x : State) (v : View) (ts : List Turn) → Obeys x → view_in x k ≡ Some v → table.last + 1 ≤ v.quota → Own (length x.area) ts → Stretch ours table x ts → Ends v x ts
  unfolding state_after
  ends x v [] ok is room own end = record {
    finally = v;
    keeps = ok;
    view_is = is;
    gets = λ m l o. ⊎_elim (λ p. absurd (split (deliver k.pid (table.bytes m)) [] p)) (λ g. g) o;
    none_refused = none_left;
  }
  ends x v (t ∷ ts) ok is room (one_more lent own) (goes_on al st) =
      let s : OneStep x t = step_law x t ok in
      let o = turned x v ok is t lent al in
      let r = ends (step x t).next o.view ts s.keeps o.is_view (omega (arith, room, o.same_quota)) (own_next s own) st in
      record {
        finally = r.finally;
        keeps = r.keeps;
        view_is = r.view_is;
        gets = λ m l q. r.gets m l (⊎_elim
            (λ p. ⊎_elim (λ e. inr (gets_it x v ok is room m l t o.view o.is_view e)) inl (split _ _ p))
            (λ g. inr (o.still m g)) q);
        none_refused = and_then (λ m l e. ap (λ (u : Turn). (step x u).answer) e ∙ accepts x v ok is room m l) r.none_refused;
      }

  -- ---- all numbers got: complete, and the bytes are the table's
  module _ (x : State) (v : View) (ok : Obeys x) (is : view_in x k ≡ Some v) (got : (m : ℕ) → m ≤ table.last → Got m v) where
    in_edition : v.edition ≡ edition
    in_edition = (got 0 (omega arith)).in_edition

    status_is : status_says (Some v) ≡ resulted (complete (table.last + 1))
    unfolding status_of
    status_is =
        let n : ℕ = table.last + 1 in
        let p : ℕ → Bool = λ m. is_some (v.kept m) in
        ap (λ (e : Edition). resulted (status_of e (count (e.last + 1) p))) in_edition
        ∙ ap resulted (count_says n p)
        ∙ ap (λ (b : Bool). resulted (pick b (complete n) (held (count n p) n))) (all_i p n (λ m l. ap is_some (got m (omega arith)).bytes_are))

    gives : (m : ℕ) (o : Option Kept) → v.kept m ≡ o → (step x (fetch k m)).answer ≡ gave (bytes_or22 o)
    gives m o e = says_bytes x k ok m ∙ ap (λ (w : Option View). gave (fetching_says w m)) is ∙ ap (λ (z : Option Kept). gave (bytes_or22 z)) e

    completes : Complete ours table x
    completes = record {
      says = says_status x k ok ∙ ap (λ (w : Option View). reported (status_says w)) is ∙ ap reported status_is;
      holds = λ m l. gives m (Some (record { bytes = table.bytes m })) (got m l).bytes_are;
      no_other = λ m l. gives m None (none_above x k v ok is m (subst (λ (e : Edition). e.last < m) (sym in_edition) l));
    }

pub first_half : FirstHalf ours
first_half x k v table ts ok is room own st made =
    let e = ends k table x v ts ok is (omega (arith, room)) own st in
    (e.none_refused, completes k table (state_after ours x ts) e.finally e.keeps e.view_is (λ m l. e.gets m l (inl (made m l))))
