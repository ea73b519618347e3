-- The lent calls step as the shelf's own calls do, and a refused call changes nothing that it is lent.
use Prim.Native.Nat.{ℕ, ◌<◌}
use mathlib.Core.Path.{◌≡◌, refl, ◌∙◌, ap, sym, subst}
use mathlib.Core.Logic.{⊎_elim}
use mathlib.Core.Bool.{Bool, true, false}
use mathlib.Core.List.{List}
use native.Mathlib.Omega.{arith}
use lib.ListN.{length}
use Rattle.logic.proofs.LoopLaws.{both, true_false}
use Rattle.logic.specs.Choices.{pick}
use Rattle.part.specs.declared.Part.{Part}
use Rattle.refusal.specs.Outcomes.{Outcome, refused, resulted}
use Rattle.shelf_state.specs.Searches.{free_record, watch_of}
use Rattle.shelf_state.specs.declared.records.Shelf.{Shelf}
use Rattle.shelf.specs.Answers.{After}
use Rattle.shelf.specs.Calls.{closed, fetched, opened, status_after}
use Rattle.shelf.specs.Delivery.{area_after, delivered, delivering}
use Rattle.shelf.specs.Steps.{Lent, State, Turn, accepted, area_then, did, fetched_bytes, gave, is_result, lent_to, other, own, step, step_on, reported}
use Rattle.shelf.specs.Views.{Call, asks, closes, delivers, fetches, key_in, opens}
use Rattle.shelf_laws.proofs.CloseLaws.{closing_passed}
use Rattle.shelf_laws.proofs.DeliverLaws.{delivery_passed}
use Rattle.shelf_laws.proofs.OpenLaws.{opening_passed}
use Rattle.shelf_laws.proofs.StepLaws.{done_tt}
use Rattle.shelf_laws.proofs.StayLaws.{done_at, done_is, questions_stay, refused_stays}
use Rattle.refusal.specs.Outputs.{number_in}
use Rattle.lent_memory.specs.Replies.{part_numbers, reply_after, call_fits, status_numbers}
use Rattle.lent.specs.Calls.{called, lent_call}
use Rattle.lent_memory.specs.Changes.{records_after, rows_after}
use Rattle.lent_memory.specs.Meaning.{LentState, clamp, lent, meaning}
use Rattle.lent_laws.proofs.MadeLaws.{closed_made, delivered_made, opened_made}
use Rattle.lent_laws.proofs.NumberLaws.{closed_numbered, delivered_numbered, fetched_numbered, number_refused, opened_numbered, part_back, status_back, status_numbered, unit_back}
use Rattle.lent_laws.proofs.TripLaws.{Made, kept_records, kept_rows, trip}
use Rattle.lent_laws.specs.Laws.{LentStepLaw, RefusedKeeps, lent_step, state_of}

-- ---- what a shelf after a call leaves in lent memory
abbrev left_by : LentState → Shelf → List ℕ → LentState
left_by x t area = lent (records_after (meaning x) t x.watches) (rows_after (meaning x) t x.places) area

kept : (x : LentState) (t : Shelf) (area : List ℕ) → t ≡ meaning x → left_by x t area ≡ lent x.watches x.places area
kept x t area e =
    ap (λ (u : Shelf). left_by x u area) e
    ∙ (λ i. lent (kept_records (meaning x) x.watches i) (kept_rows (clamp 64 (meaning x).count) (meaning x) x.places i) area)

kept_means : (x : LentState) (t : Shelf) (area : List ℕ) → t ≡ meaning x → meaning (left_by x t area) ≡ t
kept_means x t area e = ap meaning (kept x t area e) ∙ sym e

module _ (x : LentState) (u : Lent) where
  abbrev z : State
  z = state_of x

  abbrev area : List ℕ
  area = lent_to z u

  abbrev at : Call → Turn
  at c = record { call = c; lent = u }

  done_means : (c : Call) (a : List ℕ) → accepted (step z (at c)).answer ≡ true → meaning (left_by x (step z (at c)).next.shelf a) ≡ (step z (at c)).next.shelf
  unfolding step step_on delivered
  done_means (opens o) a e =
      let f = opening_passed (meaning x) (length area) o.key o.quota (done_tt (opened (meaning x) (length area) o.key o.quota).outcome e) in
      trip x _ (free_record (meaning x)) (subst (λ (r : After (Unit {0})). Made x r.shelf (free_record (meaning x))) (sym f.is) (opened_made x (length area) o.key o.quota f)) a
  done_means (closes c) a e =
      let f = closing_passed (meaning x) (length area) c.key (done_tt (closed (meaning x) (length area) c.key).outcome e) in
      trip x _ (watch_of (meaning x) c.key) (subst (λ (r : After (Unit {0})). Made x r.shelf (watch_of (meaning x) c.key)) (sym f.is) (closed_made x (length area) c.key f)) a
  done_means (asks q) a e = kept_means x _ a (ap (λ (y : State). y.shelf) (questions_stay z (at (asks q)) refl))
  done_means (fetches g) a e = kept_means x _ a (ap (λ (y : State). y.shelf) (questions_stay z (at (fetches g)) refl))
  done_means (delivers d) a e =
      let o = (delivering (meaning x) (length area) d.pid d.bytes).outcome in
      let p = done_at o (sym (done_is o) ∙ e) in
      let f = delivery_passed (meaning x) (length area) d.pid d.bytes p.0 p.1 in
      let w = watch_of (meaning x) (key_in d.pid d.bytes) in
      trip x _ w (subst (λ (r : After ℕ). Made x r.shelf w) (sym f.is) (delivered_made x (length area) d.pid d.bytes f)) a

  means : (c : Call) (a : List ℕ) → meaning (left_by x (step z (at c)).next.shelf a) ≡ (step z (at c)).next.shelf
  means c a = ⊎_elim
      (λ e. done_means c a e)
      (λ e. kept_means x _ a (ap (λ (y : State). y.shelf) (refused_stays z (at c) e)))
      (both (accepted (step z (at c)).answer))

  -- memory that is only read leaves the shelf's area
  area_back : (v : Lent) → area_then z v (lent_to z v) ≡ x.area
  area_back own = refl
  area_back (other m) = refl

  next_is : (y : List ℕ) (c : Call) → state_of (lent_step y x (at c)).next ≡ (step z (at c)).next
  unfolding lent_step lent_call step step_on
  next_is y (opens o) = λ i. record { shelf = means (opens o) (area_then z u area) i; area = area_back u i }
  next_is y (closes c) = λ i. record { shelf = means (closes c) (area_then z u area) i; area = area_back u i }
  next_is y (asks q) = λ i. record { shelf = means (asks q) (area_then z u area) i; area = area_back u i }
  next_is y (fetches g) = λ i. record { shelf = means (fetches g) (area_then z u area) i; area = area_back u i }
  next_is y (delivers d) =
      let a = area_then z u (area_after area d.bytes (delivering (meaning x) (length area) d.pid d.bytes).outcome) in
      λ i. record { shelf = means (delivers d) a i; area = a }

  answer_is : (y : List ℕ) (c : Call) → (lent_step y x (at c)).answer ≡ (step z (at c)).answer
  unfolding lent_step lent_call step step_on
  answer_is y (opens o) = ap did (unit_back _ (opened_numbered (meaning x) (length area) o.key o.quota))
  answer_is y (closes c) = ap did (unit_back _ (closed_numbered (meaning x) (length area) c.key))
  answer_is y (asks q) = ap reported (status_back y _ (status_numbered (meaning x) (length area) q.key))
  answer_is y (fetches g) = ap (λ (o : Outcome Part). gave (fetched_bytes area o)) (part_back y (fetched (meaning x) (length area) g.key g.number).outcome (fetched_numbered (meaning x) (length area) g.key g.number))
  answer_is y (delivers d) = ap did (unit_back _ (delivered_numbered (meaning x) (length area) d.pid d.bytes))

pub lent_step_lem : LentStepLaw
lent_step_lem y x t = (next_is x t.lent y t.call, answer_is x t.lent y t.call)

-- ---- refusals
module _ (x : LentState) (y : List ℕ) where
  abbrev own_at : Call → Turn
  own_at c = record { call = c; lent = own }

  bytes_refused : (l : List ℕ) (o : Outcome Part) → is_result o ≡ false → is_result (fetched_bytes l o) ≡ false
  bytes_refused l (refused k) e = refl
  bytes_refused l (resulted p) e = true_false true refl e

  is_refused : (c : Call) → 0 < (lent_call x c y).number → accepted (step (state_of x) (own_at c)).answer ≡ false
  unfolding lent_call step step_on
  is_refused (opens o) h = number_refused (opened (meaning x) (length x.area) o.key o.quota).outcome h
  is_refused (closes c) h = number_refused (closed (meaning x) (length x.area) c.key).outcome h
  is_refused (asks q) h = number_refused (status_after (meaning x) (length x.area) q.key).outcome h
  is_refused (fetches g) h = let o = (fetched (meaning x) (length x.area) g.key g.number).outcome in bytes_refused x.area o (number_refused o h)
  is_refused (delivers d) h = number_refused (delivered (meaning x) (length x.area) d.pid d.bytes).outcome h

  state_is : (c : Call) → (lent_call x c y).state ≡ left_by x (step (state_of x) (own_at c)).next.shelf (step (state_of x) (own_at c)).next.area
  unfolding lent_call step step_on
  state_is (opens o) = refl
  state_is (closes c) = refl
  state_is (asks q) = refl
  state_is (fetches g) = refl
  state_is (delivers d) = refl

  reply_stays : {A : Type 0} (f : A → List ℕ) (o : Outcome A) → 0 < number_in o → reply_after f y o ≡ y
  reply_stays f (refused k) h = refl
  reply_stays f (resulted a) h = absurd (omega (arith, h))

  reply_is : (c : Call) → 0 < (lent_call x c y).number → (lent_call x c y).reply ≡ y
  unfolding lent_call
  reply_is (opens o) h = refl
  reply_is (closes c) h = refl
  reply_is (asks q) h = reply_stays status_numbers (status_after (meaning x) (length x.area) q.key).outcome h
  reply_is (fetches g) h = reply_stays part_numbers (fetched (meaning x) (length x.area) g.key g.number).outcome h
  reply_is (delivers d) h = refl

  refused_state : (c : Call) → 0 < (lent_call x c y).number → (lent_call x c y).state ≡ x
  refused_state c h =
      let e = refused_stays (state_of x) (own_at c) (is_refused c h) in
      state_is c
      ∙ ap (λ (v : State). left_by x v.shelf v.area) e
      ∙ kept x (meaning x) x.area refl

  sized : (c : Call) (b : Bool) → 0 < (pick b (lent_call x c y) (record { number = 14; state = x; reply = y })).number
      → ((pick b (lent_call x c y) (record { number = 14; state = x; reply = y })).state ≡ x) × ((pick b (lent_call x c y) (record { number = 14; state = x; reply = y })).reply ≡ y)
  sized c true h = (refused_state c h, reply_is c h)
  sized c false h = (refl, refl)

pub refused_keeps : RefusedKeeps
unfolding called
refused_keeps f x b q y h = sized x y (f b q) (call_fits q y) h
