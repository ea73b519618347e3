-- A call on a book is the call on every list whose book it is: what each function on a book says, of what its parts say.
use Prim.Native.Nat.{ℕ}
use mathlib.Core.Path.{◌≡◌, refl, ◌∙◌, ap, sym}
use mathlib.Core.Bool.{Bool, true, false}
use mathlib.Core.List.{List}
use native.Mathlib.Omega.{arith}
use borrow.Author.Tests.{eqb-true}
use lib.Dec.{eqb, ltb}
use lib.ListN.{length, set}
use lib.Seq.{set_out}
use Rattle.logic.proofs.LoopLaws.{and_left, and_right}
use Rattle.logic.specs.Choices.{pick}
use Rattle.part.specs.declared.Part.{Part}
use Rattle.refusal.specs.Outcomes.{Outcome}
use Rattle.shelf_state.specs.Records.{watch_at}
use Rattle.shelf_state.specs.declared.records.Asked.{Asked}
use Rattle.shelf_state.specs.declared.records.Shelf.{Shelf}
use Rattle.shelf.specs.Answers.{After}
use Rattle.shelf.specs.Views.{Status}
use Rattle.shelf.specs.Calls.{closed, fetched, opened, status_after}
use Rattle.shelf.specs.Delivery.{area_after, delivered, delivering}
use Rattle.lent_memory.specs.Meaning.{blank, lent, meaning, number_at, lent_record, shelf_in}
use Rattle.lent_memory.specs.Changes.{changed_at, compared, record_put, records_after, rows_after}
use Rattle.refusal.specs.Outputs.{number_in}
use Rattle.lent_memory.specs.Replies.{amount_in, asked_in, part_numbers, reply_after, call_fits, status_numbers}
use Rattle.lent.specs.Calls.{Left, CallIn, asking_in, called, closing_in, delivery_in, fetching_in, left, lent_call, opening_in}
use Rattle.lent_memory.specs.Inner.{ending_at, ending_of}
use Rattle.lent.specs.Inner.{Ends}
use Rattle.lent_memory.specs.declared.records.Book.{Book}
use Rattle.lent_memory.specs.declared.records.Ending.{Ending}
use Rattle.lent_memory.specs.declared.records.LentWatch.{LentWatch}

pub question_is : (q y : List ℕ) → call_fits q y ≡ true → length q ≡ 4
unfolding call_fits
question_is q y e = eqb-true (length q) 4 (and_left (eqb (length q) 4) (eqb (length y) 3) e)

pub reply_is : (q y : List ℕ) → call_fits q y ≡ true → length y ≡ 3
unfolding call_fits
reply_is q y e = eqb-true (length y) 3 (and_right (eqb (length q) 4) (eqb (length y) 3) e)

-- ---- the ending's record, written, is what the definition writes
module _ (s t : Shelf) (k : ℕ) (ws : List LentWatch) (h : s.records ≡ length ws) (i n : ℕ) where
  puts : (b : Bool) → set ws (pick {A = Ending} b (record { number = k; at = i; watch = lent_record (watch_at t i) }) (record { number = k; at = s.records; watch = blank })).at
      (pick {A = Ending} b (record { number = k; at = i; watch = lent_record (watch_at t i) }) (record { number = k; at = s.records; watch = blank })).watch
      ≡ pick b (set ws i (lent_record (watch_at t i))) ws
  puts true = refl
  puts false = set_out ws s.records blank (omega (arith, h))

  ending_puts : set ws (ending_at i n s t k).at (ending_at i n s t k).watch ≡ record_put i n t ws
  unfolding ending_at record_put
  ending_puts = puts (ltb i n)

pick_number : (b : Bool) (k : ℕ) (x y : Ending) → x.number ≡ k → y.number ≡ k → (pick b x y).number ≡ k
pick_number true k x y e f = e
pick_number false k x y e f = f

ending_number : (i n : ℕ) (s t : Shelf) (k : ℕ) → (ending_at i n s t k).number ≡ k
unfolding ending_at
ending_number i n s t k = pick_number (ltb i n) k _ _ refl refl

-- ---- memory that no rule allows
pub broken_said : (f : CallIn) (k : Book) (l area b q y : List ℕ) (r : Ending) → call_fits q y ≡ false → r ≡ record { number = 14; at = k.records; watch = blank } → Ends f k l area b q y r l area y
unfolding called
broken_said f k l area b q y r e g = λ ws h.
    (λ z. left (g z).number (set ws (g z).at (g z).watch) l area y)
    ∙ ap (λ (m : List LentWatch). left 14 m l area y) (set_out ws k.records blank (omega (arith, h.0)))
    ∙ sym (ap (λ (c : Bool). pick c (lent_call (lent ws l area) (f b q) y) (record { number = 14; state = lent ws l area; reply = y })) e)

-- ---- the calls, each from the shelf before it, its answer and the shelf after it
module _ (k : Book) (l area b q y : List ℕ) (s t : Shelf) (n : ℕ) (r : Ending) (l' : List ℕ) (sized : call_fits q y ≡ true) (h : s ≡ shelf_in k.records k.watches l)
    (e : (r ≡ ending_of s t n) × (l' ≡ rows_after s t l)) where
  -- what is left, of the shelf before and the answer
  abbrev leaving : {A : Type 0} → Shelf → List LentWatch → List ℕ → List ℕ → After A → Left
  leaving s ws area y r = left (number_in r.outcome) (records_after s r.shelf ws) (rows_after s r.shelf l) area y

  ends : (f : CallIn) (area' y' : List ℕ)
      → ((ws : List LentWatch) → s ≡ meaning (lent ws l area) → left n (records_after s t ws) (rows_after s t l) area' y' ≡ lent_call (lent ws l area) (f b q) y)
      → Ends f k l area b q y r l' area' y'
  unfolding called shelf_in
  ends f area' y' w = λ ws g.
      (λ z. left (e.0 z).number (set ws (e.0 z).at (e.0 z).watch) (e.1 z) area' y')
      ∙ (λ z. left (ending_number (changed_at s t (compared s)) (compared s) s t n z) (ending_puts s t n ws (ap (λ (u : Shelf). u.records) h ∙ g.0) (changed_at s t (compared s)) (compared s) z) (rows_after s t l) area' y')
      ∙ w ws (h ∙ (λ z. shelf_in (g.0 z) (g.1 z) l))
      ∙ sym (ap (λ (c : Bool). pick c (lent_call (lent ws l area) (f b q) y) (record { number = 14; state = lent ws l area; reply = y })) sized)

  module _ (o : Outcome (Unit {0})) (i : n ≡ number_in o) where
    pub opening_said : (a : Asked) (z : ℕ) → a ≡ asked_in q → z ≡ amount_in q → ◌≡◌ {A = After (Unit {0})} (record { outcome = o; shelf = t }) (opened s (length area) a z)
        → Ends opening_in k l area b q y r l' area y
    unfolding lent_call
    opening_said a z e₁ e₂ e₃ = ends opening_in area y (λ ws m.
        ap (λ (n : ℕ). left n (records_after s t ws) (rows_after s t l) area y) i
        ∙ ap (leaving s ws area y) e₃
        ∙ (λ v. leaving (m v) ws area y (opened (m v) (length area) (e₁ v) (e₂ v))))

    pub closing_said : (a : Asked) → a ≡ asked_in q → ◌≡◌ {A = After (Unit {0})} (record { outcome = o; shelf = t }) (closed s (length area) a) → Ends closing_in k l area b q y r l' area y
    unfolding lent_call
    closing_said a e₁ e₃ = ends closing_in area y (λ ws m.
        ap (λ (n : ℕ). left n (records_after s t ws) (rows_after s t l) area y) i
        ∙ ap (leaving s ws area y) e₃
        ∙ (λ v. leaving (m v) ws area y (closed (m v) (length area) (e₁ v))))

    pub delivery_said : (area' : List ℕ) (p : ℕ) → p ≡ number_at q 0 → ◌≡◌ {A = After (Unit {0})} (record { outcome = o; shelf = t }) (delivered s (length area) p b)
        → area' ≡ area_after area b (delivering s (length area) p b).outcome → Ends delivery_in k l area b q y r l' area' y
    unfolding lent_call
    delivery_said area' p e₁ e₂ e₃ = ends delivery_in area' y (λ ws m.
        ap (λ (n : ℕ). left n (records_after s t ws) (rows_after s t l) area' y) i
        ∙ (λ v. leaving s ws (e₃ v) y (e₂ v))
        ∙ (λ v. leaving (m v) ws (area_after area b (delivering (m v) (length area) (e₁ v) b).outcome) y (delivered (m v) (length area) (e₁ v) b)))

  pub asking_said : (o : Outcome Status) (y' : List ℕ) (a : Asked) → (n ≡ number_in o) × (y' ≡ reply_after status_numbers y o) → a ≡ asked_in q
      → ◌≡◌ {A = After Status} (record { outcome = o; shelf = t }) (status_after s (length area) a) → Ends asking_in k l area b q y r l' area y'
  unfolding lent_call
  asking_said o y' a i e₁ e₃ = ends asking_in area y' (λ ws m.
      (λ v. left (i.0 v) (records_after s t ws) (rows_after s t l) area (i.1 v))
      ∙ ap (λ (u : After Status). leaving s ws area (reply_after status_numbers y u.outcome) u) e₃
      ∙ (λ v. leaving (m v) ws area (reply_after status_numbers y (status_after (m v) (length area) (e₁ v)).outcome) (status_after (m v) (length area) (e₁ v))))

  pub fetching_said : (o : Outcome Part) (y' : List ℕ) (a : Asked) (z : ℕ) → (n ≡ number_in o) × (y' ≡ reply_after part_numbers y o) → a ≡ asked_in q → z ≡ amount_in q
      → ◌≡◌ {A = After Part} (record { outcome = o; shelf = t }) (fetched s (length area) a z) → Ends fetching_in k l area b q y r l' area y'
  unfolding lent_call
  fetching_said o y' a z i e₁ e₂ e₃ = ends fetching_in area y' (λ ws m.
      (λ v. left (i.0 v) (records_after s t ws) (rows_after s t l) area (i.1 v))
      ∙ ap (λ (u : After Part). leaving s ws area (reply_after part_numbers y u.outcome) u) e₃
      ∙ (λ v. leaving (m v) ws area (reply_after part_numbers y (fetched (m v) (length area) (e₁ v) (e₂ v)).outcome) (fetched (m v) (length area) (e₁ v) (e₂ v))))
