-- The five calls on lent memory, by the shelf's own definitions: what each answers, and all that it was lent afterwards. SCOPE 5, 6.
use Rattle.std.specs.Prelude.{ℕ, Bool, List, ◌++◌, leb, drop, length, take}
use Rattle.logic.specs.Choices.{pick}
use Rattle.refusal.specs.Outputs.{number_in}
use Rattle.shelf.specs.Answers.{After}
use Rattle.shelf.specs.Calls.{closed, fetched, opened, status_after}
use Rattle.shelf.specs.Delivery.{area_after, delivered, delivering}
use Rattle.shelf.specs.Views.{Call, asks, closes, delivers, fetches, opens}
use Rattle.lent_memory.specs.Meaning.{LentState, lent, meaning, number_at}
use Rattle.lent_memory.specs.Changes.{records_after, rows_after}
use Rattle.lent_memory.specs.Replies.{amount_in, asked_in, call_fits, part_numbers, reply_after, status_numbers}
use Rattle.lent_memory.specs.declared.records.LentWatch.{LentWatch}

-- ---- what a call leaves: its number, which is the refusal's, or 0 where it is done, and all that it was lent to write
pub record Left : Type 0 where
  pub number : ℕ
  pub state : LentState
  pub reply : List ℕ

abbrev pub left : ℕ → List LentWatch → List ℕ → List ℕ → List ℕ → Left
left n ws l area y = record { number = n; state = lent ws l area; reply = y }

-- ---- a call
abbrev pub leaves : {A : Type 0} → LentState → List ℕ → List ℕ → After A → Left
leaves x area y r =
    left (number_in r.outcome) (records_after (meaning x) r.shelf x.watches) (rows_after (meaning x) r.shelf x.places) area y

abbrev pub answers : {A : Type 0} → LentState → (A → List ℕ) → List ℕ → After A → Left
answers x f y r = leaves x x.area (reply_after f y r.outcome) r

unfoldable pub lent_call : LentState → Call → List ℕ → Left
lent_call x (opens o) y = leaves x x.area y (opened (meaning x) (length x.area) o.key o.quota)
lent_call x (closes c) y = leaves x x.area y (closed (meaning x) (length x.area) c.key)
lent_call x (asks q) y = answers x status_numbers y (status_after (meaning x) (length x.area) q.key)
lent_call x (fetches f) y = answers x part_numbers y (fetched (meaning x) (length x.area) f.key f.number)
lent_call x (delivers d) y =
    leaves x (area_after x.area d.bytes (delivering (meaning x) (length x.area) d.pid d.bytes).outcome) y
    (delivered (meaning x) (length x.area) d.pid d.bytes)

-- ---- the call that a section and a question are
abbrev pub CallIn : Type 0
CallIn = List ℕ → List ℕ → Call

abbrev pub opening_in : CallIn
opening_in b q = opens (record { key = asked_in q; quota = amount_in q })

abbrev pub closing_in : CallIn
closing_in b q = closes (record { key = asked_in q })

abbrev pub asking_in : CallIn
asking_in b q = asks (record { key = asked_in q })

abbrev pub fetching_in : CallIn
fetching_in b q = fetches (record { key = asked_in q; number = amount_in q })

abbrev pub delivery_in : CallIn
delivery_in b q = delivers (record { pid = number_at q 0; bytes = b })

-- ---- a call as it is made
-- a refusal is given exactly where its test fails and none before it did, with all that is lent as it was
abbrev pub or_refuse_lent : ℕ → LentState → List ℕ → Bool → Left → Left
or_refuse_lent n x y t r = pick t r (record { number = n; state = x; reply = y })

-- first of all, 14 where the question is not four numbers or the reply not three
unfoldable pub called : CallIn → LentState → List ℕ → List ℕ → List ℕ → Left
called f x b q y = or_refuse_lent 14 x y (call_fits q y) (lent_call x (f b q) y)

-- ---- a call with the records by value: the first n of them are lent, and those behind stay as they were. First of all, 14 where n is
-- more than a shelf can have
abbrev pub followed_by : Left → List LentWatch → Left
followed_by r ws = left r.number (r.state.watches ++ ws) r.state.places r.state.area r.reply

unfoldable pub called_first : CallIn → ℕ → List LentWatch → (l area b q y : List ℕ) → Left
called_first f n ws l area b q y = or_refuse_lent 14 (lent ws l area) y (leb n 16) (followed_by (called f (lent (take n ws) l area) b q y) (drop n ws))
