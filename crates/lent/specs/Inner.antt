-- What the functions under the calls promise: a call on a book, and what a function that is handed in has to be.
use Rattle.std.specs.Borrow.{Bor, MutBor}
use Rattle.std.specs.Prelude.{ℕ, ◌≡◌, List, set}
use Rattle.lent_memory.specs.Meaning.{lent}
use Rattle.lent_memory.specs.Inner.{Gathered}
use Rattle.lent_memory.specs.declared.records.Book.{Book}
use Rattle.lent_memory.specs.declared.records.Ending.{Ending}
use Rattle.lent_memory.specs.declared.records.LentWatch.{LentWatch}
use Rattle.lent.specs.Calls.{CallIn, called, left}

-- a call on a book is the call on every list whose book it is
abbrev pub Ends : CallIn → Book → (l area b q y : List ℕ) → Ending → (l' area' y' : List ℕ) → Type 0
Ends f k l area b q y r l' area' y' =
    (ws : List LentWatch) → Gathered k ws → left r.number (set ws r.at r.watch) l' area' y' ≡ called f (lent ws l area) b q y

-- a function is a call where, whatever it is lent, it leaves what the call leaves
abbrev pub Runs : CallIn → (MutBor (List LentWatch) → MutBor (List ℕ) → MutBor (List ℕ) → Bor (List ℕ) → Bor (List ℕ) → MutBor (List ℕ) → ℕ
    → MutBor (List LentWatch) → MutBor (List ℕ) → MutBor (List ℕ) → MutBor (List ℕ) → Type 0) → Type 0
Runs f post = (ws : MutBor (List LentWatch)) (l area : MutBor (List ℕ)) (b q : Bor (List ℕ)) (y : MutBor (List ℕ)) (n : ℕ)
    (ws' : MutBor (List LentWatch)) (l' area' y' : MutBor (List ℕ)) → post ws l area b q y n ws' l' area' y'
    → left n ws'.now l'.now area'.now y'.now ≡ called f (lent ws.now l.now area.now) b.now q.now y.now
