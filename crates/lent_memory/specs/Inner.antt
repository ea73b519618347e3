-- What the functions under the calls are lent and hand on: the records by value.
use Rattle.std.specs.Prelude.{ℕ, ◌<◌, ◌≤◌, ◌*◌, ◌≡◌, List, [], ◌∷◌, ltb, get_or, length}
use Rattle.logic.specs.Choices.{pick}
use Rattle.part.specs.declared.Part.{Part}
use Rattle.refusal.specs.Outcomes.{Outcome, refused, resulted}
use Rattle.shelf_state.specs.Records.{watch_at}
use Rattle.shelf_state.specs.declared.records.Shelf.{Shelf}
use Rattle.shelf_state.specs.declared.records.Watch.{Watch}
use Rattle.shelf.specs.Views.{Status, complete, held, unheard}
use Rattle.lent_memory.specs.Meaning.{blank, clamp, lent_record, row_size, watch_meant, watches_meant}
use Rattle.lent_memory.specs.Changes.{changed_at, compared}
use Rattle.lent_memory.specs.declared.records.Book.{Book}
use Rattle.lent_memory.specs.declared.records.Ending.{Ending}
use Rattle.lent_memory.specs.declared.records.Four.{Four}
use Rattle.lent_memory.specs.declared.records.LentWatch.{LentWatch}

-- four watches of a list; the sixteen of four fours
abbrev pub four_at : List LentWatch → ℕ → ℕ → ℕ → ℕ → Four
four_at ws i j k l = record { a = watch_meant (get_or ws i blank); b = watch_meant (get_or ws j blank); c = watch_meant (get_or ws k blank); d = watch_meant (get_or ws l blank) }

abbrev pub sixteen : Four → Four → Four → Four → List Watch
sixteen p q r t = p.a ∷ p.b ∷ p.c ∷ p.d ∷ q.a ∷ q.b ∷ q.c ∷ q.d ∷ r.a ∷ r.b ∷ r.c ∷ r.d ∷ t.a ∷ t.b ∷ t.c ∷ t.d ∷ []

-- the book of a list
abbrev pub Gathered : Book → List LentWatch → Type 0
Gathered b ws = (b.records ≡ length ws) × (b.watches ≡ watches_meant 16 ws)

-- the record to write; past the end where none changed
unfoldable pub ending_at : ℕ → ℕ → Shelf → Shelf → ℕ → Ending
ending_at i n s t k = pick (ltb i n) (record { number = k; at = i; watch = lent_record (watch_at t i) }) (record { number = k; at = s.records; watch = blank })

abbrev pub ending_of : Shelf → Shelf → ℕ → Ending
ending_of s t k = ending_at (changed_at s t (compared s)) (compared s) s t k

-- the rows of the places that are compared are there
abbrev pub RowsFit : ℕ → ℕ → Type 0
RowsFit n size = clamp 64 n * row_size ≤ size

-- numbers that fit their field
abbrev pub SmallStatus : Outcome Status → Type 0
SmallStatus (refused k) = Unit {0}
SmallStatus (resulted unheard) = Unit {0}
SmallStatus (resulted (held c n)) = (c < 4294967296) × (n < 4294967296)
SmallStatus (resulted (complete n)) = n < 4294967296

abbrev pub SmallPart : Outcome Part → Type 0
SmallPart (refused k) = Unit {0}
SmallPart (resulted p) = (p.start < 4294967296) × (p.length < 4294967296)
