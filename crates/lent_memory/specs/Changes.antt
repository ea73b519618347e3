-- What a call writes into lent memory: the record and the rows that are others on the shelf after it. All else stays as it was, with
-- what stands in closed records and free rows.
use Rattle.std.specs.Prelude.{ℕ, zero, suc, ◌+◌, ◌*◌, Bool, not, List, eqb, ltb, set}
use Rattle.logic.specs.Choices.{pick}
use Rattle.logic.specs.Inner.{equal_bool}
use Rattle.logic.specs.Loops.{◌&◌, first, one}
use Rattle.shelf_state.specs.Records.{asked, place_at, same_key, watch_at}
use Rattle.shelf_state.specs.declared.records.Edition.{Edition}
use Rattle.shelf_state.specs.declared.records.Place.{Place}
use Rattle.shelf_state.specs.declared.records.Shelf.{Shelf}
use Rattle.shelf_state.specs.declared.records.Watch.{Watch}
use Rattle.lent_memory.specs.Meaning.{clamp, lent_record, row_size}
use Rattle.lent_memory.specs.declared.records.LentWatch.{LentWatch}

unfoldable pub equal_edition : Edition → Edition → Bool
equal_edition a b = equal_bool a.heard b.heard & eqb a.version b.version & eqb a.last b.last

unfoldable pub equal_watch : Watch → Watch → Bool
equal_watch a b = equal_bool a.live b.live & same_key (asked a.key) (asked b.key) & eqb a.quota b.quota & equal_edition a.edition b.edition

unfoldable pub equal_place : Place → Place → Bool
equal_place a b = equal_bool a.used b.used & eqb a.watch b.watch & eqb a.number b.number & eqb a.length b.length

-- ---- the records: the first below n that is another
abbrev pub changed_at : Shelf → Shelf → ℕ → ℕ
changed_at s t n = first n (λ i. not (equal_watch (watch_at s i) (watch_at t i)))

unfoldable pub record_put : ℕ → ℕ → Shelf → List LentWatch → List LentWatch
record_put i n t ws = pick (ltb i n) (set ws i (lent_record (watch_at t i))) ws

-- how many records are compared
abbrev pub compared : Shelf → ℕ
compared s = clamp 16 s.records

abbrev pub records_after : Shelf → Shelf → List LentWatch → List LentWatch
records_after s t ws = record_put (changed_at s t (compared s)) (compared s) t ws

-- ---- the rows: a row that is written has 0 as its time
abbrev pub write_row : List ℕ → ℕ → Place → List ℕ
write_row l i p =
    set (set (set (set (set l (i * row_size) (one p.used))
    (i * row_size + 1) p.watch)
    (i * row_size + 2) p.number)
    (i * row_size + 3) p.length)
    (i * row_size + 4) 0

unfoldable pub row_put : Shelf → Shelf → ℕ → List ℕ → List ℕ
row_put s t i l = pick (equal_place (place_at s i) (place_at t i)) l (write_row l i (place_at t i))

unfoldable pub rows_below : ℕ → Shelf → Shelf → List ℕ → List ℕ
rows_below zero s t l = l
rows_below (suc n) s t l = row_put s t n (rows_below n s t l)

abbrev pub rows_after : Shelf → Shelf → List ℕ → List ℕ
rows_after s t l = rows_below (clamp 64 s.count) s t l
