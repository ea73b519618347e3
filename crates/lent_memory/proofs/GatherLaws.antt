-- Sixteen watches of a list, read one by one: all of them, as a lent list is gathered, or the first i of an array.
use Prim.Native.Nat.{ℕ, zero, suc, ◌+◌, ◌<◌}
use mathlib.Core.Path.{◌≡◌, refl, sym, ◌∙◌, ap}
use mathlib.Core.List.{List, [], ◌∷◌}
use native.Mathlib.Numerals.{add-one}
use native.Mathlib.Nat.{not-suc-le-zero, le_of_suc-le-suc}
use lib.ListN.{get_or, length, replicate, set, take}
use Rattle.shelf_state.specs.Records.{blank_watch}
use Rattle.shelf_state.specs.declared.records.Watch.{Watch}
use Rattle.lent_memory.specs.Meaning.{blank, watch_meant, watches_meant}
use Rattle.lent_memory.specs.Inner.{four_at, sixteen}
use Rattle.lent_memory.specs.declared.records.LentWatch.{LentWatch}

-- n watches of the list from the i-th on
abbrev slots : ℕ → ℕ → List LentWatch → List Watch
slots zero i ws = []
slots (suc n) i ws = watch_meant (get_or ws i blank) ∷ slots n (suc i) ws

slots_none : (n i : ℕ) → slots n i [] ≡ watches_meant n []
unfolding watches_meant
slots_none zero i = refl
slots_none (suc n) zero = ap (λ (l : List Watch). blank_watch ∷ l) (slots_none n 1)
slots_none (suc n) (suc i) = ap (λ (l : List Watch). blank_watch ∷ l) (slots_none n (suc (suc i)))

slots_more : (n i : ℕ) (w : LentWatch) (ws : List LentWatch) → slots n (suc i) (w ∷ ws) ≡ slots n i ws
slots_more zero i w ws = refl
slots_more (suc n) i w ws = ap (λ (l : List Watch). watch_meant (get_or ws i blank) ∷ l) (slots_more n (suc i) w ws)

slots_all : (n : ℕ) (ws : List LentWatch) → slots n 0 ws ≡ watches_meant n ws
unfolding watches_meant
slots_all zero ws = refl
slots_all (suc n) [] = slots_none (suc n) 0
slots_all (suc n) (w ∷ ws) = ap (λ (l : List Watch). watch_meant w ∷ l) (slots_more n 0 w ws ∙ slots_all n ws)

pub sixteen_watches : (ws : List LentWatch) → sixteen (four_at ws 0 1 2 3) (four_at ws 4 5 6 7) (four_at ws 8 9 10 11) (four_at ws 12 13 14 15) ≡ watches_meant 16 ws
sixteen_watches ws = slots_all 16 ws

-- ---- the first i of a list, read one by one into closed watches
none_taken : (n : ℕ) → watches_meant n [] ≡ replicate n blank_watch
unfolding watches_meant
none_taken zero = refl
none_taken (suc n) = ap (λ (l : List Watch). blank_watch ∷ l) (none_taken n)

one_taken : (n : ℕ) (ws : List LentWatch) (i : ℕ) (d : LentWatch) → i < length ws → i < n → set (watches_meant n (take i ws)) i (watch_meant (get_or ws i d)) ≡ watches_meant n (take (suc i) ws)
unfolding watches_meant
one_taken zero ws i d h k = absurd (not-suc-le-zero k)
one_taken (suc n) [] i d h k = absurd (not-suc-le-zero h)
one_taken (suc n) (w ∷ ws) zero d h k = refl
one_taken (suc n) (w ∷ ws) (suc i) d h k = ap (λ (l : List Watch). watch_meant w ∷ l) (one_taken n ws i d (le_of_suc-le-suc h) (le_of_suc-le-suc k))

pub taken_none : (ws : List LentWatch) → replicate 16 blank_watch ≡ watches_meant 16 (take 0 ws)
taken_none ws = sym (none_taken 16)

pub taken_step : (ws : List LentWatch) (rs : List Watch) (i : ℕ) (d : LentWatch) (v : Watch) → i < length ws → i < 16 → rs ≡ watches_meant 16 (take i ws) → v ≡ watch_meant (get_or ws i d) → set rs i v ≡ watches_meant 16 (take (i + 1) ws)
taken_step ws rs i d v h k e f = rw (e, f, add-one i) (one_taken 16 ws i d h k)
