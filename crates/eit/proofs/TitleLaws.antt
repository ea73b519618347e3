-- Where the encoding of a title lies, the sort that is read is that of its value.
use Rattle.std.specs.Prelude.{None, Some}
use Prim.Native.Nat.{ℕ, ◌+◌}
use mathlib.Core.Path.{◌≡◌, refl, sym}
use mathlib.Core.List.{List, [], ◌∷◌, ◌++◌}
use native.Mathlib.Omega.{arith}
use lib.ListN.{length, length-append}
use Rattle.std.specs.Prelude.{None, Some}
use Rattle.logic.proofs.ChoiceLaws.{eq_yes, eq_no}
use Rattle.format.specs.Lawful.{Lies}
use Rattle.format.specs.Repeats.{Bytes, encs}
use Rattle.format.specs.Values.{bits, bytes_of}
use Rattle.format.specs.Laws.OfValues.{bytes_length}
use Rattle.format.specs.Laws.OfFull.{counting_full}
use Rattle.format.proofs.SizedLaws.{counted8_there}
use Rattle.strings.specs.Strings.{text, structure, string, segment}
use Rattle.eit.specs.Titles.{title_of}
use Rattle.eit.specs.Values.{title_for}

pub title_is : (s : List ℕ) → Bytes s → (a : ℕ) (t : text.Val) → text.Formed (record {}) t → Lies (text.enc t) s a
    → title_of s a (length (text.enc t)) ≡ title_for t (record { start = a; length = length (text.enc t) })
unfolding text structure string title_of title_for
title_is s z a None o l = sym (eq_yes 0 0 _ _ refl refl)
title_is s z a (Some []) o l =
    let b = (counted8_there s z a string [] o l).0 in
    let n = length-append (bytes_of 1 (0 + 0)) [] in
    let k : length (bytes_of 1 (0 + 0) ++ []) ≡ 1 = omega (arith, bytes_length 1 (0 + 0)) in
    sym (eq_no _ 0 _ _ (λ e. omega arith) (eq_yes _ 1 _ _ k (eq_yes _ 0 _ _ b refl)))
title_is s z a (Some (x ∷ xs)) o l =
    let f = counting_full (bits 24 ∷ []) 3 refl segment ((x.language, record {}), x.segments) o.1.1.1.0 in
    let n = length-append (bytes_of 1 (0 + length (x ∷ xs))) (string.enc x ++ encs string.enc xs) in
    let m = length-append (string.enc x) (encs string.enc xs) in
    let k = bytes_length 1 (0 + length (x ∷ xs)) in
    sym (eq_no _ 0 _ _ (λ e. omega arith) (eq_no _ 1 _ _ (λ e. omega arith) refl))
