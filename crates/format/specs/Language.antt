-- The language in which every table is defined once. A meaning says which values of a type are well formed, and what bytes a value has; each line of `Language`
-- gives a word its meaning: a value of a format is one of `.Val`, it is well formed where `.Formed` holds of it, and its bytes are `.enc`. This is all that is to
-- be known of a word. How code walks through the bytes, with the proof that it accepts exactly those of well-formed values, stands in Formats, Named, Heads,
-- Told and Lawful. The arguments w, p and q of words are proofs, and can be passed over. A `Format C` tells by itself where it ends, a
-- `Filling C` takes its whole container; C is what a head before it tells of it, and `One` where nothing is told. The page is proved (law `language`).
use Rattle.std.specs.Prelude.{ℕ, suc, ◌+◌, ◌*◌, ◌^◌, ◌<◌, ◌≡◌, ◌↔◌, List, [], ◌∷◌, ◌++◌, Bool, length, Ok}
use Rattle.format.specs.Repeats.{Bytes, All, encs, OkOpt, enc_opt, OkSum, enc_sum}
use Rattle.format.specs.Values.{One, Field, bits, reserved, width, Vals, Fit, number, bytes_of, head_bytes}
use Rattle.format.specs.Formats.{Format, Filling, Full, seq, exact, before, any_bytes, opt, list, choice, under, under_all, walks_all}
use Rattle.format.specs.Named.{named}
use Rattle.format.specs.Told.{raws, sizing, sized8, counting, counted8, counted16, few, few_not_none, not_none, sized12, sized10, tagged}

-- ---- meanings
-- which values are well formed, and the bytes of a value
pub record Meaning (X : Type 0) : Type 1 where
  pub ok : X → Type 0
  pub bytes : X → List ℕ

-- the same values are well formed, and have the same bytes
infix 4 ◌≈◌
abbrev pub ◌≈◌ : {X : Type 0} → Meaning X → Meaning X → Type 0
◌≈◌ {X} m n = (x : X) → (m.ok x ↔ n.ok x) × (m.bytes x ≡ n.bytes x)

-- the meaning of a format; of one that fills its container, where c is told before; of one that fills it, where nothing is
abbrev pub meaning : (f : Format One) → Meaning f.Val
meaning f = record { ok = f.Formed (record {}); bytes = f.enc }

abbrev pub filling_for : {C : Type 0} (f : Filling C) → C → Meaning f.Val
filling_for f c = record { ok = f.Formed c; bytes = f.enc }

abbrev pub filling : (f : Filling One) → Meaning f.Val
filling f = filling_for f (record {})

-- one after the other: a pair
abbrev pub pair : {X Y : Type 0} → Meaning X → Meaning Y → Meaning (X × Y)
pair m n = record { ok = λ x. m.ok x.0 × n.ok x.1; bytes = λ x. m.bytes x.0 ++ n.bytes x.1 }

-- any number of them: a list; the same, and not none
abbrev pub several : {X : Type 0} → Meaning X → Meaning (List X)
several m = record { ok = All m.ok; bytes = encs m.bytes }

abbrev pub not_empty : {X : Type 0} → Meaning (List X) → Meaning (List X)
not_empty m = record { ok = λ xs. (0 < length xs) × m.ok xs; bytes = m.bytes }

-- a head of fields fs and a last of n bits, k bytes together, and what follows: a pair of the numbers of fs and that. The last is no value of its own, for
-- `last` gives it of what follows; which may hang on the numbers of fs
abbrev pub headed : {X : Type 0} (fs : List Field) → ℕ → ℕ → (X → ℕ) → (Vals fs → Meaning X) → Meaning (Vals fs × X)
headed fs n k last m = record {
  ok = λ x. Fit fs x.0 × ((last x.1 < 2 ^ n) × (m x.0).ok x.1);
  bytes = λ x. head_bytes fs n k x.0 (last x.1) ++ (m x.0).bytes x.1;
}

-- the last is the number of bytes that follow; the length of the list that follows
abbrev pub sized : {X : Type 0} (fs : List Field) → ℕ → ℕ → Meaning X → Meaning (Vals fs × X)
sized fs n k m = headed fs n k (λ x. length (m.bytes x)) (λ v. m)

abbrev pub counted : {X : Type 0} (fs : List Field) → ℕ → ℕ → Meaning (List X) → Meaning (Vals fs × List X)
counted fs n k m = headed fs n k (λ xs. length xs) (λ v. m)

-- ---- words
pub record Language : Type 1 where
  -- fields fs, k bytes together: a number for each field
  pub of_named : (fs : List Field) (k : ℕ) (w : width fs ≡ 8 * k) → meaning (named fs k w) ≈ record { ok = Fit fs; bytes = λ v. bytes_of k (number fs v) }
  -- one format after the other; one, and another that takes what is left of the container; one in a container of its own, with nothing after it
  pub of_seq : (f g : Format One) → meaning (seq f g) ≈ pair (meaning f) (meaning g)
  pub of_before : (f : Format One) (g : Filling One) → filling (before f g) ≈ pair (meaning f) (filling g)
  pub of_exact : (f : Format One) → filling (exact f) ≈ meaning f
  -- what fills a container: any bytes, which are the value; nothing or one f, as an option; as many f as there are; by a test on what is told before, f (inl) or
  -- g (inr)
  pub of_any_bytes : filling any_bytes ≈ record { ok = Bytes; bytes = λ s. s }
  pub of_opt : (f : Format One) (p : Full f) → filling (opt f p) ≈ record { ok = OkOpt (meaning f).ok; bytes = enc_opt f.enc }
  pub of_list : (f : Format One) (p : Full f) → filling (list f p) ≈ several (meaning f)
  pub of_choice : {C : Type 0} (test : C → Bool) (f g : Filling One) (c : C)
      → filling_for (choice test f g) c ≈ record { ok = OkSum (test c) (filling f).ok (filling g).ok; bytes = enc_sum f.enc g.enc }
  -- fields fs and a last of 8 bits, k + 1 bytes together, and so many bytes; what fills so many bytes; so many f
  pub of_raws : (fs : List Field) (k : ℕ) (w : width fs + 8 ≡ 8 * suc k) → meaning (raws fs k w) ≈ sized fs 8 (suc k) (filling any_bytes)
  pub of_sizing : (fs : List Field) (k : ℕ) (w : width fs + 8 ≡ 8 * suc k) (f : Filling One) → meaning (sizing fs k w f) ≈ sized fs 8 (suc k) (filling f)
  pub of_counting : (fs : List Field) (k : ℕ) (w : width fs + 8 ≡ 8 * suc k) (f : Format One)
      → meaning (counting fs k w f) ≈ counted fs 8 (suc k) (several (meaning f))
  -- fields fs and a last of n bits, one byte together, and so many f; the same, and not none
  pub of_few : (fs : List Field) (n : ℕ) (w : width fs + n ≡ 8) (f : Format One) → meaning (few fs n w f) ≈ counted fs n 1 (several (meaning f))
  pub of_few_not_none : (fs : List Field) (n : ℕ) (w : width fs + n ≡ 8) (f : Format One)
      → meaning (few_not_none fs n w f) ≈ counted fs n 1 (not_empty (several (meaning f)))
  -- a length of 8 bits, or of 12 after four reserved bits, or of 10 after six, and what fills so many bytes
  pub of_sized8 : (f : Filling One) → meaning (sized8 f) ≈ sized [] 8 1 (filling f)
  pub of_sized12 : (f : Filling One) → meaning (sized12 f) ≈ sized (reserved 4 ∷ []) 12 2 (filling f)
  pub of_sized10 : (f : Filling One) → meaning (sized10 f) ≈ sized (reserved 6 ∷ []) 10 2 (filling f)
  -- a count of 8 bits, or of 16, and so many f; one of 8 that is not 0
  pub of_counted8 : (f : Format One) → meaning (counted8 f) ≈ counted [] 8 1 (several (meaning f))
  pub of_counted16 : (f : Format One) → meaning (counted16 f) ≈ counted [] 16 2 (several (meaning f))
  pub of_not_none : (f : Format One) → meaning (not_none f) ≈ counted [] 8 1 (not_empty (several (meaning f)))
  -- a tag and a length, of 8 bits each, and what fills so many bytes where this tag is told before
  pub of_tagged : (f : Filling ℕ) → meaning (tagged f) ≈ headed (bits 8 ∷ []) 8 2 (λ x. length (f.enc x)) (λ v. filling_for f v.0)
  -- the same bytes, with a record as value: y stands for `to y`
  pub of_under : (f : Format One) {Y : Type 0} (to : Y → f.Val) (from : f.Val → Y) (p : (x : f.Val) → to (from x) ≡ x) (q : (y : Y) → from (to y) ≡ y)
      → meaning (under f to from p q) ≈ record { ok = λ y. (meaning f).ok (to y); bytes = λ y. f.enc (to y) }
  pub of_under_all : (f : Filling One) {Y : Type 0} (to : Y → f.Val) (from : f.Val → Y) (p : (x : f.Val) → to (from x) ≡ x) (q : (y : Y) → from (to y) ≡ y)
      → filling (under_all f to from p q) ≈ record { ok = λ y. (filling f).ok (to y); bytes = λ y. f.enc (to y) }
  -- a walk through bytes that a format should fill stands exactly where they are those of a well-formed value
  pub of_walked : (f : Filling One) (s : List ℕ) → Bytes s
      → (walks_all f s (length s) 0 ≡ Ok (length s)) ↔ ((x : f.Val) × ((filling f).ok x × (s ≡ f.enc x)))
