-- The language of formats. A format is its values (`Val`), which of them are well formed (`Formed`), and their bytes (`enc`). It carries a walk, which
-- code takes, and the proof that the walk accepts exactly the bytes of well-formed values: `walk`, `law`, and `same` of a reader can be passed
-- over. The proof is for the case that the laws of Laws/Statements.antt hold, as they do (`laws` of proofs/KeptLaws.antt). A walk reads a head from
-- behind, as code does, and blames the field that fails: a field that is cut by its own offset, a length that promises too much and a count that may
-- not be 0 by theirs.
use Rattle.std.specs.Prelude.{ℕ, suc, ◌+◌, ◌-◌, ◌*◌, ◌<◌, ◌≡◌, ◌⊎◌, List, ◌++◌, Bool, length, eqb, Option, Ok, Err}
use Rattle.std.proofs.Common.{sym, ap, ◌∙◌, arith}
use Rattle.logic.specs.Choices.{pick}
use Rattle.bytes_at.specs.Fields.{byte_at, word_at}
use Rattle.bytes_at.specs.Walks.{skip_to, fields_to, then, many, ends}
use Rattle.format.specs.Lawful.{Walker, Lies, Lawful, Fills, unto, total}
use Rattle.format.specs.Repeats.{Bytes, All, encs, OkOpt, enc_opt, OkSum, enc_sum}
use Rattle.format.specs.Values.{One}
use Rattle.format.specs.Laws.OfBytes.{raw_law, lies_byte}
use Rattle.format.specs.Laws.OfHeads.{seq_law, via_law}
use Rattle.format.specs.Laws.OfContainers.{filled_law, before_law, under_law, any_law, choice_law}
use Rattle.format.specs.Laws.OfRepeats.{times_law}
use Rattle.format.specs.Laws.Statements.{Laws}

-- ---- what a format is

-- a format that tells by itself where it ends; C is what a head before it tells of it (a count, a length, a tag)
pub record Format (C : Type 0) : Type 1 where
  pub Val : Type 0
  pub Formed : C → Val → Type 0
  pub enc : Val → List ℕ
  pub walk : C → Walker
  pub law : Laws → (c : C) → Lawful (walk c) (Formed c) enc

-- a format that takes its whole container
pub record Filling (C : Type 0) : Type 1 where
  pub Val : Type 0
  pub Formed : C → Val → Type 0
  pub enc : Val → List ℕ
  pub walk : C → Walker
  pub law : Laws → (c : C) → Fills (walk c) (Formed c) enc

-- ---- readers: what a head tells of what follows it
-- what is read of a head of k bytes by a walk that stands behind it: the same wherever the head stands
pub record Reader (k : ℕ) (C : Type 0) : Type 0 where
  pub read : List ℕ → ℕ → C
  pub same : (s : List ℕ) (at : ℕ) (h : List ℕ) → length h ≡ k → Lies h s at → read s (at + k) ≡ read h k

-- the last byte of the head
abbrev pub last_byte : {k : ℕ} → Reader (suc k) ℕ
last_byte {k} = record {
  read = λ s b. byte_at s (b - 1);
  same = λ s at h o l. lies_byte h s at (at + suc k - 1) (suc k - 1) l (omega arith) (omega arith);
}

-- the byte before the last
abbrev pub last_but_one : {k : ℕ} → Reader (suc (suc k)) ℕ
last_but_one {k} = record {
  read = λ s b. byte_at s (b - 2);
  same = λ s at h o l. lies_byte h s at (at + suc (suc k) - 2) (suc (suc k) - 2) l (omega arith) (omega arith);
}

-- the last 16 bits of the head
abbrev pub last_word : {k : ℕ} → Reader (suc (suc k)) ℕ
last_word {k} = record {
  read = λ s b. word_at s (b - 2);
  same = λ s at h o l.
      let x = lies_byte h s at (at + suc (suc k) - 2) (suc (suc k) - 2) l (omega arith) (omega arith) in
      let y = lies_byte h s at (at + suc (suc k) - 2 + 1) (suc (suc k) - 2 + 1) l (omega arith) (omega arith) in
      rw (x, y);
}

-- what g makes of what is read
abbrev pub through : {k : ℕ} {C D : Type 0} → (C → D) → Reader k C → Reader k D
through g r = record { read = λ s b. g (r.read s b); same = λ s at h o l. ap g (r.same s at h o l) }

-- both of what two readers read
abbrev pub both : {k : ℕ} {C D : Type 0} → Reader k C → Reader k D → Reader k (C × D)
both q r = record {
  read = λ s b. (q.read s b, r.read s b);
  same = λ s at h o l. let x = q.same s at h o l in let y = r.same s at h o l in λ i. (x i, y i);
}

-- ---- fields and heads
-- fields of these widths, together k bytes, as the laws say
abbrev pub fields_by : (ns : List ℕ) (k : ℕ) → (Laws → total ns ≡ 8 * k) → Format One
fields_by ns k whole = record {
  Val = List ℕ;
  Formed = λ u x. (length x ≡ k) × Bytes x;
  enc = λ x. x;
  walk = λ u s end at. fields_to ns at end;
  law = λ w u. w.fields_law ns k (whole w);
}

-- fields of these widths, together k bytes
abbrev pub fields : (ns : List ℕ) (k : ℕ) → total ns ≡ 8 * k → Format One
fields ns k whole = fields_by ns k (λ w. whole)

-- a head of fields, together k bytes as the laws say, and then what it tells of
abbrev pub head_by : {C : Type 0} (ns : List ℕ) (k : ℕ) → (Laws → total ns ≡ 8 * k) → Reader k C → Format C → Format One
head_by ns k whole r f = record {
  Val = List ℕ × f.Val;
  Formed = λ u x. ((length x.0 ≡ k) × Bytes x.0) × f.Formed (r.read x.0 k) x.1;
  enc = λ x. x.0 ++ f.enc x.1;
  walk = λ u s end at. then (fields_to ns at end) (λ b. f.walk (r.read s b) s end b);
  law = λ w u. w.head_law ns k (whole w) r.read r.same (f.law w);
}

-- a head of fields, and then what it tells of
abbrev pub head : {C : Type 0} (ns : List ℕ) (k : ℕ) → total ns ≡ 8 * k → Reader k C → Format C → Format One
head ns k whole r f = head_by ns k (λ w. whole) r f

-- ---- containers
-- as many bytes as are told by a length field `back` bytes before
abbrev pub raw : ℕ → Format ℕ
raw back = record {
  Val = List ℕ;
  Formed = λ n x. (length x ≡ n) × Bytes x;
  enc = λ x. x;
  walk = λ n s end at. skip_to back at n end;
  law = λ w. raw_law back;
}

-- as many bytes as are told by a length field `back` bytes before, which a format fills
abbrev pub filled : ℕ → Filling One → Format ℕ
filled back f = record {
  Val = f.Val;
  Formed = λ n x. (length (f.enc x) ≡ n) × f.Formed (record {}) x;
  enc = f.enc;
  walk = λ n s end at. then (skip_to back at n end) (λ e. f.walk (record {}) s e at);
  law = λ w n. filled_law back n (f.law w (record {}));
}

-- the same for a format of which something is told beside the length
abbrev pub filled_by : {C : Type 0} → ℕ → Filling C → Format (ℕ × C)
filled_by back f = record {
  Val = f.Val;
  Formed = λ n x. (length (f.enc x) ≡ n.0) × f.Formed n.1 x;
  enc = f.enc;
  walk = λ n s end at. then (skip_to back at n.0 end) (λ e. f.walk n.1 s e at);
  law = λ w n. filled_law back n.0 (f.law w n.1);
}

-- ---- one after the other, and several times
-- one and then the other
abbrev pub seq : Format One → Format One → Format One
seq f g = record {
  Val = f.Val × g.Val;
  Formed = λ u x. f.Formed u x.0 × g.Formed u x.1;
  enc = λ x. f.enc x.0 ++ g.enc x.1;
  walk = λ u s end at. then (f.walk u s end at) (g.walk u s end);
  law = λ w u. seq_law (f.law w u) (g.law w u);
}

-- as often as is told
abbrev pub times : Format One → Format ℕ
times f = record {
  Val = List f.Val;
  Formed = λ n xs. (length xs ≡ n) × All (f.Formed (record {})) xs;
  enc = encs f.enc;
  walk = λ n s end at. many (f.walk (record {}) s end) n at;
  law = λ w. times_law (f.law w (record {}));
}

-- as often as is told by a count `back` bytes before, and not 0 times
abbrev pub one_or_more : ℕ → Format One → Format ℕ
one_or_more back f = record {
  Val = List f.Val;
  Formed = λ n xs. (0 < n) × ((length xs ≡ n) × All (f.Formed (record {})) xs);
  enc = encs f.enc;
  walk = λ n s end at. pick (eqb n 0) (Err (at - back)) (many (f.walk (record {}) s end) n at);
  law = λ w n. w.some_law back n (times_law (f.law w (record {})) n);
}

-- ---- what fills a container
-- a format and nothing after it
abbrev pub exact : Format One → Filling One
exact f = record {
  Val = f.Val;
  Formed = f.Formed;
  enc = f.enc;
  walk = λ u s end at. then (f.walk u s end at) (ends end);
  law = λ w u. w.exact_law (f.law w u);
}

-- a format, and one that takes what is left of the container
abbrev pub before : Format One → Filling One → Filling One
before f g = record {
  Val = f.Val × g.Val;
  Formed = λ u x. f.Formed u x.0 × g.Formed u x.1;
  enc = λ x. f.enc x.0 ++ g.enc x.1;
  walk = λ u s end at. then (f.walk u s end at) (g.walk u s end);
  law = λ w u. before_law (f.law w u) (g.law w u);
}

-- whatever bytes there are
abbrev pub any_bytes : Filling One
any_bytes = record { Val = List ℕ; Formed = λ u x. Bytes x; enc = λ x. x; walk = λ u s end at. Ok end; law = λ w u. any_law }

-- one or the other, by a test on what is told
abbrev pub choice : {C : Type 0} → (C → Bool) → Filling One → Filling One → Filling C
choice t f g = record {
  Val = f.Val ⊎ g.Val;
  Formed = λ c. OkSum (t c) (f.Formed (record {})) (g.Formed (record {}));
  enc = enc_sum f.enc g.enc;
  walk = λ c s end at. pick (t c) (f.walk (record {}) s end at) (g.walk (record {}) s end at);
  law = λ w c. choice_law (t c) (f.law w (record {})) (g.law w (record {}));
}

-- no value of it is empty
abbrev pub Full : Format One → Type 0
Full f = (x : f.Val) → f.Formed (record {}) x → 0 < length (f.enc x)

-- nothing, or a format and nothing after it
abbrev pub opt : (f : Format One) → Full f → Filling One
opt f full = record {
  Val = Option f.Val;
  Formed = λ u. OkOpt (f.Formed u);
  enc = enc_opt f.enc;
  walk = λ u s end at. pick (eqb at end) (Ok at) ((exact f).walk u s end at);
  law = λ w u. w.opt_law ((exact f).law w u) full;
}

-- as many as fill the container
abbrev pub list : (f : Format One) → Full f → Filling One
list f full = record {
  Val = List f.Val;
  Formed = λ u. All (f.Formed u);
  enc = encs f.enc;
  walk = λ u s end at. unto (f.walk u s) end end at;
  law = λ w u. w.list_law (f.law w u) full;
}

-- ---- the same bytes and walk under other values
-- how new values stand for the old ones of a format: each well-formed x is that of exactly one y
pub record Recast (X : Type 0) (Formed : X → Type 0) (Y : Type 0) (OkY : Y → Type 0) : Type 0 where
  pub to : Y → X
  pub good : (y : Y) → OkY y → Formed (to y)
  pub onto : (x : X) → Formed x → (y : Y) × (OkY y × (to y ≡ x))
  pub inj : (y z : Y) → OkY y → OkY z → to y ≡ to z → y ≡ z

-- the same bytes and walk with other values
abbrev pub via : (f : Format One) {Y : Type 0} {OkY : Y → Type 0} → Recast f.Val (f.Formed (record {})) Y OkY → Format One
via f {Y} {OkY} r = record {
  Val = Y;
  Formed = λ u. OkY;
  enc = λ y. f.enc (r.to y);
  walk = f.walk;
  law = λ w u. via_law (f.law w u) r.to r.good r.onto r.inj;
}

-- the same bytes and walk, and as values those of a record
abbrev pub under : (f : Format One) {Y : Type 0} (to : Y → f.Val) (from : f.Val → Y) → ((x : f.Val) → to (from x) ≡ x)
    → ((y : Y) → from (to y) ≡ y) → Format One
under f {Y} to from a b = via f {Y = Y} {OkY = λ y. f.Formed (record {}) (to y)} (record {
  to = to;
  good = λ y o. o;
  onto = λ x o. (from x, (rw (a x) o, a x));
  inj = λ y z o r e. sym (b y) ∙ ap from e ∙ b z;
})

-- the same for a format that takes its whole container
abbrev pub under_all : (f : Filling One) {Y : Type 0} (to : Y → f.Val) (from : f.Val → Y) → ((x : f.Val) → to (from x) ≡ x)
    → ((y : Y) → from (to y) ≡ y) → Filling One
under_all f {Y} to from a b = record {
  Val = Y;
  Formed = λ u y. f.Formed u (to y);
  enc = λ y. f.enc (to y);
  walk = f.walk;
  law = λ w u. under_law (f.law w u) to from a b;
}

-- the walk of a format of which nothing is told: what code computes
abbrev pub walks : Format One → Walker
walks f s end at = f.walk (record {}) s end at

-- the same for a format that takes its whole container
abbrev pub walks_all : Filling One → Walker
walks_all f s end at = f.walk (record {}) s end at
