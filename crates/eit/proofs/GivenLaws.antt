-- Events that are given in rows: what the tests of rows tell, how long the bytes of the events are, and that these are the bytes of
-- well-formed events.
use Prim.Native.Nat.{ℕ, zero, suc, ◌+◌, ◌-◌, ◌*◌, ◌≤◌, ◌<◌}
use mathlib.Core.Path.{◌≡◌, refl, sym, ap, ◌∙◌}
use mathlib.Core.Bool.{Bool, true, false}
use mathlib.Core.List.{List, [], ◌∷◌, ◌++◌}
use native.Mathlib.Numerals.{sub-one}
use native.Mathlib.Omega.{arith}
use lib.ListN.{length, length-append, take, drop}
use lib.Dec.{ltb}
use borrow.Author.Tests.{ltb-true, leb-true, lt-ltb, lt-leb, le-leb}
use Rattle.logic.specs.Loops.{◌&◌}
use Rattle.logic.proofs.LoopLaws.{true_false, same_truth, and_left, and_right, and_i, and_no_left}
use Rattle.bytes_at.specs.Walks.{Walk}
use Rattle.std.specs.Prelude.{Ok, Err, slice_range, is_ok}
use Rattle.std.specs.Result.{is_ok}
use Rattle.bytes_at.specs.Inner.{Stands}
use Rattle.format.specs.Repeats.{Bytes, All, encs}
use Rattle.format.specs.Formats.{Filling, any_bytes, walks_all}
use Rattle.format.specs.Values.{One, bytes_of}
use Rattle.format.specs.Laws.OfBytes.{part_length, part_bytes}
use Rattle.format.specs.Laws.OfValues.{bytes_length}
use Rattle.format.proofs.RelocationLaws.{own_bytes}
use Rattle.part.specs.declared.Part.{Part}
use Rattle.part.specs.Parts.{end_of, bytes_in}
use Rattle.strings.specs.Strings.{text}
use Rattle.descriptor.specs.Descriptors.{descriptors, content_advisory}
use Rattle.eit.specs.Format.{event_of, EventFields, event_format, eit_of, EitFields, eit_format}
use Rattle.eit.specs.Values.{OnesEvent}
use Rattle.eit.specs.Given.{head_given, title_given, list_given, event_given, events_given, row_fits, rows_fit, stands, part_sound, row_sound, rows_sound}
use Rattle.eit.specs.Inner.{size_given}

-- ---- a row
-- every number of it has room
pub record HasRoom (rows : List ℕ) (a : ℕ) : Type 0 where
  pub id : (head_given rows a).id < 16384
  pub start : (head_given rows a).start < 4294967296
  pub etm : (head_given rows a).etm < 4
  pub seconds : (head_given rows a).seconds < 1048576
  pub title : (title_given rows a).length < 256
  pub list : (list_given rows a).length < 4096

pub row_room : (rows : List ℕ) (a : ℕ) → row_fits rows a ≡ true → HasRoom rows a
unfolding row_fits
row_room rows a e =
    let e1 = and_right _ _ e in
    let e2 = and_right _ _ e1 in
    let e3 = and_right _ _ e2 in
    let e4 = and_right _ _ e3 in
    record {
      id = ltb-true _ _ (and_left _ _ e);
      start = ltb-true _ _ (and_left _ _ e1);
      etm = ltb-true _ _ (and_left _ _ e2);
      seconds = ltb-true _ _ (and_left _ _ e3);
      title = ltb-true _ _ (and_left _ _ e4);
      list = ltb-true _ _ (and_right _ _ e4);
    }

row_fit : (rows : List ℕ) (a : ℕ) → HasRoom rows a → row_fits rows a ≡ true
unfolding row_fits
row_fit rows a r =
    and_i _ _ (lt-ltb _ _ r.id) (and_i _ _ (lt-ltb _ _ r.start) (and_i _ _ (lt-ltb _ _ r.etm) (and_i _ _ (lt-ltb _ _ r.seconds)
    (and_i _ _ (lt-ltb _ _ r.title) (lt-ltb _ _ r.list)))))

-- where all numbers but the last have room, it decides
pub row_last : (rows : List ℕ) (a x : ℕ) → x ≡ (list_given rows a).length → ((list_given rows a).length < 4096 → HasRoom rows a)
    → ltb x 4096 ≡ row_fits rows a
row_last rows a x e h =
    same_truth (ltb x 4096) (row_fits rows a) (λ t. row_fit rows a (h (omega (arith, ltb-true x 4096 t, e))))
    (λ t. lt-ltb x 4096 (omega (arith, e, (row_room rows a t).list)))

pub stands_yes : (w : Walk) → stands w ≡ true → Stands w
stands_yes (Ok e) h = (e, refl)
stands_yes (Err x) h = true_false (stands (Err x)) h refl

stands_is : (w : Walk) → is_ok w ≡ stands w
stands_is (Ok e) = refl
stands_is (Err x) = refl

-- a part lies within the bytes, and on its own it is walked
abbrev pub Sound : Filling One → List ℕ → Part → Type 0
Sound f bytes p = (end_of p ≤ length bytes) × Stands (walks_all f (bytes_in bytes p) (length (bytes_in bytes p)) 0)

part_sound_lem : (f : Filling One) (bytes : List ℕ) (p : Part) → part_sound f bytes p ≡ true → Sound f bytes p
unfolding part_sound
part_sound_lem f bytes p e = (leb-true _ _ (and_left _ _ e), stands_yes _ (and_right _ _ e))

-- the test of a part that goes past the end, and of one that does not
module _ (f : Filling One) (bytes : List ℕ) (p : Part) where
  pub part_past : length bytes < end_of p → false ≡ part_sound f bytes p
  unfolding part_sound
  part_past h = sym (and_no_left _ _ (lt-leb _ _ h))

  pub part_told : {t : List ℕ} {w : Walk} {r : Bool} → end_of p ≤ length bytes → t ≡ bytes_in bytes p → w ≡ walks_all f t (length t) 0
      → r ≡ stands w → r ≡ part_sound f bytes p
  unfolding part_sound ◌&◌
  part_told h e k g = rw (le-leb _ _ h) (g ∙ ap stands (k ∙ ap (λ l. walks_all f l (length l) 0) e))

  -- the same of a slice, and of what `is_ok` says of a walk
  pub part_sliced : {t : List ℕ} {w : Walk} {r : Bool} → end_of p ≤ length bytes → t ≡ slice_range bytes p.start (end_of p)
      → w ≡ walks_all f t (length t) 0 → r ≡ is_ok w → r ≡ part_sound f bytes p
  part_sliced h e k g =
      let n : end_of p - p.start ≡ p.length = omega arith in
      part_told h (e ∙ ap (λ (i : ℕ). take i (drop p.start bytes)) n) k (g ∙ stands_is _)

pub row_sound_lem : (rows bytes : List ℕ) (a : ℕ) → row_sound rows bytes a ≡ true
    → Sound text bytes (title_given rows a) × Sound (descriptors content_advisory) bytes (list_given rows a)
unfolding row_sound
row_sound_lem rows bytes a e = (part_sound_lem _ bytes _ (and_left _ _ e), part_sound_lem _ bytes _ (and_right _ _ e))

-- the test of a row
module _ (rows bytes : List ℕ) (a : ℕ) where
  pub title_bad : {p : Part} {r : Bool} → p ≡ title_given rows a → r ≡ part_sound text bytes p → r ≡ false → false ≡ row_sound rows bytes a
  unfolding row_sound ◌&◌
  title_bad e f g = rw (← e, ← f, g)

  pub title_good : {p q : Part} {r b : Bool} → p ≡ title_given rows a → r ≡ part_sound text bytes p → r ≡ true → q ≡ list_given rows a
      → b ≡ part_sound (descriptors content_advisory) bytes q → b ≡ row_sound rows bytes a
  unfolding row_sound ◌&◌
  title_good e f g h k = rw (← e, ← f, g, ← h) k

-- the bytes of its event, whose places lie within the bytes
pub event_length : (rows bytes : List ℕ) (a : ℕ) → end_of (title_given rows a) ≤ length bytes → end_of (list_given rows a) ≤ length bytes
    → length ((event_of any_bytes any_bytes).enc (event_given rows bytes a)) ≡ 12 + (title_given rows a).length + (list_given rows a).length
unfolding event_given
event_length rows bytes a h k =
    let t = part_length bytes (title_given rows a).length (title_given rows a).start h in
    let d = part_length bytes (list_given rows a).length (list_given rows a).start k in
    simp (length-append, bytes_length) (omega arith)

-- ---- rows
-- where the row behind row i begins
pub next_row : (i : ℕ) → 8 * (i + 1) ≡ 8 * i + 8
next_row i = omega arith

-- a test of n rows is a test of each
pub record Each (all : ℕ → ℕ → Bool) (one : ℕ → Bool) : Type 0 where
  pub none : (a : ℕ) → all 0 a ≡ true
  pub more : (n a : ℕ) → all (suc n) a ≡ (one a & all n (a + 8))

pub each_fits : (rows : List ℕ) → Each (rows_fit rows) (row_fits rows)
unfolding rows_fit
each_fits rows = record { none = λ a. refl; more = λ n a. refl }

pub each_sound : (rows bytes : List ℕ) → Each (rows_sound rows bytes) (row_sound rows bytes)
unfolding rows_sound
each_sound rows bytes = record { none = λ a. refl; more = λ n a. refl }

module _ {all : ℕ → ℕ → Bool} {one : ℕ → Bool} (t : Each all one) where
  -- those that pass: the first, and the others
  pub each_first : (n a : ℕ) → 0 < n → all n a ≡ true → (one a ≡ true) × (all (n - 1) (a + 8) ≡ true)
  each_first zero a h e = absurd (omega arith)
  each_first (suc n) a h e = let f = sym (t.more n a) ∙ e in rw sub-one (and_left _ _ f, and_right _ _ f)

  -- the others decide where the first passes, and a first that fails decides
  pub each_on : (n a : ℕ) → 0 < n → one a ≡ true → all (n - 1) (a + 8) ≡ all n a
  unfolding ◌&◌
  each_on zero a h e = absurd (omega arith)
  each_on (suc n) a h e = rw (sub-one, t.more n a, e)

  pub each_stop : (n a : ℕ) → 0 < n → one a ≡ false → false ≡ all n a
  unfolding ◌&◌
  each_stop zero a h e = absurd (omega arith)
  each_stop (suc n) a h e = rw (t.more n a, e)

  pub each_none : (n a : ℕ) → n ≡ 0 → true ≡ all n a
  each_none n a e = rw e (sym (t.none a))

module _ (rows : List ℕ) where
  -- the first, and the others
  pub size_first : (n a : ℕ) → 0 < n
      → size_given rows n a ≡ 12 + (title_given rows a).length + (list_given rows a).length + size_given rows (n - 1) (a + 8)
  unfolding size_given
  size_first zero a h = absurd (omega arith)
  size_first (suc n) a h = rw sub-one

  pub size_none : (n a : ℕ) → n ≡ 0 → size_given rows n a ≡ 0
  unfolding size_given
  size_none n a e = rw e

  -- rows whose numbers have room take no more bytes than the largest events do
  pub size_most : (n a : ℕ) → rows_fit rows n a ≡ true → size_given rows n a ≤ 4362 * n
  unfolding size_given rows_fit
  size_most zero a e = omega arith
  size_most (suc n) a e =
      let r = row_room rows a (and_left _ _ e) in
      omega (arith, size_most n (a + 8) (and_right _ _ e), r.title, r.list)

  -- the bytes of the events
  pub events_length : (bytes : List ℕ) (n a : ℕ) → rows_sound rows bytes n a ≡ true
      → length (encs (event_of any_bytes any_bytes).enc (events_given rows bytes n a)) ≡ size_given rows n a
  unfolding rows_sound events_given size_given
  events_length bytes zero a e = refl
  events_length bytes (suc n) a e =
      let s = row_sound_lem rows bytes a (and_left _ _ e) in
      omega (
        arith,
        length-append ((event_of any_bytes any_bytes).enc (event_given rows bytes a)) (encs (event_of any_bytes any_bytes).enc (events_given rows bytes n (a + 8))),
        event_length rows bytes a s.0.0 s.1.0,
        events_length bytes n (a + 8) (and_right _ _ e),
      )

  -- as many as rows
  pub events_count : (bytes : List ℕ) (n a : ℕ) → length (events_given rows bytes n a) ≡ n
  unfolding events_given
  events_count bytes zero a = refl
  events_count bytes (suc n) a = ap suc (events_count bytes n (a + 8))

-- ---- the events of rows that fit and are sound are events of the judged format
-- e is the event of the row that begins at a: it is well formed, its bytes are those that are written, its parts are those given,
-- and its reserved bits are ones
pub record IsGiven (rows bytes : List ℕ) (a : ℕ) (e : EventFields) : Type 0 where
  pub good : event_format.Formed (record {}) e
  pub same : event_format.enc e ≡ (event_of any_bytes any_bytes).enc (event_given rows bytes a)
  pub head : e.head ≡ head_given rows a
  pub title : text.enc e.title ≡ bytes_in bytes (title_given rows a)
  pub descs : (descriptors content_advisory).enc e.descs ≡ bytes_in bytes (list_given rows a)
  pub ones : OnesEvent e

-- such are those of n rows, one after the other
abbrev pub AreGiven : List ℕ → List ℕ → ℕ → List EventFields → Type 0
AreGiven rows bytes a [] = record {}
AreGiven rows bytes a (e ∷ es) = IsGiven rows bytes a e × AreGiven rows bytes (a + 8) es

module _ (rows bytes : List ℕ) where
  -- so they are all well formed, their reserved bits are ones, and their bytes are those that are written
  pub given_good : (a : ℕ) (es : List EventFields) → AreGiven rows bytes a es → All (event_format.Formed (record {})) es
  given_good a [] g = record {}
  given_good a (e ∷ es) g = (g.0.good, given_good (a + 8) es g.1)

  pub given_ones : (a : ℕ) (es : List EventFields) → AreGiven rows bytes a es → All OnesEvent es
  given_ones a [] g = record {}
  given_ones a (e ∷ es) g = (g.0.ones, given_ones (a + 8) es g.1)

  pub given_same : (a : ℕ) (es : List EventFields) → AreGiven rows bytes a es
      → encs event_format.enc es ≡ encs (event_of any_bytes any_bytes).enc (events_given rows bytes (length es) a)
  unfolding events_given
  given_same a [] g = refl
  given_same a (e ∷ es) g = let x = g.0.same in let xs = given_same (a + 8) es g.1 in λ i. x i ++ xs i

module _ (rows bytes : List ℕ) (z : Bytes bytes) where
  pub event_given_lem : (a : ℕ) → row_fits rows a ≡ true → row_sound rows bytes a ≡ true → (e : EventFields) × IsGiven rows bytes a e
  unfolding event_given
  event_given_lem a f s =
      let r = row_room rows a f in
      let p = title_given rows a in
      let q = list_given rows a in
      let w = row_sound_lem rows bytes a s in
      let t = (own_bytes text (record {}) (bytes_in bytes p) (part_bytes bytes p.length p.start z)).0 w.0.1 in
      let d = (own_bytes (descriptors content_advisory) (record {}) (bytes_in bytes q) (part_bytes bytes q.length q.start z)).0 w.1.1 in
      let lt = sym (ap length t.1.1) ∙ part_length bytes p.length p.start w.0.0 in
      let ld = sym (ap length d.1.1) ∙ part_length bytes q.length q.start w.1.0 in
      let e : EventFields = record { head = head_given rows a; title = t.0; r = 15; descs = d.0 } in (
        e,
        record {
          good = (
            (omega arith, (r.id, (r.start, (omega arith, (r.etm, (r.seconds, record {})))))),
            (
              (record {}, (omega (arith, lt, r.title), (refl, t.1.0))),
              ((omega arith, record {}), (omega (arith, ld, r.list), (refl, d.1.0))),
            ),
          );
          same = λ i. (event_of any_bytes any_bytes).enc (record { head = head_given rows a; title = sym t.1.1 i; r = 15; descs = sym d.1.1 i });
          head = refl;
          title = sym t.1.1;
          descs = sym d.1.1;
          ones = ((refl, (refl, record {})), refl);
        },
      )

  pub events_given_lem : (n a : ℕ) → rows_fit rows n a ≡ true → rows_sound rows bytes n a ≡ true
      → (es : List EventFields) × (AreGiven rows bytes a es × (length es ≡ n))
  unfolding rows_fit rows_sound
  events_given_lem zero a f s = ([], (record {}, refl))
  events_given_lem (suc n) a f s =
      let e = event_given_lem a (and_left _ _ f) (and_left _ _ s) in
      let es = events_given_lem n (a + 8) (and_right _ _ f) (and_right _ _ s) in
      (e.0 ∷ es.0, ((e.1, es.1.0), ap suc es.1.1))

  -- and the body of as many events as its count can tell is a body of the judged format
  pub body_given : (n : ℕ) → n < 256 → rows_fit rows n 0 ≡ true → rows_sound rows bytes n 0 ≡ true
      → (b : EitFields) × ((eit_format.Formed (record {}) b × (eit_format.enc b ≡ (eit_of any_bytes any_bytes).enc (record { events = events_given rows bytes n 0 })))
      × (AreGiven rows bytes 0 b.events × (length b.events ≡ n)))
  body_given n h f s =
      let es = events_given_lem n 0 f s in
      let e = given_same rows bytes 0 es.0 es.1.0 ∙ ap (λ m. encs (event_of any_bytes any_bytes).enc (events_given rows bytes m 0)) es.1.1 in
      let c : length es.0 ≡ length (events_given rows bytes n 0) = es.1.1 ∙ sym (events_count rows bytes n 0) in (
        record { events = es.0 },
        (
          (
            (record {}, (omega (arith, es.1.1), (refl, given_good rows bytes 0 es.0 es.1.0))),
            λ i. bytes_of 1 (0 + c i) ++ e i,
          ),
          es.1,
        ),
      )

-- a walk that stands is one that is answered by a place
pub stood : (w : Walk) {b : Bool} → b ≡ is_ok w → b ≡ stands w
stood (Ok e) h = h
stood (Err x) h = h
