-- The bytes of events that are given in rows, put one part after the other.
use Prim.Native.Nat.{ℕ, zero, suc, ◌+◌, ◌-◌, ◌*◌, ◌≤◌, ◌<◌}
use mathlib.Core.Path.{◌≡◌, refl, sym, ap, ◌∙◌}
use mathlib.Core.List.{List, ◌∷◌, ◌++◌, append_assoc}
use native.Mathlib.Numerals.{sub-one}
use native.Mathlib.Omega.{arith}
use lib.ListN.{length, length-append}
use lib.Seq.{sets, length-sets}
use Rattle.format.specs.Repeats.{encs}
use Rattle.format.specs.Formats.{any_bytes}
use Rattle.format.specs.Told.{sized8, sized12}
use Rattle.format.specs.Values.{number, bytes_of}
use Rattle.format.specs.Laws.OfBytes.{part_length}
use Rattle.format.specs.Laws.OfValues.{bytes_length}
use Rattle.part.specs.declared.Part.{Part}
use Rattle.part.specs.Parts.{end_of, bytes_in}
use Rattle.row.proofs.RowLaws.{sets_append}
use Rattle.bytes_put.proofs.PutLaws.{put_behind, put_next}
use Rattle.eit.specs.Format.{event_head, head_of, event_of, eit_of}
use Rattle.eit.specs.Given.{head_given, title_given, list_given, event_given, events_given}
use Rattle.eit.specs.Inner.{size_given, RowGiven, RowsGiven}
use Rattle.eit.proofs.GivenLaws.{HasRoom, row_room, row_sound_lem, event_length, each_fits, each_sound, each_first, size_first, events_count}

-- ---- the parts of an event
-- the head: a word, four bytes and three
module _ (rows : List ℕ) (a : ℕ) (r : HasRoom rows a) where
  head_number : number event_head (head_of (head_given rows a))
      ≡ ((49152 + (head_given rows a).id) * 4294967296 + (head_given rows a).start) * 16777216
      + ((12 + (head_given rows a).etm) * 1048576 + (head_given rows a).seconds)
  head_number = omega arith

  pub head_put : (o : List ℕ) (at : ℕ) {k m n : List ℕ} {i s e l : ℕ} → i ≡ (head_given rows a).id → s ≡ (head_given rows a).start
      → e ≡ (head_given rows a).etm → l ≡ (head_given rows a).seconds → k ≡ sets o at (bytes_of 2 (49152 + i)) → m ≡ sets k (at + 2) (bytes_of 4 s)
      → n ≡ sets m (at + 6) (bytes_of 3 ((12 + e) * 1048576 + l)) → n ≡ sets o at (bytes_of 9 (number event_head (head_of (head_given rows a))))
  head_put o at {i = i} {s = s} {e = e} {l = l} ei es ee el f g h =
      let p = put_next o at 2 4 (49152 + i) s ((49152 + i) * 4294967296 + s) (omega arith) (omega (arith, es, r.start)) refl f g in
      put_next o at 6 3 ((49152 + i) * 4294967296 + s) ((12 + e) * 1048576 + l) _ (omega arith) (omega (arith, ee, el, r.etm, r.seconds))
      (rw (ei, es, ee, el) head_number) p h

-- what has its length before it
module _ (bytes : List ℕ) (p : Part) (h : end_of p ≤ length bytes) where
  there : p.length ≡ 0 + length (bytes_in bytes p)
  there = omega (arith, part_length bytes p.length p.start h)

  pub title_put : (o : List ℕ) (at : ℕ) {k m : List ℕ} → k ≡ sets o at (bytes_of 1 p.length) → m ≡ sets k (at + 1) (bytes_in bytes p)
      → m ≡ sets o at ((sized8 any_bytes).enc (record {}, bytes_in bytes p))
  title_put o at f g =
      put_behind o at 1 (bytes_of 1 p.length) (bytes_in bytes p) (bytes_length 1 p.length) f g
      ∙ ap (λ n. sets o at (bytes_of 1 n ++ bytes_in bytes p)) there

  title_length : length ((sized8 any_bytes).enc (record {}, bytes_in bytes p)) ≡ 1 + p.length
  title_length =
      let n = 0 + length (bytes_in bytes p) in
      omega (arith, length-append (bytes_of 1 n) (bytes_in bytes p), bytes_length 1 n, there)

  pub list_put : (o : List ℕ) (at : ℕ) {k m : List ℕ} → k ≡ sets o at (bytes_of 2 (61440 + p.length)) → m ≡ sets k (at + 2) (bytes_in bytes p)
      → m ≡ sets o at ((sized12 any_bytes).enc ((15, record {}), bytes_in bytes p))
  list_put o at f g =
      let e : 61440 + p.length ≡ (15 * 1 + 0) * 4096 + length (bytes_in bytes p) = omega (arith, there) in
      put_behind o at 2 (bytes_of 2 (61440 + p.length)) (bytes_in bytes p) (bytes_length 2 (61440 + p.length)) f g
      ∙ ap (λ n. sets o at (bytes_of 2 n ++ bytes_in bytes p)) e

-- ---- an event
-- a row that was judged, of the parts t and d, has room for its event in a buffer of so many bytes
pub record Placed (bytes : List ℕ) (t d : Part) (at size : ℕ) : Type 0 where
  pub title : (end_of t ≤ length bytes) × (t.length < 256)
  pub list : (end_of d ≤ length bytes) × (d.length < 4096)
  pub room : at + 12 + t.length + d.length ≤ size

pub row_placed : (rows bytes : List ℕ) (a at size : ℕ) {t d : Part} → RowGiven rows bytes a
    → at + (12 + (title_given rows a).length + (list_given rows a).length) ≤ size → t ≡ title_given rows a → d ≡ list_given rows a
    → Placed bytes t d at size
row_placed rows bytes a at size g h et ed =
    let r = row_room rows a g.fits in
    let s = row_sound_lem rows bytes a g.sound in
    rw (et, ed) (record { title = (s.0.0, r.title); list = (s.1.0, r.list); room = omega arith })

-- its head, its title and its descriptors, and where it ends
module _ (rows bytes : List ℕ) (a : ℕ) (row : RowGiven rows bytes a) where
  pub event_put : (o : List ℕ) (at : ℕ) {k m n : List ℕ} {t d : Part} → t ≡ title_given rows a → d ≡ list_given rows a
      → k ≡ sets o at (bytes_of 9 (number event_head (head_of (head_given rows a)))) → m ≡ sets k (at + 9) ((sized8 any_bytes).enc (record {}, bytes_in bytes t))
      → n ≡ sets m (at + 10 + t.length) ((sized12 any_bytes).enc ((15, record {}), bytes_in bytes d))
      → n ≡ sets o at ((event_of any_bytes any_bytes).enc (event_given rows bytes a))
  unfolding event_given
  event_put o at {m = m} {n = n} et ed f g i =
      let h = (row_sound_lem rows bytes a row.sound).0.0 in
      let x = bytes_of 9 (number event_head (head_of (head_given rows a))) in
      let y = (sized8 any_bytes).enc (record {}, bytes_in bytes (title_given rows a)) in
      let z = (sized12 any_bytes).enc ((15, record {}), bytes_in bytes (list_given rows a)) in
      let b = (title_given rows a).length in
      let l : length (x ++ y) ≡ 10 + b =
      omega (arith, length-append x y, bytes_length 9 (number event_head (head_of (head_given rows a))), title_length bytes (title_given rows a) h) in
      let e : at + 10 + b ≡ at + (10 + b) = omega arith in
      let j : n ≡ sets m (at + (10 + b)) z = rw (et, ed, e) at i in
      put_behind o at (10 + b) (x ++ y) z l (put_behind o at 9 x y (bytes_length 9 _) f (rw et at g)) j ∙ ap (sets o at) (append_assoc x y z)

  pub event_next : (at : ℕ) {t d : Part} → t ≡ title_given rows a → d ≡ list_given rows a
      → at + 12 + t.length + d.length ≡ at + length ((event_of any_bytes any_bytes).enc (event_given rows bytes a))
  event_next at et ed =
      let s = row_sound_lem rows bytes a row.sound in
      rw (et, ed, event_length rows bytes a s.0.0 s.1.0) (omega arith)

-- ---- the events of rows, one after the other
-- what holds while they are put: those that are left were judged and have room, and to put them leads to the answer
pub record EventsLeft (rows bytes : List ℕ) (size : ℕ) (final o : List ℕ) (a at n : ℕ) : Type 0 where
  pub given : RowsGiven rows bytes n a
  pub same : length o ≡ size
  pub room : at + size_given rows n a ≤ size
  pub leads : sets o at (encs (event_of any_bytes any_bytes).enc (events_given rows bytes n a)) ≡ final

module _ (rows bytes : List ℕ) where
  given_first : (n a : ℕ) → 0 < n → RowsGiven rows bytes n a → RowGiven rows bytes a × RowsGiven rows bytes (n - 1) (a + 8)
  given_first n a h g =
      let f = each_first (each_fits rows) n a h g.fits in
      let s = each_first (each_sound rows bytes) n a h g.sound in
      let i = g.inside in (
        record { inside = omega arith; fits = f.0; sound = s.0 },
        record { inside = omega arith; fits = f.1; sound = s.1 },
      )

  events_first : (n a : ℕ) → 0 < n → event_given rows bytes a ∷ events_given rows bytes (n - 1) (a + 8) ≡ events_given rows bytes n a
  unfolding events_given
  events_first zero a h = absurd (omega arith)
  events_first (suc n) a h = rw sub-one

  events_more : (o : List ℕ) (at n a : ℕ) → 0 < n → sets (sets o at ((event_of any_bytes any_bytes).enc (event_given rows bytes a)))
      (at + length ((event_of any_bytes any_bytes).enc (event_given rows bytes a))) (encs (event_of any_bytes any_bytes).enc (events_given rows bytes (n - 1) (a + 8)))
      ≡ sets o at (encs (event_of any_bytes any_bytes).enc (events_given rows bytes n a))
  events_more o at n a h =
      sym (sets_append ((event_of any_bytes any_bytes).enc (event_given rows bytes a)) (encs (event_of any_bytes any_bytes).enc (events_given rows bytes (n - 1) (a + 8))) o at)
      ∙ ap (λ es. sets o at (encs (event_of any_bytes any_bytes).enc es)) (events_first n a h)

  events_none : (o : List ℕ) (at n a : ℕ) → n ≡ 0 → o ≡ sets o at (encs (event_of any_bytes any_bytes).enc (events_given rows bytes n a))
  unfolding events_given
  events_none o at n a e = rw e

  module _ (size : ℕ) (final o : List ℕ) (a at n : ℕ) (left : EventsLeft rows bytes size final o a at n) where
    -- the next one was judged, and has room
    pub event_left : 0 < n → RowGiven rows bytes a × (at + (12 + (title_given rows a).length + (list_given rows a).length) ≤ length o)
    event_left h = (
      (given_first n a h left.given).0,
      omega (arith, size_first rows n a h, left.room, left.same),
    )

    pub events_step : (m : List ℕ) (next : ℕ) → 0 < n → m ≡ sets o at ((event_of any_bytes any_bytes).enc (event_given rows bytes a))
        → next ≡ at + length ((event_of any_bytes any_bytes).enc (event_given rows bytes a)) → EventsLeft rows bytes size final m (a + 8) next (n - 1)
    events_step m next h put e =
        let g = given_first n a h left.given in
        let s = row_sound_lem rows bytes a g.0.sound in
        let k = event_length rows bytes a s.0.0 s.1.0 in
        record {
          given = g.1;
          same = ap length put ∙ length-sets o at ((event_of any_bytes any_bytes).enc (event_given rows bytes a)) ∙ left.same;
          room = omega (arith, e, k, size_first rows n a h, left.room);
          leads = rw (put, e) (events_more o at n a h ∙ left.leads);
        }

    pub events_done : n ≡ 0 → o ≡ final
    events_done e = events_none o at n a e ∙ left.leads

  -- the body: the count, and behind it the events
  pub body_put : (o : List ℕ) (at n : ℕ) {k m : List ℕ} → k ≡ sets o at (bytes_of 1 n)
      → m ≡ sets k (at + 1) (encs (event_of any_bytes any_bytes).enc (events_given rows bytes n 0))
      → m ≡ sets o at ((eit_of any_bytes any_bytes).enc (record { events = events_given rows bytes n 0 }))
  body_put o at n f g =
      let x = encs (event_of any_bytes any_bytes).enc (events_given rows bytes n 0) in
      let e : n ≡ 0 + length (events_given rows bytes n 0) = omega (arith, events_count rows bytes n 0) in
      put_behind o at 1 (bytes_of 1 n) x (bytes_length 1 n) f g ∙ ap (λ c. sets o at (bytes_of 1 c ++ x)) e
