-- SCOPE 12.5, the third demand: statements over any build and any stretch of calls. A build keeps a shelf and its area in some memory, and a
-- call on that memory answers and leaves memory. A view is what a key's watch has collected (Views.antt of `shelf`). All stretches stand in
-- the order in which their calls are made; what was heard of a key stands with the newest first. What follows from these statements, and
-- what goes beyond them, is in More.antt.
use Rattle.std.specs.Prelude.{ℕ, ◌+◌, ◌*◌, ◌≤◌, ◌<◌, ◌≡◌, Bool, true, false, List, [], ◌∷◌, eqb, length, Option, Some, None}
use Rattle.logic.specs.Choices.{pick}
use Rattle.logic.specs.Loops.{◌&◌, all, count}
use Rattle.refusal.specs.Outcomes.{Outcome, refused, resulted}
use Rattle.section.specs.declared.header.Header.{Header}
use Rattle.shelf_state.specs.Records.{same_key}
use Rattle.shelf_state.specs.declared.records.Asked.{Asked}
use Rattle.shelf.specs.Views.{Status, complete, held, unheard, Call, Closing, Delivery, View, asks, closes, delivers, fetches, is_some, judged, key_in, opens}
use Rattle.shelf.specs.Calls.{made}
use Rattle.shelf.specs.Steps.{Answer, State, Step, Turn, accepted, did, gave, own, own_or14, reported, step, view_in}
use Rattle.shelf_laws.specs.Laws.{Obeys}

-- ---- builds: their memory, the shelf and area that it means, and what a call answers and leaves
pub record Turned (Memory : Type 0) : Type 0 where
  pub answer : Answer
  pub next : Memory

pub record Build : Type 1 where
  pub Memory : Type 0
  pub means : Memory → State
  pub turn : Memory → Turn → Turned Memory

-- this library's build: the shelf's own calls, whose memory is the shelf and the area themselves. (Those on lent memory: More.antt)
abbrev pub by_value : (State → Turn → Step) → Build
by_value f = record { Memory = State; means = λ x. x; turn = λ x t. record { answer = (f x t).answer; next = (f x t).next } }

abbrev pub ours : Build
ours = by_value step

-- ---- stretches of calls: the memory that they leave; and the calls of which the demand speaks, to which the shelf's own area is lent
unfoldable pub state_after : (B : Build) → B.Memory → List Turn → B.Memory
state_after B x [] = x
state_after B x (t ∷ ts) = state_after B (B.turn x t).next ts

abbrev pub to : Call → Turn
to c = record { call = c; lent = own }

abbrev pub status : Asked → Turn
status k = to (asks (record { key = k }))

abbrev pub fetch : Asked → ℕ → Turn
fetch k m = to (fetches (record { key = k; number = m }))

abbrev pub deliver : ℕ → List ℕ → Turn
deliver pid b = to (delivers (record { pid = pid; bytes = b }))

-- ---- "that nothing else writes": a lent memory that is not the shelf's area, which has n bytes, has another length
pub data Own (n : ℕ) : List Turn → Type 0 where
  no_more : Own n []
  one_more : {t : Turn} {ts : List Turn} → own_or14 n t.lent ≡ true → Own n ts → Own n (t ∷ ts)

-- ---- "a table": sound and current sections of a key, of one version and one last number, one for each number up to it
pub record TableSection (k : Asked) (version last number : ℕ) (b : List ℕ) : Type 0 where
  pub head : Header
  pub sound : judged b ≡ resulted head
  pub current : head.current ≡ 0 → ⊥
  pub key : key_in k.pid b ≡ k
  pub version_is : head.version ≡ version
  pub last_is : head.last ≡ last
  pub number_is : head.number ≡ number

pub record WholeTable (k : Asked) : Type 0 where
  pub version : ℕ
  pub last : ℕ
  pub bytes : ℕ → List ℕ
  pub sections : (m : ℕ) → m ≤ last → TableSection k version last m (bytes m)

-- ---- "delivered at least once": a call of the stretch
pub data Made (t : Turn) : List Turn → Type 0 where
  here : {ts : List Turn} → Made t (t ∷ ts)
  there : {u : Turn} {ts : List Turn} → Made t ts → Made t (u ∷ ts)

-- ---- "the watch stays open all the while, and no other section of its key is accepted": of each call, as the build answers it
pub record OneOf {k : Asked} (table : WholeTable k) (b : List ℕ) : Type 0 where
  pub number : ℕ
  pub upto : number ≤ table.last
  pub bytes_are : b ≡ table.bytes number

pub record Allowed (B : Build) {k : Asked} (table : WholeTable k) (x : B.Memory) (t : Turn) : Type 0 where
  pub stays_open : (c : Closing) → t.call ≡ closes c → c.key ≡ k → accepted (B.turn x t).answer ≡ false
  pub no_other : (d : Delivery) → t.call ≡ delivers d → key_in d.pid d.bytes ≡ k → accepted (B.turn x t).answer ≡ true → OneOf table d.bytes

pub data Stretch (B : Build) {k : Asked} (table : WholeTable k) : B.Memory → List Turn → Type 0 where
  end : {x : B.Memory} → Stretch B table x []
  goes_on : {x : B.Memory} {t : Turn} {ts : List Turn} → Allowed B table x t → Stretch B table (B.turn x t).next ts → Stretch B table x (t ∷ ts)

-- ---- "no delivery of the table's sections on that PID is refused"
pub data NoneRefused (B : Build) {k : Asked} (table : WholeTable k) : B.Memory → List Turn → Type 0 where
  none_left : {x : B.Memory} → NoneRefused B table x []
  and_then : {x : B.Memory} {t : Turn} {ts : List Turn}
      → ((m : ℕ) → m ≤ table.last → t ≡ deliver k.pid (table.bytes m) → (B.turn x t).answer ≡ did (resulted tt))
      → NoneRefused B table (B.turn x t).next ts → NoneRefused B table x (t ∷ ts)

-- ---- "at the end the watch is complete and holds exactly the bytes of those sections"
pub record Complete (B : Build) {k : Asked} (table : WholeTable k) (x : B.Memory) : Type 0 where
  pub says : (B.turn x (status k)).answer ≡ reported (resulted (complete (table.last + 1)))
  pub holds : (m : ℕ) → m ≤ table.last → (B.turn x (fetch k m)).answer ≡ gave (resulted (table.bytes m))
  pub no_other : (m : ℕ) → table.last < m → (B.turn x (fetch k m)).answer ≡ gave (refused 22)

-- ---- the first half
abbrev pub FirstHalf : Build → Type 0
FirstHalf B =
    (x : B.Memory) (k : Asked) (v : View) (table : WholeTable k) (ts : List Turn)
    -- "a shelf that obeys its rules"
    → Obeys (B.means x)
    -- "an open watch on it"
    → view_in (B.means x) k ≡ Some v
    -- "no more of them than the watch's quota"
    → table.last + 1 ≤ v.quota
    -- "that nothing else writes"
    → Own (length (B.means x).area) ts
    -- "the watch stays open all the while, and no other section of its key is accepted"
    → Stretch B table x ts
    -- "each section of the table is delivered at least once on the PID of the key"
    → ((m : ℕ) → m ≤ table.last → Made (deliver k.pid (table.bytes m)) ts)
    → NoneRefused B table x ts × Complete B table (state_after B x ts)

-- ---- the second half is told by the record of calls and answers alone
pub record Exchange : Type 0 where
  pub call : Call
  pub answer : Answer

unfoldable pub recorded : (B : Build) → B.Memory → List Turn → List Exchange
recorded B x [] = []
recorded B x (t ∷ ts) = record { call = t.call; answer = (B.turn x t).answer } ∷ recorded B (B.turn x t).next ts

-- ---- what was heard of a key: the sections that were accepted for it since its watch was opened, or since the stretch began, the newest
-- first; none where it is not watched. Where version 1 had number 0 accepted, and then version 2 its numbers 0 and 1, it is
-- (2, 1) ∷ (2, 0) ∷ (1, 0) ∷ [], whose run is the first two
pub record Heard : Type 0 where
  pub head : Header
  pub bytes : List ℕ

abbrev pub heard_with : Option (List Heard) → List ℕ → Outcome Header → Option (List Heard)
heard_with None b o = None
heard_with (Some hs) b (refused n) = Some hs
heard_with (Some hs) b (resulted h) = Some (record { head = h; bytes = b } ∷ hs)

unfoldable pub history_next : Asked → Call → Bool → Option (List Heard) → Option (List Heard)
history_next k (opens o) y hs = pick (y & same_key k o.key) (Some []) hs
history_next k (closes c) y hs = pick (y & same_key k c.key) None hs
history_next k (asks q) y hs = hs
history_next k (fetches f) y hs = hs
history_next k (delivers d) y hs = pick (y & same_key k (key_in d.pid d.bytes)) (heard_with hs d.bytes (judged d.bytes)) hs

unfoldable pub history : Asked → Option (List Heard) → List Exchange → Option (List Heard)
history k hs [] = hs
history k hs (e ∷ es) = history k (history_next k e.call (accepted e.answer) hs) es

-- ---- "since that edition began in the watch": the run, as long as version and last number are the newest section's
abbrev pub continues : Header → List Heard → Bool
continues h [] = false
continues h (d ∷ ds) = eqb d.head.version h.version & eqb d.head.last h.last

unfoldable pub run : List Heard → List Heard
run [] = []
run (d ∷ ds) = d ∷ pick (continues d.head ds) (run ds) []

-- the newest section of a number
unfoldable pub newest : ℕ → List Heard → Option (List ℕ)
newest m [] = None
newest m (d ∷ ds) = pick (eqb m d.head.number) (Some d.bytes) (newest m ds)

abbrev pub occurs : List Heard → ℕ → Bool
occurs ds m = is_some (newest m ds)

-- ---- what a watch answers: complete exactly where every number up to last occurs in the run, else how many of them do; or nothing heard
abbrev pub status_of_run : ℕ → List Heard → Status
status_of_run n ds = pick (all n (occurs ds)) (complete n) (held (count n (occurs ds)) n)

abbrev pub status_told : Option (List Heard) → Outcome Status
status_told None = refused 17
status_told (Some []) = resulted unheard
status_told (Some (d ∷ ds)) = resulted (status_of_run (d.head.last + 1) (run (d ∷ ds)))

abbrev pub newest_or22 : Option (List ℕ) → Outcome (List ℕ)
newest_or22 None = refused 22
newest_or22 (Some b) = resulted b

abbrev pub bytes_told : Option (List Heard) → ℕ → Outcome (List ℕ)
bytes_told None m = refused 17
bytes_told (Some hs) m = newest_or22 (newest m (run hs))

pub record ToldBy (B : Build) (x : B.Memory) (k : Asked) (hs : Option (List Heard)) : Type 0 where
  pub says : (B.turn x (status k)).answer ≡ reported (status_told hs)
  pub gives : (m : ℕ) → (B.turn x (fetch k m)).answer ≡ gave (bytes_told hs m)

-- ---- "from such a shelf that is empty at first"
pub record StartsEmpty (B : Build) (x : B.Memory) : Type 0 where
  pub places : ℕ
  pub records : ℕ
  pub made_so : (made places records).outcome ≡ resulted tt
  pub shelf_is : (B.means x).shelf ≡ (made places records).shelf
  pub area_is : length (B.means x).area ≡ places * 4096

abbrev pub FromEmpty : Build → Type 0
FromEmpty B = (x : B.Memory) (k : Asked) (ts : List Turn) → StartsEmpty B x → Own (length (B.means x).area) ts → ToldBy B (state_after B x ts) k (history k None (recorded B x ts))
