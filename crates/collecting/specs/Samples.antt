-- A table of three sections and a stretch of calls on a shelf with two watches, by which the third demand is shown to have content
-- (proofs/).
use Rattle.std.specs.Prelude.{ℕ, ◌+◌, ◌*◌, List, [], ◌∷◌, set}
use Rattle.checksum.specs.Register.{sealed}
use Rattle.kind.specs.declared.Kind.TheVariants.{Eit}
use Rattle.refusal.specs.Outcomes.{refused, resulted}
use Rattle.section.specs.declared.header.Header.{Header}
use Rattle.shelf_state.specs.declared.records.Asked.{Asked}
use Rattle.shelf.specs.Views.{complete, held, delivers, opens}
use Rattle.shelf.specs.Calls.{made}
use Rattle.shelf.specs.Steps.{Answer, State, Turn, did, gave, other, reported}
use Rattle.collecting.specs.Collecting.{Exchange, state_after, deliver, fetch, status, to, ours}

-- ---- sections: EITs without events, current, of a source
abbrev pub eit_key : ℕ → ℕ → Asked
eit_key pid source = record { pid = pid; table_id = 0xCB; extension = source }

unfoldable pub eit : ℕ → ℕ → ℕ → ℕ → List ℕ
eit source version number last = sealed (0xCB ∷ 0xF0 ∷ 11 ∷ 0 ∷ source ∷ (0xC1 + 2 * version) ∷ number ∷ last ∷ 0 ∷ 0 ∷ [])

abbrev pub eit_header : ℕ → ℕ → ℕ → ℕ → Header
eit_header source version number last = record { kind = Eit; extension = source; version = version; current = 1; number = number; last = last }

-- ---- a shelf of five places, with two watches of quotas 3 and 2
abbrev pub mine : Asked
mine = eit_key 0x1D00 7

abbrev pub theirs : Asked
theirs = eit_key 0x1D01 8

abbrev pub opening : Asked → ℕ → Turn
opening k quota = to (opens (record { key = k; quota = quota }))

abbrev pub empty_state : ℕ → ℕ → List ℕ → State
empty_state places records area = record { shelf = (made places records).shelf; area = area }

abbrev pub fresh : List ℕ → State
fresh area = state_after ours (empty_state 5 2 area) (opening mine 3 ∷ opening theirs 2 ∷ [])

-- and on it a section of an edition that the table will end: version 3
abbrev pub start : List ℕ → State
start area = state_after ours (fresh area) (deliver 0x1D00 (eit 7 3 1 2) ∷ [])

-- ---- the table: version 4
abbrev pub section : ℕ → List ℕ
section m = eit 7 4 m 2

-- section 1 with a bit flipped, in its count of events
abbrev pub damaged : List ℕ
damaged = set (section 1) 9 1

-- ---- the stretch: the sections out of order, two of them twice; one damaged; one of a table with more sections than the quota; the
-- other watch changes its edition; a call is lent a memory of another length; the key is opened again
abbrev pub turns : List Turn
turns =
    deliver 0x1D00 (section 2)
    ∷ deliver 0x1D00 damaged
    ∷ deliver 0x1D01 (eit 8 1 0 1)
    ∷ status mine
    ∷ deliver 0x1D00 (section 0)
    ∷ deliver 0x1D00 (section 2)
    ∷ deliver 0x1D01 (eit 8 2 0 0)
    ∷ deliver 0x1D00 (eit 7 5 0 3)
    ∷ fetch mine 0
    ∷ record { call = delivers (record { pid = 0x1D00; bytes = section 1 }); lent = other [] }
    ∷ opening mine 1
    ∷ status theirs
    ∷ deliver 0x1D00 (section 1)
    ∷ deliver 0x1D00 (section 0)
    ∷ []

-- what each of its calls answers
abbrev pub answers : List Answer
answers =
    did (resulted tt)
    ∷ did (refused 6)
    ∷ did (resulted tt)
    ∷ reported (resulted (held 1 3))
    ∷ did (resulted tt)
    ∷ did (resulted tt)
    ∷ did (resulted tt)
    ∷ did (refused 18)
    ∷ gave (resulted (section 0))
    ∷ did (refused 14)
    ∷ did (refused 19)
    ∷ reported (resulted (complete 1))
    ∷ did (resulted tt)
    ∷ did (resulted tt)
    ∷ []

-- the answers in a record
abbrev pub answers_in : List Exchange → List Answer
answers_in [] = []
answers_in (e ∷ es) = e.answer ∷ answers_in es
