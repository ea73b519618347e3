-- SCOPE 9, the marked examples: what each says, and the one statement over their list.
use Rattle.std.specs.Prelude.{ℕ, ◌≡◌, List, [], ◌∷◌, length, replicate}
use Rattle.checksum.specs.Register.{sealed}
use Rattle.refusal.specs.Outcomes.{Outcome, refused, resulted}
use Rattle.kind.specs.declared.Kind.{Kind}
use Rattle.kind.specs.declared.Kind.TheVariants.{Mgt, Tvct, Rrt, Eit, Ett}
use Rattle.kind.specs.Kinds.{kind_of}
use Rattle.section.specs.Sections.{section_by}
use Rattle.eit.specs.declared.event.Title.{Title}
use Rattle.eit.specs.declared.event.Title.TheVariants.{None, NoStrings, Text}
use Rattle.reading.specs.Eits.{fields_of, entry_of}
use Rattle.text.specs.Texts.{field_units}
use Rattle.section_text.specs.declared.field.Which.TheVariants as texts
use Rattle.section_text.specs.Texts.{text_units}
use Rattle.shelf_state.specs.declared.records.Asked.{Asked}
use Rattle.shelf_state.specs.declared.records.Shelf.{Shelf}
use Rattle.shelf.specs.Answers.{After}
use Rattle.shelf.specs.Calls.{made, opened, closed, fetched}
use Rattle.shelf.specs.Delivery.{area_after, delivered, delivering}
use Rattle.shelf.specs.Steps.{fetched_bytes}
use Rattle.shown.specs.Ascii.{ascii}
use Rattle.listing.specs.Listing.{ended, listing}
use Rattle.marked.specs.Sections.{eit11, eit10, eit4093, eit4094, tvct1021, tvct1022, mgt14, mgt13, rrt18, rrt17, ett15, ett14, tea_text, tea_event, tea_section, no_title, zero_title, utf16}

-- ---- the words of the examples
-- a section, sealed, is sound, and its header's fields are these
abbrev pub Passes : Kind → ℕ → ℕ → List ℕ → Type 0
Passes k number last s =
    section_by kind_of (sealed s) ≡ resulted (record { kind = k; extension = 7; version = 3; current = 1; number = number; last = last })

-- a section, sealed, is refused by this number
abbrev pub RefusedBy : ℕ → List ℕ → Type 0
RefusedBy n s = section_by kind_of (sealed s) ≡ refused n

-- event 0 of an EIT, sealed, has this title, and its empty descriptor list begins at this place
abbrev pub Titled : Title → ℕ → List ℕ → Type 0
Titled t at s =
    entry_of (sealed s) 0
    ≡ resulted (record {
      event_id = 5;
      start_time = 1000;
      etm_location = 0;
      length_in_seconds = 1800;
      title = t;
      descriptors = record { start = at; length = 0 };
    })

-- the key of an EIT on a PID
abbrev pub eit_key : ℕ → ℕ → Asked
eit_key pid source = record { pid = pid; table_id = 0xCB; extension = source }

-- a shelf of four places and three records, with watches of quotas 2 and 2
abbrev pub four_places : Shelf
four_places = (made 4 3).shelf

abbrev pub opening : Shelf → ℕ → ℕ → After (Unit {0})
opening s source quota = opened s 16384 (eit_key 0x1D00 source) quota

abbrev pub two_and_two : Shelf
two_and_two = (opening (opening four_places 1 2).shelf 2 2).shelf

-- a shelf of one place, with a watch of quota 1 on the EITs above
abbrev pub quota_one : Shelf
quota_one = (opened (made 1 1).shelf 4096 (eit_key 0x1D00 7) 1).shelf

abbrev pub one_place : List ℕ
one_place = replicate 4096 0

-- what is fetched as section 0 after a delivery to that shelf
abbrev pub kept_of : List ℕ → Outcome (List ℕ)
kept_of s =
    fetched_bytes (area_after one_place s (delivering quota_one 4096 0x1D00 s).outcome)
    (fetched (delivered quota_one 4096 0x1D00 s).shelf 4096 (eit_key 0x1D00 7) 0).outcome

-- what the lister prints of one record with a PID in two bytes
abbrev pub listed : ℕ → ℕ → List ℕ → List ℕ
listed high low s = listing (0xA5 ∷ 0x5A ∷ high ∷ low ∷ s) ended

-- ---- the examples
pub data Mark : Type 0 where
  P1 : Mark
  P2 : Mark
  P3 : Mark
  P4 : Mark
  P5 : Mark
  P6 : Mark
  P7 : Mark
  P8 : Mark
  P9 : Mark
  P10 : Mark
  P11 : Mark
  P12 : Mark
  P13 : Mark

-- what each example says
abbrev pub Shows : Mark → Type 0
Shows P1 =
    Passes Eit 0 0 (eit11 0 0)
    × ((length (sealed (eit11 0 0)) ≡ 14)
    × ((fields_of (sealed (eit11 0 0)) ≡ resulted (record { source = 7; count = 0 }))
    × RefusedBy 4 eit10))
Shows P2 = Passes Eit 0 0 eit4093 × RefusedBy 4 eit4094
Shows P3 = Passes Tvct 0 0 tvct1021 × RefusedBy 4 tvct1022
Shows P4 = Passes Mgt 0 0 mgt14 × RefusedBy 4 mgt13
Shows P5 = Passes Rrt 0 0 rrt18 × RefusedBy 4 rrt17
Shows P6 = Passes Ett 0 0 ett15 × RefusedBy 4 ett14
Shows P7 = Passes Eit 3 3 (eit11 3 3) × RefusedBy 8 (eit11 4 3)
Shows P8 = Titled None 22 no_title × Titled NoStrings 23 zero_title
Shows P9 =
    (length tea_text ≡ 11)
    × ((length tea_event ≡ 23)
    × ((length (sealed tea_section) ≡ 37)
    × (Passes Eit 0 0 tea_section
    × (Titled (Text (record { start = 20; length = 11 })) 33 tea_section
    × (text_units (sealed tea_section) (texts.Title 0) 0 ≡ resulted (ascii "Tea"))))))
Shows P10 =
    ((delivered quota_one 4096 0x1D00 (sealed (eit11 0 0))).outcome ≡ resulted tt)
    × ((kept_of (sealed (eit11 0 0)) ≡ resulted (sealed (eit11 0 0)))
    × (((delivered quota_one 4096 0x1D00 (sealed (eit11 0 1))).outcome ≡ refused 18)
    × (kept_of (sealed (eit11 0 1)) ≡ refused 22)))
Shows P11 =
    ((opening two_and_two 3 1).outcome ≡ refused 21)
    × ((opening (closed two_and_two 16384 (eit_key 0x1D00 1)).shelf 3 2).outcome ≡ resulted tt)
Shows P12 = (field_units (utf16 0 []) 0 ≡ resulted []) × (field_units (utf16 3 (0 ∷ 65 ∷ 0 ∷ [])) 0 ≡ refused 11)
Shows P13 =
    ((opened four_places 16384 (eit_key 8191 7) 1).outcome ≡ resulted tt)
    × (((opened four_places 16384 (eit_key 8192 7) 1).outcome ≡ refused 15)
    × (((delivered four_places 16384 8191 (sealed (eit11 0 0))).outcome ≡ refused 17)
    × (((delivered four_places 16384 8192 (sealed (eit11 0 0))).outcome ≡ refused 15)
    × ((listed 0x1F 0xFF (sealed (eit11 0 0)) ≡ ascii "guide lister\n0 pid 8191 eit 7 v3 0/0 events 0\nend 1\n")
    × (listed 0x20 0x00 (sealed (eit11 0 0)) ≡ ascii "guide lister\n0 refused 15\nend 1\n")))))

-- ---- the one statement
-- the list
abbrev pub marked : List Mark
marked = P1 ∷ P2 ∷ P3 ∷ P4 ∷ P5 ∷ P6 ∷ P7 ∷ P8 ∷ P9 ∷ P10 ∷ P11 ∷ P12 ∷ P13 ∷ []

-- each of a list holds
abbrev pub AllHold : List Mark → Type 0
AllHold [] = record {}
AllHold (m ∷ ms) = Shows m × AllHold ms
