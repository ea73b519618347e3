-- The sections of the marked examples, before they are sealed by their checksums. Those that pass have sound bodies.
use Rattle.std.specs.Prelude.{ℕ, zero, suc, ◌+◌, List, [], ◌∷◌, ◌++◌, replicate}

-- ---- what they are made of
-- table_id, section_length in its two parts, section_number, last_section_number, body; the extension is 7, the version 3,
-- and the section is current
abbrev pub unfinished : ℕ → ℕ → ℕ → ℕ → ℕ → List ℕ → List ℕ
unfinished id high low number last body = id ∷ (0xF0 + high) ∷ low ∷ 0 ∷ 7 ∷ 0xC7 ∷ number ∷ last ∷ 0 ∷ body

-- a descriptor with n bytes that no rule looks into
abbrev pub opaque : ℕ → List ℕ
opaque n = 0x80 ∷ n ∷ replicate n 0

-- k descriptors of 257 bytes, and one with n bytes in it
abbrev pub many_descriptors : ℕ → ℕ → List ℕ
many_descriptors zero n = opaque n
many_descriptors (suc k) n = opaque 255 ++ many_descriptors k n

-- ---- lengths at their limits, P1 to P7
-- an EIT without events, and without its count
abbrev pub eit11 : ℕ → ℕ → List ℕ
eit11 number last = unfinished 0xCB 0 11 number last (0 ∷ [])

abbrev pub eit10 : List ℕ
eit10 = unfinished 0xCB 0 10 0 0 []

-- an EIT with one event and as many descriptors as there is room for, and with a byte more
abbrev pub eit4093 : List ℕ
eit4093 =
    unfinished 0xCB 15 0xFD 0 0 (1 ∷ 0xC0 ∷ 5 ∷ 0 ∷ 0 ∷ 3 ∷ 232 ∷ 0xC0 ∷ 7 ∷ 8 ∷ 0 ∷ 0xFF ∷ 0xE6 ∷ many_descriptors 15 213)

abbrev pub eit4094 : List ℕ
eit4094 =
    unfinished 0xCB 15 0xFE 0 0 (1 ∷ 0xC0 ∷ 5 ∷ 0 ∷ 0 ∷ 3 ∷ 232 ∷ 0xC0 ∷ 7 ∷ 8 ∷ 0 ∷ 0xFF ∷ 0xE7 ∷ many_descriptors 15 214)

-- a TVCT without channels and as many descriptors as there is room for, and with a byte more
abbrev pub tvct1021 : List ℕ
tvct1021 = unfinished 0xC8 3 0xFD 0 0 (0 ∷ 0xFF ∷ 0xF0 ∷ many_descriptors 3 235)

abbrev pub tvct1022 : List ℕ
tvct1022 = unfinished 0xC8 3 0xFE 0 0 (0 ∷ 0xFF ∷ 0xF1 ∷ many_descriptors 3 236)

-- an MGT without tables, and a byte less
abbrev pub mgt14 : List ℕ
mgt14 = unfinished 0xC7 0 14 0 0 (0 ∷ 0 ∷ 0xF0 ∷ 0 ∷ [])

abbrev pub mgt13 : List ℕ
mgt13 = unfinished 0xC7 0 13 0 0 (0 ∷ 0 ∷ 0xF0 ∷ [])

-- an RRT of one dimension with one value, all texts empty, and a byte less
abbrev pub rrt18 : List ℕ
rrt18 = unfinished 0xCA 0 18 0 0 (0 ∷ 1 ∷ 0 ∷ 0xE1 ∷ 0 ∷ 0 ∷ 0xFC ∷ 0 ∷ [])

abbrev pub rrt17 : List ℕ
rrt17 = unfinished 0xCA 0 17 0 0 (0 ∷ 1 ∷ 0 ∷ 0xE1 ∷ 0 ∷ 0 ∷ 0xFC ∷ [])

-- an ETT with a text of no strings, and one without a text
abbrev pub ett15 : List ℕ
ett15 = unfinished 0xCC 0 15 0 0 (0 ∷ 0 ∷ 0 ∷ 1 ∷ 0 ∷ [])

abbrev pub ett14 : List ℕ
ett14 = unfinished 0xCC 0 14 0 0 (0 ∷ 0 ∷ 0 ∷ 1 ∷ [])

-- ---- titles and texts
-- "Tea" in English, in one plain segment; an event with that title; an EIT with that event
abbrev pub tea_text : List ℕ
tea_text = 1 ∷ 101 ∷ 110 ∷ 103 ∷ 1 ∷ 0 ∷ 0 ∷ 3 ∷ 84 ∷ 101 ∷ 97 ∷ []

abbrev pub tea_event : List ℕ
tea_event = 0xC0 ∷ 5 ∷ 0 ∷ 0 ∷ 3 ∷ 232 ∷ 0xC0 ∷ 7 ∷ 8 ∷ 11 ∷ tea_text ++ 0xF0 ∷ 0 ∷ []

abbrev pub tea_section : List ℕ
tea_section = unfinished 0xCB 0 34 0 0 (1 ∷ tea_event)

-- an EIT with one event whose title has no bytes, and one whose title is the byte 0
abbrev pub no_title : List ℕ
no_title = unfinished 0xCB 0 23 0 0 (1 ∷ 0xC0 ∷ 5 ∷ 0 ∷ 0 ∷ 3 ∷ 232 ∷ 0xC0 ∷ 7 ∷ 8 ∷ 0 ∷ 0xF0 ∷ 0 ∷ [])

abbrev pub zero_title : List ℕ
zero_title = unfinished 0xCB 0 24 0 0 (1 ∷ 0xC0 ∷ 5 ∷ 0 ∷ 0 ∷ 3 ∷ 232 ∷ 0xC0 ∷ 7 ∷ 8 ∷ 1 ∷ 0 ∷ 0xF0 ∷ 0 ∷ [])

-- a text of one English string in one segment of UTF-16
abbrev pub utf16 : ℕ → List ℕ → List ℕ
utf16 n bytes = 1 ∷ 101 ∷ 110 ∷ 103 ∷ 1 ∷ 0 ∷ 0x3F ∷ n ∷ bytes
