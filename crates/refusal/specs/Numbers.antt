-- SCOPE 6: the number of each refusal, given exactly when its comment holds.
use Rattle.std.specs.Prelude.{ℕ}
use Rattle.refusal.specs.declared.Refusal.{Refusal}
use Rattle.refusal.specs.declared.Refusal.TheVariants.{TooShort, OtherTable, Indicator, LengthRange, ByteCount, Checksum, ProtocolVersion, SectionNumber, Body, NotAReadPair, BrokenText, OutputShort, NoSuchEntry, ShelfBroken, OutOfRange, NotCurrent, NotWatched, AboveQuota, AlreadyWatched, NoRecordLeft, NoPlacesLeft, NotHeld, FieldTooLarge, SectionTooLong}

abbrev pub number_of : Refusal → ℕ
-- fewer than 3 bytes
number_of TooShort = 1
-- table_id is none of the five, or not that of the kind that the call reads
number_of OtherTable = 2
-- section_syntax_indicator or private_indicator is 0
number_of Indicator = 3
-- section_length is outside its kind's range
number_of LengthRange = 4
-- there are not section_length + 3 bytes
number_of ByteCount = 5
-- the checksum's register does not end at 0
number_of Checksum = 6
-- protocol_version is not 0
number_of ProtocolVersion = 7
-- section_number is above last_section_number, or that is not 0 where it must be
number_of SectionNumber = 8
-- the body: a length or count past its container, bytes left over, a zero count of an RRT
number_of Body = 9
-- compression and mode are not a pair that is read
number_of NotAReadPair = 10
-- broken text: an odd number of UTF-16 bytes, a raw character above 127, bits that end early, 8 or more bits after the end
number_of BrokenText = 11
-- the output is too short
number_of OutputShort = 12
-- no string, event or other entry of that number
number_of NoSuchEntry = 13
-- the shelf's sizes or rules are broken
number_of ShelfBroken = 14
-- a PID above 8191, a watch's table_id that 2 refuses, or a quota out of range
number_of OutOfRange = 15
-- current_next_indicator is 0
number_of NotCurrent = 16
-- the key is not watched
number_of NotWatched = 17
-- last_section_number + 1 is above the quota
number_of AboveQuota = 18
-- the key is watched already
number_of AlreadyWatched = 19
-- every watch record is taken
number_of NoRecordLeft = 20
-- the quotas would exceed the places
number_of NoPlacesLeft = 21
-- watched, and this section is not held
number_of NotHeld = 22
-- a field is too large to write
number_of FieldTooLarge = 23
-- the section would exceed its kind's or the buffer's length
number_of SectionTooLong = 24
