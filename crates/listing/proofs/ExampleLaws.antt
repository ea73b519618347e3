-- The examples of SCOPE 8.2, computed.
use mathlib.Core.Path.{refl}
use Rattle.checksum.specs.Register.{register_from, bits_in, bit_in, poly}
use Rattle.logic.specs.Choices.{if_lt, if_eq}
use Rattle.kind.specs.Kinds.{kind_of}
use Rattle.refusal.specs.Outcomes.{after, or_refuse}
use Rattle.bytes_at.specs.Walks.{skip_to, bits_to, fields_to, then, many, ends, standing}
use Rattle.bytes_at.specs.Bits.{bit_at, bits_at}
use Rattle.format.specs.Lawful.{unto}
use Rattle.strings.specs.Places.{text_at, text_end}
use Rattle.strings.specs.Strings.{segment, string, structure, text, sized_text}
use Rattle.descriptor.specs.Descriptors.{content, descriptor, descriptors}
use Rattle.descriptor.specs.Places.{list12, list_at, list_end}
use Rattle.text.specs.Segments.{way_of, pairs, utf16_units, units_by}
use Rattle.text.specs.Strings.{segment_units, string_count, string_at, joined_units, string_units}
use Rattle.text.specs.Values.{joined}
use Rattle.eit.specs.Walked.{event, events, eit}
use Rattle.eit.specs.Fields.{title_part, title_at, descriptors_at, event_at, event_end}
use Rattle.eit.specs.Titles.{title_of}
use Rattle.section.specs.Walked.{body_of}
use Rattle.section.specs.Headers.{header_by, of_kind, length_tests, checksum_test, number_tests}
use Rattle.section.specs.Sections.{section_by, body_test}
use Rattle.record.specs.Records.{whole}
use Rattle.shown.specs.Ascii.{decimal_by, decimal, field}
use Rattle.shown.specs.Titles.{plain, shown, all_shown, text_shown, title_shown}
use Rattle.lines.specs.Lines.{kind_word, key_shown, edition_shown, times_shown, event_line, event_lines, events_shown, rest_shown, outcome_shown, section_shown}
use Rattle.lines.specs.Records.{last_line, record_lines}
use Rattle.listing.specs.Listing.{stop_lines, lines_from, listing}
use Rattle.listing.specs.Examples.{Examples}

pub examples : Examples
unfolding header_by of_kind length_tests checksum_test number_tests if_lt if_eq kind_of section_by body_test body_of then many ends skip_to bits_to fields_to unto segment string structure text sized_text content descriptor descriptors list12 eit events event after bit_at bits_at text_at text_end list_at list_end title_part title_at title_of descriptors_at event_at event_end way_of pairs utf16_units units_by segment_units standing string_count string_at joined joined_units string_units whole decimal_by decimal field plain shown all_shown text_shown title_shown kind_word key_shown edition_shown times_shown event_line event_lines events_shown rest_shown outcome_shown section_shown last_line record_lines stop_lines lines_from listing register_from bits_in bit_in poly or_refuse
examples = record { both = refl; nothing = refl }
