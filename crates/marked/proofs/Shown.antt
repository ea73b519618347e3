-- The one statement: every marked example of the list holds. Sections that pass do so by the law of sealing, and the rest
-- is computed.
use mathlib.Core.Path.{refl}
use Rattle.checksum.specs.Register.{sealed, four_bytes}
use Rattle.checksum.proofs.Sealing.{sealed_sound}
use Rattle.logic.specs.Choices.{if_lt, if_eq}
use Rattle.kind.specs.Kinds.{kind_of, only_of}
use Rattle.bytes_at.specs.Walks.{skip_to, bits_to, fields_to, then, many, ends, standing}
use Rattle.format.specs.Lawful.{unto}
use Rattle.bytes_at.specs.Bits.{bit_at, bits_at}
use Rattle.strings.specs.Places.{text_at, text_end}
use Rattle.strings.specs.Strings.{segment, string, structure, text, sized_text}
use Rattle.descriptor.specs.Descriptors.{content, descriptor, descriptors}
use Rattle.descriptor.specs.Places.{list12, list10, list_at}
use Rattle.mgt.specs.Walked.{defined, tables, mgt}
use Rattle.channel.specs.Walked.{channel}
use Rattle.tvct.specs.Walked.{channels, tvct}
use Rattle.rrt.specs.Walked.{value, dimension, dimensions, dimensions_and_list, rrt}
use Rattle.eit.specs.Walked.{event, events, eit}
use Rattle.eit.specs.Fields.{title_part, title_at, descriptors_at, event_at}
use Rattle.eit.specs.Titles.{title_of}
use Rattle.ett.specs.Walked.{ett}
use Rattle.section.specs.Walked.{body_of}
use Rattle.entry.specs.Entries.{format_of, entry_count, first_entry, entry_walk, spot_in, spot_of}
use Rattle.section.specs.Headers.{header_by, of_kind, length_tests, checksum_test, number_tests}
use Rattle.section.specs.Sections.{section_by, body_test}
use Rattle.refusal.specs.Outcomes.{after, or_refuse}
use Rattle.reading.specs.Eits.{fields_of, entry_of}
use Rattle.section_text.specs.Fields.{title_in, field_of}
use Rattle.section_text.specs.Texts.{text_units}
use Rattle.logic.specs.Loops.{◌&◌, ◌⇒◌, all, any, sum, first}
use Rattle.logic.specs.Inner.{each}
use Rattle.shelf_state.specs.Records.{same_key, is_of, holds_for, holds}
use Rattle.shelf_state.specs.Searches.{empty_shelf, release}
use Rattle.shelf_state.specs.Rules.{quota_of, watchable, in_range, keys_differ, quotas_fit, places_owned, none_twice, none_above_quota, last_below_quota, unheard_empty, lengths_fit, keys_in_range, sizes_in_range, sizes_fit, obeys}
use Rattle.shelf.specs.Calls.{or_refuse_with, made, opened_in_range, opened, closed, fetched_from, fetched}
use Rattle.shelf.specs.Delivery.{owner_in, for_owner, edited, place_among, received_at, received, by_judge, arriving, delivering, delivered, area_after}
use Rattle.shelf.specs.Views.{judged, same_edition}
use Rattle.text.specs.Segments.{way_of, pairs, utf16_units, units_by}
use Rattle.text.specs.Strings.{segment_units, string_count, string_at, joined_units, string_units}
use Rattle.text.specs.Values.{joined}
use Rattle.text.specs.Texts.{of_field, field_units}
use Rattle.record.specs.Records.{whole}
use Rattle.shown.specs.Ascii.{decimal_by, decimal, field}
use Rattle.lines.specs.Lines.{kind_word, key_shown, edition_shown, event_lines, events_shown, rest_shown, refusal_shown, outcome_shown, section_shown}
use Rattle.lines.specs.Records.{last_line, record_lines}
use Rattle.listing.specs.Listing.{stop_lines, lines_from, listing}
use Rattle.marked.specs.Sections.{eit11, eit4093, tvct1021, mgt14, rrt18, ett15, tea_section, no_title, zero_title}
use Rattle.marked.specs.Marked.{P1, P2, P3, P4, P5, P6, P7, P8, P9, P10, P11, P12, P13, Shows, marked, AllHold}

p1 : Shows P1
unfolding header_by of_kind length_tests checksum_test number_tests if_lt if_eq kind_of sealed four_bytes section_by body_test body_of then many ends skip_to bits_to fields_to unto segment string structure text sized_text content descriptor descriptors list12 eit events event only_of after fields_of or_refuse standing
p1 = (rw (sealed_sound (eit11 0 0)), (refl, (rw (sealed_sound (eit11 0 0)), refl)))

p2 : Shows P2
unfolding header_by of_kind length_tests checksum_test number_tests if_lt if_eq kind_of sealed four_bytes section_by body_test body_of then many ends skip_to bits_to fields_to unto segment string structure text sized_text content descriptor descriptors list12 eit events event or_refuse after standing
p2 = (rw (sealed_sound eit4093), refl)

p3 : Shows P3
unfolding header_by of_kind length_tests checksum_test number_tests if_lt if_eq kind_of sealed four_bytes section_by body_test body_of then many ends skip_to bits_to fields_to unto segment string structure text sized_text content descriptor descriptors list10 tvct channels channel or_refuse after standing
p3 = (rw (sealed_sound tvct1021), refl)

p4 : Shows P4
unfolding header_by of_kind length_tests checksum_test number_tests if_lt if_eq kind_of sealed four_bytes section_by body_test body_of then many ends skip_to bits_to fields_to unto segment string structure text sized_text content descriptor descriptors list12 mgt tables defined or_refuse after standing
p4 = (rw (sealed_sound mgt14), refl)

p5 : Shows P5
unfolding header_by of_kind length_tests checksum_test number_tests if_lt if_eq kind_of sealed four_bytes section_by body_test body_of then many ends skip_to bits_to fields_to unto segment string structure text sized_text content descriptor descriptors list10 rrt dimensions_and_list dimensions dimension value or_refuse after standing
p5 = (rw (sealed_sound rrt18), refl)

p6 : Shows P6
unfolding header_by of_kind length_tests checksum_test number_tests if_lt if_eq kind_of sealed four_bytes section_by body_test body_of then many ends skip_to bits_to fields_to unto segment string structure text sized_text content descriptor descriptors ett or_refuse after standing
p6 = (rw (sealed_sound ett15), refl)

p7 : Shows P7
unfolding header_by of_kind length_tests checksum_test number_tests if_lt if_eq kind_of sealed four_bytes section_by body_test body_of then many ends skip_to bits_to fields_to unto segment string structure text sized_text content descriptor descriptors list12 eit events event or_refuse after standing
p7 = (rw (sealed_sound (eit11 3 3)), rw (sealed_sound (eit11 4 3)))

p8 : Shows P8
unfolding header_by of_kind length_tests checksum_test number_tests if_lt if_eq kind_of sealed four_bytes section_by body_test body_of then many ends skip_to bits_to fields_to unto segment string structure text sized_text content descriptor descriptors list12 eit events event only_of after format_of entry_count first_entry entry_walk standing spot_in spot_of entry_of bit_at bits_at text_at text_end list_at title_part title_at title_of descriptors_at event_at or_refuse
p8 = (rw (sealed_sound no_title), rw (sealed_sound zero_title))

p9 : Shows P9
unfolding header_by of_kind length_tests checksum_test number_tests if_lt if_eq kind_of sealed four_bytes section_by body_test body_of then many ends skip_to bits_to fields_to unto segment string structure text sized_text content descriptor descriptors list12 eit events event only_of after format_of entry_count first_entry entry_walk spot_in spot_of entry_of bit_at bits_at text_at text_end list_at title_part title_at title_of descriptors_at event_at title_in field_of text_units way_of pairs units_by segment_units standing string_count string_at joined joined_units string_units or_refuse
p9 = (refl, (refl, (refl, (rw (sealed_sound tea_section), (rw (sealed_sound tea_section), rw (sealed_sound tea_section))))))

p10 : Shows P10
unfolding header_by of_kind length_tests checksum_test number_tests if_lt if_eq kind_of sealed four_bytes section_by body_test body_of then many ends skip_to bits_to fields_to unto segment string structure text sized_text content descriptor descriptors list12 eit events event ◌&◌ ◌⇒◌ all any sum first each same_key is_of holds_for holds release empty_shelf quota_of watchable in_range keys_differ quotas_fit places_owned none_twice none_above_quota last_below_quota unheard_empty lengths_fit keys_in_range sizes_in_range sizes_fit obeys or_refuse_with made opened_in_range opened closed judged owner_in for_owner same_edition edited place_among received_at received by_judge arriving delivering delivered area_after fetched_from fetched or_refuse after standing
p10 = (rw (sealed_sound (eit11 0 0)), (rw (sealed_sound (eit11 0 0)), (rw (sealed_sound (eit11 0 1)), rw (sealed_sound (eit11 0 1)))))

p11 : Shows P11
unfolding if_lt if_eq kind_of ◌&◌ ◌⇒◌ all any sum first each same_key is_of holds_for holds release empty_shelf quota_of watchable in_range keys_differ quotas_fit places_owned none_twice none_above_quota last_below_quota unheard_empty lengths_fit keys_in_range sizes_in_range sizes_fit obeys or_refuse_with made opened_in_range opened closed
p11 = (refl, refl)

p12 : Shows P12
unfolding if_lt if_eq skip_to bits_to fields_to then many ends after segment string structure text way_of pairs utf16_units units_by segment_units standing string_count string_at joined joined_units string_units of_field field_units or_refuse
p12 = (refl, refl)

p13 : Shows P13
unfolding header_by of_kind length_tests checksum_test number_tests if_lt if_eq kind_of sealed four_bytes section_by body_test body_of then many ends skip_to bits_to fields_to unto segment string structure text sized_text content descriptor descriptors list12 eit events event ◌&◌ ◌⇒◌ all any sum first each same_key is_of holds_for holds release empty_shelf quota_of watchable in_range keys_differ quotas_fit places_owned none_twice none_above_quota last_below_quota unheard_empty lengths_fit keys_in_range sizes_in_range sizes_fit obeys or_refuse_with made opened_in_range opened closed judged owner_in for_owner same_edition edited place_among received_at received by_judge arriving delivering delivered bit_at bits_at whole decimal_by decimal field kind_word key_shown edition_shown event_lines events_shown rest_shown refusal_shown outcome_shown section_shown last_line record_lines stop_lines lines_from listing or_refuse after standing
p13 = (refl, (refl, (rw (sealed_sound (eit11 0 0)), (refl, (rw (sealed_sound (eit11 0 0)), refl)))))

pub shown : AllHold marked
shown = (p1, (p2, (p3, (p4, (p5, (p6, (p7, (p8, (p9, (p10, (p11, (p12, (p13, record {})))))))))))))
