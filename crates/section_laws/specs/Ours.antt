-- SCOPE 12.4: which definition is which reader of the statements (Accepted.antt): those that the promises of the calls cite.
use Rattle.kind.specs.Kinds.{kind_of, only_of}
use Rattle.text.specs.Texts.{field_count, field_heading, field_units}
use Rattle.section.specs.Sections.{section_by}
use Rattle.reading.specs.Mgts as mgts
use Rattle.reading.specs.Tvcts as tvcts
use Rattle.reading.specs.Rrts as rrts
use Rattle.reading.specs.Eits as eits
use Rattle.reading.specs.Etts as etts
use Rattle.section_text.specs.Texts.{text_count, text_heading, text_units}
use Rattle.section_laws.specs.Accepted.{Library}

abbrev pub ours : Library
ours = record {
  judge = λ k s. section_by (only_of k) s;
  judge_all = section_by kind_of;
  mgt = mgts.fields_of;
  defined = λ i s. mgts.entry_of s i;
  tvct = tvcts.fields_of;
  channel = λ i s. tvcts.entry_of s i;
  rrt = rrts.fields_of;
  dimension = λ i s. rrts.entry_of s i;
  value = λ i j s. rrts.value_of s i j;
  eit = eits.fields_of;
  event = λ i s. eits.entry_of s i;
  rating = λ i region dimension s. eits.rating_of s i region dimension;
  descriptor = λ i k s. eits.descriptor_of s i k;
  place = λ i region s. eits.advisory_text_of s i region;
  ett = etts.fields_of;
  count = λ w s. text_count s w;
  heading = λ w k s. text_heading s w k;
  units = λ w k s. text_units s w k;
  field_count = field_count;
  field_heading = λ k f. field_heading f k;
  field_units = λ k f. field_units f k;
}
