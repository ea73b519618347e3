-- SCOPE 6.1: what crosses to C has 32 bits a number, and one that were larger would be told as no value. None is: of every section that is accepted
-- each number is told as it is.
use Rattle.std.specs.Prelude.{ℕ, ◌<◌, ◌≡◌, List, map, length}
use Rattle.refusal.specs.Outcomes.{Outcome, resulted}
use Rattle.refusal.specs.Outputs.{counted}
use Rattle.kind.specs.Kinds.{kind_of}
use Rattle.format.specs.Repeats.{Bytes}
use Rattle.text.specs.Answers.{amount_of}
use Rattle.text.specs.Texts.{fitting, field_count, field_units, field_replaced, field_heading}
use Rattle.section.specs.Sections.{section_by}
use Rattle.entry.specs.declared.Entry.{Entry}
use Rattle.rows.specs.Rows.{rows_of}
use Rattle.rows.specs.Values.{value_rows_of}
use Rattle.titles.specs.Titles.{titles_of}
use Rattle.reading.specs.Mgts as mgts
use Rattle.reading.specs.Tvcts as tvcts
use Rattle.reading.specs.Rrts as rrts
use Rattle.reading.specs.Eits as eits
use Rattle.reading.specs.Etts as etts
use Rattle.telling.specs.Told.{noted, one_number}
use Rattle.telling.specs.Sections.{header_numbers}
use Rattle.telling.specs.Tables.{mgt_numbers, defined_numbers, tvct_numbers, channel_numbers, rrt_numbers, dimension_numbers, value_numbers, eit_numbers, event_numbers, ett_numbers}
use Rattle.telling.specs.Ratings.{rating_numbers, descriptor_numbers, text_numbers}
use Rattle.telling.specs.Fields.{heading_numbers, amount_numbers}
use Rattle.telling.specs.Texts.{asked_count, asked_heading, asked_amount, fitting_amount}
use Rattle.telling.specs.Titled.{counts_numbers}
use Rattle.telling.specs.Writers.{eit_from, ett_from}

-- the numbers of a result, which f says, are told as they are
abbrev pub Whole : {A : Type 0} → (A → List ℕ) → Outcome A → Type 0
Whole {A} f x = (a : A) → x ≡ resulted a → map noted (f a) ≡ f a

-- ---- of a section s: the header, the tables and their entries
pub record TablesWhole (s : List ℕ) : Type 0 where
  pub header : Whole header_numbers (section_by kind_of s)
  pub mgt : Whole mgt_numbers (mgts.fields_of s)
  pub defined : (i : ℕ) → Whole defined_numbers (mgts.entry_of s i)
  pub tvct : Whole tvct_numbers (tvcts.fields_of s)
  pub channel : (i : ℕ) → Whole channel_numbers (tvcts.entry_of s i)
  pub rrt : Whole rrt_numbers (rrts.fields_of s)
  pub dimension : (i : ℕ) → Whole dimension_numbers (rrts.entry_of s i)
  pub value : (i j : ℕ) → Whole value_numbers (rrts.value_of s i j)
  pub eit : Whole eit_numbers (eits.fields_of s)
  pub event : (i : ℕ) → Whole event_numbers (eits.entry_of s i)
  pub ett : Whole ett_numbers (etts.fields_of s)

-- what is asked of an event
pub record EventWhole (s : List ℕ) (i : ℕ) : Type 0 where
  pub rating : (region dimension : ℕ) → Whole rating_numbers (eits.rating_of s i region dimension)
  pub descriptor : (k : ℕ) → Whole descriptor_numbers (eits.descriptor_of s i k)
  pub advisory : (region : ℕ) → Whole text_numbers (eits.advisory_text_of s i region)

-- what the four numbers q ask of a text
pub record TextWhole (s q : List ℕ) : Type 0 where
  pub count : Whole one_number (asked_count s q)
  pub heading : Whole heading_numbers (asked_heading s q)
  pub units : Whole amount_numbers (asked_amount s q)
  pub text : (room : ℕ) → Whole amount_numbers (fitting_amount s q room)

-- how many rows there are, and how many events and units of titles
pub record CountsWhole (s : List ℕ) : Type 0 where
  pub rows : (r : Entry) (room : ℕ) → Whole one_number (rows_of r s room)
  pub values : (room : ℕ) → Whole one_number (value_rows_of s room)
  pub titles : (rows units : ℕ) → Whole counts_numbers (titles_of s rows units)

pub record SectionWhole (s : List ℕ) : Type 0 where
  pub tables : TablesWhole s
  pub event : (i : ℕ) → EventWhole s i
  pub text : (q : List ℕ) → TextWhole s q
  pub counts : CountsWhole s

-- ---- of a text field f, and of a descriptor list l, by itself
pub record FieldWhole (f : List ℕ) : Type 0 where
  pub count : Whole one_number (field_count f)
  pub heading : (k : ℕ) → Whole heading_numbers (field_heading f k)
  pub units : (k : ℕ) → Whole amount_numbers (amount_of (field_replaced f k) (field_units f k))
  pub text : (k room : ℕ) → Whole amount_numbers (amount_of (field_replaced f k) (fitting room (field_units f k)))

pub record ListWhole (l : List ℕ) : Type 0 where
  pub rating : (region dimension : ℕ) → Whole rating_numbers (eits.list_rating l region dimension)
  pub descriptor : (k : ℕ) → Whole descriptor_numbers (eits.list_descriptor l k)
  pub advisory : (region : ℕ) → Whole text_numbers (eits.list_text l region)

-- ---- of a section that is written, where the six numbers q are given: how long it is
pub record WrittenWhole (q : List ℕ) : Type 0 where
  pub eit : (rows bytes : List ℕ) (room : ℕ) → Whole one_number (counted (eit_from q rows bytes room))
  pub ett : (text : List ℕ) (room : ℕ) → Whole one_number (counted (ett_from q text room))

-- ---- whatever bytes are lent. A field and a list by themselves are short where they have less than half a gigabyte: a byte of text has at most eight units
abbrev pub Short : List ℕ → Type 0
Short l = length l < 536870912

pub record ToldAsTheyAre : Type 0 where
  pub section : (s : List ℕ) → Bytes s → SectionWhole s
  pub field : (f : List ℕ) → Bytes f → Short f → FieldWhole f
  pub list : (l : List ℕ) → Bytes l → Short l → ListWhole l
  pub written : (q : List ℕ) → WrittenWhole q
