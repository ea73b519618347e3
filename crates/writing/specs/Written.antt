-- SCOPE 6, numbers 23, 8, 9 and 24, in the order of 6.2: an EIT and an ETT that are written. The outcome is the section's bytes, or the
-- first of the refusals.
use Rattle.std.specs.Prelude.{ℕ, ◌*◌, ◌/◌, List, length, eqb, ltb}
use Rattle.logic.specs.Choices.{pick}
use Rattle.logic.specs.Loops.{◌&◌}
use Rattle.refusal.specs.Outcomes.{Outcome, resulted, or_refuse}
use Rattle.kind.specs.declared.Kind.{Kind}
use Rattle.kind.specs.declared.Kind.TheVariants.{Eit, Ett}
use Rattle.format.specs.Formats.{any_bytes, walks_all}
use Rattle.strings.specs.Strings.{text}
use Rattle.eit.specs.Format.{eit_of}
use Rattle.eit.specs.Given.{events_given, rows_fit, stands, rows_sound}
use Rattle.ett.specs.Format.{ett_of}
use Rattle.section.specs.declared.write.Given.{Given}
use Rattle.section.specs.Encoding.{encode_with}
use Rattle.section.specs.Writing.{header_given, header_fits, numbers_fit, length_fits}

-- 24: the section, where its kind and the buffer allow its length
unfoldable pub allowed : Kind → ℕ → List ℕ → Outcome (List ℕ)
allowed k room s = or_refuse 24 (length_fits k room (length s)) (resulted s)

-- ---- an EIT: the header as given, and a row of eight numbers for each event, with places in one list of bytes
unfoldable pub eit_bytes : Given → ℕ → List ℕ → List ℕ → List ℕ
eit_bytes g count rows bytes = encode_with Eit (header_given g) ((eit_of any_bytes any_bytes).enc (record { events = events_given rows bytes count 0 }))

-- the rows that are there whole, at most as many as are counted
unfoldable pub whole_rows : ℕ → List ℕ → ℕ
whole_rows count rows = pick (ltb (length rows / 8) count) (length rows / 8) count

unfoldable pub eit_written : Given → ℕ → List ℕ → List ℕ → ℕ → Outcome (List ℕ)
eit_written g count rows bytes room =
    or_refuse 23 (header_fits g & ltb count 256 & rows_fit rows (whole_rows count rows) 0)
    (or_refuse 8 (numbers_fit Eit g)
    (or_refuse 9 (eqb (length rows) (8 * count) & rows_sound rows bytes count 0)
    (allowed Eit room (eit_bytes g count rows bytes))))

-- ---- an ETT: the header as given, ETM_id, and a text as bytes, which may not be empty
unfoldable pub ett_bytes : Given → ℕ → List ℕ → List ℕ
ett_bytes g etm t = encode_with Ett (header_given g) ((ett_of any_bytes).enc (record { etm = etm; text = t }))

unfoldable pub ett_written : Given → ℕ → List ℕ → ℕ → Outcome (List ℕ)
ett_written g etm t room =
    or_refuse 23 (header_fits g & ltb etm 4294967296)
    (or_refuse 8 (numbers_fit Ett g)
    (or_refuse 9 (ltb 0 (length t) & stands (walks_all text t (length t) 0))
    (allowed Ett room (ett_bytes g etm t))))
