-- The fields of the five tables, and of their entries, are those of the record.
use Prim.Native.Nat.{ℕ, ◌-◌}
use mathlib.Core.Path.{◌≡◌, sym, ap, ◌∙◌}
use mathlib.Core.List.{List}
use lib.ListN.{length}
use Rattle.refusal.specs.Outcomes.{Outcome, refused, resulted, after}
use Rattle.refusal.proofs.OutcomeLaws.{after_result, after_refused}
use Rattle.kind.specs.declared.Kind.TheVariants.{Mgt, Tvct, Rrt, Eit, Ett}
use Rattle.kind.specs.Kinds.{limits_of, only_of}
use Rattle.mgt.specs.Fields.{defined_at}
use Rattle.mgt.specs.Values.{defined_for}
use Rattle.mgt.proofs.ThereLaws as mgts
use Rattle.channel.specs.Fields.{channel_at}
use Rattle.channel.specs.Values.{channel_for}
use Rattle.channel.proofs.ThereLaws as channels
use Rattle.tvct.proofs.ThereLaws as tvcts
use Rattle.rrt.specs.Fields.{fields_at, dimension_at, texts_at}
use Rattle.rrt.specs.Values.{dimension_for, texts_for, dimensions_end}
use Rattle.rrt.proofs.ThereLaws as rrts
use Rattle.eit.specs.Fields.{event_at}
use Rattle.eit.specs.Values.{event_for}
use Rattle.eit.proofs.ThereLaws as eits
use Rattle.ett.proofs.FieldLaws as etts
use Rattle.section.specs.Sections.{section_by}
use Rattle.section.specs.Encoding.{encode}
use Rattle.section.proofs.EncodingLaws.{encode_bytes, body_lies, body_ends, accepts}
use Rattle.entry.specs.declared.Entry.{Entry}
use Rattle.entry.specs.declared.Entry.TheVariants.{Table, Channel, Dimension, Event}
use Rattle.entry.specs.Entries.{spot_of, value_spot}
use Rattle.entry.specs.Records.{kind_of_entry, of_value}
use Rattle.entry.proofs.RecordLaws.{spot_told, rest_there, value_told_lem}
use Rattle.reading.specs.Mgts as read-mgts
use Rattle.reading.specs.Tvcts as read-tvcts
use Rattle.reading.specs.Rrts as read-rrts
use Rattle.reading.specs.Eits as read-eits
use Rattle.reading.specs.Etts as read-etts
use Rattle.section_laws.specs.Told.{mgt_told, defined_told, tvct_told, channel_told, rrt_told, dimension_told, value_told, eit_told, event_told, ett_told}
use Rattle.section_laws.specs.Accepted.{Reads}

-- what is asked of an entry of a section that the judge refuses is refused alike
pub spot_refused : (e : Entry) {A : Type 0} (answer : ℕ → Outcome A) (i : ℕ) (s : List ℕ) (n : ℕ) → section_by (only_of (kind_of_entry e)) s ≡ refused n
    → after (spot_of e s i) answer ≡ refused n
unfolding spot_of
spot_refused e answer i s n q = after_refused _ answer n (after_refused _ _ n q)

-- ---- MGT
pub mgt_reads : Reads Mgt read-mgts.fields_of mgt_told
unfolding read-mgts.fields_of read-mgts.fields_in
mgt_reads = record {
  tells = λ y o.
      after_result _ _ _ (accepts Mgt y o) ∙ after_result _ _ _ (rest_there Table y o)
      ∙ ap resulted (mgts.fields_there (encode y) (encode_bytes Mgt y o) (limits_of Mgt).body (length (encode y) - 4) y.body o.body (body_lies Mgt y o) (body_ends Mgt y o));
  refuses = λ s n q. after_refused _ _ n q;
}

pub defined_reads : (i : ℕ) → Reads Mgt (λ s. read-mgts.entry_of s i) (defined_told i)
unfolding read-mgts.entry_of
defined_reads i = record {
  tells = λ y o.
      spot_told Table y o (λ a. resulted (defined_at (encode y) a)) (λ a x. resulted (defined_for a x))
      (λ a x g l h. ap resulted (mgts.defined_there (encode y) (encode_bytes Mgt y o) a x g l)) i;
  refuses = λ s n q. spot_refused Table _ i s n q;
}

-- ---- TVCT
pub tvct_reads : Reads Tvct read-tvcts.fields_of tvct_told
unfolding read-tvcts.fields_of read-tvcts.fields_in
tvct_reads = record {
  tells = λ y o.
      after_result _ _ _ (accepts Tvct y o) ∙ after_result _ _ _ (rest_there Channel y o)
      ∙ ap resulted (tvcts.fields_there (encode y) (encode_bytes Tvct y o) (limits_of Tvct).body (length (encode y) - 4) y.body o.body (body_lies Tvct y o) (body_ends Tvct y o) y.header.extension);
  refuses = λ s n q. after_refused _ _ n q;
}

pub channel_reads : (i : ℕ) → Reads Tvct (λ s. read-tvcts.entry_of s i) (channel_told i)
unfolding read-tvcts.entry_of
channel_reads i = record {
  tells = λ y o.
      spot_told Channel y o (λ a. resulted (channel_at (encode y) a)) (λ a x. resulted (channel_for a x))
      (λ a x g l h. ap resulted (channels.channel_there (encode y) (encode_bytes Tvct y o) a x g l)) i;
  refuses = λ s n q. spot_refused Channel _ i s n q;
}

-- ---- RRT
pub rrt_reads : Reads Rrt read-rrts.fields_of rrt_told
unfolding read-rrts.fields_of read-rrts.fields_in
rrt_reads = record {
  tells = λ y o.
      let f = rrts.first_there (encode y) (encode_bytes Rrt y o) (limits_of Rrt).body (length (encode y) - 4) y.body o.body (body_lies Rrt y o) (body_ends Rrt y o) in
      let t = rrts.fields_there (encode y) (encode_bytes Rrt y o) (limits_of Rrt).body (length (encode y) - 4) y.body o.body (body_lies Rrt y o) (body_ends Rrt y o) y.header.extension in
      after_result _ _ _ (accepts Rrt y o) ∙ after_result _ _ _ (rest_there Dimension y o)
      ∙ ap (λ a. resulted (fields_at (encode y) y.header.extension (limits_of Rrt).body (dimensions_end a y.body))) (sym f) ∙ ap resulted t;
  refuses = λ s n q. after_refused _ _ n q;
}

pub dimension_reads : (i : ℕ) → Reads Rrt (λ s. read-rrts.entry_of s i) (dimension_told i)
unfolding read-rrts.entry_of
dimension_reads i = record {
  tells = λ y o.
      spot_told Dimension y o (λ d. resulted (dimension_at (encode y) d)) (λ d x. resulted (dimension_for d x))
      (λ d x g l h. ap resulted (rrts.dimension_there (encode y) (encode_bytes Rrt y o) d x g l)) i;
  refuses = λ s n q. spot_refused Dimension _ i s n q;
}

pub value_reads : (i j : ℕ) → Reads Rrt (λ s. read-rrts.value_of s i j) (value_told i j)
unfolding read-rrts.value_of
value_reads i j = record {
  tells = λ y o.
      spot_told Dimension y o (λ d. after (value_spot (encode y) d j) (λ a. resulted (texts_at (encode y) a)))
      (λ d x. of_value (λ a v. resulted (texts_for a v)) j d x)
      (λ d x g l h. value_told_lem (encode y) (encode_bytes Rrt y o) d x g l h (λ a. resulted (texts_at (encode y) a)) (λ a v. resulted (texts_for a v))
      (λ a v u m p. ap resulted (rrts.value_there (encode y) (encode_bytes Rrt y o) a v u m)) j)
      i;
  refuses = λ s n q. spot_refused Dimension _ i s n q;
}

-- ---- EIT
pub eit_reads_lem : Reads Eit read-eits.fields_of eit_told
unfolding read-eits.fields_of
eit_reads_lem = record {
  tells = λ y o.
      after_result _ _ _ (accepts Eit y o)
      ∙ ap resulted (eits.fields_there (encode y) (encode_bytes Eit y o) (limits_of Eit).body (length (encode y) - 4) y.body o.body (body_lies Eit y o) (body_ends Eit y o) y.header.extension);
  refuses = λ s n q. after_refused _ _ n q;
}

pub event_reads : (i : ℕ) → Reads Eit (λ s. read-eits.entry_of s i) (event_told i)
unfolding read-eits.entry_of
event_reads i = record {
  tells = λ y o.
      spot_told Event y o (λ a. resulted (event_at (encode y) a)) (λ a e. resulted (event_for a e))
      (λ a e g l h. ap resulted (eits.event_there (encode y) (encode_bytes Eit y o) a e g l)) i;
  refuses = λ s n q. spot_refused Event _ i s n q;
}

-- ---- ETT
pub ett_reads_lem : Reads Ett read-etts.fields_of ett_told
unfolding read-etts.fields_of
ett_reads_lem = record {
  tells = λ y o.
      after_result _ _ _ (accepts Ett y o)
      ∙ ap resulted (etts.fields_there (encode y) (limits_of Ett).body (length (encode y) - 4) y.body o.body (body_lies Ett y o) (body_ends Ett y o) y.header.extension);
  refuses = λ s n q. after_refused _ _ n q;
}
