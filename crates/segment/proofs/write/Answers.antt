-- `segment::write` meets its contract.
use mathlib.Core.Path.{sym, ap, ◌∙◌}
use lib.Seq.{sets}
use Rattle.trees.specs.Which.{table_of}
use Rattle.annex_c.specs.Tree.{walked}
use Rattle.segment.specs.Segment.{segment_text}
use Rattle.segment.proofs.TextLaws.{written_keeps, written_units}
use Rattle.segment.proofs.WholeLaws.{whole_units, whole_refused, whole_stored}
use Rattle.segment.proofs.write.Goals as goal

pub copy-requires : goal.copy-requires
copy-requires c =
    (whole_stored c.requires
    c.coded-r.ensures c.if-r-lt4096.true).0

pub returns-then-r-lt4096 : goal.returns-then-r-lt4096
returns-then-r-lt4096 c =
    let a = c.args in
    let q = c.coded-r in
    let short = c.requires in
    let few = c.if-r-lt4096.true in
    let j = whole_units short q.ensures few in
    let u = (whole_stored short q.ensures few).1 in record {
      judges = j;
      writes = c.copy.ensures ∙ ap (sets a.out.now a.n) u ∙ sym
          (written_units a.out.now a.n q.result (segment_text (walked (table_of a.titles)) a.s.now) (sym j));
    }

pub returns : goal.returns
returns c =
    let a = c.args in
    let q = c.coded-r in
    let j = whole_refused c.requires q.ensures c.if-r-lt4096.false in
    record { judges = j; writes = sym (written_keeps a.out.now a.n (segment_text (walked (table_of a.titles)) a.s.now) 11 (sym j)) }
