-- `segment::coded` and `segment::raw` meet their contracts, as one cycle of calls.
use mathlib.Core.Path.{refl}
use Rattle.trees.specs.Which.{table_of}
use Rattle.annex_c.specs.Tree.{walked}
use Rattle.segment.proofs.PairLaws.{found_early, found_symbol, coded_early, coded_ended, coded_raw, coded_unit, raw_early, raw_broken, raw_unit}
use Rattle.segment.proofs.+coded_raw.Goals as goal

pub coded-returns-in_default : goal.coded-returns-in_default
coded-returns-in_default t c =
    let a = c.args in
    coded_early (found_early (walked (table_of a.titles)) a.s.now.now a.at a.prior c.symbol_at.ensures c.in_default.is) c.cut.ensures

pub coded-returns-then-u-eq0 : goal.coded-returns-then-u-eq0
coded-returns-then-u-eq0 t c =
    let a = c.args in
    coded_ended (found_symbol (walked (table_of a.titles)) a.s.now.now a.at a.prior c.symbol_at.ensures c.in-Some.is) c.if-u-eq0.true
    c.ended.ensures

pub coded-returns-then-u-eq27 : goal.coded-returns-then-u-eq27
coded-returns-then-u-eq27 t c =
    let a = c.args in
    coded_raw (found_symbol (walked (table_of a.titles)) a.s.now.now a.at a.prior c.symbol_at.ensures c.in-Some.is) c.if-u-eq27.true
    c.raw.ensures

pub coded-returns : goal.coded-returns
coded-returns t c =
    let a = c.args in
    coded_unit (found_symbol (walked (table_of a.titles)) a.s.now.now a.at a.prior c.symbol_at.ensures c.in-Some.is) c.if-u-eq0.false
    c.if-u-eq27.false c.from.ensures c.coded.ensures

pub raw-returns-then-s-at : goal.raw-returns-then-s-at
raw-returns-then-s-at t c = raw_early c.if-s-at.true c.cut.ensures

pub raw-returns-then-c-gt127 : goal.raw-returns-then-c-gt127
raw-returns-then-c-gt127 t c = raw_broken c.if-s-at.false c.eight_at-c.ensures c.if-c-gt127.true refl

pub raw-returns : goal.raw-returns
raw-returns t c = raw_unit c.if-s-at.false c.eight_at-c.ensures c.if-c-gt127.false c.from.ensures c.coded.ensures
