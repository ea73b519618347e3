-- `places_ok` meets its contract: the places so far are sound, and the flags say what they hold.
use mathlib.Core.Path.{◌∙◌, subst, sym}
use mathlib.Core.Bool.{false, true}
use native.Mathlib.Omega.{arith}
use borrow.Author.Count.{below_more, below_none}
use Rattle.shelf_state.proofs.FlagLaws.{Seen, flag_is, flag_small, owner_no, owner_past, owner_yes, place_free, place_owner, place_sound, place_twice, seen_free, seen_more, seen_none}
use Rattle.logic.proofs.LoopLaws.{all_fails, all_met}
use Rattle.shelf_state.proofs.rules.places_ok.Goals as goal
use Rattle.shelf_state.proofs.rules.places_ok.Goals.{else-p, then-p+else-o-s+else-not-sound_under+else-seen-k}

pub loop-i-init : goal.loop-i-init
loop-i-init c = (seen_none _ _ c.none_seen-seen.ensures.0 c.none_seen-seen.ensures.1, below_none _)

pub returns-then-o-s : goal.returns-then-o-s
returns-then-o-s c = sym (all_fails _ _ _ c.loop-i-test.true (place_owner _ _ c.if-p.true (owner_past _ _ c.from-o.ensures c.if-o-s.true)))

pub returns-then-not-sound_under : goal.returns-then-not-sound_under
returns-then-not-sound_under c = sym (all_fails _ _ _ c.loop-i-test.true (place_owner _ _ c.if-p.true (owner_no _ _ c.from-o.ensures (sym c.sound_under.ensures ∙ c.if-not-sound_under.true))))

pub bounds-seen-k : goal.bounds-seen-k
bounds-seen-k c = let f = flag_small c.args.s.now _ c.requires.1 c.requires.2 (owner_yes _ _ c.from-o.ensures c.if-o-s.false (sym c.sound_under.ensures ∙ c.if-not-sound_under.false)) in omega (arith, f.0, f.1, c.flag_of-k.ensures)

pub returns-then-seen-k : goal.returns-then-seen-k
returns-then-seen-k c = let f = flag_small c.args.s.now _ c.requires.1 c.requires.2 (owner_yes _ _ c.from-o.ensures c.if-o-s.false (sym c.sound_under.ensures ∙ c.if-not-sound_under.false)) in
    sym (all_fails _ _ _ c.loop-i-test.true (place_twice _ _ c.if-p.true (flag_is _ _ _ _ true c.loop-i.invariant.0 f c.flag_of-k.ensures c.if-seen-k.true)))

pub bounds-seen-k-then-p : goal.bounds-seen-k-then-p
bounds-seen-k-then-p c = let f = flag_small c.args.s.now _ c.requires.1 c.requires.2 (owner_yes _ _ c.from-o.ensures c.if-o-s.false (sym c.sound_under.ensures ∙ c.if-not-sound_under.false)) in omega (arith, f.0, f.1, c.flag_of-k.ensures)

pub loop-i-preserved : goal.loop-i-preserved
loop-i-preserved c = elim c.if-p.branch [
  | then-p+else-o-s+else-not-sound_under+else-seen-k u ↦ let e = owner_yes _ _ u.from-o.ensures u.if-o-s.false (sym u.sound_under.ensures ∙ u.if-not-sound_under.false) in
      let f = flag_small c.args.s.now _ c.requires.1 c.requires.2 e in (
        subst (Seen _ _) (sym u.seen-is) (seen_more _ _ _ _ c.loop-i.invariant.0 u.if-p.true f u.flag_of-k.ensures),
        below_more _ _ c.loop-i.invariant.1 (place_sound _ _ e (flag_is _ _ _ _ false c.loop-i.invariant.0 f u.flag_of-k.ensures u.if-seen-k.false)),
      )
  | else-p u ↦ (
    subst (Seen _ _) (sym u.seen-is) (seen_free _ _ _ c.loop-i.invariant.0 u.if-p.false),
    below_more _ _ c.loop-i.invariant.1 (place_free _ _ u.if-p.false),
  )
]

pub returns : goal.returns
returns c = all_met _ _ _ c.loop-i-test.false c.loop-i.invariant.1
