-- The tests by which a call finds what it changed: equal where they say so, and everything equals itself.
use mathlib.Core.Path.{◌≡◌, refl, ap}
use mathlib.Core.Bool.{Bool, true, false}
use borrow.Author.Tests.{eq-eqb, eqb-true}
use lib.Dec.{eqb}
use Rattle.logic.proofs.LoopLaws.{and_left, and_right, from_equal}
use Rattle.logic.specs.Loops.{◌&◌}
use Rattle.logic.specs.Inner.{equal_bool}
use Rattle.shelf_state.proofs.RecordLaws.{key_is, key_self}
use Rattle.shelf_state.specs.Records.{asked, same_key}
use Rattle.shelf_state.specs.Searches.{key_of}
use Rattle.shelf_state.specs.declared.records.Edition.{Edition}
use Rattle.shelf_state.specs.declared.records.Key.{Key}
use Rattle.shelf_state.specs.declared.records.Place.{Place}
use Rattle.shelf_state.specs.declared.records.Watch.{Watch}
use Rattle.lent_memory.specs.Changes.{equal_edition, equal_place, equal_watch}

bool_self : (b : Bool) → equal_bool b b ≡ true
unfolding equal_bool
bool_self true = refl
bool_self false = refl

edition_self : (e : Edition) → equal_edition e e ≡ true
unfolding equal_edition ◌&◌
edition_self e = rw (bool_self e.heard, eq-eqb e.version e.version refl, eq-eqb e.last e.last refl)

pub watch_self : (w : Watch) → equal_watch w w ≡ true
unfolding equal_watch ◌&◌
watch_self w = rw (bool_self w.live, key_self (asked w.key), eq-eqb w.quota w.quota refl) (edition_self w.edition)

pub place_self : (p : Place) → equal_place p p ≡ true
unfolding equal_place ◌&◌
place_self p = rw (bool_self p.used, eq-eqb p.watch p.watch refl, eq-eqb p.number p.number refl, eq-eqb p.length p.length refl)

from_key : (a b : Key) → same_key (asked a) (asked b) ≡ true → a ≡ b
from_key a b e = ap key_of (key_is (asked a) (asked b) e)

from_edition : (a b : Edition) → equal_edition a b ≡ true → a ≡ b
unfolding equal_edition
from_edition a b e =
    let r = and_right (equal_bool a.heard b.heard) _ e in
    let e0 = from_equal a.heard b.heard (and_left (equal_bool a.heard b.heard) _ e) in
    let e1 = eqb-true a.version b.version (and_left (eqb a.version b.version) (eqb a.last b.last) r) in
    let e2 = eqb-true a.last b.last (and_right (eqb a.version b.version) (eqb a.last b.last) r) in
    λ z. record { heard = e0 z; version = e1 z; last = e2 z }

pub from_watch : (a b : Watch) → equal_watch a b ≡ true → a ≡ b
unfolding equal_watch
from_watch a b e =
    let r1 = and_right (equal_bool a.live b.live) _ e in
    let r2 = and_right (same_key (asked a.key) (asked b.key)) _ r1 in
    let e0 = from_equal a.live b.live (and_left (equal_bool a.live b.live) _ e) in
    let e1 = from_key a.key b.key (and_left (same_key (asked a.key) (asked b.key)) _ r1) in
    let e2 = eqb-true a.quota b.quota (and_left (eqb a.quota b.quota) _ r2) in
    let e3 = from_edition a.edition b.edition (and_right (eqb a.quota b.quota) _ r2) in
    λ z. record { live = e0 z; key = e1 z; quota = e2 z; edition = e3 z }

pub from_place : (a b : Place) → equal_place a b ≡ true → a ≡ b
unfolding equal_place
from_place a b e =
    let r1 = and_right (equal_bool a.used b.used) _ e in
    let r2 = and_right (eqb a.watch b.watch) _ r1 in
    let e0 = from_equal a.used b.used (and_left (equal_bool a.used b.used) _ e) in
    let e1 = eqb-true a.watch b.watch (and_left (eqb a.watch b.watch) _ r1) in
    let e2 = eqb-true a.number b.number (and_left (eqb a.number b.number) (eqb a.length b.length) r2) in
    let e3 = eqb-true a.length b.length (and_right (eqb a.number b.number) (eqb a.length b.length) r2) in
    λ z. record { used = e0 z; watch = e1 z; number = e2 z; length = e3 z }
