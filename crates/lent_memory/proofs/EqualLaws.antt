-- What a derived `==` of watches and of places says is what the definitions say.
use mathlib.Core.Path.{◌≡◌, refl}
use mathlib.Core.Bool.{Bool, beq, false, true, ◌&&◌}
use lib.Dec.{eqb}
use Rattle.logic.specs.Inner.{equal_bool}
use Rattle.logic.proofs.TestLaws.{and_is}
use Rattle.shelf_state.specs.Records.{same_key}
use Rattle.shelf_state.specs.declared.records.Edition.{Edition}
use Rattle.shelf_state.specs.declared.records.Key.{Key}
use Rattle.shelf_state.specs.declared.records.Place.{Place}
use Rattle.shelf_state.specs.declared.records.Watch.{Watch}
use Rattle.lent_memory.specs.Changes.{equal_edition, equal_place, equal_watch}

bool_is : (a b : Bool) → beq a b ≡ equal_bool a b
unfolding equal_bool
bool_is true true = refl
bool_is true false = refl
bool_is false true = refl
bool_is false false = refl

abbrev keys : Key → Key → Bool
keys a b = eqb a.pid b.pid && (eqb a.table_id b.table_id && eqb a.extension b.extension)

abbrev editions : Edition → Edition → Bool
editions a b = beq a.heard b.heard && (eqb a.version b.version && eqb a.last b.last)

abbrev pub watches : Watch → Watch → Bool
watches a b = beq a.live b.live && (keys a.key b.key && (eqb a.quota b.quota && editions a.edition b.edition))

abbrev pub places : Place → Place → Bool
places a b = beq a.used b.used && (eqb a.watch b.watch && (eqb a.number b.number && eqb a.length b.length))

pub watch_is : (a b : Watch) → watches a b ≡ equal_watch a b
unfolding equal_watch equal_edition same_key
watch_is a b = simp (and_is, bool_is)

pub place_is : (a b : Place) → places a b ≡ equal_place a b
unfolding equal_place
place_is a b = simp (and_is, bool_is)
