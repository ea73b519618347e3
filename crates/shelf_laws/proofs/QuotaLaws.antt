-- The quota of a key: the next one is told by the one before, and it stands in the records, so that the area does not count.
use Rattle.std.specs.Prelude.{Option, None, Some}
use Prim.Native.Nat.{ℕ}
use mathlib.Core.Path.{◌∙◌, ◌≡◌, refl}
use mathlib.Core.Bool.{Bool, false, true}
use mathlib.Core.List.{List}
use Rattle.logic.specs.Choices.{pick}
use Rattle.logic.specs.Loops.{◌&◌}
use Rattle.refusal.specs.Outcomes.{Outcome, refused, resulted}
use Rattle.section.specs.declared.header.Header.{Header}
use Rattle.shelf_state.specs.Records.{same_key}
use Rattle.shelf_state.specs.declared.records.Asked.{Asked}
use Rattle.shelf_state.specs.declared.records.Shelf.{Shelf}
use Rattle.shelf.specs.Views.{Call, View, asks, closes, delivers, fetches, fresh_view, hears, hears_in, judged, key_in, next_view, opens, view, view_at}
use Rattle.shelf_laws.specs.Promised.{quota_in, quota_next}
use Rattle.shelf_laws.proofs.ViewLaws.{view_elsewhere}

quota_hears : (v : Option View) (b : List ℕ) (o : Outcome Header) → quota_in (hears_in v b o) ≡ quota_in v
unfolding hears
quota_hears None b o = refl
quota_hears (Some v) b (refused n) = refl
quota_hears (Some v) b (resulted h) = refl

quota_choice : (c : Bool) (v w : Option View) (n : ℕ) → quota_in v ≡ n → quota_in (pick c v w) ≡ pick c n (quota_in w)
quota_choice true v w n e = e
quota_choice false v w n e = refl

same_both : (c : Bool) (n : ℕ) → pick c n n ≡ n
same_both true n = refl
same_both false n = refl

pub quota_next_lem : (k : Asked) (c : Call) (y : Bool) (v : Option View) → quota_in (next_view k c y v) ≡ quota_next k c y (quota_in v)
unfolding next_view quota_next
quota_next_lem k (opens o) y v = quota_choice (y & same_key k o.key) (Some (fresh_view o.quota)) v o.quota refl
quota_next_lem k (closes c) y v = quota_choice (y & same_key k c.key) None v 0 refl
quota_next_lem k (asks q) y v = refl
quota_next_lem k (fetches f) y v = refl
quota_next_lem k (delivers d) y v =
    let same : Bool = y & same_key k (key_in d.pid d.bytes) in
    quota_choice same (hears_in v d.bytes (judged d.bytes)) v (quota_in v) (quota_hears v d.bytes (judged d.bytes)) ∙ same_both same (quota_in v)

pub quota_elsewhere : (s : Shelf) (a b : List ℕ) (k : Asked) → quota_in (view s a k) ≡ quota_in (view s b k)
unfolding view_at
quota_elsewhere s a b k = view_elsewhere quota_in s a b k (λ w. refl)
