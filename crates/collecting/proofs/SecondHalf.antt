-- The third demand, second half: what a watch answers is told by the record of calls and answers alone.
use Rattle.std.specs.Prelude.{Option, None, Some}
use Prim.Native.Nat.{◌+◌, ◌<◌, ℕ}
use mathlib.Core.Path.{◌∙◌, ◌≡◌, ap, refl, subst, sym}
use mathlib.Core.Bool.{Bool, false, true}
use mathlib.Core.List.{List, [], ◌∷◌}
use native.Mathlib.Omega.{arith}
use lib.Dec.{eqb}
use lib.ListN.{length}
use Rattle.logic.specs.Choices.{pick}
use Rattle.logic.specs.Loops.{◌&◌, all, count}
use Rattle.logic.proofs.LoopLaws.{all_at}
use Rattle.refusal.specs.Outcomes.{Outcome, refused, resulted}
use Rattle.section.specs.declared.header.Header.{Header}
use Rattle.shelf_state.specs.Records.{same_key}
use Rattle.shelf_state.specs.declared.records.Asked.{Asked}
use Rattle.shelf_state.specs.declared.records.Edition.{Edition}
use Rattle.shelf.specs.Steps.{State, Turn, accepted, gave, step, reported, view_in}
use Rattle.shelf.specs.Views.{Call, Kept, View, asks, bytes_or22, closes, held_or_complete, delivers, edition_of, fetches, fetching_says, fresh_view, hears, hears_in, held_in, is_some, judged, key_in, next_view, opens, put, same_edition, status_of, status_says, complete, held, unheard}
use Rattle.shelf_laws.specs.Laws.{Obeys, OneStep}
use Rattle.shelf_laws.proofs.StepLaws.{step_law}
use Rattle.shelf_laws.proofs.ViewLaws.{unheard_empty_lem}
use Rattle.collecting.proofs.TurnLaws.{count_says, empty_now, own_next, says_bytes, says_status}
use Rattle.collecting.specs.Collecting.{FromEmpty, Heard, Own, ToldBy, state_after, bytes_told, continues, history, history_next, heard_with, newest, newest_or22, occurs, one_more, recorded, run, status_told, ours}
use Rattle.collecting.specs.More.{CompleteOnlyThen, EachAccepted, SecondHalf, nothing_yet}

-- ---- a view that the sections heard tell
abbrev EditionIs : List Heard → Edition → Type 0
EditionIs [] e = e.heard ≡ false
EditionIs (d ∷ ds) e = e ≡ edition_of d.head

abbrev kept_as : Option (List ℕ) → Option Kept
kept_as None = None
kept_as (Some b) = Some (record { bytes = b })

record Tells (ds : List Heard) (v : View) : Type 0 where
  edition_is : EditionIs ds v.edition
  kept_is : (m : ℕ) → v.kept m ≡ kept_as (newest m (run ds))

abbrev Told : Option (List Heard) → Option View → Type 0
Told None None = Unit {0}
Told None (Some v) = ⊥
Told (Some ds) None = ⊥
Told (Some ds) (Some v) = Tells ds v

-- ---- a section is heard
same_run : (e : Edition) (h : Header) (ds : List Heard) → EditionIs ds e → same_edition e h ≡ continues h ds
unfolding same_edition ◌&◌
same_run e h [] i = ap (λ (c : Bool). c & eqb e.version h.version & eqb e.last h.last) i
same_run e h (d ∷ ds) i = ap (λ (c : Edition). same_edition c h) i

hears_tells : (v : View) (h : Header) (b : List ℕ) (ds : List Heard) → Tells ds v → Tells (record { head = h; bytes = b } ∷ ds) (hears v h b)
unfolding hears put run newest
hears_tells v h b ds t = record {
  edition_is = refl;
  kept_is = λ m. rw (same_run v.edition h ds t.edition_is) (by m (eqb m h.number) (continues h ds));
}
  where
    by : (m : ℕ) (n c : Bool) → pick n (Some (record { bytes = b })) (pick c v.kept (λ _. None) m) ≡ kept_as (pick n (Some b) (newest m (pick c (run ds) [])))
    by m true c = refl
    by m false true = t.kept_is m
    by m false false = refl

with_told : (hs : Option (List Heard)) (v : Option View) (b : List ℕ) (o : Outcome Header) → Told hs v → Told (heard_with hs b o) (hears_in v b o)
with_told None None b o t = t
with_told None (Some v) b o t = elim t [ ]
with_told (Some ds) None b o t = elim t [ ]
with_told (Some ds) (Some v) b (refused n) t = t
with_told (Some ds) (Some v) b (resulted h) t = hears_tells v h b ds t

-- ---- any call
told_choice : (c : Bool) (hs is : Option (List Heard)) (v w : Option View) → Told hs v → Told is w → Told (pick c hs is) (pick c v w)
told_choice true hs is v w s t = s
told_choice false hs is v w s t = t

none_tells : (v : View) → v.edition.heard ≡ false → ((m : ℕ) → v.kept m ≡ None) → Tells [] v
unfolding run newest
none_tells v e f = record { edition_is = e; kept_is = f }

next_told : (k : Asked) (c : Call) (y : Bool) (hs : Option (List Heard)) (v : Option View) → Told hs v → Told (history_next k c y hs) (next_view k c y v)
unfolding history_next next_view
next_told k (opens o) y hs v t =
    told_choice (y & same_key k o.key) (Some []) hs (Some (fresh_view o.quota)) v (none_tells (fresh_view o.quota) refl (λ m. refl)) t
next_told k (closes c) y hs v t = told_choice (y & same_key k c.key) None hs None v tt t
next_told k (asks q) y hs v t = t
next_told k (fetches f) y hs v t = t
next_told k (delivers d) y hs v t =
    told_choice (y & same_key k (key_in d.pid d.bytes)) (heard_with hs d.bytes (judged d.bytes)) hs (hears_in v d.bytes (judged d.bytes)) v
    (with_told hs v d.bytes (judged d.bytes) t) t

-- ---- the answers
some_as : (z : Option (List ℕ)) → is_some (kept_as z) ≡ is_some z
some_as None = refl
some_as (Some b) = refl

bytes_as : (z : Option (List ℕ)) → bytes_or22 (kept_as z) ≡ newest_or22 z
bytes_as None = refl
bytes_as (Some b) = refl

status_told_lem : (hs : Option (List Heard)) (v : Option View) → Told hs v → status_says v ≡ status_told hs
unfolding status_of
status_told_lem None None t = refl
status_told_lem None (Some v) t = elim t [ ]
status_told_lem (Some []) None t = elim t [ ]
status_told_lem (Some (d ∷ ds)) None t = elim t [ ]
status_told_lem (Some []) (Some v) t = ap (λ (c : Bool). resulted (pick c (held_or_complete (held_in v) (v.edition.last + 1)) unheard)) t.edition_is
status_told_lem (Some (d ∷ ds)) (Some v) t =
    let n : ℕ = d.head.last + 1 in
    ap (λ (e : Edition). resulted (status_of e (count (e.last + 1) (λ m. is_some (v.kept m))))) t.edition_is
    ∙ ap (λ (p : ℕ → Bool). resulted (held_or_complete (count n p) n)) (λ i m. (ap is_some (t.kept_is m) ∙ some_as (newest m (run (d ∷ ds)))) i)
    ∙ ap resulted (count_says n (occurs (run (d ∷ ds))))

bytes_told_lem : (hs : Option (List Heard)) (v : Option View) (m : ℕ) → Told hs v → fetching_says v m ≡ bytes_told hs m
bytes_told_lem None None m t = refl
bytes_told_lem None (Some v) m t = elim t [ ]
bytes_told_lem (Some ds) None m t = elim t [ ]
bytes_told_lem (Some ds) (Some v) m t = ap bytes_or22 (t.kept_is m) ∙ bytes_as (newest m (run ds))

-- ---- a stretch, from any state that is told
told_after : (x : State) (k : Asked) (ts : List Turn) (hs : Option (List Heard)) → Obeys x → Own (length x.area) ts → Told hs (view_in x k)
    → ToldBy ours (state_after ours x ts) k (history k hs (recorded ours x ts))
unfolding state_after history recorded
told_after x k [] hs ok own t = record {
  says = says_status x k ok ∙ ap reported (status_told_lem hs (view_in x k) t);
  gives = λ m. says_bytes x k ok m ∙ ap gave (bytes_told_lem hs (view_in x k) m t);
}
told_after x k (u ∷ ts) hs ok (one_more lent own) t =
    let s : OneStep x u = step_law x u ok in
    let y : Bool = accepted (step x u).answer in
    told_after (step x u).next k ts (history_next k u.call y hs) s.keeps (own_next s own)
    (subst (Told (history_next k u.call y hs)) (sym (s.views lent k)) (next_told k u.call y hs (view_in x k) t))

pub second_half : SecondHalf ours
second_half x k ts ok silent own = told_after x k ts (nothing_yet (view_in x k)) ok own (start (view_in x k) refl)
  where
    start : (v : Option View) → view_in x k ≡ v → Told (nothing_yet v) v
    start None e = tt
    start (Some v) e = none_tells v (silent k v e) (unheard_empty_lem x k v ok e (silent k v e))

pub from_empty : FromEmpty ours
from_empty x k ts e own =
    let m = empty_now x e in
    told_after x k ts None m.rules own (subst (Told None) (sym (m.no_view k)) tt)

-- ---- so a watch is called complete only when every section of its edition was accepted since that edition began
pub complete_only : CompleteOnlyThen
complete_only B h x k ts n ok silent own e = go (history k (nothing_yet (view_in (B.means x) k)) (recorded B x ts)) (sym (h x k ts ok silent own).says ∙ e)
  where
    by : (c : Bool) (ds : List Heard) (N : ℕ) → all N (occurs ds) ≡ c → reported (resulted (pick c (complete N) (held (count N (occurs ds)) N))) ≡ reported (resulted (complete n))
        → (n ≡ N) × ((m : ℕ) → m < n → occurs ds m ≡ true)
    by true ds N a q = let same : n ≡ N = cc in (same, λ m l. all_at (occurs ds) N a m (omega (arith, same, l)))
    by false ds N a q = let z : ◌≡◌ {A = ℕ} 0 1 = cc in absurd (omega (arith, z))

    go : (hs : Option (List Heard)) → reported (status_told hs) ≡ reported (resulted (complete n)) → EachAccepted n hs
    go None q = let z : ◌≡◌ {A = ℕ} 0 1 = cc in absurd (omega (arith, z))
    go (Some []) q = let z : ◌≡◌ {A = ℕ} 0 1 = cc in absurd (omega (arith, z))
    go (Some (d ∷ ds)) q = by (all (d.head.last + 1) (occurs (run (d ∷ ds)))) (run (d ∷ ds)) (d.head.last + 1) refl q
