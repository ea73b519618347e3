-- Views: of the watch that a key finds, of a shelf in which nothing of the key has changed, and what the rules say of them.
use Rattle.std.specs.Prelude.{Option, None, Some}
use Prim.Native.Nat.{◌<◌, ◌≤◌, ℕ}
use mathlib.Core.Path.{◌∙◌, ◌≡◌, ap, refl, subst, sym}
use mathlib.Core.Bool.{Bool, false, true}
use mathlib.Core.List.{List}
use mathlib.Core.Logic.{⊎_elim}
use native.Mathlib.Omega.{arith}
use lib.ListN.{length}
use borrow.Author.Tests.{ltb-true}
use Rattle.logic.specs.Choices.{pick}
use Rattle.logic.specs.Loops.{first}
use Rattle.logic.proofs.LoopLaws.{any_first, any_none, any_yes, both, first_at, first_cong, first_has, first_split, isnt, none_at, true_false}
use Rattle.shelf_state.specs.Records.{holds, holds_for, is_of, place_at, watch_at}
use Rattle.shelf_state.specs.Searches.{is_held, place_of, watch_of, watched}
use Rattle.shelf_state.specs.declared.records.Asked.{Asked}
use Rattle.shelf_state.specs.declared.records.Shelf.{Shelf}
use Rattle.shelf_state.proofs.RecordLaws.{for_i, holds_parts, is_of_key, is_of_live}
use Rattle.shelf_state.proofs.RuleLaws.{Owned, Rules, in_range_lem, rules, unheard_holds}
use Rattle.shelf.specs.Steps.{State, view_in}
use Rattle.shelf.specs.Views.{Kept, View, at_first, bytes_at, is_some, kept_at, view, view_at}
use Rattle.shelf_laws.specs.Laws.{Obeys}

-- ---- what stands at the first
module _ {A : Type 0} (n : ℕ) (f : ℕ → Bool) (g : ℕ → A) where
  pub at_none : ((k : ℕ) → k < n → f k ≡ false) → at_first n f g ≡ None
  unfolding at_first
  at_none h = ap (λ (b : Bool). pick b (Some (g (first n f))) None) (any_none f n h)

  pub at_found : first n f < n → at_first n f g ≡ Some (g (first n f))
  unfolding at_first
  at_found l = ap (λ (b : Bool). pick b (Some (g (first n f))) None) (any_yes f n refl l)

  -- the only one
  pub at_only : (k : ℕ) → k < n → f k ≡ true → ((j : ℕ) → j < k → f j ≡ false) → at_first n f g ≡ Some (g k)
  at_only k l e h =
      let q : first n f ≡ k = first_at f n k l h e in
      at_found (omega (arith, q, l)) ∙ ap (λ (i : ℕ). Some (g i)) q

-- only the values below the bound count
at_cong : {A : Type 0} (n : ℕ) (f f' : ℕ → Bool) (g g' : ℕ → A) → ((k : ℕ) → k < n → f k ≡ f' k) → ((k : ℕ) → k < n → f' k ≡ true → g k ≡ g' k)
    → at_first n f g ≡ at_first n f' g'
at_cong n f f' g g' e h = ⊎_elim
    (λ w. at_found n f g (omega (arith, same, w.0)) ∙ ap Some (ap g same ∙ h (first n f') w.0 w.1) ∙ sym (at_found n f' g' w.0))
    (λ w. at_none n f g (λ k l. e k l ∙ w.1 k l) ∙ sym (at_none n f' g' w.1))
    (first_split f' n)
  where
    same : first n f ≡ first n f'
    same = first_cong n f f' e

-- ---- what is kept
abbrev kept_of : Shelf → List ℕ → ℕ → Kept
kept_of s area i = record { bytes = bytes_at area i (place_at s i).length }

pub kept_same : (s t : Shelf) (a b : List ℕ) (v m : ℕ) → t.count ≡ s.count
    → ((i : ℕ) → i < s.count → holds (place_at t i) v m ≡ holds (place_at s i) v m)
    → ((i : ℕ) → i < s.count → holds (place_at s i) v m ≡ true → bytes_at b i (place_at t i).length ≡ bytes_at a i (place_at s i).length)
    → kept_at t b v m ≡ kept_at s a v m
unfolding kept_at
kept_same s t a b v m c e f =
    ap (λ (n : ℕ). at_first n (λ i. holds (place_at t i) v m) (kept_of t b)) c
    ∙ at_cong s.count (λ i. holds (place_at t i) v m) (λ i. holds (place_at s i) v m) (kept_of t b) (kept_of s a) e (λ i l h. ap (λ (x : List ℕ). record { bytes = x }) (f i l h))

-- a watch that no place holds for keeps nothing
pub kept_none : (s : Shelf) (area : List ℕ) (w m : ℕ) → ((i : ℕ) → i < s.count → holds_for (place_at s i) w ≡ false) → kept_at s area w m ≡ None
unfolding kept_at
kept_none s area w m n = at_none s.count (λ i. holds (place_at s i) w m) (kept_of s area)
    (λ i l. isnt (holds (place_at s i) w m) (λ e. let y = holds_parts (place_at s i) w m e in true_false (holds_for (place_at s i) w) (for_i (place_at s i) w y.0 y.1) (n i l)))

-- what is kept under a number is there or not
pub kept_held : (s : Shelf) (area : List ℕ) (w m : ℕ) → is_some (kept_at s area w m) ≡ is_held s w m
unfolding kept_at at_first
kept_held s area w m = go (is_held s w m)
  where
    go : (x : Bool) → is_some (pick x (Some (kept_of s area (place_of s w m))) None) ≡ x
    go true = refl
    go false = refl

-- ---- views
pub same_view : (s t : Shelf) (a b : List ℕ) (v : ℕ) → watch_at t v ≡ watch_at s v → ((m : ℕ) → kept_at t b v m ≡ kept_at s a v m) → view_at t b v ≡ view_at s a v
unfolding view_at
same_view s t a b v e f = λ i. record { quota = (e i).quota; edition = (e i).edition; kept = λ m. f m i }

pub seen : (s : Shelf) (area : List ℕ) (a : Asked) → watched s a ≡ true → view s area a ≡ Some (view_at s area (watch_of s a))
unfolding view at_first
seen s area a e = ap (λ (b : Bool). pick b (Some (view_at s area (watch_of s a))) None) e

pub view_none : (s : Shelf) (area : List ℕ) (a : Asked) → ((i : ℕ) → i < s.records → is_of (watch_at s i) a ≡ false) → view s area a ≡ None
unfolding view
view_none s area a h = at_none s.records (λ i. is_of (watch_at s i) a) (view_at s area) h

-- where no watch's view of the key has changed, the key's has not
pub view_keep : (s t : Shelf) (a b : List ℕ) (k : Asked) → t.records ≡ s.records
    → ((i : ℕ) → i < s.records → is_of (watch_at t i) k ≡ is_of (watch_at s i) k)
    → ((v : ℕ) → v < s.records → is_of (watch_at s v) k ≡ true → view_at t b v ≡ view_at s a v)
    → view t b k ≡ view s a k
unfolding view
view_keep s t a b k r e f =
    ap (λ (n : ℕ). at_first n (λ i. is_of (watch_at t i) k) (view_at t b)) r
    ∙ at_cong s.records (λ i. is_of (watch_at t i) k) (λ i. is_of (watch_at s i) k) (view_at t b) (view_at s a) e f

-- what is told of a key's watch without its sections is told without the area
pub view_elsewhere : {A : Type 0} (f : Option View → A) (s : Shelf) (a b : List ℕ) (k : Asked) → ((w : ℕ) → f (Some (view_at s a w)) ≡ f (Some (view_at s b w)))
    → f (view s a k) ≡ f (view s b k)
unfolding view at_first
view_elsewhere f s a b k e = go (watched s k)
  where
    go : (c : Bool) → f (pick c (Some (view_at s a (watch_of s k))) None) ≡ f (pick c (Some (view_at s b (watch_of s k))) None)
    go true = e (watch_of s k)
    go false = refl

-- the one watch of a key
pub view_at_lem : (s : Shelf) (area : List ℕ) (a : Asked) (w : ℕ) → w < s.records → is_of (watch_at s w) a ≡ true → ((i : ℕ) → i < w → is_of (watch_at s i) a ≡ false)
    → view s area a ≡ Some (view_at s area w)
unfolding view
view_at_lem s area a w l e h = at_only s.records (λ i. is_of (watch_at s i) a) (view_at s area) w l e h

-- ---- what a view tells of the records
pub same_some : {A : Type 0} (x y : A) → Some x ≡ Some y → x ≡ y
same_some x y e = cc

pub never_some : {A B : Type 0} (x : A) → None ≡ Some x → B
never_some x e = let z : ◌≡◌ {A = ℕ} 0 1 = cc in absurd (omega arith)

pub found : (s : Shelf) (a : Asked) → watched s a ≡ true → watch_of s a < s.records
found s a e = ltb-true (watch_of s a) s.records (sym (any_first (λ i. is_of (watch_at s i) a) s.records) ∙ e)

pub own_watch : (s : Shelf) (a : Asked) → watch_of s a < s.records → is_of (watch_at s (watch_of s a)) a ≡ true
own_watch s a l = first_has (λ i. is_of (watch_at s i) a) s.records l

pub viewed : (s : Shelf) (area : List ℕ) (a : Asked) (v : View) → view s area a ≡ Some v → watched s a ≡ true
viewed s area a v e = ⊎_elim (λ t. t)
    (λ f. never_some v (sym (view_none s area a (none_at (λ i. is_of (watch_at s i) a) s.records f)) ∙ e))
    (both (watched s a))

-- ---- the view of a key on a shelf that obeys its rules
module _ (x : State) (k : Asked) (v : View) (ok : Obeys x) (e : view_in x k ≡ Some v) where
  abbrev s : Shelf
  s = x.shelf

  abbrev w : ℕ
  w = watch_of s k

  r : Rules s (length x.area)
  r = rules s (length x.area) ok

  is : watched s k ≡ true
  is = viewed s x.area k v e

  own : is_of (watch_at s w) k ≡ true
  own = own_watch s k (found s k is)

  pub view_is : view_at s x.area w ≡ v
  view_is = same_some (view_at s x.area w) v (sym (seen s x.area k is) ∙ e)

  -- its PID is in range
  pub pid_small : k.pid ≤ 8191
  pid_small = subst (λ (a : Asked). a.pid ≤ 8191) (is_of_key (watch_at s w) k own)
      (in_range_lem _ _ (r.range w (found s k is) (is_of_live (watch_at s w) k own))).pid_13

  -- nothing is kept above the last number
  above : (m : ℕ) → (watch_at s w).edition.last < m → kept_at s x.area w m ≡ None
  unfolding kept_at
  above m l = at_none s.count (λ i. holds (place_at s i) w m) (kept_of s x.area)
      (λ i a. isnt (holds (place_at s i) w m) (λ h.
      let p = holds_parts (place_at s i) w m h in
      let o : Owned s (place_at s i) = r.owned i a p.0 in
      let u : (place_at s i).number ≤ (watch_at s w).edition.last = rw p.1 at o.upto in
      absurd (omega (arith, u, l, p.2))))

  pub none_above : (m : ℕ) → v.edition.last < m → v.kept m ≡ None
  unfolding view_at
  none_above = subst (λ (y : View). (m : ℕ) → y.edition.last < m → y.kept m ≡ None) view_is above

  -- nor where nothing was heard
  pub unheard_empty_lem : v.edition.heard ≡ false → (m : ℕ) → v.kept m ≡ None
  unfolding view_at
  unheard_empty_lem = subst (λ (y : View). y.edition.heard ≡ false → (m : ℕ) → y.kept m ≡ None) view_is
      (λ h m. kept_none s x.area w m (λ i l. unheard_holds s (length x.area) r w i l h))
