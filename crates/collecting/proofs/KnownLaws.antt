-- Where the views of all keys are known, so are the answers of the calls of a stretch and the views after them.
use Rattle.std.specs.Prelude.{Option, Some}
use Prim.Native.Nat.{◌≤◌, ℕ}
use mathlib.Core.Path.{◌∙◌, ◌≡◌, ap, refl, subst, sym}
use mathlib.Core.Bool.{Bool, false, true}
use mathlib.Core.List.{List, [], ◌∷◌}
use lib.ListN.{length}
use borrow.Author.Tests.{le-leb, ne_eqb}
use Rattle.logic.specs.Choices.{pick}
use Rattle.logic.specs.Loops.{◌&◌}
use Rattle.refusal.specs.Outcomes.{refused, resulted, or_refuse}
use Rattle.section.specs.declared.header.Header.{Header}
use Rattle.shelf_state.specs.Records.{same_key}
use Rattle.shelf_state.specs.Rules.{in_range}
use Rattle.shelf_state.specs.declared.records.Asked.{Asked}
use Rattle.shelf.specs.Calls.{opened, opened_in_range, or_refuse_with}
use Rattle.shelf.specs.Steps.{Answer, State, Turn, accepted, did, gave, other, own_or14, step, step_on, reported, view_in}
use Rattle.shelf.specs.Views.{Call, View, asks, closes, current_on, delivers, delivery_says, fetches, fetching_says, hears_in, next_view, opens, status_says}
use Rattle.shelf_laws.specs.Laws.{Obeys, OneStep, refused_as}
use Rattle.shelf_laws.proofs.StepLaws.{step_law}
use Rattle.shelf_laws.proofs.ViewLaws.{viewed}
use Rattle.collecting.proofs.StretchLaws.{lent_other}
use Rattle.collecting.proofs.TurnLaws.{says_bytes, says_delivered, says_status}
use Rattle.collecting.specs.Collecting.{TableSection, deliver, fetch, recorded, status, ours}
use Rattle.collecting.specs.Samples.{answers_in, opening}

pub record Known (n : ℕ) (f : Asked → Option View) (x : State) : Type 0 where
  pub ok : Obeys x
  pub size : length x.area ≡ n
  pub views : (k : Asked) → view_in x k ≡ f k

-- the views after a section of a key is heard
abbrev pub hearing : Asked → List ℕ → Header → (Asked → Option View) → Asked → Option View
hearing k b h f j = pick (same_key j k) (hears_in (f j) b (resulted h)) (f j)

-- a call is answered so, and leads from these views to those
pub record Goes (n : ℕ) (f : Asked → Option View) (t : Turn) (r : Answer) (g : Asked → Option View) (x : State) : Type 0 where
  pub answer : (step x t).answer ≡ r
  pub known : Known n g (step x t).next

-- a call that is refused leaves every view
still : (k : Asked) (c : Call) (v : Option View) → next_view k c false v ≡ v
unfolding next_view ◌&◌
still k (opens o) v = refl
still k (closes c) v = refl
still k (asks q) v = refl
still k (fetches g) v = refl
still k (delivers d) v = refl

module _ {n : ℕ} {f : Asked → Option View} where
  pub goes : (x : State) (t : Turn) (r : Answer) (g : Asked → Option View) → Known n f x → own_or14 n t.lent ≡ true → (step x t).answer ≡ r
      → ((k : Asked) → next_view k t.call (accepted r) (f k) ≡ g k) → Goes n f t r g x
  goes x t r g i lent e h =
      let s : OneStep x t = step_law x t i.ok in
      let lent-it = subst (λ (m : ℕ). own_or14 m t.lent ≡ true) (sym i.size) lent in
      record {
        answer = e;
        known = record {
          ok = s.keeps;
          size = s.size ∙ i.size;
          views = λ k. s.views lent-it k ∙ ap (λ (y : Bool). next_view k t.call y (view_in x k)) (ap accepted e) ∙ ap (next_view k t.call (accepted r)) (i.views k) ∙ h k;
        };
      }

  -- ---- calls that leave the views
  module _ (x : State) (i : Known n f x) where
    refuses : (t : Turn) (r : Answer) → own_or14 n t.lent ≡ true → (step x t).answer ≡ r → accepted r ≡ false → Goes n f t r f x
    refuses t r lent e q = goes x t r f i lent e (λ k. ap (λ (y : Bool). next_view k t.call y (f k)) q ∙ still k t.call (f k))

    pub tells_status : (k : Asked) → Goes n f (status k) (reported (status_says (f k))) f x
    unfolding next_view
    tells_status k = goes x (status k) _ f i refl (says_status x k i.ok ∙ ap (λ (v : Option View). reported (status_says v)) (i.views k)) (λ _. refl)

    pub gives_bytes : (k : Asked) (m : ℕ) → Goes n f (fetch k m) (gave (fetching_says (f k) m)) f x
    unfolding next_view
    gives_bytes k m = goes x (fetch k m) _ f i refl (says_bytes x k i.ok m ∙ ap (λ (v : Option View). gave (fetching_says v m)) (i.views k)) (λ _. refl)

    -- a memory of another length
    pub refuses_14 : (c : Call) (l : List ℕ) → own_or14 n (other l) ≡ true → accepted (refused_as c 14) ≡ false → Goes n f (record { call = c; lent = other l }) (refused_as c 14) f x
    refuses_14 c l lent q =
        refuses (record { call = c; lent = other l }) (refused_as c 14) lent
        (lent_other x l i.ok (subst (λ (m : ℕ). own_or14 m (other l) ≡ true) (sym i.size) lent) c) q

    -- an open watch's key
    pub refuses_19 : (k : Asked) (q : ℕ) (v : View) → in_range k q ≡ true → f k ≡ Some v → Goes n f (opening k q) (did (refused 19)) f x
    unfolding step step_on opened opened_in_range or_refuse_with
    refuses_19 k q v e w = refuses (opening k q) (did (refused 19)) refl (rw (i.ok, e, viewed x.shelf x.area k v (i.views k ∙ w))) refl

    -- a delivery that is refused before a watch is asked for
    pub refuses_before : (pid m : ℕ) (b : List ℕ) → current_on pid b ≡ refused m → Goes n f (deliver pid b) (did (refused m)) f x
    unfolding delivery_says or_refuse
    refuses_before pid m b e = refuses (deliver pid b) (did (refused m)) refl (says_delivered x pid b i.ok ∙ ap did (rw e)) refl

    -- ---- a section that is sound and current
    module _ {k : Asked} {version last number : ℕ} {b : List ℕ} (s : TableSection k version last number b) (pid : k.pid ≤ 8191) where
      says : (step x (deliver k.pid b)).answer ≡ did (delivery_says (f k) (resulted s.head))
      unfolding current_on or_refuse
      says =
          says_delivered x k.pid b i.ok
          ∙ rw (s.key, i.views k, le-leb k.pid 8191 pid, s.sound, ne_eqb s.head.current 0 s.current)

      pub refuses_for : (m : ℕ) → delivery_says (f k) (resulted s.head) ≡ refused m → Goes n f (deliver k.pid b) (did (refused m)) f x
      refuses_for m e = refuses (deliver k.pid b) (did (refused m)) refl (says ∙ ap did e) refl

      pub hears_it : delivery_says (f k) (resulted s.head) ≡ resulted tt
          → Goes n f (deliver k.pid b) (did (resulted tt)) (hearing k b s.head f) x
      unfolding next_view ◌&◌
      hears_it e = goes x (deliver k.pid b) (did (resulted tt)) (hearing k b s.head f) i refl (says ∙ ap did e) (λ j. rw (s.key, s.sound))

-- ---- a stretch
pub record Answers (n : ℕ) (f : Asked → Option View) (ts : List Turn) (rs : List Answer) : Type 0 where
  pub given : (x : State) → Known n f x → answers_in (recorded ours x ts) ≡ rs

pub answers_end : {n : ℕ} {f : Asked → Option View} → Answers n f [] []
unfolding recorded
answers_end = record { given = λ x i. refl }

pub answers_next : {n : ℕ} {f g : Asked → Option View} {t : Turn} {r : Answer} {ts : List Turn} {rs : List Answer}
    → ((x : State) → Known n f x → Goes n f t r g x) → Answers n g ts rs → Answers n f (t ∷ ts) (r ∷ rs)
unfolding recorded
answers_next {n} {f} {g} {t} {r} {ts} {rs} h a = record {
  given = λ x i. ap (λ (z : Answer). z ∷ answers_in (recorded ours (step x t).next ts)) (h x i).answer ∙ ap (λ (l : List Answer). r ∷ l) (a.given (step x t).next (h x i).known);
}
