-- The same of a call that reads all five kinds.
use Rattle.std.specs.Prelude.{Option, Some, None}
use Prim.Native.Nat.{ℕ}
use mathlib.Core.Path.{◌≡◌, refl, sym, ap, ◌∙◌}
use mathlib.Core.Logic.{◌↔◌}
use mathlib.Core.List.{List}
use mathlib.Core.Bool.{Bool, true, false}
use native.Mathlib.Omega.{arith}
use lib.Dec.{leb}
use lib.ListN.{length}
use borrow.Author.Tests.{eqb-true}
use Rattle.logic.specs.Choices.{pick, if_eq}
use Rattle.logic.proofs.ChoiceLaws.{eq_yes}
use Rattle.refusal.specs.Outcomes.{resulted, after, or_refuse}
use Rattle.refusal.proofs.OutcomeLaws.{not_both}
use Rattle.refusal.proofs.TestLaws.{passed_le}
use Rattle.kind.specs.declared.Kind.{Kind}
use Rattle.kind.specs.declared.Kind.TheVariants.{Mgt, Tvct, Rrt, Eit, Ett}
use Rattle.kind.specs.Kinds.{table_id_of, only_of, kind_of}
use Rattle.format.specs.Repeats.{Bytes}
use Rattle.section.specs.declared.header.Header.{Header}
use Rattle.section.specs.Headers.{table_id, header_by, of_kind}
use Rattle.section.specs.Sections.{body_test, section_by}
use Rattle.section.specs.Encoding.{Section, encode, WellFormed, header_of}
use Rattle.section.proofs.SectionLaws.{header_passed, section_header}
use Rattle.section.proofs.AcceptedLaws.{exactly}

-- ---- the two ways to find a kind agree on its table_id
step : (t : Bool) (j k : Kind) (id : ℕ) (rest : Option Kind) → (t ≡ true → id ≡ table_id_of j) → (rest ≡ Some k → id ≡ table_id_of k)
    → pick t (Some j) rest ≡ Some k → id ≡ table_id_of k
step true j k id rest f g e = let q : j ≡ k = cc in f refl ∙ ap table_id_of q
step false j k id rest f g e = g e

nothing : (id : ℕ) (k : Kind) → None ≡ Some k → id ≡ table_id_of k
nothing id k e = let z : ◌≡◌ {A = ℕ} 0 1 = cc in absurd (omega arith)

found_id : (id : ℕ) (k : Kind) → kind_of id ≡ Some k → id ≡ table_id_of k
unfolding kind_of if_eq
found_id id k e =
    step _ Mgt k id _ (eqb-true _ _)
    (step _ Tvct k id _ (eqb-true _ _)
    (step _ Rrt k id _ (eqb-true _ _) (step _ Eit k id _ (eqb-true _ _) (step _ Ett k id None (eqb-true _ _) (nothing id k)))))
    e

id_found : (k : Kind) → kind_of (table_id_of k) ≡ Some k
unfolding kind_of if_eq
id_found Mgt = refl
id_found Tvct = refl
id_found Rrt = refl
id_found Eit = refl
id_found Ett = refl

agree : (s : List ℕ) (k : Kind) → table_id s ≡ table_id_of k → kind_of (table_id s) ≡ only_of k (table_id s)
unfolding only_of
agree s k e = ap kind_of e ∙ id_found k ∙ eq_yes (table_id s) (table_id_of k) (Some k) None e refl

by : (f g : ℕ → Option Kind) (s : List ℕ) → f (table_id s) ≡ g (table_id s) → section_by f s ≡ section_by g s
unfolding section_by header_by
by f g s e = ap (λ (x : Option Kind). after (or_refuse 1 (leb 3 (length s)) (of_kind s x)) (λ h. body_test h s)) e

some_kind : (f : Option Kind) (s : List ℕ) (h : Header) → of_kind s f ≡ resulted h → (k : Kind) × (f ≡ Some k)
unfolding of_kind
some_kind None s h e = not_both 2 h e
some_kind (Some k) s h e = (k, refl)

read_kind : (s : List ℕ) (h : Header) → header_by kind_of s ≡ resulted h → (k : Kind) × (table_id s ≡ table_id_of k)
unfolding header_by
read_kind s h e = let f = some_kind (kind_of (table_id s)) s h (passed_le 1 3 (length s) _ h e).1 in (f.0, found_id (table_id s) f.0 f.1)

-- what is accepted, of any kind
pub exactly_any : (s : List ℕ) → Bytes s → (h : Header)
    → (section_by kind_of s ≡ resulted h) ↔ ((k : Kind) × ((y : Section k) × (WellFormed k y × ((s ≡ encode y) × (h ≡ header_of y)))))
exactly_any s z h = (
  (λ q.
      let f = read_kind s h (section_header kind_of s h q) in
      (f.0, (exactly f.0 s z h).0 (sym (by kind_of (only_of f.0) s (agree s f.0 f.1)) ∙ q))),
  (λ u.
      let q = (exactly u.0 s z h).1 u.1 in
      let i = (header_passed u.0 s h (section_header (only_of u.0) s h q)).0 in
      by kind_of (only_of u.0) s (agree s u.0 i) ∙ q),
)
