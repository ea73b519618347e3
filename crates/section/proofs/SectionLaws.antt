-- What is known of a section that was judged sound.
use Prim.Native.Nat.{ℕ, ◌+◌, ◌≤◌}
use mathlib.Core.Path.{◌≡◌, refl, sym, ap, ◌∙◌}
use mathlib.Core.List.{List}
use lib.ListN.{length}
use lib.Dec.{eqb}
use mathlib.Core.Bool.{Bool, true, false}
use borrow.Author.Tests.{eqb-true}
use Rattle.logic.specs.Choices.{pick, if_eq}
use Rattle.logic.proofs.ChoiceLaws.{eq_yes}
use Rattle.bytes_at.specs.Fields.{byte_at}
use Rattle.std.specs.Prelude.{Ok, Err, Option, Some, None}
use Rattle.bytes_at.specs.Walks.{standing, Walk}
use Rattle.bytes_at.specs.Inner.{Stands}
use Rattle.refusal.specs.Outcomes.{Outcome, refused, resulted, after}
use Rattle.refusal.proofs.OutcomeLaws.{not_both, after_is}
use Rattle.refusal.proofs.TestLaws.{lets_eq, passed_le, passed_eq, passed_ne}
use Rattle.checksum.specs.Register.{register}
use Rattle.kind.specs.declared.Kind.{Kind}
use Rattle.kind.specs.Kinds.{limits_of, table_id_of, kind_of, only_of}
use Rattle.section.specs.declared.header.Header.{Header}
use Rattle.section.specs.Headers.{table_id, syntax_indicator, private_indicator, section_length, section_number, last_section_number, header_in, header_by, of_kind, length_tests, checksum_test, number_tests}
use Rattle.section.proofs.TestLaws.{long_enough, lengths_pass, numbers_pass}
use Rattle.section.specs.Sections.{body_walk, body_test, section_by}
use Rattle.section.specs.Answers.{by_walk, body_verdict, with_body, verdict_by, plainly}

-- what the header's tests have shown of a section of kind k
pub record Passed (k : Kind) (s : List ℕ) (h : Header) : Type 0 where
  pub syntax_one : syntax_indicator s ≡ 0 → ⊥
  pub private_one : private_indicator s ≡ 0 → ⊥
  pub smallest : (limits_of k).smallest ≤ section_length s
  pub largest : section_length s ≤ (limits_of k).largest
  pub size : length s ≡ section_length s + 3
  pub register_zero : register s ≡ 0
  pub byte_zero : byte_at s (limits_of k).zero_byte ≡ 0
  pub number_last : section_number s ≤ last_section_number s
  pub last_limit : last_section_number s ≤ (limits_of k).last
  pub fields : h ≡ header_in k s

same : {A : Type 0} (a b : A) → resulted a ≡ resulted b → b ≡ a
same a b e = cc

of_kind_lem : (k : Kind) (s : List ℕ) (h : Header) → of_kind s (Some k) ≡ resulted h → Passed k s h
unfolding of_kind length_tests checksum_test number_tests
of_kind_lem k s h e =
    let e1 = passed_ne 3 (syntax_indicator s) 0 _ h e in
    let e2 = passed_ne 3 (private_indicator s) 0 _ h e1.1 in
    let e3 = passed_le 4 (limits_of k).smallest (section_length s) _ h e2.1 in
    let e4 = passed_le 4 (section_length s) (limits_of k).largest _ h e3.1 in
    let e5 = passed_eq 5 (length s) (section_length s + 3) _ h e4.1 in
    let e6 = passed_eq 6 (register s) 0 _ h e5.1 in
    let e7 = passed_eq _ (byte_at s (limits_of k).zero_byte) 0 _ h e6.1 in
    let e8 = passed_le 8 (section_number s) (last_section_number s) _ h e7.1 in
    let e9 = passed_le 8 (last_section_number s) (limits_of k).last _ h e8.1 in
    record {
      syntax_one = e1.0;
      private_one = e2.0;
      smallest = e3.0;
      largest = e4.0;
      size = e5.0;
      register_zero = e6.0;
      byte_zero = e7.0;
      number_last = e8.0;
      last_limit = e9.0;
      fields = same _ _ e9.1;
    }

-- and what they show is all that they ask for
pub of_kind_passes : (k : Kind) (s : List ℕ) (h : Header) → Passed k s h → resulted h ≡ of_kind s (Some k)
unfolding of_kind checksum_test
of_kind_passes k s h p =
    let e7 = numbers_pass (limits_of k) k s p.byte_zero p.number_last p.last_limit (ap resulted p.fields) in
    lengths_pass (limits_of k) k s p.syntax_one p.private_one p.smallest p.largest p.size (lets_eq 6 (register s) 0 (number_tests (limits_of k) k s) p.register_zero e7)

only_kind : (k : Kind) (s : List ℕ) (h : Header) (t : Bool) → of_kind s (pick t (Some k) None) ≡ resulted h
    → (t ≡ true) × (of_kind s (Some k) ≡ resulted h)
unfolding of_kind
only_kind k s h true e = (refl, e)
only_kind k s h false e = not_both 2 h e

pub header_passed : (k : Kind) (s : List ℕ) (h : Header) → header_by (only_of k) s ≡ resulted h → (table_id s ≡ table_id_of k) × Passed k s h
unfolding header_by only_of if_eq
header_passed k s h e =
    let p = only_kind k s h (eqb (table_id s) (table_id_of k)) (passed_le 1 3 (length s) _ h e).1 in
    (eqb-true _ _ p.0, of_kind_lem k s h p.1)

pub header_passes : (k : Kind) (s : List ℕ) (h : Header) → 3 ≤ length s → table_id s ≡ table_id_of k → Passed k s h
    → header_by (only_of k) s ≡ resulted h
unfolding only_of
header_passes k s h l i p =
    let found = eq_yes (table_id s) (table_id_of k) (Some k) None {r = Some k} i refl in
    sym (long_enough (only_of k) s l (of_kind_passes k s h p ∙ ap (of_kind s) found))

any_kind : (f : Option Kind) (s : List ℕ) (h : Header) → of_kind s f ≡ resulted h → (k : Kind) × Passed k s h
unfolding of_kind
any_kind None s h e = not_both 2 h e
any_kind (Some k) s h e = (k, of_kind_lem k s h e)

-- the same of a call that reads every kind
pub any_header_passed : (s : List ℕ) (h : Header) → header_by kind_of s ≡ resulted h → (k : Kind) × Passed k s h
unfolding header_by
any_header_passed s h e = any_kind (kind_of (table_id s)) s h (passed_le 1 3 (length s) _ h e).1

walk_stood : (w : Walk) (g h : Header) → after (standing w) (λ e. resulted g) ≡ resulted h → Stands w × (h ≡ g)
unfolding after standing
walk_stood (Ok e) g h p = ((e, refl), same g h p)
walk_stood (Err x) g h p = not_both 9 h p

with_body_lem : (finds : ℕ → Option Kind) (s : List ℕ) (h : Header) → section_by finds s ≡ resulted h → (header_by finds s ≡ resulted h) × Stands (body_walk h.kind s)
unfolding section_by body_test
with_body_lem finds s h p =
    let u = after_is (header_by finds s) (λ g. body_test g s) h p in
    let w = walk_stood (body_walk u.0.kind s) u.0 h u.1.1 in
    (u.1.0 ∙ ap resulted (sym w.1), rw w.1 w.0)

-- a section that is sound has passed the header's tests
pub section_header : (finds : ℕ → Option Kind) (s : List ℕ) (h : Header) → section_by finds s ≡ resulted h → header_by finds s ≡ resulted h
section_header finds s h p = (with_body_lem finds s h p).0

-- and the walk through its body stands
pub section_walked : (finds : ℕ → Option Kind) (s : List ℕ) (h : Header) → section_by finds s ≡ resulted h → Stands (body_walk h.kind s)
section_walked finds s h p = (with_body_lem finds s h p).1

-- a section of kind k that is sound: its header has passed, and the walk through its body stands
pub section_sound : (k : Kind) (s : List ℕ) (h : Header) → section_by (only_of k) s ≡ resulted h → Passed k s h × Stands (body_walk k s)
section_sound k s h p =
    let w = with_body_lem (only_of k) s h p in
    let q = (header_passed k s h w.0).1 in
    (q, (w.1.0, sym (ap (λ (g : Header). body_walk g.kind s) q.fields) ∙ w.1.1))

-- ---- what inspecting finds, by its number alone, is what judging says
plain_walk : (w : Walk) (h : Header) → plainly (by_walk w h) ≡ after (standing w) (λ e. resulted h)
unfolding after standing
plain_walk (Ok e) h = refl
plain_walk (Err x) h = refl

plain_body : (o : Outcome Header) (s : List ℕ) → plainly (with_body o s) ≡ after o (λ h. body_test h s)
unfolding with_body body_verdict body_test after
plain_body (refused n) s = refl
plain_body (resulted h) s = plain_walk (body_walk h.kind s) h

pub plain_verdict : (finds : ℕ → Option Kind) (s : List ℕ) → plainly (verdict_by finds s) ≡ section_by finds s
unfolding verdict_by section_by
plain_verdict finds s = plain_body (header_by finds s) s
