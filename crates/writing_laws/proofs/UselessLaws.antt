-- The statements say something: a writer whose answer is always the same, be that a section or a refusal, keeps neither that it writes
-- what is given nor that it rewrites what was read, for the two sample records of its kind have different bytes.
use Prim.Native.Nat.{ℕ}
use mathlib.Core.Path.{◌≡◌, refl, sym, ap, ◌∙◌}
use mathlib.Core.List.{List}
use native.Mathlib.Omega.{arith}
use lib.ListN.{length}
use Rattle.refusal.specs.Outcomes.{Outcome, resulted}
use Rattle.refusal.proofs.OutcomeLaws.{same_result}
use Rattle.kind.specs.declared.Kind.{Kind}
use Rattle.kind.specs.declared.Kind.TheVariants.{Eit, Ett}
use Rattle.section.specs.Encoding.{Section, encode}
use Rattle.section.proofs.EncodingLaws.{accepts, once}
use Rattle.section_laws.specs.Samples.{bare, full}
use Rattle.section_laws.proofs.SampleLaws.{bare_good, full_events_ones, full_good, full_ones}
use Rattle.section_laws.proofs.TableLaws.{eit_reads_lem, ett_reads_lem}
use Rattle.writing_laws.specs.RoundTrips.{EttWithOnes, EitWithOnes, WritesEtt, RewritesEtt, WritesEit, RewritesEit}
use Rattle.writing_laws.proofs.EttLaws.{rewrites_ett}
use Rattle.writing_laws.proofs.AgainLaws.{rewrites_eit}

apart : (k : Kind) (c : Outcome (List ℕ)) → c ≡ resulted (encode (bare k)) → c ≡ resulted (encode (full k)) → ⊥
apart k c a b =
    let e = once k (bare k) (full k) (bare_good k) (full_good k) (same_result _ _ (sym a ∙ b)) in
    let n = ap (λ (y : Section k). y.header.extension) e in
    omega arith

-- ---- an ETT
rewritten_ett : (c : Outcome (List ℕ)) → RewritesEtt (λ g etm t room. c) → (y : Section Ett) → EttWithOnes y → c ≡ resulted (encode y)
rewritten_ett c r y o =
    r (encode y) _ _ (accepts Ett y o.0) (ett_reads_lem.tells y o.0) (y, (o, refl)) (length (encode y)) (omega arith)

pub no_rewrites_ett : (c : Outcome (List ℕ)) → RewritesEtt (λ g etm t room. c) → ⊥
no_rewrites_ett c r =
    apart Ett c (rewritten_ett c r (bare Ett) (bare_good Ett, (refl, refl)))
    (rewritten_ett c r (full Ett) (full_good Ett, full_ones Ett))

pub no_writes_ett : (c : Outcome (List ℕ)) → WritesEtt (λ g etm t room. c) → ⊥
no_writes_ett c w = no_rewrites_ett c (rewrites_ett _ w)

-- ---- an EIT
rewritten_eit : (c : Outcome (List ℕ)) → RewritesEit (λ g count rows bytes room. c) → (y : Section Eit) → EitWithOnes y → c ≡ resulted (encode y)
rewritten_eit c r y o = r y _ _ (accepts Eit y o.0) (eit_reads_lem.tells y o.0) o (length (encode y)) (omega arith)

pub no_rewrites_eit : (c : Outcome (List ℕ)) → RewritesEit (λ g count rows bytes room. c) → ⊥
no_rewrites_eit c r =
    apart Eit c (rewritten_eit c r (bare Eit) (bare_good Eit, ((refl, refl), record {})))
    (rewritten_eit c r (full Eit) (full_good Eit, (full_ones Eit, full_events_ones)))

pub no_writes_eit : (c : Outcome (List ℕ)) → WritesEit (λ g count rows bytes room. c) → ⊥
no_writes_eit c w = no_rewrites_eit c (rewrites_eit _ w)
