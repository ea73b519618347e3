-- What a section that passes the judge has: the facts that storing it asks for.
use Prim.Native.Nat.{◌≤◌, ℕ}
use mathlib.Core.Path.{◌≡◌, ap}
use mathlib.Core.List.{List}
use native.Mathlib.Omega.{arith}
use lib.ListN.{length}
use Rattle.kind.specs.Kinds.{kind_of, limits_of}
use Rattle.kind.specs.declared.Kind.{Kind}
use Rattle.kind.specs.declared.Kind.TheVariants.{Mgt, Tvct, Rrt, Eit, Ett}
use Rattle.refusal.specs.Outcomes.{resulted}
use Rattle.section.specs.declared.header.Header.{Header}
use Rattle.section.proofs.SectionLaws.{any_header_passed, section_header}
use Rattle.shelf.specs.Inner.{Sound}
use Rattle.shelf.specs.Views.{judged}

-- no kind is longer than a place
largest : (k : Kind) → (limits_of k).largest ≤ 4093
largest Mgt = omega arith
largest Tvct = omega arith
largest Rrt = omega arith
largest Eit = omega arith
largest Ett = omega arith

pub judged_sound : (b : List ℕ) (h : Header) → judged b ≡ resulted h → Sound h (length b)
unfolding judged
judged_sound b h e =
    let p = any_header_passed b h (section_header kind_of b h e) in
    let q = p.1 in
    record {
      number_last = omega (arith, q.number_last, ap (λ (x : Header). x.number) q.fields, ap (λ (x : Header). x.last) q.fields);
      version_5 = omega (arith, ap (λ (x : Header). x.version) q.fields);
      size = omega (arith, q.largest, q.size, largest p.0);
    }
