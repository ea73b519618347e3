-- The tests that the two writers share: what is told where they hold, and that they hold of a well-formed record.
use Prim.Native.Nat.{ℕ, ◌+◌, ◌≤◌, ◌<◌}
use mathlib.Core.Path.{◌≡◌, refl, sym}
use mathlib.Core.Bool.{Bool, true}
use mathlib.Core.List.{List}
use native.Mathlib.Omega.{arith}
use lib.ListN.{length}
use borrow.Author.Tests.{leb-true, le-leb, lt-ltb}
use Rattle.logic.proofs.LoopLaws.{and_left, and_right, and_i}
use Rattle.refusal.specs.Outcomes.{Outcome, resulted, or_refuse}
use Rattle.refusal.proofs.OutcomeLaws.{same_result, went_on}
use Rattle.kind.specs.declared.Kind.{Kind}
use Rattle.kind.specs.Kinds.{limits_of}
use Rattle.section.specs.declared.write.Given.{Given}
use Rattle.section.specs.Bodies.{body_format}
use Rattle.section.specs.Encoding.{Section, length_with, encode, WellFormed, OnesHeader, header_of}
use Rattle.section.specs.Writing.{header_given, header_fits, numbers_fit, length_fits}
use Rattle.section.proofs.EncodingLaws.{encoded_size}
use Rattle.section.proofs.KindLaws.{known}
use Rattle.section.proofs.WritingLaws.{header_room}
use Rattle.writing.specs.Written.{allowed}
use Rattle.writing_laws.specs.RoundTrips.{header_read, given_of}

-- ---- what passes a test is not refused
pub passes : {A : Type 0} (n : ℕ) (t : Bool) (o x : Outcome A) → t ≡ true → o ≡ x → or_refuse n t o ≡ x
unfolding or_refuse
passes n t o x e f = rw e f

-- ---- the length
pub fitted : (k : Kind) (room : ℕ) (x s : List ℕ) → allowed k room x ≡ resulted s
    → (s ≡ x) × ((length x ≤ (limits_of k).largest + 3) × (length x ≤ room))
unfolding allowed length_fits
fitted k room x s e =
    let p = went_on 24 _ _ s e in
    (sym (same_result x s p.1), (leb-true _ _ (and_left _ _ p.0), leb-true _ _ (and_right _ _ p.0)))

pub fits : (k : Kind) (room : ℕ) (x : List ℕ) → length x ≤ (limits_of k).largest + 3 → length x ≤ room → allowed k room x ≡ resulted x
unfolding allowed length_fits
fits k room x h m = passes 24 _ _ (resulted x) (and_i _ _ (le-leb _ _ h) (le-leb _ _ m)) refl

-- ---- the header
-- a record with the header as given
abbrev pub given : (k : Kind) → Given → (body_format k).Val → Section k
given k g b = record { header = header_given g; body = b }

module _ (k : Kind) (g : Given) (b : (body_format k).Val) where
  pub well_formed : header_fits g ≡ true → numbers_fit k g ≡ true → (limits_of k).smallest ≤ length_with (length ((body_format k).enc b))
      → length (encode (given k g b)) ≤ (limits_of k).largest + 3 → (body_format k).Formed (record {}) b → WellFormed k (given k g b)
  unfolding numbers_fit
  well_formed e f small large o =
      let r = header_room g e in
      record {
        r1 = omega arith;
        extension = r.extension;
        r2 = omega arith;
        version = r.version;
        current = r.current;
        ordered = leb-true _ _ (and_left _ _ f);
        last = leb-true _ _ (and_right _ _ f);
        smallest = small;
        largest = omega (arith, encoded_size k (header_given g) ((body_format k).enc b));
        body = o;
      }

  pub header_passes : WellFormed k (given k g b) → header_fits g ≡ true
  unfolding header_fits
  header_passes o =
      let last : g.last < 256 = omega (arith, o.last, (known k).last) in
      let number : g.number < 256 = omega (arith, o.ordered) in
      and_i _ _ (lt-ltb _ _ o.extension) (and_i _ _ (lt-ltb _ _ o.version) (and_i _ _ (lt-ltb _ _ o.current)
      (and_i _ _ (lt-ltb _ _ number) (lt-ltb _ _ last))))

  pub numbers_pass : WellFormed k (given k g b) → numbers_fit k g ≡ true
  unfolding numbers_fit
  numbers_pass o = and_i _ _ (le-leb _ _ o.ordered) (le-leb _ _ o.last)

  pub largest_holds : WellFormed k (given k g b) → length (encode (given k g b)) ≤ (limits_of k).largest + 3
  largest_holds o = let n = o.largest in omega (arith, encoded_size k (header_given g) ((body_format k).enc b))

-- a record whose header is as given
pub as_given : (k : Kind) (g : Given) (y : Section k) → y.header ≡ header_given g → y ≡ given k g y.body
as_given k g y e = λ i. record { header = e i; body = y.body }

-- the header that is read of it, and what is given to write that one again
pub header_read_lem : (k : Kind) (g : Given) (y : Section k) → y.header ≡ header_given g → header_of y ≡ header_read k g
header_read_lem k g y e = λ i. record {
  kind = k;
  extension = (e i).extension;
  version = (e i).version;
  current = (e i).current;
  number = (e i).number;
  last = (e i).last;
}

pub header_back : (k : Kind) (y : Section k) → OnesHeader y → y.header ≡ header_given (given_of (header_of y))
header_back k y o =
    let h = y.header in
    λ i. record {
      r1 = o.0 i;
      extension = h.extension;
      r2 = o.1 i;
      version = h.version;
      current = h.current;
      number = h.number;
      last = h.last;
    }
