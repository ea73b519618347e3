-- `put_all` meets its contract: what stands from p on is what is given.
use mathlib.Core.Path.{◌≡◌, refl, sym, ◌∙◌}
use native.Mathlib.Omega.{arith}
use lib.ListN.{length}
use lib.Seq.{take-length}
use borrow.Author.Rules.{rules}
use Rattle.std.proofs.lemmas.Slice.{put_mid-paste}
use Rattle.std.proofs.lemmas.List.Edits.{sets-eq}
use Rattle.row.proofs.put_all.Goals as goal

pub returns : goal.returns
returns g c =
    let a = c.args in
    let n : length a.values ≡ g.row.N = search (rules, c.well_formed) in
    put_mid-paste a.p _ a.out.now _ a.values (length a.values) c.copy_from_slice.ensures.after (omega (arith, n)) refl
    ∙ rw (take-length a.values) (sym (sets-eq a.values a.out.now a.p (omega (arith, n))))
