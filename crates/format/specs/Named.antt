-- Formats whose values are the numbers of fields. Of `named fs k ..`, with fields fs that are k bytes together: a value is a number for each field; its bytes are
-- `bytes_of k (number fs v)`; it is well formed where each number fits its field. What else stands in `of_fields` is proof.
use Rattle.std.specs.Prelude.{ℕ, ◌*◌, ◌≡◌, List, length}
use Rattle.std.proofs.Common.{sym, ap, ◌∙◌, arith}
use Rattle.std.proofs.Math.Seq.{take-length}
use Rattle.format.specs.Repeats.{Bytes}
use Rattle.format.specs.Formats.{Format, Recast, fields_by, via}
use Rattle.format.specs.Values.{One, Field, width, Vals, Fit, number, bytes_of}
use Rattle.format.specs.Heads.{steps, vals_at}
use Rattle.format.specs.Laws.OfNamed.{below, vals_there, vals_back}
use Rattle.format.specs.Laws.OfValues.{vals_fit, bytes_length, bytes_bytes}

-- ---- fields, together k bytes
module _ (fs : List Field) (k : ℕ) (whole : width fs ≡ 8 * k) where
  abbrev pub of_fields : Recast (List ℕ) (λ x. (length x ≡ k) × Bytes x) (Vals fs) (Fit fs)
  of_fields = record {
    to = λ v. bytes_of k (number fs v);
    good = λ v o. (bytes_length k (number fs v), bytes_bytes k (number fs v) (below fs k whole v o));
    onto = λ x o. (vals_at fs x 0 0, (vals_fit fs x 0 0, vals_back fs k whole x o.0 o.1));
    inj = λ v w o r e.
        sym (vals_there fs k whole _ 0 v o (take-length (bytes_of k (number fs v)))) ∙ ap (λ x. vals_at fs x 0 0) e
        ∙ vals_there fs k whole _ 0 w r (take-length (bytes_of k (number fs w)));
  }

  -- their values; their bytes; the walk past them
  abbrev pub named : Format One
  named = via (fields_by (steps fs) k (λ w. w.steps_width fs 0 ∙ (omega arith))) of_fields
