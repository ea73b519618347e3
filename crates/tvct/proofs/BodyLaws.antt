-- The body of a TVCT that was judged: the walk past its channels stands, and its own descriptors follow.
use Prim.Native.Nat.{ℕ, ◌-◌, ◌≤◌}
use mathlib.Core.Path.{◌≡◌, refl, ap, ◌∙◌}
use mathlib.Core.List.{List, []}
use native.Mathlib.Omega.{arith}
use Rattle.std.specs.Prelude.{Ok}
use Rattle.bytes_at.specs.Fields.{byte_at}
use Rattle.bytes_at.specs.Walks.{many}
use Rattle.bytes_at.proofs.WalkLaws.{then_inv, ended}
use Rattle.format.specs.Formats.{walks, walks_all}
use Rattle.format.proofs.FieldLaws.{fields_end}
use Rattle.descriptor.specs.Descriptors.{no_tag}
use Rattle.descriptor.specs.Places.{list10}
use Rattle.channel.specs.Walked.{channel}
use Rattle.tvct.specs.Walked.{channels, tvct}
use Rattle.tvct.specs.Fields.{count_at, first_at}

pub body_channels : (s : List ℕ) (end at e : ℕ) → walks_all tvct s end at ≡ Ok e
    → (b : ℕ) × ((many (walks channel s end) (count_at s at) (first_at at) ≡ Ok b) × ((walks (list10 no_tag) s end b ≡ Ok e) × (first_at at ≤ end)))
unfolding tvct channels
body_channels s end at e w =
    let p = then_inv _ _ e w in
    let x = ended end p.0 e p.1.1 in
    let r = then_inv _ _ p.0 p.1.0 in
    let q = then_inv _ _ r.0 r.1.0 in
    let t = fields_end 8 [] 1 refl at end q.0 q.1.0 in
    let c : byte_at s (q.0 - 1) ≡ byte_at s at = ap (byte_at s) (omega (arith, t)) in
    (r.0, (rw (c, t.0) at q.1.1, (r.1.1 ∙ ap Ok (omega (arith, x)), omega (arith, t))))
