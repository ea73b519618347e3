-- The bytes in hand are the same ones after a read behind them, and after they were moved.
use Rattle.std.proofs.Common.{◌≡◌, ℕ, ◌+◌, ◌-◌, ◌<◌, ◌≤◌, List, length, take, drop, sym, ap, ◌∙◌, arith, length-drop}
use lib.Seq.{take-take}
use borrow.Rule.Slice.PartMut.{put_mid}
use Rattle.std.specs.List.{copy_within}
use Rattle.std.proofs.lemmas.List.{drop-take}
use Rattle.std.proofs.lemmas.List.Edits.{length-paste, take-paste}
use Rattle.std.proofs.lemmas.Slice.{take-put_mid_below}
use Rattle.listing.specs.declared.Input.{Input}
use Rattle.lister.specs.Reading.{in_hand, Fetched}
use Rattle.lister.specs.declared.Hand.{Hand}

-- ---- after a read behind them
kept_front : (l e : List ℕ) (from to m : ℕ) → from ≤ to → to ≤ m → take to e ≡ take to l → take (to - from) (in_hand e from m) ≡ in_hand l from to
kept_front l e from to m h g q =
    let k : from + (to - from) ≡ to = omega arith in
    take-take (to - from) (m - from) (drop from e) (omega arith)
    ∙ sym (drop-take from (to - from) e) ∙ ap (λ (n : ℕ). drop from (take n e)) k
    ∙ ap (drop from) q
    ∙ ap (λ (n : ℕ). drop from (take n l)) (sym k) ∙ drop-take from (to - from) l

-- the read put some bytes of ys behind the first ones
pub fetched_read : (l ys : List ℕ) (from to came : ℕ) (i : Input) → from ≤ to → to < length l → length (put_mid to (length l - to) l ys) ≡ length l
    → came ≤ length l - to → Fetched l from to (record { from = from; to = to + came; input = i }) (put_mid to (length l - to) l ys)
fetched_read l ys from to came i h g z k =
    record {
      begins = omega arith;
      within = omega arith;
      size = z;
      kept = kept_front l (put_mid to (length l - to) l ys) from to (to + came) h (omega arith) (take-put_mid_below to (length l - to) l ys to (omega arith) (omega arith));
    }

-- ---- after they were moved
pub fetched_moved : (l : List ℕ) {m e : List ℕ} {h : Hand} (from to : ℕ) → from ≤ to → to ≤ length l → m ≡ copy_within l from to 0
    → Fetched m 0 (to - from) h e → Fetched l from to h e
fetched_moved l {m} {e} {h} from to f g q p =
    let n = to - from in
    let few : n ≤ length (drop from l) = omega (arith, length-drop from l) in
    let o : n ≡ n - 0 = omega arith in
    let z : n - 0 ≡ 0 + n = omega arith in
    record {
      begins = p.begins;
      within = p.within;
      size = p.size ∙ ap length q ∙ length-paste l 0 (drop from l) n (omega arith) few;
      kept =
          ap (λ (k : ℕ). take k (in_hand e h.from h.to)) o ∙ p.kept ∙ ap (λ (k : ℕ). take k m) z
          ∙ ap (take (0 + n)) q ∙ take-paste l 0 (drop from l) n (omega arith) few;
    }
