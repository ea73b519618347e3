-- Lengths and counts where they lie: the usual expressions over bytes are what they tell.
use Prim.Native.Nat.{ℕ, ◌+◌, ◌*◌, ◌%◌, ◌^◌}
use mathlib.Core.Path.{◌≡◌, refl, sym, ap, ◌∙◌}
use mathlib.Core.List.{List, [], ◌∷◌}
use native.Mathlib.Omega.{arith}
use lib.ListN.{length}
use Rattle.bytes_at.specs.Fields.{byte_at, word_at}
use Rattle.format.specs.Lawful.{Lies}
use Rattle.format.specs.Repeats.{Bytes, encs}
use Rattle.format.specs.Formats.{Format, Filling, last_byte, last_word, through, filled, times, one_or_more}
use Rattle.bytes_at.specs.Bits.{bits_at}
use Rattle.bytes_at.proofs.BitLaws.{bits_low, byte_bits_lem, word_bits, all_at, low_at}
use Rattle.format.specs.Values.{One, Field, reserved, width, Vals}
use Rattle.format.specs.Heads.{vals_at}
use Rattle.format.specs.Laws.OfTold.{told_there, last_tells, low8_tells, low16_tells}
use Rattle.format.specs.Told.{sized8, sized12, sized10, counted8, not_none, few_not_none, counted16}

module _ (s : List ℕ) (z : Bytes s) (at : ℕ) where
  pub sized8_there : (f : Filling One) (x : f.Val) → (sized8 f).Formed (record {}) (record {}, x) → Lies ((sized8 f).enc (record {}, x)) s at
      → (byte_at s at ≡ length (f.enc x)) × Lies (f.enc x) s (at + 1)
  sized8_there f x o l =
      let t = told_there [] 8 1 refl last_byte (λ v m. m) (last_tells [] 0 refl) (filled 1 f) (λ x. length (f.enc x)) (λ v m x o. o.0) s at (record {}) x o l in
      (all_at s at at 0 (omega arith) 8 (byte_bits_lem s at (z at)) ∙ t.0.1, t.1)

  pub counted8_there : (f : Format One) (x : List f.Val) → (counted8 f).Formed (record {}) (record {}, x)
      → Lies ((counted8 f).enc (record {}, x)) s at → (byte_at s at ≡ length x) × Lies (encs f.enc x) s (at + 1)
  counted8_there f x o l =
      let t = told_there [] 8 1 refl last_byte (λ v m. m) (last_tells [] 0 refl) (times f) (λ x. length x) (λ v m x o. o.0) s at (record {}) x o l in
      (all_at s at at 0 (omega arith) 8 (byte_bits_lem s at (z at)) ∙ t.0.1, t.1)

  pub sized12_there : (f : Filling One) (r : ℕ) (x : f.Val) → (sized12 f).Formed (record {}) ((r, record {}), x)
      → Lies ((sized12 f).enc ((r, record {}), x)) s at → (word_at s at % 4096 ≡ length (f.enc x)) × Lies (f.enc x) s (at + 2)
  sized12_there f r x o l =
      let t = told_there (reserved 4 ∷ []) 12 2 refl (through (λ n. n % 4096) last_word) (λ v m. m) (low16_tells (reserved 4 ∷ []) 0 4 12 refl refl) (filled 2 f)
      (λ x. length (f.enc x)) (λ v m x o. o.0) s at (r, record {}) x o l in
      (low_at s at at 0 (omega arith) 4 12 (word_bits s z at) ∙ t.0.1, t.1)

  pub sized10_there : (f : Filling One) (r : ℕ) (x : f.Val) → (sized10 f).Formed (record {}) ((r, record {}), x)
      → Lies ((sized10 f).enc ((r, record {}), x)) s at → (word_at s at % 1024 ≡ length (f.enc x)) × Lies (f.enc x) s (at + 2)
  sized10_there f r x o l =
      let t = told_there (reserved 6 ∷ []) 10 2 refl (through (λ n. n % 1024) last_word) (λ v m. m) (low16_tells (reserved 6 ∷ []) 0 6 10 refl refl) (filled 2 f)
      (λ x. length (f.enc x)) (λ v m x o. o.0) s at (r, record {}) x o l in
      (low_at s at at 0 (omega arith) 6 10 (word_bits s z at) ∙ t.0.1, t.1)

  -- counts that may not be 0, alone or in the n last bits of a byte after fields
  pub not_none_there : (f : Format One) (x : List f.Val) → (not_none f).Formed (record {}) (record {}, x)
      → Lies ((not_none f).enc (record {}, x)) s at → (byte_at s at ≡ length x) × Lies (encs f.enc x) s (at + 1)
  not_none_there f x o l =
      let t = told_there [] 8 1 refl last_byte (λ v m. m) (last_tells [] 0 refl) (one_or_more 1 f) (λ x. length x) (λ v m x o. o.1.0) s at (record {}) x o l in
      (all_at s at at 0 (omega arith) 8 (byte_bits_lem s at (z at)) ∙ t.0.1, t.1)

  pub few_not_none_there : (fs : List Field) (n : ℕ) (whole : width fs + n ≡ 8) (f : Format One) (v : Vals fs) (x : List f.Val)
      → (few_not_none fs n whole f).Formed (record {}) (v, x) → Lies ((few_not_none fs n whole f).enc (v, x)) s at
      → ((vals_at fs s at 0 ≡ v) × (byte_at s at % 2 ^ n ≡ length x)) × Lies (encs f.enc x) s (at + 1)
  few_not_none_there fs n whole f v x o l =
      let t =
      told_there fs n 1 whole (through (λ x. x % 2 ^ n) last_byte) (λ v m. m) (low8_tells fs 0 (width fs) n whole (omega arith)) (one_or_more 1 f)
      (λ x. length x) (λ v m x o. o.1.0) s at v x o l in
      let b = bits_low s (8 * at) (width fs) n (byte_at s at) (ap (bits_at s (8 * at)) whole ∙ byte_bits_lem s at (z at)) in
      ((t.0.0, sym b ∙ t.0.1), t.1)

  pub counted16_there : (f : Format One) (x : List f.Val) → (counted16 f).Formed (record {}) (record {}, x)
      → Lies ((counted16 f).enc (record {}, x)) s at → (word_at s at ≡ length x) × Lies (encs f.enc x) s (at + 2)
  counted16_there f x o l =
      let t =
      told_there [] 16 2 refl last_word (λ v m. m) (λ h l z. sym (word_bits h z 0)) (times f) (λ x. length x) (λ v m x o. o.0) s at (record {})
      x o l in
      (all_at s at at 0 (omega arith) 16 (word_bits s z at) ∙ t.0.1, t.1)
