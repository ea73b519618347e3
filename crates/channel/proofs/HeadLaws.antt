-- What code reads of a channel is the numbers that its format names.
use Prim.Native.Nat.{ℕ, ◌+◌, ◌*◌, ◌/◌, ◌%◌}
use mathlib.Core.Path.{◌≡◌, refl}
use mathlib.Core.List.{List}
use native.Mathlib.Omega.{arith}
use Rattle.bytes_at.specs.Bits.{bits_at}
use Rattle.bytes_at.proofs.BitLaws.{all_at, high_at, mid_at, low_at}
use Rattle.channel.specs.Fields.{name_at, tuning_at, service_at}

module _ (s : List ℕ) (a : ℕ) where
  pub name_is : {n0 n1 n2 n3 n4 n5 n6 : ℕ} → bits_at s (8 * a) 16 ≡ n0 → bits_at s (8 * (a + 2)) 16 ≡ n1 → bits_at s (8 * (a + 4)) 16 ≡ n2
      → bits_at s (8 * (a + 6)) 16 ≡ n3 → bits_at s (8 * (a + 8)) 16 ≡ n4 → bits_at s (8 * (a + 10)) 16 ≡ n5 → bits_at s (8 * (a + 12)) 16 ≡ n6
      → record { n0 = n0; n1 = n1; n2 = n2; n3 = n3; n4 = n4; n5 = n5; n6 = n6 } ≡ name_at s a
  unfolding name_at
  name_is f0 f1 f2 f3 f4 f5 f6 =
      let e0 = all_at s a a 0 (omega arith) 16 f0 in
      let e1 = all_at s a (a + 2) 2 refl 16 f1 in
      let e2 = all_at s a (a + 4) 4 refl 16 f2 in
      let e3 = all_at s a (a + 6) 6 refl 16 f3 in
      let e4 = all_at s a (a + 8) 8 refl 16 f4 in
      let e5 = all_at s a (a + 10) 10 refl 16 f5 in
      let e6 = all_at s a (a + 12) 12 refl 16 f6 in
      λ i. record { n0 = e0 i; n1 = e1 i; n2 = e2 i; n3 = e3 i; n4 = e4 i; n5 = e5 i; n6 = e6 i }

  pub tuning_is : {w v m c t p : ℕ} → bits_at s (8 * (a + 14)) 16 ≡ w → bits_at s (8 * (a + 15)) 16 ≡ v → bits_at s (8 * (a + 17)) 8 ≡ m
      → bits_at s (8 * (a + 18)) 32 ≡ c → bits_at s (8 * (a + 22)) 16 ≡ t → bits_at s (8 * (a + 24)) 16 ≡ p
      → record { major = w / 4 % 1024; minor = v % 1024; modulation = m; carrier = c; channel_tsid = t; program_number = p } ≡ tuning_at s a
  unfolding tuning_at
  tuning_is f0 f1 f2 f3 f4 f5 =
      let e0 = mid_at s a (a + 14) 14 refl 4 10 2 f0 in
      let e1 = low_at s a (a + 15) 15 refl 6 10 f1 in
      let e2 = all_at s a (a + 17) 17 refl 8 f2 in
      let e3 = all_at s a (a + 18) 18 refl 32 f3 in
      let e4 = all_at s a (a + 22) 22 refl 16 f4 in
      let e5 = all_at s a (a + 24) 24 refl 16 f5 in
      λ i. record { major = e0 i; minor = e1 i; modulation = e2 i; carrier = e3 i; channel_tsid = e4 i; program_number = e5 i }

  pub service_is : {w v : ℕ} → bits_at s (8 * (a + 26)) 16 ≡ w → bits_at s (8 * (a + 28)) 16 ≡ v
      → record { etm_location = w / 16384; access_controlled = w / 8192 % 2; hidden = w / 4096 % 2; six_bits = w / 64 % 64; service_type = w % 64; source_id = v }
      ≡ service_at s a
  unfolding service_at
  service_is f g =
      let e0 = high_at s a (a + 26) 26 refl 2 14 f in
      let e1 = mid_at s a (a + 26) 26 refl 2 1 13 f in
      let e2 = mid_at s a (a + 26) 26 refl 3 1 12 f in
      let e3 = mid_at s a (a + 26) 26 refl 4 6 6 f in
      let e4 = low_at s a (a + 26) 26 refl 10 6 f in
      let e5 = all_at s a (a + 28) 28 refl 16 g in
      λ i. record { etm_location = e0 i; access_controlled = e1 i; hidden = e2 i; six_bits = e3 i; service_type = e4 i; source_id = e5 i }
