-- Laws of hex pairs: each, and how many.
use mathlib.Core.Path.{◌≡◌, refl}
use mathlib.Core.List.{List, [], ◌∷◌}
use Prim.Native.Nat.{ℕ, zero, suc, ◌+◌, ◌*◌, ◌/◌, ◌≤◌, ◌<◌}
use native.Mathlib.Omega.{arith}
use lib.ListN.{length, get_or}
use Rattle.std.specs.Prelude.{unwrap_or}
use Rattle.hex_pairs.specs.Pairs.{byte_of, bytes_in}

pub byte_in : (s : List ℕ) (i : ℕ) → 2 * i + 1 < length s → get_or (bytes_in s) i 0 ≡ unwrap_or (byte_of (get_or s (2 * i) 0) (get_or s (2 * i + 1) 0)) 0
unfolding bytes_in
byte_in [] i h = absurd (omega arith)
byte_in (a ∷ []) i h = absurd (omega arith)
byte_in (a ∷ b ∷ s) zero h = refl
byte_in (a ∷ b ∷ s) (suc i) h =
    let even : 2 * suc i ≡ suc (suc (2 * i)) = omega arith in
    let odd : 2 * suc i + 1 ≡ suc (suc (2 * i + 1)) = omega arith in
    let inside : 2 * i + 1 < length s = omega arith in
    rw (odd, even) (byte_in s i inside)

pub byte_past : (s : List ℕ) (i : ℕ) → length s ≤ 2 * i + 1 → get_or (bytes_in s) i 0 ≡ 0
unfolding bytes_in
byte_past [] i h = refl
byte_past (a ∷ []) i h = refl
byte_past (a ∷ b ∷ s) zero h = absurd (omega arith)
byte_past (a ∷ b ∷ s) (suc i) h = byte_past s i (omega arith)

pub bytes_count : (s : List ℕ) → length (bytes_in s) ≡ length s / 2
unfolding bytes_in
bytes_count [] = refl
bytes_count (a ∷ []) = refl
bytes_count (a ∷ b ∷ s) = omega (arith, bytes_count s)
