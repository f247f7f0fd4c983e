-- A long decimal: without a leading zero, more than ten digits write a number beyond 32 bits.
use mathlib.Core.Path.{◌≡◌, refl}
use mathlib.Core.Bool.{Bool, true, false, cond, ◌&&◌}
use mathlib.Core.List.{List, [], ◌∷◌}
use Prim.Native.Nat.{ℕ, zero, suc, ◌+◌, ◌*◌, ◌-◌, ◌≤◌, ◌<◌, ◌^◌}
use native.Mathlib.Nat.{le_trans, mul_assoc, mul-le-mul_right, pow-succ'}
use native.Mathlib.Omega.{arith}
use borrow.Author.Tests.{eqb-false, lt-ltb}
use lib.Dec.{eqb, ltb}
use lib.ListN.{length}
use Rattle.std.specs.Prelude.{Some, None, unwrap_or}
use Rattle.rules.proofs.Numbers.{from_least}
use Rattle.rules.specs.Numbers.{between}
use Rattle.numerals.specs.Numerals.{below, counted, decimal_in, digit_of, digits, number_in, value_from}
use Rattle.numerals.proofs.Digits.{no-digits, too_large, value_grows}

-- any digit but `0` counts at least 1
digit_not_zero : (b : ℕ) → (b ≡ 0x30 → ⊥) → below 10 (digit_of b) ≡ true → 1 ≤ counted b
unfolding digit_of
digit_not_zero b h = first (between 0x30 0x39 b) refl where
  first : (t : Bool) → between 0x30 0x39 b ≡ t → below 10 (cond t (Some (b - 0x30)) (cond (between 0x41 0x46 b) (Some (b - 0x41 + 10)) (cond (between 0x61 0x66 b) (Some (b - 0x61 + 10)) None))) ≡ true
      → 1 ≤ unwrap_or (cond t (Some (b - 0x30)) (cond (between 0x41 0x46 b) (Some (b - 0x41 + 10)) (cond (between 0x61 0x66 b) (Some (b - 0x61 + 10)) None))) 0
  first true e d = omega (arith, from_least 0x30 0x39 b e)
  first false e d = letters (between 0x41 0x46 b) (between 0x61 0x66 b) d where
    letters : (t u : Bool) → below 10 (cond t (Some (b - 0x41 + 10)) (cond u (Some (b - 0x61 + 10)) None)) ≡ true
        → 1 ≤ unwrap_or (cond t (Some (b - 0x41 + 10)) (cond u (Some (b - 0x61 + 10)) None)) 0
    letters true u d = omega arith
    letters false true d = omega arith
    letters false false d = cc

-- k digits behind a number make it at least 10^k times as large
value_times : (k n : ℕ) (s : List ℕ) → k ≤ length s → n * 10 ^ k ≤ value_from 10 n s
unfolding value_from
value_times zero n s h = le_trans (omega arith) (value_grows 10 n s (omega arith))
value_times (suc k) n [] h = absurd (omega arith)
value_times (suc k) n (b ∷ s) h =
    rw (pow-succ', ← mul_assoc) (le_trans (mul-le-mul_right (10 ^ k) (omega arith)) (value_times k (n * 10 + counted b) s (omega arith)))

large : (b : ℕ) (s : List ℕ) → 10 ≤ length s → (b ≡ 0x30 → ⊥) → below 10 (digit_of b) ≡ true → 2 ^ 32 ≤ value_from 10 0 (b ∷ s)
unfolding value_from
large b s h e d = omega (arith, digit_not_zero b e d, value_times 10 (0 * 10 + counted b) s h)

-- led by a byte that is no digit
no-first : (b : ℕ) (s : List ℕ) → below 10 (digit_of b) ≡ false → number_in 10 (b ∷ s) ≡ None
unfolding digits
no-first b s d = no-digits 10 (b ∷ s) (rw d)

first_digit : (b : ℕ) (s : List ℕ) → 10 ≤ length s → (b ≡ 0x30 → ⊥) → (t : Bool) → below 10 (digit_of b) ≡ t → number_in 10 (b ∷ s) ≡ None
first_digit b s h e true d = too_large 10 (b ∷ s) (large b s h e d)
first_digit b s h e false d = no-first b s d

pub decimal-long : (s : List ℕ) → 10 < length s → decimal_in s ≡ None
unfolding decimal_in
decimal-long [] h = absurd (omega arith)
decimal-long (b ∷ s) h = leading (eqb b 0x30) refl where
  several : ltb 1 (length (b ∷ s)) ≡ true
  several = lt-ltb 1 (length (b ∷ s)) (omega arith)

  leading : (t : Bool) → eqb b 0x30 ≡ t → cond (ltb 1 (length (b ∷ s)) && t) None (number_in 10 (b ∷ s)) ≡ None
  leading true e = rw several
  leading false e = rw several (first_digit b s (omega arith) (eqb-false b 0x30 e) (below 10 (digit_of b)) refl)
