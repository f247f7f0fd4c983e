-- Laws of digits: one more, the end, and what they add up to.
use mathlib.Core.Path.{◌≡◌, refl}
use mathlib.Core.Bool.{Bool, true, false, ◌&&◌, ◌||◌}
use mathlib.Core.List.{List, [], ◌∷◌}
use Prim.Native.Nat.{ℕ, ◌+◌, ◌*◌, ◌-◌, ◌≤◌, ◌<◌, ◌^◌}
use native.Mathlib.Nat.{le_trans, mul-le-mul_left}
use native.Mathlib.Numerals.{add-one}
use native.Mathlib.Omega.{arith}
use borrow.Author.Tests.{lt-leb, lt-ltb, le-ltb}
use lib.ListN.{length, drop, get_or}
use lib.Seq.{drop-cons, drop-length}
use Rattle.std.specs.Char.{is_ascii_hexdigit}
use Rattle.std.specs.List.{list_all}
use Rattle.std.specs.Prelude.{Some, None, cond}
use Rattle.rules.proofs.Numbers.{to-most}
use Rattle.rules.specs.Numbers.{between}
use Rattle.numerals.specs.Numerals.{below, counted, digit_of, digits, number_in, value_from}

pub and-false : (a : Bool) → a && false ≡ false
and-false true = refl
and-false false = refl

-- above a range
pub over : (a b n : ℕ) → b < n → between a b n ≡ false
over a b n h = rw (lt-leb n b h, and-false)

-- the digits of base 16
one_digit : (b : ℕ) → below 16 (digit_of b) ≡ is_ascii_hexdigit b
unfolding digit_of
one_digit b = cases (between 0x30 0x39 b) (between 0x41 0x46 b) (between 0x61 0x66 b) refl refl refl where
  cases : (t u v : Bool) → between 0x30 0x39 b ≡ t → between 0x41 0x46 b ≡ u → between 0x61 0x66 b ≡ v
      → below 16 (cond t (Some (b - 0x30)) (cond u (Some (b - 0x41 + 10)) (cond v (Some (b - 0x61 + 10)) None))) ≡ ((t || u) || v)
  cases true u v e f g = lt-ltb (b - 0x30) 16 (omega (arith, to-most 0x30 0x39 b e))
  cases false true v e f g = lt-ltb (b - 0x41 + 10) 16 (omega (arith, to-most 0x41 0x46 b f))
  cases false false true e f g = lt-ltb (b - 0x61 + 10) 16 (omega (arith, to-most 0x61 0x66 b g))
  cases false false false e f g = refl

pub hex_digits : (s : List ℕ) → digits 16 s ≡ list_all is_ascii_hexdigit s
unfolding digits
hex_digits [] = refl
hex_digits (b ∷ s) = rw (one_digit b, hex_digits s)

module _ (base : ℕ) where
  -- one digit more, a byte that is none, and the end
  pub digits_more : (s : List ℕ) (i : ℕ) → i < length s → below base (digit_of (get_or s i 0)) ≡ true → digits base (drop i s) ≡ digits base (drop (i + 1) s)
  unfolding digits
  digits_more s i h d = rw (add-one, drop-cons s i 0 h, d)

  pub digits-not : (s : List ℕ) (i : ℕ) → i < length s → below base (digit_of (get_or s i 0)) ≡ false → digits base (drop i s) ≡ false
  unfolding digits
  digits-not s i h d = rw (drop-cons s i 0 h, d)

  pub digits_end : (s : List ℕ) (i : ℕ) → i ≡ length s → digits base (drop i s) ≡ true
  unfolding digits
  digits_end s i e = rw (e, drop-length)

  pub value-more : (n : ℕ) (s : List ℕ) (i : ℕ) → i < length s → value_from base n (drop i s) ≡ value_from base (n * base + counted (get_or s i 0)) (drop (i + 1) s)
  unfolding value_from
  value-more n s i h = rw (add-one, drop-cons s i 0 h)

  pub value_end : (n : ℕ) (s : List ℕ) (i : ℕ) → i ≡ length s → value_from base n (drop i s) ≡ n
  unfolding value_from
  value_end n s i e = rw (e, drop-length)

  -- digits behind a number make it no smaller
  pub value_grows : (n : ℕ) (s : List ℕ) → 1 ≤ base → n ≤ value_from base n s
  unfolding value_from
  value_grows n [] h = omega arith
  value_grows n (b ∷ s) h =
      let more : n * 1 ≤ n * base = mul-le-mul_left n h in
      le_trans (omega arith) (value_grows (n * base + counted b) s h)

  pub no-digits : (s : List ℕ) → digits base s ≡ false → number_in base s ≡ None
  unfolding number_in
  no-digits s e = rw (e, and-false)

  pub too_large : (s : List ℕ) → 2 ^ 32 ≤ value_from base 0 s → number_in base s ≡ None
  unfolding number_in
  too_large s h = rw (le-ltb (value_from base 0 s) (2 ^ 32) h, and-false)

  pub the_number : (s : List ℕ) (n : ℕ) → 0 < length s → digits base s ≡ true → value_from base 0 s ≡ n → n < 2 ^ 32 → number_in base s ≡ Some n
  unfolding number_in
  the_number s n h d e f = rw (e, d, lt-ltb 0 (length s) h, lt-ltb n (2 ^ 32) f)
