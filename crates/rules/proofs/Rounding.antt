-- The steps are m / r rounded to the nearest whole number, halves away from zero, and no other number is; their sign and their size.
use mathlib.Core.Path.{◌≡◌, refl, sym, ◌∙◌, ap}
use mathlib.Core.Bool.{Bool, true, false, cond}
use Prim.Native.Nat.{ℕ, zero, suc, ◌+◌, ◌*◌, ◌-◌, ◌/◌, ◌≤◌, ◌<◌}
use native.Mathlib.Nat.{div-zero, div-mul-le_self, div-lt_iff_lt-mul, lt-div-mul-add, div-eq_of_lt-le}
use native.Mathlib.Omega.{arith}
use borrow.Author.Tests.{ltb-true, ltb-false, le-ltb}
use lib.Dec.{ltb}
use lib.IntN.{ℤ, pos, negsuc, neg_ℤ, nat_abs, ◌-ℤ◌, ◌*ℤ◌, neg_ℤ-neg_ℤ, neg_ℤ-+ℤ, zero-*ℤ}
use Rattle.laws.proofs.Bools.{cond_both}
use Rattle.laws.proofs.Signed.{taken-within, taken-beyond}
use Rattle.rules.proofs.Ranges.{each-resolution, inside-size}
use Rattle.rules.specs.declared.objects.Setting.TheVariants.{Resolution}
use Rattle.rules.specs.Angle.{reversed, rounded, steps, q}
use Rattle.rules.specs.Ranges.{inside}
use Rattle.rules.specs.Rounding.{away, Rounded}
use Rattle.rules.specs.Settings.{within}

-- sizes alone: 2a + r lies between two numbers that are 2r apart
low : (a r : ℕ) → 2 * (rounded a r * r) ≤ 2 * a + r
low a r = omega (arith, div-mul-le_self (2 * a + r) (2 * r))

high : (a r : ℕ) → 0 < r → 2 * a + r < 2 * (rounded a r * r) + 2 * r
high a r h = omega (arith, lt-div-mul-add {a = 2 * a + r} {b = 2 * r} (omega arith))

only-size : (a r k : ℕ) → 2 * (k * r) ≤ 2 * a + r → 2 * a + r < 2 * (k * r) + 2 * r → rounded a r ≡ k
only-size a r k l h = div-eq_of_lt-le (2 * r) (omega arith) (omega arith)

pub smaller : (a r : ℕ) → rounded a r ≤ a
smaller a zero = omega (arith, div-zero (2 * a + 0))
smaller a (suc r) =
    let below : rounded a (suc r) < suc a = (div-lt_iff_lt-mul {k = 2 * suc r} {x = 2 * a + suc r} {y = suc a} (omega arith)).1 (omega arith) in
    omega arith

-- the sign may stand inside or outside
from_zero : (a r : ℕ) → steps (pos a) r ≡ pos (rounded a r)
unfolding steps
from_zero a r = simp (le-ltb a 0 (omega arith))

below-zero : (a r : ℕ) → steps (negsuc a) r ≡ neg_ℤ (pos (rounded (suc a) r))
unfolding steps
below-zero a r = refl

pub odd : (m : ℤ) (r : ℕ) → steps (neg_ℤ m) r ≡ neg_ℤ (steps m r)
odd (pos zero) r =
    let none : rounded 0 r ≡ 0 = omega (arith, smaller 0 r) in
    simp (from_zero 0 r, none)
odd (pos (suc a)) r = below-zero a r ∙ ap neg_ℤ (sym (from_zero (suc a) r))
odd (negsuc a) r = from_zero (suc a) r ∙ sym (neg_ℤ-neg_ℤ (pos (rounded (suc a) r))) ∙ ap neg_ℤ (sym (below-zero a r))

pub sign_inside : (m : ℤ) (r operating : ℕ) → q m r operating ≡ steps (cond (reversed operating) (neg_ℤ m) m) r
unfolding q
sign_inside m r operating = by_sign (reversed operating)
  where
    by_sign : (t : Bool) → cond t (neg_ℤ (steps m r)) (steps m r) ≡ steps (cond t (neg_ℤ m) m) r
    by_sign true = sym (odd m r)
    by_sign false = refl

-- how far two numbers are from one another, and what is so on one side of zero is so on the other
apart : (a b : ℕ) (t : Bool) → ltb a b ≡ t → nat_abs (pos a -ℤ pos b) ≡ (a - b) + (b - a)
apart a b true e = rw (taken-beyond a b (ltb-true a b e)) (omega (arith, ltb-true a b e))
apart a b false e = rw (taken-within a b (ltb-false a b e)) (omega (arith, ltb-false a b e))

gap : (a b : ℕ) → nat_abs (pos a -ℤ pos b) ≡ (a - b) + (b - a)
gap a b = apart a b _ refl

size-neg : (z : ℤ) → nat_abs (neg_ℤ z) ≡ nat_abs z
size-neg (pos zero) = refl
size-neg (pos (suc n)) = refl
size-neg (negsuc n) = refl

times_neg : (t : ℤ) (r : ℕ) → neg_ℤ t *ℤ pos r ≡ neg_ℤ (t *ℤ pos r)
times_neg (pos zero) r = simp (zero-*ℤ (pos r))
times_neg (pos (suc k)) r = refl
times_neg (negsuc k) r = sym (neg_ℤ-neg_ℤ (pos (suc k * r)))

away-neg : (m : ℤ) (r : ℕ) (t : ℤ) → away (neg_ℤ m) r (neg_ℤ t) ≡ away m r t
away-neg m r t =
    ap (λ z. nat_abs (neg_ℤ m -ℤ z)) (times_neg t r) ∙ ap nat_abs (sym (neg_ℤ-+ℤ m (neg_ℤ (t *ℤ pos r)))) ∙ size-neg (m -ℤ t *ℤ pos r)

mirrored : (m : ℤ) (r : ℕ) (t : ℤ) → Rounded m r t → Rounded (neg_ℤ m) r (neg_ℤ t)
mirrored m r t h = rw (away-neg m r t, size-neg m, size-neg t) h

-- the steps are m / r rounded
rounds-up : (a r : ℕ) → 0 < r → Rounded (pos a) r (pos (rounded a r))
rounds-up a r h =
    let d = gap a (rounded a r * r) in
    let over : 2 * away (pos a) r (pos (rounded a r)) ≡ r → a < rounded a r * r = λ e. omega (arith, d, e, high a r h) in
    (omega (arith, d, low a r, high a r h), over)

pub rounds : (m : ℤ) (r : ℕ) → 0 < r → Rounded m r (steps m r)
rounds (pos a) r h = rw (from_zero a r) (rounds-up a r h)
rounds (negsuc a) r h = rw (below-zero a r) (mirrored (pos (suc a)) r (pos (rounded (suc a) r)) (rounds-up (suc a) r h))

-- and no other number is
upper : (a r k : ℕ) (t : Bool) → ltb (2 * away (pos a) r (pos k)) r ≡ t → Rounded (pos a) r (pos k) → 2 * a + r < 2 * (k * r) + 2 * r
upper a r k true e (near, over) = omega (arith, gap a (k * r), ltb-true (2 * away (pos a) r (pos k)) r e)
upper a r k false e (near, over) =
    let half : 2 * away (pos a) r (pos k) ≡ r = omega (arith, near, ltb-false (2 * away (pos a) r (pos k)) r e) in
    let larger : a < k * r = over half in
    omega arith

only-up : (a r : ℕ) (t : ℤ) → 0 < r → Rounded (pos a) r t → t ≡ pos (rounded a r)
only-up a r (pos k) h s =
    let lower : 2 * (k * r) ≤ 2 * a + r = omega (arith, gap a (k * r), s.0) in
    ap pos (sym (only-size a r k lower (upper a r k _ refl s)))
only-up a r (negsuc k) h s =
    let far : 2 * (a + suc k * r) ≤ r = rw (neg_ℤ-neg_ℤ (pos (suc k * r))) at s.0 in
    absurd (omega arith)

pub only : (m : ℤ) (r : ℕ) (t : ℤ) → 0 < r → Rounded m r t → t ≡ steps m r
only (pos a) r t h s = only-up a r t h s ∙ sym (from_zero a r)
only (negsuc a) r t h s =
    sym (neg_ℤ-neg_ℤ t) ∙ ap neg_ℤ (only-up (suc a) r (neg_ℤ t) h (mirrored (negsuc a) r t s)) ∙ sym (below-zero a r)

-- how large they are: no larger than m, and of a reading in range at most 180,000 / r
size_of : (m : ℤ) (r : ℕ) → nat_abs (steps m r) ≡ rounded (nat_abs m) r
size_of (pos a) r = ap nat_abs (from_zero a r)
size_of (negsuc a) r = ap nat_abs (below-zero a r) ∙ size-neg (pos (rounded (suc a) r))

pub no_larger : (m : ℤ) (r : ℕ) → nat_abs (steps m r) ≤ nat_abs m
no_larger m r = rw (size_of m r) (smaller (nat_abs m) r)

most : (a r : ℕ) → a ≤ 180000 → within Resolution r ≡ true → rounded a r ≤ 180000 / r
most a r h = each-resolution (λ d. rounded a d ≤ 180000 / d) (omega arith) (omega arith) (omega arith) (omega arith) r

-- and half a turn is no matter of rounding
pub half-turn : (r : ℕ) → within Resolution r ≡ true → rounded 180000 r ≡ 180000 / r
half-turn = each-resolution (λ r. rounded 180000 r ≡ 180000 / r) refl refl refl refl

pub q-most : (m : ℤ) (r operating : ℕ) → within Resolution r ≡ true → inside m ≡ true → nat_abs (q m r operating) ≤ 180000 / r
unfolding q
q-most m r operating w e =
    let steps-most : nat_abs (steps m r) ≤ 180000 / r = rw (size_of m r) (most (nat_abs m) r (inside-size m e) w) in
    cond_both (λ z. nat_abs z ≤ 180000 / r) (reversed operating) (rw (size-neg (steps m r)) steps-most) steps-most
