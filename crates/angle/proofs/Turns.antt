-- The way up to half a turn with 360,000 steps more: whole turns leave the same of it.
use mathlib.Core.Path.{◌≡◌, refl, ◌∙◌, ap}
use mathlib.Core.Bool.{Bool, true, false}
use Prim.Native.Nat.{ℕ, suc, ◌+◌, ◌-◌, ◌/◌, ◌%◌, ◌≤◌}
use native.Mathlib.Omega.{arith}
use borrow.Author.Tests.{ltb-true, ltb-false}
use lib.Dec.{ltb}
use lib.IntN.{ℤ, pos, negsuc, neg_ℤ, nat_abs, ◌+ℤ◌, ◌-ℤ◌, +ℤ_assoc, pos-ne-negsuc}
use Rattle.laws.proofs.Signed.{taken-within, taken-beyond}
use Rattle.rules.proofs.Ranges.{each-resolution}
use Rattle.rules.specs.declared.objects.Setting.TheVariants.{Resolution}
use Rattle.rules.specs.Angle.{rest}
use Rattle.rules.specs.Settings.{within}

module _ (r : ℕ) (w : within Resolution r ≡ true) where
  more : (a : ℕ) → (360000 + a) % (360000 / r) ≡ a % (360000 / r)
  more a = each-resolution (λ d. (360000 + a) % (360000 / d) ≡ a % (360000 / d)) (omega arith) (omega arith) (omega arith) (omega arith) r w

  fewer : (a : ℕ) → suc a ≤ 360000 → (360000 - suc a) % (360000 / r) ≡ 360000 / r - suc (a % (360000 / r))
  fewer a h = each-resolution (λ d. (360000 - suc a) % (360000 / d) ≡ 360000 / d - suc (a % (360000 / d))) (omega arith) (omega arith) (omega arith) (omega arith) r w

  by_order : (n a : ℕ) (t : Bool) → ltb 360000 (suc a) ≡ t → pos n ≡ pos 360000 -ℤ pos (suc a) → n % (360000 / r) ≡ rest (360000 / r) (negsuc a)
  by_order n a true e k = absurd (pos-ne-negsuc n (suc a - 360001) (k ∙ taken-beyond 360000 (suc a) (ltb-true 360000 (suc a) e)))
  by_order n a false e k =
      let h = ltb-false 360000 (suc a) e in
      ap (λ x. x % (360000 / r)) (ap nat_abs (k ∙ taken-within 360000 (suc a) h)) ∙ fewer a h

  rest_of : (n : ℕ) (z : ℤ) → pos n ≡ pos 360000 +ℤ z → n % (360000 / r) ≡ rest (360000 / r) z
  rest_of n (pos a) e = ap (λ x. x % (360000 / r)) (ap nat_abs e) ∙ more a
  rest_of n (negsuc a) e = by_order n a _ refl e

  pub same_rest : (n half : ℕ) (z : ℤ) → pos n ≡ pos (360000 + half) -ℤ z → n % (360000 / r) ≡ rest (360000 / r) (pos half -ℤ z)
  same_rest n half z e = rest_of n (pos half -ℤ z) (e ∙ +ℤ_assoc (pos 360000) (pos half) (neg_ℤ z))
