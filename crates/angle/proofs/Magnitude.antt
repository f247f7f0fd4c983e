-- How large the numbers of the angle's rule are.
use mathlib.Core.Path.{◌≡◌}
use mathlib.Core.Bool.{true}
use Prim.Native.Nat.{ℕ, ◌+◌, ◌/◌, ◌≤◌}
use native.Mathlib.Omega.{arith}
use lib.IntN.{ℤ, ◌+ℤ◌}
use lib.Signed.{mag}
use mir.Syntax.{w16}
use mir.Val.{SFits}
use Rattle.angle.specs.declared.Tilt.{Tilt}
use Rattle.laws.proofs.Bools.{cond_both}
use Rattle.laws.proofs.Signed.{mag-add, mag-neg, mag-size}
use Rattle.rules.proofs.Ranges.{inside-size}
use Rattle.rules.proofs.Rounding.{no_larger, q-most}
use Rattle.rules.specs.declared.objects.Setting.TheVariants.{Resolution}
use Rattle.rules.specs.Angle.{reversed, shifted, steps, q, sum}
use Rattle.rules.specs.Ranges.{inside}
use Rattle.rules.specs.Settings.{within}

pub steps-small : (m : ℤ) (r : ℕ) → inside m ≡ true → mag (steps m r) ≤ 180000
steps-small m r h = omega (arith, mag-size (steps m r), no_larger m r, inside-size m h)

pub q-small : (m : ℤ) (r operating : ℕ) → inside m ≡ true → mag (q m r operating) ≤ 180001
unfolding q
q-small m r operating h =
    let small = steps-small m r h in
    cond_both (λ (z : ℤ). mag z ≤ 180001) (reversed operating) (omega (arith, mag-neg (steps m r))) (omega arith)

-- what a caller of `q` gets
pub q_got : {y : ℤ} (t : Tilt) → y ≡ q t.reading.m t.resolution t.settings.operating → mag y ≤ 180001
q_got t e = rw e (q-small t.reading.m t.resolution t.settings.operating t.inside)

-- and so is the sum: half a turn at most, and two numbers of 16 bits
pub sum-small : (m : ℤ) (r operating : ℕ) (o d : ℤ) → within Resolution r ≡ true → inside m ≡ true → SFits w16 o → SFits w16 d → mag (sum m r operating o d) ≤ 65536 + 180000 / r
unfolding sum
sum-small m r operating o d w h f g =
    let z = q m r operating in
    let most : mag z ≤ 180000 / r = omega (arith, mag-size z, q-most m r operating w h) in
    let shifted-most : mag (z +ℤ o +ℤ d) ≤ 65536 + 180000 / r = omega (arith, most, mag-add z o, mag-add (z +ℤ o) d, f.sfits, g.sfits) in
    cond_both (λ (y : ℤ). mag y ≤ 65536 + 180000 / r) (shifted operating) shifted-most (omega (arith, most))
