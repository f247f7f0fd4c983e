-- `Tilt::steps` meets its contract: a reading in range is rounded by its size and gets its sign back.
use Rattle.std.proofs.Common.{◌≡◌, sym, ℕ, ◌≤◌, true, rules, arith, w32}
use lib.IntN.{ℤ, pos, neg_ℤ, nat_abs}
use mir.Facts.{to_z-of_z, to_z_pos}
use mir.Val.{SFits, to_z}
use Rattle.laws.proofs.Signed.{mag-neg, minus}
use Rattle.rules.proofs.Ranges.{inside-size}
use Rattle.rules.proofs.Rounding.{smaller}
use Rattle.rules.specs.Angle.{rounded, steps}
use Rattle.rules.specs.Ranges.{inside}
use Rattle.angle.proofs.Tilt.steps.Goals as goal

-- what comes back is small, and the machine reads it as it is
small : (m : ℤ) (r n : ℕ) → inside m ≡ true → n ≡ rounded (nat_abs m) r → n ≤ 180000
small m r n h e = omega (arith, e, smaller (nat_abs m) r, inside-size m h)

read : (n : ℕ) → n ≤ 180000 → to_z w32 n ≡ pos n
read n h = to_z_pos w32 (omega (arith, h))

negated : (n : ℕ) → n ≤ 180000 → SFits w32 (neg_ℤ (pos n))
negated n h = record { sfits = omega (arith, mag-neg (pos n), h) }

pub returns-then-self-lt0 : goal.returns-then-self-lt0
unfolding steps
returns-then-self-lt0 c =
    let t = c.args.self in
    let n = c.rounded-whole.result in
    let fits : SFits w32 t.reading.m = search rules in
    let size = simp (to_z-of_z fits) at c.unsigned_abs.ensures.value in
    let whole = simp size at c.rounded-whole.ensures in
    let few = small t.reading.m t.resolution n t.inside whole in
    simp (read n few, minus, simp (to_z-of_z fits) at c.if-self-lt0.true, sym whole) (to_z-of_z (negated n few))

pub returns-else-self-lt0 : goal.returns-else-self-lt0
unfolding steps
returns-else-self-lt0 c =
    let t = c.args.self in
    let n = c.rounded-whole.result in
    let fits : SFits w32 t.reading.m = search rules in
    let size = simp (to_z-of_z fits) at c.unsigned_abs.ensures.value in
    let whole = simp size at c.rounded-whole.ensures in
    simp (read n (small t.reading.m t.resolution n t.inside whole), simp (to_z-of_z fits) at c.if-self-lt0.false, sym whole)
