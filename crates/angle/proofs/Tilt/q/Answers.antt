-- `Tilt::q` meets its contract: the steps of a reading in range are small enough to change their sign.
use Rattle.std.proofs.Common.{◌≡◌, ◌∙◌, ℕ, true, arith, w32}
use borrow.Author.Tests.{eq-eqb, ne_eqb}
use lib.IntN.{ℤ, neg_ℤ}
use mir.Facts.{to_z-of_z}
use mir.Val.{SFits}
use Rattle.laws.proofs.Signed.{mag-neg, minus, ok}
use Rattle.rules.specs.Angle.{steps, q}
use Rattle.rules.specs.Ranges.{inside}
use Rattle.angle.proofs.Magnitude.{steps-small}
use Rattle.angle.proofs.Tilt.q.Goals as goal

negated : (m : ℤ) (r : ℕ) → inside m ≡ true → SFits w32 (neg_ℤ (steps m r))
negated m r h = record { sfits = omega (arith, mag-neg (steps m r), steps-small m r h) }

pub overflow_sub-result : goal.overflow_sub-result
overflow_sub-result c =
    let t = c.args.self in
    let whole = ok w32 c.steps-whole.result c.steps-whole.type_inv ∙ c.steps-whole.ensures in
    simp (whole, minus) (negated t.reading.m t.resolution t.inside)

pub returns-then-self-eq1 : goal.returns-then-self-eq1
unfolding q
returns-then-self-eq1 c =
    let t = c.args.self in
    let whole = ok w32 c.steps-whole.result c.steps-whole.type_inv ∙ c.steps-whole.ensures in
    simp (whole, minus, eq-eqb _ _ c.if-self-eq1.true) (to_z-of_z (negated t.reading.m t.resolution t.inside))

pub returns-else-self-eq1 : goal.returns-else-self-eq1
unfolding q
returns-else-self-eq1 c =
    let whole = ok w32 c.steps-whole.result c.steps-whole.type_inv ∙ c.steps-whole.ensures in
    simp (whole, ne_eqb _ _ c.if-self-eq1.false)
