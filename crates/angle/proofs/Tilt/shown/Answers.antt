-- `Tilt::shown` meets its contract: the angle of a good axis, or the one number that no angle is.
use Rattle.std.proofs.Common.{◌∙◌, w16}
use borrow.Author.Tests.{eq-eqb, ne_eqb}
use Rattle.laws.proofs.Signed.{ok}
use Rattle.rules.specs.Angle.{shown}
use Rattle.angle.proofs.Tilt.shown.Goals as goal

pub returns-then-self-eq-GOOD : goal.returns-then-self-eq-GOOD
unfolding shown
returns-then-self-eq-GOOD c =
    ok w16 c.angle.result c.angle.type_inv ∙ c.angle.ensures ∙ simp (eq-eqb _ _ c.if-self-eq-GOOD.true)

pub returns-else-self-eq-GOOD : goal.returns-else-self-eq-GOOD
unfolding shown
returns-else-self-eq-GOOD c = simp (ne_eqb _ _ c.if-self-eq-GOOD.false)
