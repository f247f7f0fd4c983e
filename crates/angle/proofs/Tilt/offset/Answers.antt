-- `Tilt::offset` meets its contract: both differences of small numbers fit 32 bits.
use Rattle.std.proofs.Common.{◌≤◌, rules, arith, w16, w32}
use lib.IntN.{ℤ, ◌-ℤ◌}
use lib.Signed.{mag}
use mir.Facts.{to_z-of_z}
use mir.Val.{SFits}
use Rattle.laws.proofs.Signed.{mag-sub, ok, widened}
use Rattle.rules.specs.Angle.{offset}
use Rattle.angle.proofs.Magnitude.{q_got}
use Rattle.angle.proofs.Tilt.offset.Goals as goal

one : (z p : ℤ) → mag z ≤ 180001 → SFits w16 p → SFits w32 (p -ℤ z)
one z p h f = record { sfits = omega (arith, h, mag-sub p z, f.sfits) }

two : (z p d : ℤ) → mag z ≤ 180001 → SFits w16 p → SFits w16 d → SFits w32 (p -ℤ z -ℤ d)
two z p d h f g = record { sfits = omega (arith, h, mag-sub p z, mag-sub (p -ℤ z) d, f.sfits, g.sfits) }

pub overflow_sub-result : goal.overflow_sub-result
overflow_sub-result c =
    let z = c.q-signed in
    let p = c.ranges.preset in
    let small = q_got c.args.self z.ensures in
    simp (ok w32 z.result z.type_inv, widened w32 tt p) (one z.result c.args.preset small p)

pub overflow_sub-result-2 : goal.overflow_sub-result-2
overflow_sub-result-2 c =
    let z = c.q-signed in
    let a = c.args in
    let p = c.ranges.preset in
    let d : SFits w16 a.self.settings.differential = search rules in
    let small = q_got a.self z.ensures in
    simp (ok w32 z.result z.type_inv, widened w32 tt p, widened w32 tt d, to_z-of_z (one z.result a.preset small p))
    (two z.result a.preset a.self.settings.differential small p d)

pub returns : goal.returns
unfolding offset
returns c =
    let z = c.q-signed in
    let a = c.args in
    let p = c.ranges.preset in
    let d : SFits w16 a.self.settings.differential = search rules in
    let small = q_got a.self z.ensures in
    simp (
      ok w32 z.result z.type_inv,
      widened w32 tt p,
      widened w32 tt d,
      to_z-of_z (one z.result a.preset small p),
      to_z-of_z (two z.result a.preset a.self.settings.differential small p d),
    )
    (simp z.ensures)
