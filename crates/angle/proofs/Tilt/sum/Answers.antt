-- `Tilt::sum` meets its contract: three small numbers have a sum that fits 32 bits.
use Rattle.std.proofs.Common.{◌≤◌, rules, arith, w16, w32}
use borrow.Author.Tests.{eq-eqb, ne_eqb}
use lib.IntN.{ℤ, ◌+ℤ◌}
use lib.Signed.{mag}
use mir.Facts.{to_z-of_z}
use mir.Val.{SFits}
use Rattle.laws.proofs.Signed.{mag-add, ok, widened}
use Rattle.rules.specs.Angle.{sum}
use Rattle.angle.proofs.Magnitude.{q_got}
use Rattle.angle.proofs.Tilt.sum.Goals as goal

one : (z o : ℤ) → mag z ≤ 180001 → SFits w16 o → SFits w32 (z +ℤ o)
one z o h f = record { sfits = omega (arith, h, mag-add z o, f.sfits) }

two : (z o d : ℤ) → mag z ≤ 180001 → SFits w16 o → SFits w16 d → SFits w32 (z +ℤ o +ℤ d)
two z o d h f g = record { sfits = omega (arith, h, mag-add z o, mag-add (z +ℤ o) d, f.sfits, g.sfits) }

pub overflow_add-result : goal.overflow_add-result
overflow_add-result c =
    let z = c.q-signed in
    let t = c.args.self in
    let s = t.settings in
    let o : SFits w16 s.offset = search rules in
    let small = q_got t z.ensures in
    simp (ok w32 z.result z.type_inv, widened w32 tt o) (one z.result s.offset small o)

pub overflow_add-result-then-s-eq1 : goal.overflow_add-result-then-s-eq1
overflow_add-result-then-s-eq1 c =
    let z = c.q-signed in
    let t = c.args.self in
    let s = t.settings in
    let o : SFits w16 s.offset = search rules in
    let d : SFits w16 s.differential = search rules in
    let small = q_got t z.ensures in
    simp (ok w32 z.result z.type_inv, widened w32 tt o, widened w32 tt d, to_z-of_z (one z.result s.offset small o))
    (two z.result s.offset s.differential small o d)

pub returns-then-s-eq1 : goal.returns-then-s-eq1
unfolding sum
returns-then-s-eq1 c =
    let z = c.q-signed in
    let t = c.args.self in
    let s = t.settings in
    let o : SFits w16 s.offset = search rules in
    let d : SFits w16 s.differential = search rules in
    let small = q_got t z.ensures in
    simp (
      ok w32 z.result z.type_inv,
      widened w32 tt o,
      widened w32 tt d,
      to_z-of_z (one z.result s.offset small o),
      to_z-of_z (two z.result s.offset s.differential small o d),
    )
    (simp (z.ensures, eq-eqb _ _ c.if-s-eq1.true))

pub returns-else-s-eq1 : goal.returns-else-s-eq1
unfolding sum
returns-else-s-eq1 c =
    let z = c.q-signed in
    simp (ok w32 z.result z.type_inv) (simp (z.ensures, ne_eqb _ _ c.if-s-eq1.false))
