-- `Tilt::zeroed` meets its contract: the offset is judged whole, and one that passes both tests fits 16 bits.
use Rattle.std.proofs.Common.{◌≡◌, ◌∙◌, sym, true, false, rules, arith, w16, w32}
use borrow.Author.Tests.{eq-eqb, ne_eqb}
use lib.IntN.{ℤ, pos, negsuc}
use mir.Facts.{to_z-of_z}
use mir.Val.{SFits}
use Rattle.laws.proofs.Bools.{not-true}
use Rattle.laws.proofs.Signed.{ok}
use Rattle.rules.proofs.Ranges.{between-small, fits-sixteen}
use Rattle.rules.specs.Angle.{offset, zeroed}
use Rattle.rules.specs.Numbers.{between_ℤ, fits}
use Rattle.angle.proofs.Tilt.zeroed.Goals as goal

fitting : (z : ℤ) → between_ℤ (negsuc 32767) (pos 32767) z ≡ true → SFits w16 z
fitting z e = record { sfits = omega (arith, between-small z 32767 32767 (omega arith) e) }

pub returns-then-self-ne-GOOD : goal.returns-then-self-ne-GOOD
unfolding zeroed
returns-then-self-ne-GOOD c = simp (ne_eqb _ _ c.if-self-ne-GOOD.true)

pub returns-in-Ok : goal.returns-in-Ok
unfolding zeroed
returns-in-Ok c =
    let t = c.args.self in
    let z = c.offset.result in
    let held = ok w32 z c.offset.type_inv in
    let wanted : offset t.reading.m t.resolution t.settings.operating t.settings.differential c.args.preset ≡ z = sym (c.offset.ensures ∙ search rules) in
    let f : SFits w16 z = simp held at c.in-Ok.ensures.0 in
    let is : c.in-Ok.offset ≡ z = c.in-Ok.ensures.1 ∙ held in
    simp (is, to_z-of_z f, wanted, eq-eqb _ _ c.if-self-ne-GOOD.false, fits-sixteen z f.sfits)

pub returns-in-Err : goal.returns-in-Err
unfolding zeroed
returns-in-Err c =
    let t = c.args.self in
    let z = c.offset.result in
    let held = ok w32 z c.offset.type_inv in
    let wanted : offset t.reading.m t.resolution t.settings.operating t.settings.differential c.args.preset ≡ z = sym (c.offset.ensures ∙ search rules) in
    let failed : fits 16 z ≡ false = not-true (fits 16 z) (λ e. c.in-Err.ensures (rw held (fitting z e))) in
    simp (wanted, eq-eqb _ _ c.if-self-ne-GOOD.false, failed)
