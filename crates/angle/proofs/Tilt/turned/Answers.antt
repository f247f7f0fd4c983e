-- `Tilt::turned` meets its contract: what whole turns leave of the way up, taken from half a turn.
use Rattle.std.proofs.Common.{◌≡◌, ◌∙◌, ℕ, ◌/◌, ◌≤◌, ◌<◌, arith, w32}
use native.Mathlib.Nat.{mod-lt}
use lib.IntN.{pos, ◌-ℤ◌}
use mir.Facts.{to_z-of_z, to_z_pos}
use mir.Val.{SFits, to_z}
use Rattle.laws.proofs.Signed.{mag-sub}
use Rattle.rules.proofs.Rounding.{half-turn}
use Rattle.rules.proofs.Turning.{some_turn, most-turn}
use Rattle.rules.specs.Angle.{turned}
use Rattle.angle.proofs.Turns.{same_rest}
use Rattle.angle.proofs.Tilt.turned.Goals as goal

taken : (half left : ℕ) → half ≤ 180000 → left < 360000 → to_z w32 half -ℤ to_z w32 left ≡ pos half -ℤ pos left
taken half left h l = simp (to_z_pos w32 {n = half} (omega (arith, h)), to_z_pos w32 {n = left} (omega (arith, l)))

fits : (half left : ℕ) → half ≤ 180000 → left < 360000 → SFits w32 (pos half -ℤ pos left)
fits half left h l = record { sfits = omega (arith, mag-sub (pos half) (pos left), h, l) }

pub returns : goal.returns
unfolding turned
returns c =
    let r = c.args.self.resolution in
    let w = c.args.self.within in
    let half = c.rounded-half.result in
    let left = c.rest-left.result in
    let half-is : half ≡ 180000 / r = c.rounded-half.ensures ∙ half-turn r w in
    let small : half ≤ 180000 = omega (arith, half-is) in
    let few : left < 360000 = omega (arith, c.rest-left.ensures, mod-lt c.way_up.result (some_turn r w), most-turn r w) in
    let way = simp (to_z-of_z c.ranges.z) at c.way_up.ensures in
    let same = same_rest r w c.way_up.result half c.args.z way in
    simp (taken half left small few, to_z-of_z (fits half left small few)) (simp (c.rest-left.ensures, same, half-is))
