-- `in_table` meets its contract: what it does not test, the widths of the fields say.
use mathlib.Core.Bool.{◌&&◌, ◌||◌, and-true, and_assoc, and-or_distrib_left}
use Rattle.std.proofs.Common.{rules, arith, ◌≡◌, ℕ, ◌≤◌, true, w16}
use borrow.Author.Tests.{leb-true, le-leb}
use lib.Dec.{leb}
use lib.IntN.{ℤ}
use mir.Val.{SFits}
use Rattle.rules.specs.Numbers.{fits}
use Rattle.rules.specs.Settings.{synchronous, timed, in_table}
use Rattle.rules.proofs.Ranges.{fits-sixteen}
use Rattle.ranges.proofs.Implied.{implied}
use Rattle.ranges.proofs.in_table.Goals as goal

sixteen : (z : ℤ) → SFits w16 z → fits 16 z ≡ true
sixteen z h = fits-sixteen z h.sfits

-- a type that the timer drives is at least 1 too
types : (t : ℕ) → t ≤ 255 → synchronous t || timed t ≡ leb 1 t && (leb t 240 || leb 254 t)
types t h = simp (le-leb t 255 h, and-true, and-or_distrib_left, implied (leb 1 t) (leb 254 t) (λ e. le-leb 1 t (omega (arith, leb-true 254 t e))))

pub returns : goal.returns
unfolding in_table
returns c =
    let s = c.args.s in
    let xp : SFits w16 s.x.preset = search rules in
    let xo : SFits w16 s.x.offset = search rules in
    let xd : SFits w16 s.x.differential = search rules in
    let yp : SFits w16 s.y.preset = search rules in
    let yo : SFits w16 s.y.offset = search rules in
    let yd : SFits w16 s.y.differential = search rules in
    let h : s.heartbeat ≤ 65535 = search rules in
    let t : s.pdo.transmission ≤ 255 = search rules in
    let m : s.pdo.timer ≤ 65535 = search rules in
    simp (
      and_assoc,
      and-true,
      le-leb s.heartbeat 65535 h,
      types s.pdo.transmission t,
      c.resolution_ok.ensures,
      le-leb s.pdo.timer 65535 m,
      sixteen s.x.preset xp,
      sixteen s.x.offset xo,
      sixteen s.x.differential xd,
      sixteen s.y.preset yp,
      sixteen s.y.offset yo,
      sixteen s.y.differential yd,
    )
