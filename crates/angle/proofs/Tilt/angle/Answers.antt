-- `Tilt::angle` meets its contract: the sum, moved and brought in.
use Rattle.std.proofs.Common.{◌∙◌, rules, w16, w32}
use mir.Val.{SFits}
use Rattle.laws.proofs.Signed.{ok}
use Rattle.rules.specs.Angle.{angle}
use Rattle.angle.proofs.Magnitude.{sum-small}
use Rattle.angle.proofs.Tilt.angle.Goals as goal

pub turned_if_shifted-requires : goal.turned_if_shifted-requires
turned_if_shifted-requires c =
    let t = c.args.self in
    let s = t.settings in
    let o : SFits w16 s.offset = search rules in
    let d : SFits w16 s.differential = search rules in
    let whole = ok w32 c.sum.result c.sum.type_inv ∙ c.sum.ensures in
    simp whole (sum-small t.reading.m t.resolution s.operating s.offset s.differential t.within t.inside o d)

pub returns : goal.returns
unfolding angle
returns c =
    let z = c.turned_if_shifted in
    let whole = ok w32 c.sum.result c.sum.type_inv ∙ c.sum.ensures in
    let brought = simp (ok w32 z.result z.type_inv) at c.nearer.ensures in
    ok w16 c.nearer.result c.nearer.type_inv ∙ brought ∙ simp (z.ensures, whole)
