-- `power_on` meets its contract: what passes both checks starts.
use Rattle.std.proofs.Common.{arith, sym, ◌∙◌}
use Rattle.rules.proofs.Run.{sized}
use Rattle.rules.specs.Network.{start}
use Rattle.rules.specs.PowerOn.{power_on}
use Rattle.power_on.proofs.power_on.Goals as goal

pub returns-then-not-node_ok : goal.returns-then-not-node_ok
unfolding power_on
returns-then-not-node_ok c = simp (c.refuse.ensures, sym c.if-not-node_ok.ensures)

pub returns-then-not-length_ok : goal.returns-then-not-length_ok
unfolding power_on
returns-then-not-length_ok c = simp (c.refuse-then-not-length_ok.ensures, sym c.if-not-length_ok.ensures, sym c.if-not-node_ok.ensures)

pub saves_in-saves-requires : goal.saves_in-saves-requires
saves_in-saves-requires c = omega (arith, (sized c.args.journal.now (sym c.length_ok.ensures ∙ c.if-not-length_ok.false)).most)

pub returns : goal.returns
unfolding power_on start
returns c =
    simp (c.start.ensures, c.node_else.ensures, c.saves_in-saves.ensures, sym c.if-not-length_ok.ensures, sym c.if-not-node_ok.ensures)
