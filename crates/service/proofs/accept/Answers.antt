-- `accept` meets its contract: a read is answered alike on either channel.
use Rattle.std.proofs.Common.{sym, ◌∙◌}
use Rattle.service.proofs.accept.Goals as goal

pub returns-in-Read : goal.returns-in-Read
returns-in-Read c = simp (sym c.command.ensures ∙ c.in-Read.is) (c.read.ensures c.args.channel)
