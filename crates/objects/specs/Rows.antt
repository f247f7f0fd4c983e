-- The rows of one index: subindex 0 alone, a number and the one that it counts, or those of a channel's server.
use Rattle.std.specs.Prelude.{cond, ℕ, eqb, Result, Ok, Err}
use Rattle.rules.specs.declared.objects.Channel.{Channel}
use Rattle.rules.specs.declared.objects.Fixed.{Fixed}
use Rattle.rules.specs.declared.objects.Fixed.TheVariants.{ServerCount, RequestIdentifier, ReplyIdentifier}
use Rattle.rules.specs.declared.aborts.Abort.{Abort}
use Rattle.rules.specs.declared.aborts.Abort.TheVariants.{NoSubindex}
use Rattle.rules.specs.declared.objects.Object.{Object}
use Rattle.rules.specs.declared.objects.Object.TheVariants.{Const}

abbrev pub only_at : ℕ → Object → Result Object Abort
only_at subindex o = cond (eqb subindex 0) (Ok o) (Err NoSubindex)

abbrev pub counted_at : Fixed → Object → ℕ → Result Object Abort
counted_at count one subindex = cond (eqb subindex 1) (Ok one) (cond (eqb subindex 0) (Ok (Const count)) (Err NoSubindex))

abbrev pub server_at : Channel → ℕ → Result Object Abort
server_at c subindex =
    cond (eqb subindex 0) (Ok (Const (ServerCount c)))
    (cond (eqb subindex 1) (Ok (Const (RequestIdentifier c)))
    (cond (eqb subindex 2) (Ok (Const (ReplyIdentifier c))) (Err NoSubindex)))
