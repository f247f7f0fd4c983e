-- The outcomes that a request can have: what holds of each holds of the request's.
use mathlib.Core.Path.{◌≡◌, refl}
use mathlib.Core.List.{List}
use Prim.Native.Nat.{ℕ}
use Rattle.std.specs.Prelude.{Result, Ok, Err, Option}
use lib.Dec.{eqb}
use Rattle.laws.proofs.Bools.{cond_both}
use Rattle.rules.specs.declared.aborts.Abort.{Abort}
use Rattle.rules.specs.declared.aborts.Abort.TheVariants.{UnknownCommand}
use Rattle.rules.specs.declared.objects.Channel.{Channel}
use Rattle.rules.specs.declared.objects.Object.{Object}
use Rattle.rules.specs.declared.parts.Transfer.{Transfer}
use Rattle.rules.specs.declared.requests.Change.{Change}
use Rattle.rules.specs.declared.requests.Change.TheVariants.{Keep}
use Rattle.rules.specs.declared.requests.Command.{Command}
use Rattle.rules.specs.declared.requests.Command.TheVariants.{Write, Read, Segment, End, Unknown}
use Rattle.rules.specs.declared.requests.Got.{Got}
use Rattle.rules.specs.declared.requests.Got.TheVariants.{Number, Text}
use Rattle.rules.specs.declared.requests.Outcome.{Outcome}
use Rattle.rules.specs.Objects.{object_at}
use Rattle.rules.specs.Reads.{read_of}
use Rattle.rules.specs.Replies.{written, read_number, read_text, first_segment, last_segment, wrong_toggle, no_transfer}
use Rattle.rules.specs.Requests.{command, index_of, subindex_of, value_for}
use Rattle.rules.specs.Service.{replied, silent, refuse, on_write, on_read, on_segment, on_command, outcome, served}
use Rattle.rules.specs.State.{State, absent, at_start, after_seven, transferring, transfer_of}
use Rattle.rules.specs.Writes.{Check, change, write_check}

module _ (c : Channel) (request : List ℕ) (u : State) (P : Outcome → Type 0) where
  -- an abort, an accepted write, a read, the string's, a segment, and no reply
  pub record Each : Type 0 where
    pub aborted : (why : Abort) → P (refuse request why)
    pub wrote : (given : Option ℕ) (o : Object) → command request ≡ Write given → object_at (index_of request) (subindex_of request) ≡ Ok o
        → write_check given o (value_for o request) u ≡ Ok tt → P (replied (written request) absent (change c o (value_for o request) u))
    pub number : (size n : ℕ) → P (replied (read_number size request n) absent Keep)
    pub text : P (replied (read_text request) at_start Keep)
    pub first : P (replied first_segment after_seven Keep)
    pub last : P (replied last_segment absent Keep)
    pub toggle : P (replied wrong_toggle absent Keep)
    pub missing : P (replied no_transfer absent Keep)
    pub ended : P (silent (transferring absent))
    pub unserved : P (silent (transfer_of c u))

  module _ (each : Each) where
    writes : (v : Check) (e : Change) → (v ≡ Ok tt → P (replied (written request) absent e)) → P (on_write request v e)
    writes (Ok passed) e h = h refl
    writes (Err why) e h = each.aborted why

    reads : (g : Result Got Abort) → P (on_read request g)
    reads (Ok (Number size n)) = each.number size n
    reads (Ok Text) = each.text
    reads (Err why) = each.aborted why

    segments : (toggle : ℕ) (t : Transfer) → P (on_segment toggle t)
    unfolding on_segment
    segments toggle t =
        cond_both P (eqb t.stage absent) each.missing
        (cond_both P (eqb t.stage at_start) (cond_both P (eqb toggle 0) each.first each.toggle) (cond_both P (eqb toggle 1) each.last each.toggle))

    commands : (k : Command) (f : Result Object Abort) → command request ≡ k → object_at (index_of request) (subindex_of request) ≡ f → P (on_command c request k f u)
    commands (Write given) (Ok o) p q = writes (write_check given o (value_for o request) u) (change c o (value_for o request) u) (each.wrote given o p q)
    commands (Write given) (Err why) p q = each.aborted why
    commands Read (Ok o) p q = reads (read_of o u)
    commands Read (Err why) p q = each.aborted why
    commands (Segment toggle) f p q = segments toggle (transfer_of c u)
    commands End f p q = each.ended
    commands Unknown f p q = each.aborted UnknownCommand

    pub each_outcome : P (outcome c request u)
    each_outcome = cond_both P (served u.network) (commands (command request) (object_at (index_of request) (subindex_of request)) refl refl) each.unserved
