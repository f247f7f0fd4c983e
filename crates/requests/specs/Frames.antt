-- The rule that names a received frame.
use Rattle.std.specs.Prelude.{cond, ◌&&◌, ◌||◌, List, ℕ, eqb, get_or}
use Rattle.rules.specs.declared.events.FrameHead.{FrameHead}
use Rattle.rules.specs.declared.objects.Channel.TheVariants.{One, Two}
use Rattle.rules.specs.Events.{frame_ok}
use Rattle.rules.specs.Frames.{request_at}
use Rattle.requests.specs.declared.Rule.{Rule}
use Rattle.requests.specs.declared.Rule.TheVariants.{Wrong, Nothing, Network, Sync, Request}
use Rattle.rules.specs.declared.requests.Caller.TheVariants.{Client, Master}

-- "NMT: identifier 0, length 2, node 0 or own"
abbrev pub command_to : List ℕ → ℕ → ℕ → Rule
command_to bytes size node = cond (eqb size 2 && (eqb (get_or bytes 1 0) 0 || eqb (get_or bytes 1 0) node)) (Network (get_or bytes 0 0)) Nothing

-- "requests of 8 bytes only"
abbrev pub request_to : ℕ → ℕ → ℕ → Rule
request_to identifier size node =
    cond (eqb size 8)
    (cond (eqb identifier (request_at (Client One) node)) (Request (Client One))
    (cond (eqb identifier (request_at (Client Two) node)) (Request (Client Two))
    (cond (eqb identifier (request_at Master node)) (Request Master)
    Nothing)))
    Nothing

abbrev pub rule_of : FrameHead → List ℕ → ℕ → ℕ → Rule
rule_of f bytes size node =
    cond (frame_ok f size)
    (cond f.remote Nothing
    (cond (eqb f.identifier 0) (command_to bytes size node)
    (cond (eqb f.identifier 0x80 && eqb size 0) Sync
    (request_to f.identifier size node))))
    Wrong
