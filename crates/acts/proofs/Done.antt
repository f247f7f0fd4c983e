-- What an event comes to does what the rules say of the event.
use mathlib.Core.Path.{◌≡◌, refl}
use mathlib.Core.Bool.{Bool, true, false, cond, ◌&&◌, ◌||◌}
use mathlib.Core.List.{List, [], ◌∷◌}
use Prim.Native.Nat.{ℕ}
use lib.Dec.{eqb}
use lib.ListN.{get_or}
use Rattle.acts.specs.declared.Act.TheVariants.{Stay, Operate, Enter, Reset, Communicate}
use Rattle.acts.specs.Acts.{commanding, requested, by_rule, act_of, does, comes_to}
use Rattle.requests.specs.declared.Rule.{Rule}
use Rattle.requests.specs.declared.Rule.TheVariants.{Wrong, Nothing, Sync, Request, Network as Commanded}
use Rattle.requests.specs.Frames.{rule_of}
use Rattle.rules.specs.declared.events.Event.{Event}
use Rattle.rules.specs.declared.events.Event.TheVariants.{Received, Tick, Measured}
use Rattle.rules.specs.declared.events.FrameHead.{FrameHead}
use Rattle.rules.specs.declared.objects.Channel.TheVariants.{One, Two}
use Rattle.rules.specs.declared.requests.Caller.{Caller}
use Rattle.rules.specs.declared.requests.Caller.TheVariants.{Client, Master}
use Rattle.rules.specs.Events.{frame_ok, on_frame, on_event, on_request}
use Rattle.rules.specs.Frames.{boot_up_frame, request_at}
use Rattle.rules.specs.Network
use Rattle.rules.specs.Network.{communicating, on_network_command, on_network}
use Rattle.rules.specs.Results.{Result, accepted, ignored, refused}
use Rattle.rules.specs.State.{State, stopped, operational, pre_operational, no_counts, with_network, last_set}
use Rattle.rules.specs.Time.{on_sync}

module _ (bytes : List ℕ) (size : ℕ) (u : State) where
  abbrev done : Rule → Result
  done k = comes_to (by_rule bytes k) u

  -- by the tests in their order
  commands : (start stop back reset again : Bool)
      → cond start (ignored (with_network operational no_counts u)) (cond stop (ignored (with_network stopped u.pdo u)) (cond back (ignored (with_network pre_operational u.pdo u))
      (cond reset (Network.start (last_set u) u.identity u.saves u.lss.node u.journal) (cond again (accepted (communicating u) (boot_up_frame (last_set u) ∷ [])) (ignored u)))))
      ≡ does (cond start Operate (cond stop (Enter stopped) (cond back (Enter pre_operational) (cond reset Reset (cond again Communicate Stay))))) u
  commands true stop back reset again = refl
  commands false true back reset again = refl
  commands false false true reset again = refl
  commands false false false true again = refl
  commands false false false false true = refl
  commands false false false false false = refl

  commanded : (command : ℕ) → on_network_command command u ≡ does (commanding command) u
  unfolding on_network_command
  commanded command = commands (eqb command 0x01) (eqb command 0x02) (eqb command 0x80) (eqb command 0x81) (eqb command 0x82)

  -- one caller after the other, each with requests of eight bytes only
  abbrev request : Bool → Caller → Result
  request whole c = cond whole (requested c bytes u) (ignored u)

  requests : (whole one two lss : Bool)
      → cond one (request whole (Client One)) (cond two (request whole (Client Two)) (cond lss (request whole Master) (ignored u)))
      ≡ done (cond whole (cond one (Request (Client One)) (cond two (Request (Client Two)) (cond lss (Request Master) Nothing))) Nothing)
  requests true true two lss = refl
  requests true false true lss = refl
  requests true false false true = refl
  requests true false false false = refl
  requests false true two lss = refl
  requests false false true lss = refl
  requests false false false true = refl
  requests false false false false = refl

  frames : (fine remote network own sync whole one two lss : Bool) (command : ℕ)
      → cond fine (cond remote (ignored u) (cond network (cond own (on_network_command command u) (ignored u)) (cond sync (on_sync u)
      (cond one (request whole (Client One)) (cond two (request whole (Client Two)) (cond lss (request whole Master) (ignored u))))))) (refused 2 u)
      ≡ done (cond fine (cond remote Nothing (cond network (cond own (Commanded command) Nothing) (cond sync Sync
      (cond whole (cond one (Request (Client One)) (cond two (Request (Client Two)) (cond lss (Request Master) Nothing))) Nothing)))) Wrong)
  frames false remote network own sync whole one two lss command = refl
  frames true true network own sync whole one two lss command = refl
  frames true false true true sync whole one two lss command = commanded command
  frames true false true false sync whole one two lss command = refl
  frames true false false own true whole one two lss command = refl
  frames true false false own false whole one two lss command = requests whole one two lss

  named : (f : FrameHead) → on_event (Received f) bytes size u ≡ done (rule_of f bytes size u.node)
  unfolding on_frame on_request on_network
  named f =
      frames (frame_ok f size) f.remote (eqb f.identifier 0)
      (eqb size 2 && (eqb (get_or bytes 1 0) 0 || eqb (get_or bytes 1 0) u.node)) (eqb f.identifier 0x80 && eqb size 0)
      (eqb size 8) (eqb f.identifier (request_at (Client One) u.node)) (eqb f.identifier (request_at (Client Two) u.node))
      (eqb f.identifier (request_at Master u.node)) (get_or bytes 0 0)

  pub done_as : (e : Event) → on_event e bytes size u ≡ comes_to (act_of e bytes size u.node) u
  done_as (Received f) = named f
  done_as (Tick ms) = refl
  done_as (Measured a m) = refl
