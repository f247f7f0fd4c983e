-- The device and what moves it: an event, with refusals 3, 1 and 2 in this order.
use Rattle.std.specs.Prelude.{◌≡◌, Bool, true, false, cond, ◌&&◌, List, ℕ, ◌+◌, ◌*◌, eqb, leb, length}
use Rattle.rules.specs.declared.events.Event.{Event}
use Rattle.rules.specs.declared.events.Event.TheVariants.{Received, Tick, Measured}
use Rattle.rules.specs.declared.events.FrameHead.{FrameHead}
use Rattle.rules.specs.declared.objects.Channel.{Channel}
use Rattle.rules.specs.declared.objects.Channel.TheVariants.{One, Two}
use Rattle.rules.specs.declared.requests.Caller.{Caller}
use Rattle.rules.specs.declared.requests.Caller.TheVariants.{Client, Master}
use Rattle.rules.specs.declared.requests.Outcome.{Outcome}
use Rattle.rules.specs.Frames.{requests_at, request_at, reply_frames}
use Rattle.rules.specs.Lss.{lss_outcome}
use Rattle.rules.specs.Network.{on_network}
use Rattle.rules.specs.Ranges.{in_range}
use Rattle.rules.specs.Readings.{on_reading}
use Rattle.rules.specs.Results.{Result, accepted, ignored, refused}
use Rattle.rules.specs.Service.{outcome, state_after}
use Rattle.rules.specs.State.{State}
use Rattle.rules.specs.Time.{on_tick, on_sync}

-- a request, on a channel or by LSS: "requests of 8 bytes only"
abbrev pub outcome_for : Caller → List ℕ → State → Outcome
outcome_for (Client c) request u = outcome c request u
outcome_for Master request u = lss_outcome request u

abbrev pub answered : Caller → Outcome → State → Result
answered c o u = accepted (state_after c o u) (reply_frames c u.node o.reply)

unfoldable pub on_request : Caller → List ℕ → ℕ → State → Result
on_request c bytes size u = cond (eqb size 8) (answered c (outcome_for c bytes u) u) (ignored u)

-- "NMT: identifier 0"; "A SYNC (80h, length 0)"; "Remote frames and frames that no rule below names do nothing"
unfoldable pub on_frame : FrameHead → List ℕ → ℕ → State → Result
on_frame f bytes size u =
    cond f.remote (ignored u)
    (cond (eqb f.identifier 0) (on_network bytes size u)
    (cond (eqb f.identifier 0x80 && eqb size 0) (on_sync u)
    (cond (eqb f.identifier (request_at (Client One) u.node)) (on_request (Client One) bytes size u)
    (cond (eqb f.identifier (request_at (Client Two) u.node)) (on_request (Client Two) bytes size u)
    (cond (eqb f.identifier (request_at Master u.node)) (on_request Master bytes size u)
    (ignored u))))))

-- "2 frame identifier over 7FFh or length over 8"
abbrev pub frame_ok : FrameHead → ℕ → Bool
frame_ok f size = leb f.identifier 0x7FF && leb size 8

abbrev pub on_event : Event → List ℕ → ℕ → State → Result
on_event (Received f) bytes size u = cond (frame_ok f size) (on_frame f bytes size u) (refused 2 u)
on_event (Tick ms) bytes size u = on_tick ms u
on_event (Measured a m) bytes size u = on_reading a m u

-- "1 … not the length at power-on": 512 times the record's blocks
abbrev pub journal_fits : State → Bool
journal_fits u = eqb (length u.journal) (512 * u.saves.blocks)

-- a request's frame on a channel: "600h+node", "680h+node"
abbrev pub request : Channel → State → Event
request c u = Received (record { identifier = requests_at c + u.node; remote = false })

-- "any record that is not refused", with its journal
abbrev pub NotRefused : State → Type 0
NotRefused u = (in_range u ≡ true) × (journal_fits u ≡ true)

-- the bytes stand beside the event, with the length that the frame names
unfoldable pub event : Event → List ℕ → ℕ → State → Result
event e bytes size u = cond (in_range u) (cond (journal_fits u) (on_event e bytes size u) (refused 1 u)) (refused 3 u)
