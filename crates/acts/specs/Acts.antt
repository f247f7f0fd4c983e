-- The step that an event asks for, and what each step does in the rules' words.
use Rattle.std.specs.Prelude.{cond, List, [], ◌∷◌, ℕ, eqb, Result, Ok, Err}
use Rattle.acts.specs.declared.Act.{Act}
use Rattle.acts.specs.declared.Act.TheVariants.{Stay, Tick as Ticks, Sync as Syncs, Measure, Operate, Enter, Reset, Communicate, Request as Requests}
use Rattle.answers.specs.declared.refusal.Refusal.{Refusal}
use Rattle.answers.specs.declared.refusal.Refusal.TheVariants.{WrongFrame}
use Rattle.answers.specs.Refusals.{refusal_number}
use Rattle.requests.specs.declared.Rule.{Rule}
use Rattle.requests.specs.declared.Rule.TheVariants.{Wrong, Nothing, Network, Sync, Request}
use Rattle.requests.specs.Frames.{rule_of}
use Rattle.rules.specs.declared.events.Event.{Event}
use Rattle.rules.specs.declared.events.Event.TheVariants.{Received, Tick, Measured}
use Rattle.rules.specs.declared.requests.Caller.{Caller}
use Rattle.rules.specs.Events.{outcome_for, answered}
use Rattle.rules.specs.Frames.{boot_up_frame}
use Rattle.rules.specs.Network.{start, communicating}
use Rattle.rules.specs.Readings.{on_reading}
use Rattle.rules.specs.Results
use Rattle.rules.specs.Results.{accepted, ignored, refused}
use Rattle.rules.specs.State.{State, stopped, operational, pre_operational, no_counts, with_network, last_set}
use Rattle.rules.specs.Time.{on_tick, on_sync}

-- "01h Operational, 02h Stopped, 80h Pre-Operational, 81h, 82h resets; a different command is ignored"
abbrev pub commanding : ℕ → Act
commanding command =
    cond (eqb command 0x01) Operate
    (cond (eqb command 0x02) (Enter stopped)
    (cond (eqb command 0x80) (Enter pre_operational)
    (cond (eqb command 0x81) Reset
    (cond (eqb command 0x82) Communicate
    Stay))))

abbrev pub by_rule : List ℕ → Rule → Result Act Refusal
by_rule bytes Wrong = Err WrongFrame
by_rule bytes Nothing = Ok Stay
by_rule bytes (Network command) = Ok (commanding command)
by_rule bytes Sync = Ok Syncs
by_rule bytes (Request c) = Ok (Requests c bytes)

abbrev pub act_of : Event → List ℕ → ℕ → ℕ → Result Act Refusal
act_of (Received f) bytes size node = by_rule bytes (rule_of f bytes size node)
act_of (Tick ms) bytes size node = Ok (Ticks ms)
act_of (Measured a m) bytes size node = Ok (Measure a m)

-- what the rules say of a request of eight bytes
abbrev pub requested : Caller → List ℕ → State → Results.Result
requested c request u = answered c (outcome_for c request u) u

-- what an act does
abbrev pub does : Act → State → Results.Result
does Stay u = ignored u
does (Ticks ms) u = on_tick ms u
does Syncs u = on_sync u
does (Measure a m) u = on_reading a m u
does Operate u = ignored (with_network operational no_counts u)
does (Enter network) u = ignored (with_network network u.pdo u)
does Reset u = start (last_set u) u.identity u.saves u.lss.node u.journal
does Communicate u = accepted (communicating u) (boot_up_frame (last_set u) ∷ [])
does (Requests c request) u = requested c request u

-- and what a refusal does
abbrev pub comes_to : Result Act Refusal → State → Results.Result
comes_to (Ok a) u = does a u
comes_to (Err why) u = refused (refusal_number why) u
