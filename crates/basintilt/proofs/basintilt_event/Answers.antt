-- `basintilt_event` meets its contract: what the happening comes to is done, or it is refused.
use Rattle.device.proofs.Refused.{fit, taken, turned-away}
use Rattle.basintilt.specs.Happenings.{event_of, length_in}
use Rattle.basintilt.specs.Lent.{step_of, journal_of}
use Rattle.basintilt.proofs.basintilt_event.Goals as goal

pub perform-requires : goal.perform-requires
perform-requires c =
    fit c.args.device.now c.args.journal.now (event_of c.args.happening) c.args.happening.bytes (length_in c.args.happening) _ c.decided.ensures _ c.in-Ok.is

pub returns-in-Ok : goal.returns-in-Ok
unfolding step_of journal_of
returns-in-Ok c =
    let t = taken c.args.device.now c.args.journal.now (event_of c.args.happening) c.args.happening.bytes (length_in c.args.happening) _ c.decided.ensures _ c.in-Ok.is _ _ _ c.perform.ensures in
    (t.0.0, t.0.1, t.1)

pub returns-in-Err : goal.returns-in-Err
unfolding step_of journal_of
returns-in-Err c =
    let t = turned-away c.args.device.now c.args.journal.now (event_of c.args.happening) c.args.happening.bytes (length_in c.args.happening) _ c.decided.ensures _ c.in-Err.is _ c.refused.ensures in
    (t.0.0, t.0.1, t.1)
