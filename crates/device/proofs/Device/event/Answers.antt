-- `Device::event` meets its contract: what it comes to is done, or it is refused.
use Rattle.device.proofs.Beside.{whole}
use Rattle.device.proofs.Refused.{fit, taken, turned-away}
use Rattle.device.specs.Promise.{event_on}
use Rattle.device.proofs.Device.event.Goals as goal

pub perform-answer-requires : goal.perform-answer-requires
perform-answer-requires c = fit c.args.self c.args.journal.now c.args.event c.args.bytes c.args.length _ c.decide.ensures _ c.in-Ok.is

pub returns-in-Ok : goal.returns-in-Ok
returns-in-Ok c =
    let t = taken c.args.self c.args.journal.now c.args.event c.args.bytes c.args.length _ c.decide.ensures _ c.in-Ok.is _ _ _ c.perform-answer.ensures in
    (whole (event_on c.args.self c.args.journal.now c.args.event c.args.bytes c.args.length) _ _ t.0, t.1)

pub returns-in-Err : goal.returns-in-Err
returns-in-Err c =
    let t = turned-away c.args.self c.args.journal.now c.args.event c.args.bytes c.args.length _ c.decide.ensures _ c.in-Err.is _ c.refused-answer.ensures in
    (whole (event_on c.args.self c.args.journal.now c.args.event c.args.bytes c.args.length) _ _ t.0, t.1)
