-- `Device::perform` meets its contract: a step that leaves the journal does beside it what it does alone.
use Rattle.std.proofs.Common.{w32, arith}
use Rattle.laws.proofs.Signed.{ok}
use Rattle.device.proofs.Beside.{moved, tick_beside, sync_beside, reading-beside, reset_beside}
use Rattle.device.proofs.Device.perform.Goals as goal

pub returns-in-Tick : goal.returns-in-Tick
returns-in-Tick c = rw c.in-Tick.is (moved (tick_beside c.args.self.now c.args.journal.now c.in-Tick.ms) c.tick.ensures)

pub returns-in-Sync : goal.returns-in-Sync
returns-in-Sync c = rw c.in-Sync.is (moved (sync_beside c.args.self.now c.args.journal.now) c.sync.ensures)

pub returns-in-Measure : goal.returns-in-Measure
returns-in-Measure c =
    let read = ok w32 c.in-Measure.m (omega arith) in
    rw c.in-Measure.is (moved (reading-beside c.args.self.now c.args.journal.now c.in-Measure.axis c.in-Measure.m) (simp read at c.measure.ensures))

pub returns-in-Reset : goal.returns-in-Reset
returns-in-Reset c = rw c.in-Reset.is (moved (reset_beside c.args.self.now c.args.journal.now) c.reset.ensures)
