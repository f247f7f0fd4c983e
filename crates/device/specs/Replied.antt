-- The record and the journal after a change, and the record after a reply.
use Rattle.std.specs.Prelude.{List, ℕ}
use Rattle.changes.specs.After.{saves_after, journal_after}
use Rattle.rules.specs.declared.objects.PdoNumber.TheVariants.{First}
use Rattle.rules.specs.declared.parts.Transfer.{Transfer}
use Rattle.rules.specs.declared.requests.Caller.{Caller}
use Rattle.rules.specs.declared.requests.Change.{Change}
use Rattle.rules.specs.Service.{on_counts, on_errors, on_heartbeat, on_lss, running_after, stores}
use Rattle.service.specs.Transfers.{transfers_after}
use Rattle.device.specs.declared.Device.{Device}

-- settings written
abbrev pub set_by : Change → Device → Device
set_by e d = record d { running = running_after e d.running; heartbeat = on_heartbeat e d.heartbeat; pdo = on_counts First e d.pdo }

-- a block filled
abbrev pub filled_by : Change → Device → Device
filled_by e d = record d { saves = saves_after e (stores e d.running d.saves.stored) d.saves }

abbrev pub journal_by : Change → Device → List ℕ → List ℕ
journal_by e d j = journal_after d.saves.filled d.saves.node e (stores e d.running d.saves.stored) j

-- any change
abbrev pub changed_by : Change → Device → Device
changed_by e d =
    let s = set_by e (filled_by e d) in
    record s { errors = on_errors e d.errors; lss = on_lss e d.lss }

-- the caller's transfer another
abbrev pub with_transfer : Caller → Transfer → Device → Device
with_transfer c t d = record d { transfers = transfers_after c t d.transfers }
