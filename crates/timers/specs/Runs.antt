-- The conditions of the PDO's timer and SYNC count, by the values that they ask.
use Rattle.std.specs.Prelude.{Bool, cond, ◌&&◌, ℕ, ◌+◌, eqb, leb}
use Rattle.rules.specs.declared.settings.PdoSettings.{PdoSettings}
use Rattle.rules.specs.Settings.{synchronous, timed}
use Rattle.rules.specs.State.{operational}

abbrev pub sending_of : ℕ → PdoSettings → Bool
sending_of network s = eqb network operational && eqb s.on 1

abbrev pub timer_runs_of : ℕ → PdoSettings → Bool
timer_runs_of network s = sending_of network s && timed s.transmission

abbrev pub sync_counts_of : ℕ → PdoSettings → Bool
sync_counts_of network s = sending_of network s && synchronous s.transmission

abbrev pub sync_due_of : ℕ → ℕ → Bool
sync_due_of transmission syncs = leb transmission (syncs + 1)

abbrev pub syncs_after_of : ℕ → ℕ → ℕ
syncs_after_of transmission syncs = cond (sync_due_of transmission syncs) 0 (syncs + 1)
