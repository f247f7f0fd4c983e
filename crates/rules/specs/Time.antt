-- Network, heartbeat, PDO, errors: ticks and SYNCs.
use Rattle.std.specs.Prelude.{Bool, true, cond, not, ◌&&◌, List, [], ◌∷◌, ◌++◌, ℕ, ◌+◌, eqb, leb}
use Rattle.rules.specs.declared.events.Frame.{Frame}
use Rattle.rules.specs.declared.objects.PdoNumber.{PdoNumber}
use Rattle.rules.specs.declared.objects.PdoNumber.TheVariants.{First}
use Rattle.rules.specs.declared.parts.PdoCounts.{PdoCounts}
use Rattle.rules.specs.Frames.{heartbeat_frame, pdo_frame}
use Rattle.rules.specs.Results.{Result, accepted}
use Rattle.rules.specs.Settings.{synchronous, timed, pdo_settings}
use Rattle.rules.specs.State.{State, operational, pdo_counts, with_counts}

-- "A tick adds to the … count where 1017 is not 0; on reaching the period one heartbeat … is sent and the count is 0", "likewise the PDO timer"
abbrev pub adds : Bool → ℕ → Bool
adds runs period = runs && not (eqb period 0)

abbrev pub reaches : Bool → ℕ → ℕ → ℕ → Bool
reaches runs period elapsed ms = adds runs period && leb period (elapsed + ms)

abbrev pub elapsed_after : Bool → ℕ → ℕ → ℕ → ℕ
elapsed_after runs period elapsed ms = cond (adds runs period) (cond (leb period (elapsed + ms)) 0 (elapsed + ms)) elapsed

-- "the PDO timer, in Operational, PDO on, type 254 or 255, timer not 0"
abbrev pub sending : PdoNumber → State → Bool
sending n u = eqb u.network operational && eqb (pdo_settings n u.running).on 1

abbrev pub timer_runs : PdoNumber → State → Bool
timer_runs n u = sending n u && timed (pdo_settings n u.running).transmission

abbrev pub when_due : Bool → Frame → List Frame
when_due due f = cond due (f ∷ []) []

abbrev pub pdo_of : PdoNumber → State → Frame
pdo_of n u = pdo_frame n u.node u.x u.y u.running

-- what a tick makes of a PDO's counts, and what it sends of it
abbrev pub ticked : PdoNumber → ℕ → State → PdoCounts
ticked n ms u =
    let counts = pdo_counts n u in
    record { elapsed = elapsed_after (timer_runs n u) (pdo_settings n u.running).timer counts.elapsed ms; syncs = counts.syncs }

abbrev pub tick_sends : PdoNumber → ℕ → State → List Frame
tick_sends n ms u =
    when_due (reaches (timer_runs n u) (pdo_settings n u.running).timer (pdo_counts n u).elapsed ms) (pdo_of n u)

unfoldable pub on_tick : ℕ → State → Result
on_tick ms u =
    let period = u.running.heartbeat in
    accepted (with_counts (elapsed_after true period u.heartbeat ms) (ticked First ms u) u)
    (when_due (reaches true period u.heartbeat ms) (heartbeat_frame u.node u.network) ++ tick_sends First ms u)

-- "A SYNC … counts in Operational with PDO on and type 1 to 240; at the type the PDO goes out and the count is 0"
abbrev pub sync_counts : PdoNumber → State → Bool
sync_counts n u = sending n u && synchronous (pdo_settings n u.running).transmission

abbrev pub sync_due : PdoNumber → State → Bool
sync_due n u = leb (pdo_settings n u.running).transmission ((pdo_counts n u).syncs + 1)

-- what a SYNC makes of a PDO's counts, and what it sends of it
abbrev pub synced : PdoNumber → State → PdoCounts
synced n u =
    let counts = pdo_counts n u in
    cond (sync_counts n u) (record { elapsed = counts.elapsed; syncs = cond (sync_due n u) 0 (counts.syncs + 1) }) counts

abbrev pub sync_sends : PdoNumber → State → List Frame
sync_sends n u = when_due (sync_counts n u && sync_due n u) (pdo_of n u)

unfoldable pub on_sync : State → Result
on_sync u = accepted (with_counts u.heartbeat (synced First u) u) (sync_sends First u)
