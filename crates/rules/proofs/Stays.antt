-- An event leaves a record in range and a journal at its length, and power-on gives them.
use mathlib.Core.Path.{◌≡◌, refl}
use mathlib.Core.Bool.{Bool, true, cond}
use mathlib.Core.List.{List}
use Prim.Native.Nat.{ℕ, suc, ◌*◌}
use native.Mathlib.Omega.{arith}
use lib.Dec.{eqb}
use lib.IntN.{ℤ}
use lib.ListN.{length}
use borrow.Author.Tests.{eq-eqb}
use Rattle.laws.proofs.Bools.{both, left, right, cond_both, cond-each}
use Rattle.rules.specs.declared.errors.ErrorList.{ErrorList}
use Rattle.rules.specs.declared.events.Event.{Event}
use Rattle.rules.specs.declared.objects.Axis.{Axis}
use Rattle.rules.specs.declared.objects.Axis.TheVariants.{X, Y}
use Rattle.rules.specs.declared.objects.PdoNumber.TheVariants.{First}
use Rattle.rules.specs.declared.objects.Setting.{Setting}
use Rattle.rules.specs.declared.objects.Setting.TheVariants.{Heartbeat, Pdo, Resolution, Operating, Preset, Offset, Differential}
use Rattle.rules.specs.declared.parts.Identity.{Identity}
use Rattle.rules.specs.declared.parts.PdoCounts.{PdoCounts}
use Rattle.rules.specs.declared.parts.Reading.{Reading}
use Rattle.rules.specs.declared.parts.Saves.{Saves}
use Rattle.rules.specs.Errors.{no_errors, entered}
use Rattle.rules.specs.Events.{NotRefused, event}
use Rattle.rules.specs.Journal.{blocks_in, length_ok}
use Rattle.rules.specs.Network.{started, start, communicating}
use Rattle.rules.specs.PowerOn.{saves_in, power_on}
use Rattle.rules.specs.Ranges.{in_range, node_ok, network_ok, saves_ok, errors_ok, elapsed_ok, counts_ok, syncs_ok, axis_ok}
use Rattle.rules.specs.Readings.{fault_code, fails, on_reading}
use Rattle.rules.specs.Results.{Result}
use Rattle.rules.specs.Settings.{synchronous, in_table, axis_settings, setting, within}
use Rattle.rules.specs.State.{State, operational, stopped, pre_operational, no_counts, moved, with_network, node_or_none, node_else, last_set}
use Rattle.rules.specs.Time.{sending, timer_runs, sync_counts, on_tick, on_sync}
use Rattle.rules.proofs.EachEvent.{each_event}
use Rattle.rules.proofs.InRange.{InRange, parts, together, saves-parts}
use Rattle.rules.proofs.Nodes.{node_else_lem, lss_in, lss-node, last_set_lem}
use Rattle.rules.proofs.Ranges.{no-errors_in, no_elapsed_in, no-counts_in, entered_in}
use Rattle.rules.proofs.Run.{sized, saves_in_lem}
use Rattle.rules.proofs.Served.{served_in}
use Rattle.rules.proofs.Table.{setting_in, in_table_lem}
use Rattle.rules.proofs.Moves.{elapsed_in, syncs_in, measured_in, code_in, none_in}

-- the device as power-on and 81h leave it
started_in : (node : ℕ) (identity : Identity) (saves : Saves) (set : ℕ) (j : List ℕ) → node_ok node ≡ true → saves_ok saves ≡ true → node_or_none set ≡ true
    → in_range (started node identity saves set j) ≡ true
started_in node identity saves set j n s l =
    together (started node identity saves set j)
    (record {
      node = n;
      network = refl;
      saves = s;
      running = (saves-parts saves s).stored;
      errors = cond_both (λ (l : ErrorList). errors_ok l ≡ true) (eqb saves.spoiled 0) no-errors_in (entered_in 0xFF00 no_errors refl no-errors_in);
      heartbeat = no_elapsed_in saves.stored.heartbeat;
      pdo = no-counts_in saves.stored.pdo;
      transfers = refl;
      x = none_in;
      y = none_in;
      lss = lss_in 0 0 set refl refl l;
    })

module _ (u : State) (fine : NotRefused u) where
  abbrev is : InRange u
  is = parts u fine.0

  -- the parts that the network, time and readings move
  moved_in : (network heartbeat : ℕ) (pdo : PdoCounts) (errors : ErrorList) (x y : Reading)
      → network_ok network ≡ true → elapsed_ok u.running.heartbeat heartbeat ≡ true → counts_ok u.running.pdo pdo ≡ true
      → errors_ok errors ≡ true → axis_ok x ≡ true → axis_ok y ≡ true → NotRefused (moved network u.running errors heartbeat pdo u.transfers x y u)
  moved_in network heartbeat pdo errors x y n h p e f g = (
    together (moved network u.running errors heartbeat pdo u.transfers x y u)
        (record { node = is.node; network = n; saves = is.saves; running = is.running; errors = e; heartbeat = h; pdo = p; transfers = is.transfers; x = f; y = g; lss = is.lss }),
    fine.1,
  )

  tick_stays : (ms : ℕ) → NotRefused (on_tick ms u).state
  unfolding on_tick
  tick_stays ms =
      let period = u.running.pdo.timer in
      let count = u.pdo.elapsed in
      let syncs = syncs_ok u.running.pdo.transmission u.pdo.syncs in
      moved_in _ _ _ _ _ _ is.network (elapsed_in true u.running.heartbeat u.heartbeat ms is.heartbeat)
      (both (elapsed_in (timer_runs First u) period count ms (left (elapsed_ok period count) syncs is.pdo)) (right (elapsed_ok period count) syncs is.pdo))
      is.errors is.x is.y

  sync_stays : NotRefused (on_sync u).state
  unfolding on_sync
  sync_stays =
      let type = u.running.pdo.transmission in
      let elapsed = elapsed_ok u.running.pdo.timer u.pdo.elapsed in
      moved_in _ _ _ _ _ _ is.network is.heartbeat
      (cond-each (λ (c : PdoCounts). counts_ok u.running.pdo c ≡ true) (sync_counts First u)
      (λ e. both (left elapsed (syncs_ok type u.pdo.syncs) is.pdo) (syncs_in type u.pdo.syncs (right (sending First u) (synchronous type) e)))
      (λ e. is.pdo))
      is.errors is.x is.y

  errors_in : (a : Axis) (t : Bool) → errors_ok (cond t (entered (fault_code a) u.errors) u.errors) ≡ true
  errors_in a t = cond_both (λ (l : ErrorList). errors_ok l ≡ true) t (entered_in (fault_code a) u.errors (code_in a) is.errors) is.errors

  reading-stays : (a : Axis) (m : ℤ) → NotRefused (on_reading a m u).state
  unfolding on_reading
  reading-stays X m =
      moved_in _ _ _ _ _ _ is.network is.heartbeat is.pdo (errors_in X (fails m u.x)) (measured_in m u.x is.x) is.y
  reading-stays Y m =
      moved_in _ _ _ _ _ _ is.network is.heartbeat is.pdo (errors_in Y (fails m u.y)) is.x (measured_in m u.y is.y)

  set : node_or_none u.lss.node ≡ true
  set = lss-node u.lss is.lss

  -- 82h: 1017 and 1800 of the stored settings beside the others
  communicating-stays : NotRefused (communicating u)
  communicating-stays =
      let stored = (saves-parts u.saves is.saves).stored in (
        together (communicating u)
            (record {
              node = last_set_lem u is;
              network = refl;
              saves = is.saves;
              running = in_table_lem (communicating u).running (mixed stored);
              errors = is.errors;
              heartbeat = no_elapsed_in u.saves.stored.heartbeat;
              pdo = no-counts_in u.saves.stored.pdo;
              transfers = refl;
              x = is.x;
              y = is.y;
              lss = lss_in 0 0 u.lss.node refl refl set;
            }),
        fine.1,
      )
    where
      axes : (a : Axis) → axis_settings a (communicating u).running ≡ axis_settings a u.running
      axes X = refl
      axes Y = refl

      mixed : in_table u.saves.stored ≡ true → (s : Setting) → within s (setting s (communicating u).running) ≡ true
      mixed e Heartbeat = setting_in u.saves.stored e Heartbeat
      mixed e (Pdo First p) = setting_in u.saves.stored e (Pdo First p)
      mixed e Resolution = setting_in u.running is.running Resolution
      mixed e (Operating a) = rw (setting, axes a) (setting_in u.running is.running (Operating a))
      mixed e (Preset a) = rw (setting, axes a) (setting_in u.running is.running (Preset a))
      mixed e (Offset a) = rw (setting, axes a) (setting_in u.running is.running (Offset a))
      mixed e (Differential a) = rw (setting, axes a) (setting_in u.running is.running (Differential a))

  to : (network : ℕ) (pdo : PdoCounts) → network_ok network ≡ true → counts_ok u.running.pdo pdo ≡ true → NotRefused (with_network network pdo u)
  to network pdo n p = moved_in _ _ _ _ _ _ n is.heartbeat p is.errors is.x is.y

  started-stays : NotRefused (start (last_set u) u.identity u.saves u.lss.node u.journal).state
  unfolding start
  started-stays = (started_in (last_set u) u.identity u.saves u.lss.node u.journal (last_set_lem u is) is.saves set, fine.1)

  pub event-stays : (e : Event) (bytes : List ℕ) (length : ℕ) → NotRefused (event e bytes length u).state
  event-stays =
      each_event u (λ (r : Result). NotRefused r.state) (λ number. fine)
      (λ h. record {
        unnamed = fine;
        operational = to operational no_counts refl (no-counts_in u.running.pdo);
        stopped = to stopped u.pdo refl is.pdo;
        pre_operational = to pre_operational u.pdo refl is.pdo;
        started = started-stays;
        communicated = communicating-stays;
        synchronized = sync_stays;
        ticked = tick_stays;
        measured = reading-stays;
        requested = λ c bytes. served_in c bytes u fine.0 fine.1;
      })

-- an accepted power-on
abbrev Started : Result → Type 0
Started r = r.refusal ≡ 0 → NotRefused r.state

never : {X : Type 0} (n : ℕ) → suc n ≡ 0 → X
never n e = absurd (omega (arith, e))

pub start-stays : (node : ℕ) (identity : Identity) (j : List ℕ) → (power_on node identity j).refusal ≡ 0 → NotRefused (power_on node identity j).state
unfolding power_on start saves_in
start-stays node identity j =
    cond-each Started (node_ok node)
    (λ n. cond-each Started (length_ok j)
    (λ l e. (started_in (node_else (saves_in j).node node) identity (saves_in j) 0 j (node_else_lem (saves_in j).node node (saves-parts (saves_in j) (saves_in_lem j l)).node n) (saves_in_lem j l) refl, eq-eqb (length j) (512 * blocks_in j) (sized j l).length))
    (λ l e. never 0 e))
    (λ n e. never 3 e)
