-- "0 to 2 frames": no event and no power-on sends more.
use mathlib.Core.Bool.{Bool, true, false, not, ◌&&◌}
use mathlib.Core.List.{List, [], ◌∷◌, ◌++◌}
use Prim.Native.Nat.{ℕ, ◌≤◌}
use native.Mathlib.Omega.{arith}
use lib.Dec.{eqb}
use lib.IntN.{ℤ}
use lib.ListN.{length}
use Rattle.std.specs.Prelude.{Option, Some, None}
use Rattle.laws.proofs.Bools.{cond_both}
use Rattle.rules.specs.declared.events.Event.{Event}
use Rattle.rules.specs.declared.events.Frame.{Frame}
use Rattle.rules.specs.declared.objects.Axis.{Axis}
use Rattle.rules.specs.declared.objects.PdoNumber.TheVariants.{First}
use Rattle.rules.specs.declared.parts.Identity.{Identity}
use Rattle.rules.specs.declared.parts.Saves.{Saves}
use Rattle.rules.specs.declared.requests.Caller.{Caller}
use Rattle.rules.specs.Events.{event, outcome_for}
use Rattle.rules.specs.Frames.{boot_up_frame, reply_frames}
use Rattle.rules.specs.Network.{start}
use Rattle.rules.specs.PowerOn.{saves_in, power_on}
use Rattle.rules.specs.Readings.{fails, register_of, with_measured, on_reading}
use Rattle.rules.specs.Results.{Result, most_frames}
use Rattle.rules.specs.State.{State, stopped, reading, node_else, last_set}
use Rattle.rules.specs.Time.{when_due, reaches, timer_runs, sync_counts, sync_due, on_tick, on_sync}
use Rattle.rules.proofs.EachEvent.{each_event, power-each}

abbrev Few : List Frame → Type 0
Few frames = length frames ≤ most_frames

none : Few []
none = omega arith

one : (f : Frame) → Few (f ∷ [])
one f = omega arith

few-replies : (c : Caller) (node : ℕ) (r : Option (List ℕ)) → Few (reply_frames c node r)
few-replies c node (Some bytes) = omega arith
few-replies c node None = none

-- a heartbeat and then a PDO, each where it is due
two_due : (a b : Bool) (f g : Frame) → Few (when_due a f ++ when_due b g)
two_due true true f g = omega arith
two_due true false f g = omega arith
two_due false true f g = omega arith
two_due false false f g = omega arith

started : (node : ℕ) (identity : Identity) (saves : Saves) (set : ℕ) (j : List ℕ) → Few (start node identity saves set j).sent
unfolding start
started node identity saves set j = cond_both (λ (l : List Frame). Few (boot_up_frame node ∷ l)) (eqb saves.spoiled 0) (one (boot_up_frame node)) (omega arith)

module _ (u : State) where
  ticked : (ms : ℕ) → Few (on_tick ms u).sent
  unfolding on_tick
  ticked ms = two_due (reaches true u.running.heartbeat u.heartbeat ms) (reaches (timer_runs First u) u.running.pdo.timer u.pdo.elapsed ms) _ _

  synchronized : Few (on_sync u).sent
  unfolding on_sync
  synchronized = cond_both Few (sync_counts First u && sync_due First u) (omega arith) none

  measured : (a : Axis) (m : ℤ) → Few (on_reading a m u).sent
  unfolding on_reading
  measured a m =
      let v = with_measured a m u in
      cond_both Few (eqb u.network stopped) none
      (cond_both Few (fails m (reading a u)) (omega arith) (cond_both Few (not (eqb (register_of u) 0) && eqb (register_of v) 0) (omega arith) none))

  pub event_sends : (e : Event) (bytes : List ℕ) (n : ℕ) → length (event e bytes n u).sent ≤ most_frames
  event_sends =
      each_event u (λ (r : Result). Few r.sent) (λ number. none)
      (λ h. record {
        unnamed = none;
        operational = none;
        stopped = none;
        pre_operational = none;
        started = started (last_set u) u.identity u.saves u.lss.node u.journal;
        communicated = one (boot_up_frame (last_set u));
        synchronized = synchronized;
        ticked = ticked;
        measured = measured;
        requested = λ c bytes. few-replies c u.node (outcome_for c bytes u).reply;
      })

pub power_on_sends : (node : ℕ) (identity : Identity) (j : List ℕ) → length (power_on node identity j).sent ≤ most_frames
power_on_sends node identity j = power-each (λ (r : Result). Few r.sent) node identity j (λ n l. started (node_else (saves_in j).node node) identity (saves_in j) 0 j) (λ number. none)
