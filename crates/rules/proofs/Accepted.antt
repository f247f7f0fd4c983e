-- What no refusal meets is accepted, whatever rule names it; and none of them changes the number of blocks.
use mathlib.Core.Path.{◌≡◌, refl}
use mathlib.Core.List.{List}
use Prim.Native.Nat.{ℕ}
use lib.IntN.{ℤ}
use Rattle.rules.specs.declared.events.FrameHead.{FrameHead}
use Rattle.rules.specs.declared.objects.Axis.{Axis}
use Rattle.rules.specs.declared.objects.Axis.TheVariants.{X, Y}
use Rattle.rules.specs.Events.{on_frame}
use Rattle.rules.specs.Network.{start}
use Rattle.rules.specs.Readings.{on_reading}
use Rattle.rules.specs.Results.{Result}
use Rattle.rules.specs.State.{State, last_set}
use Rattle.rules.proofs.EachEvent.{each_frame}
use Rattle.rules.specs.Time.{on_tick, on_sync}

module _ (u : State) where
  abbrev pub Accepted : Result → Type 0
  Accepted r = (r.refusal ≡ 0) × (r.state.saves.blocks ≡ u.saves.blocks)

  start-accepted : Accepted (start (last_set u) u.identity u.saves u.lss.node u.journal)
  unfolding start
  start-accepted = (refl, refl)

  sync_accepted : Accepted (on_sync u)
  unfolding on_sync
  sync_accepted = (refl, refl)

  pub tick_accepted : (ms : ℕ) → Accepted (on_tick ms u)
  unfolding on_tick
  tick_accepted ms = (refl, refl)

  pub reading-accepted : (a : Axis) (m : ℤ) → Accepted (on_reading a m u)
  unfolding on_reading
  reading-accepted X m = (refl, refl)
  reading-accepted Y m = (refl, refl)

  pub frame-accepted : (f : FrameHead) (bytes : List ℕ) (length : ℕ) → Accepted (on_frame f bytes length u)
  frame-accepted =
      each_frame u Accepted
      (record {
        unnamed = (refl, refl);
        operational = (refl, refl);
        stopped = (refl, refl);
        pre_operational = (refl, refl);
        started = start-accepted;
        communicated = (refl, refl);
        synchronized = sync_accepted;
        ticked = tick_accepted;
        measured = reading-accepted;
        requested = λ c bytes. (refl, refl);
      })
