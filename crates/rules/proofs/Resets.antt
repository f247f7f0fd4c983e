-- Which settings and which number run after power-on, 81h and 82h.
use mathlib.Core.Path.{◌≡◌, refl}
use mathlib.Core.Bool.{true, false, ◌||◌}
use mathlib.Core.List.{List, [], ◌∷◌}
use Prim.Native.Nat.{ℕ}
use lib.Dec.{eqb}
use lib.ListN.{get_or, take}
use Rattle.laws.proofs.Bools.{no}
use Rattle.rules.specs.declared.events.Event.TheVariants.{Received}
use Rattle.rules.specs.declared.parts.Identity.{Identity}
use Rattle.rules.specs.Events.{on_frame, journal_fits, event}
use Rattle.rules.specs.Frames.{boot_up_frame}
use Rattle.rules.specs.Journal.{length_ok}
use Rattle.rules.specs.Network.{start, on_network_command, on_network}
use Rattle.rules.specs.PowerOn.{saves_in, zero_state, power_on}
use Rattle.rules.specs.Ranges.{in_range, node_ok}
use Rattle.rules.specs.State.{State, node_else, last_set}

pub zero-refused : (j : List ℕ) {A : Type 0} → in_range (zero_state j) ≡ true → A
unfolding in_range
zero-refused j e = no e

-- "81h, like power-on, takes all settings"
pub power_on_takes : (node : ℕ) (identity : Identity) (j : List ℕ) → node_ok node ≡ true → length_ok j ≡ true
    → (power_on node identity j).state.running ≡ (saves_in j).stored
unfolding power_on start
power_on_takes node identity j n l = rw (n, l)

pub power_on_saves : (node : ℕ) (identity : Identity) (j : List ℕ) → node_ok node ≡ true → length_ok j ≡ true
    → (power_on node identity j).state.saves.filled ≡ (saves_in j).filled
unfolding power_on start
power_on_saves node identity j n l = rw (n, l)

-- "after a power-on the stored one holds"
pub power_on_number : (node : ℕ) (identity : Identity) (j : List ℕ) → node_ok node ≡ true → length_ok j ≡ true
    → (power_on node identity j).state.node ≡ node_else (saves_in j).node node
unfolding power_on start
power_on_number node identity j n l = rw (n, l)

module _ (u : State) (bytes : List ℕ) (range : in_range u ≡ true) (fits : journal_fits u ≡ true)
    (own : eqb (get_or bytes 1 0) 0 || eqb (get_or bytes 1 0) u.node ≡ true) where
  pub reset_takes : get_or bytes 0 0 ≡ 0x81 → (event (Received (record { identifier = 0; remote = false })) bytes 2 u).state.running ≡ u.saves.stored
  unfolding event on_frame on_network on_network_command start
  reset_takes e = rw (range, fits, own, e)

  -- "82h takes 1017 and 1800 from the stored settings", and no other
  pub communication_reset_takes : get_or bytes 0 0 ≡ 0x82
      → (event (Received (record { identifier = 0; remote = false })) bytes 2 u).state.running
      ≡ record {
        heartbeat = u.saves.stored.heartbeat;
        pdo = u.saves.stored.pdo;
        resolution = u.running.resolution;
        x = u.running.x;
        y = u.running.y;
      }
  unfolding event on_frame on_network on_network_command
  communication_reset_takes e = rw (range, fits, own, e)

  -- "A number takes effect at the next 81h or 82h": boot-up goes out under it
  pub reset_number : get_or bytes 0 0 ≡ 0x81
      → let r = event (Received (record { identifier = 0; remote = false })) bytes 2 u in
      (r.state.node ≡ last_set u) × (take 1 r.sent ≡ boot_up_frame (last_set u) ∷ [])
  unfolding event on_frame on_network on_network_command start
  reset_number e = rw (range, fits, own, e) (refl, refl)

  pub communication_reset_number : get_or bytes 0 0 ≡ 0x82
      → let r = event (Received (record { identifier = 0; remote = false })) bytes 2 u in
      (r.state.node ≡ last_set u) × (take 1 r.sent ≡ boot_up_frame (last_set u) ∷ [])
  unfolding event on_frame on_network on_network_command
  communication_reset_number e = rw (range, fits, own, e) (refl, refl)
