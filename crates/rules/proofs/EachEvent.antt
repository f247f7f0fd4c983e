-- What an event and a power-on can come to: what holds of each result holds of theirs.
use mathlib.Core.Path.{◌≡◌}
use mathlib.Core.Bool.{true, ◌&&◌, ◌||◌}
use mathlib.Core.List.{List, [], ◌∷◌}
use Prim.Native.Nat.{ℕ}
use lib.Dec.{eqb}
use lib.IntN.{ℤ}
use lib.ListN.{get_or}
use Rattle.laws.proofs.Bools.{cond_both, cond-each}
use Rattle.rules.specs.declared.events.Event.{Event}
use Rattle.rules.specs.declared.events.Event.TheVariants.{Received, Tick, Measured}
use Rattle.rules.specs.declared.events.FrameHead.{FrameHead}
use Rattle.rules.specs.declared.objects.Axis.{Axis}
use Rattle.rules.specs.declared.objects.Channel.TheVariants.{One, Two}
use Rattle.rules.specs.declared.parts.Identity.{Identity}
use Rattle.rules.specs.declared.requests.Caller.{Caller}
use Rattle.rules.specs.declared.requests.Caller.TheVariants.{Client, Master}
use Rattle.rules.specs.Events.{answered, on_frame, frame_ok, on_event, journal_fits, NotRefused, event, outcome_for, on_request}
use Rattle.rules.specs.Frames.{boot_up_frame, request_at}
use Rattle.rules.specs.Journal.{length_ok}
use Rattle.rules.specs.Network.{start, communicating, on_network_command, on_network}
use Rattle.rules.specs.PowerOn.{saves_in, zero_state, power_on}
use Rattle.rules.specs.Ranges.{in_range, node_ok}
use Rattle.rules.specs.Readings.{on_reading}
use Rattle.rules.specs.Results.{Result, accepted, ignored, refused}
use Rattle.rules.specs.State.{State, stopped, operational, pre_operational, no_counts, with_network, node_else, last_set}
use Rattle.rules.specs.Time.{on_tick, on_sync}

module _ (u : State) (P : Result → Type 0) where
  -- what does nothing, and what each rule does
  pub record Each : Type 0 where
    pub unnamed : P (ignored u)
    pub operational : P (ignored (with_network operational no_counts u))
    pub stopped : P (ignored (with_network stopped u.pdo u))
    pub pre_operational : P (ignored (with_network pre_operational u.pdo u))
    pub started : P (start (last_set u) u.identity u.saves u.lss.node u.journal)
    pub communicated : P (accepted (communicating u) (boot_up_frame (last_set u) ∷ []))
    pub synchronized : P (on_sync u)
    pub ticked : (ms : ℕ) → P (on_tick ms u)
    pub measured : (a : Axis) (m : ℤ) → P (on_reading a m u)
    pub requested : (c : Caller) (bytes : List ℕ) → P (answered c (outcome_for c bytes u) u)

  module _ (each : Each) where
    command : (number : ℕ) → P (on_network_command number u)
    unfolding on_network_command
    command number =
        cond_both P (eqb number 0x01) each.operational
        (cond_both P (eqb number 0x02) each.stopped
        (cond_both P (eqb number 0x80) each.pre_operational
        (cond_both P (eqb number 0x81) each.started
        (cond_both P (eqb number 0x82) each.communicated each.unnamed))))

    network : (bytes : List ℕ) (length : ℕ) → P (on_network bytes length u)
    unfolding on_network
    network bytes length =
        let to = get_or bytes 1 0 in
        cond_both P (eqb length 2 && (eqb to 0 || eqb to u.node)) (command (get_or bytes 0 0)) each.unnamed

    request : (c : Caller) (bytes : List ℕ) (length : ℕ) → P (on_request c bytes length u)
    unfolding on_request
    request c bytes length = cond_both P (eqb length 8) (each.requested c bytes) each.unnamed

    pub each_frame : (f : FrameHead) (bytes : List ℕ) (length : ℕ) → P (on_frame f bytes length u)
    unfolding on_frame
    each_frame f bytes length =
        cond_both P f.remote each.unnamed
        (cond_both P (eqb f.identifier 0) (network bytes length)
        (cond_both P (eqb f.identifier 0x80 && eqb length 0) each.synchronized
        (cond_both P (eqb f.identifier (request_at (Client One) u.node)) (request (Client One) bytes length)
        (cond_both P (eqb f.identifier (request_at (Client Two) u.node)) (request (Client Two) bytes length)
        (cond_both P (eqb f.identifier (request_at Master u.node)) (request Master bytes length) each.unnamed)))))

  -- or it is refused, with the state as given
  module _ (same : (number : ℕ) → P (refused number u)) where
    each_kind : Each → (e : Event) (bytes : List ℕ) (length : ℕ) → P (on_event e bytes length u)
    each_kind each (Received f) bytes length = cond_both P (frame_ok f length) (each_frame each f bytes length) (same 2)
    each_kind each (Tick ms) bytes length = each.ticked ms
    each_kind each (Measured a m) bytes length = each.measured a m

    pub each_event : (NotRefused u → Each) → (e : Event) (bytes : List ℕ) (length : ℕ) → P (event e bytes length u)
    unfolding event
    each_event each e bytes length =
        cond-each P (in_range u) (λ range. cond-each P (journal_fits u) (λ fits. each_kind (each (range, fits)) e bytes length) (λ other. same 1)) (λ out. same 3)

-- power-on is refused, or starts from what it finds in the journal
pub power-each : (P : Result → Type 0) (node : ℕ) (identity : Identity) (j : List ℕ)
    → (node_ok node ≡ true → length_ok j ≡ true → P (start (node_else (saves_in j).node node) identity (saves_in j) 0 j)) → ((number : ℕ) → P (refused number (zero_state j)))
    → P (power_on node identity j)
unfolding power_on
power-each P node identity j on off =
    cond-each P (node_ok node) (λ n. cond-each P (length_ok j) (λ l. on n l) (λ no. off 1)) (λ no. off 4)
