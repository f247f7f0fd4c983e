-- Network, heartbeat, PDO, errors: NMT commands and resets.
use Rattle.std.specs.Prelude.{cond, ◌&&◌, ◌||◌, List, [], ◌∷◌, ℕ, eqb, pos, get_or}
use Rattle.rules.specs.declared.events.Frame.{Frame}
use Rattle.rules.specs.declared.parts.Identity.{Identity}
use Rattle.rules.specs.declared.parts.Reading.{Reading}
use Rattle.rules.specs.declared.parts.Saves.{Saves}
use Rattle.rules.specs.declared.settings.Settings.{Settings}
use Rattle.rules.specs.Errors.{no_errors, entered, register}
use Rattle.rules.specs.Frames.{boot_up_frame, emergency_frame}
use Rattle.rules.specs.Results.{Result, accepted, ignored}
use Rattle.rules.specs.State.{State, stopped, operational, pre_operational, none, last_set, unselected, no_transfers, no_counts, with_network}

abbrev pub no_reading : Reading
no_reading = record { state = none; m = pos 0 }

-- the device as power-on and 81h leave it: "takes all settings, empties the list and sets both axes to none"; with a number set, or 0
abbrev pub started : ℕ → Identity → Saves → ℕ → List ℕ → State
started node identity saves set journal = record {
  node = node;
  identity = identity;
  network = pre_operational;
  lss = unselected set;
  saves = saves;
  running = saves.stored;
  errors = cond (eqb saves.spoiled 0) no_errors (entered 0xFF00 no_errors);
  heartbeat = 0;
  pdo = no_counts;
  transfers = no_transfers;
  x = no_reading;
  y = no_reading;
  journal = journal;
}

-- "EMCY FF00h (register 81h) follows boot-up, listed, at power-on and after 81h"
abbrev pub booted : ℕ → ℕ → List Frame
booted node spoiled = boot_up_frame node ∷ cond (eqb spoiled 0) [] (emergency_frame node 0xFF00 (register spoiled none none) ∷ [])

unfoldable pub start : ℕ → Identity → Saves → ℕ → List ℕ → Result
start node identity saves set journal =
    accepted (started node identity saves set journal) (booted node saves.spoiled)

-- "82h takes 1017 and 1800 from the stored settings"; "A number takes effect at the next 81h or 82h"
abbrev pub communicating : State → State
communicating u =
    let t = u.running in
    let stored = u.saves.stored in
    let running : Settings = record { heartbeat = stored.heartbeat; pdo = stored.pdo; resolution = t.resolution; x = t.x; y = t.y } in
    record {
      node = last_set u;
      identity = u.identity;
      network = pre_operational;
      lss = unselected u.lss.node;
      saves = u.saves;
      running = running;
      errors = u.errors;
      heartbeat = 0;
      pdo = no_counts;
      transfers = no_transfers;
      x = u.x;
      y = u.y;
      journal = u.journal;
    }

-- "01h Operational, 02h Stopped, 80h Pre-Operational, 81h, 82h resets; a different command is ignored"; "Start zeroes the PDO's elapsed and SYNC counts"
unfoldable pub on_network_command : ℕ → State → Result
on_network_command command u =
    cond (eqb command 0x01) (ignored (with_network operational no_counts u))
    (cond (eqb command 0x02) (ignored (with_network stopped u.pdo u))
    (cond (eqb command 0x80) (ignored (with_network pre_operational u.pdo u))
    (cond (eqb command 0x81) (start (last_set u) u.identity u.saves u.lss.node u.journal)
    (cond (eqb command 0x82) (accepted (communicating u) (boot_up_frame (last_set u) ∷ []))
    (ignored u)))))

-- "length 2, node 0 or own"
unfoldable pub on_network : List ℕ → ℕ → State → Result
on_network bytes size u =
    cond (eqb size 2 && (eqb (get_or bytes 1 0) 0 || eqb (get_or bytes 1 0) u.node)) (on_network_command (get_or bytes 0 0) u) (ignored u)
