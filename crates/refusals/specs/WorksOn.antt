-- The record stays in range: a sensor that works once works on, whatever events follow.
use Rattle.std.specs.Prelude.{◌≡◌, true, List, [], ◌∷◌, ◌↔◌, ℕ, length}
use Rattle.rules.specs.declared.events.Event.{Event}
use Rattle.rules.specs.declared.parts.Identity.{Identity}
use Rattle.rules.specs.Events.{event}
use Rattle.rules.specs.PowerOn.{power_on}
use Rattle.rules.specs.Ranges.{in_range}
use Rattle.rules.specs.State.{State}
use Rattle.refusals.specs.Rows.{WrongFrame}

-- an event with its bytes and their number
pub record Given : Type 0 where
  pub event : Event
  pub bytes : List ℕ
  pub length : ℕ

-- the device and the journal after a list of events, refused ones too
abbrev pub after_events : List Given → State → State
after_events [] u = u
after_events (g ∷ gs) u = after_events gs (event g.event g.bytes g.length u).state

-- the record beside another journal that is lent
abbrev pub lent : List ℕ → State → State
lent j u = record {
  node = u.node;
  identity = u.identity;
  network = u.network;
  lss = u.lss;
  saves = u.saves;
  running = u.running;
  errors = u.errors;
  heartbeat = u.heartbeat;
  pdo = u.pdo;
  transfers = u.transfers;
  x = u.x;
  y = u.y;
  journal = j;
}

-- an accepted event keeps the record in range and the journal's length
abbrev pub StaysInRange : Type 0
StaysInRange =
    (e : Event) (bytes : List ℕ) (n : ℕ) (u : State) →
    (event e bytes n u).refusal ≡ 0 →
    let v = (event e bytes n u).state in
    (in_range v ≡ true) × (length v.journal ≡ length u.journal)

-- after an accepted power-on and any events nothing is refused but a wrong frame, and a journal of "not the length at power-on"
abbrev pub WorksOn : Type 0
WorksOn =
    (node : ℕ) (identity : Identity) (j : List ℕ) →
    (power_on node identity j).refusal ≡ 0 →
    (gs : List Given) →
    let u = after_events gs (power_on node identity j).state in
    (in_range u ≡ true)
    × (length u.journal ≡ length j)
    × ((e : Event) (bytes : List ℕ) (n : ℕ) → (event e bytes n u).refusal ≡ 0 ↔ ¬ WrongFrame e n)
    × ((e : Event) (bytes : List ℕ) (n : ℕ) (k : List ℕ) → (event e bytes n (lent k u)).refusal ≡ 1 ↔ ¬ (length k ≡ length j))
