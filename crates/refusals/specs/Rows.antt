-- Demand 1, the refusal table: each number is "given exactly when" its row says, with the order column.
use Rattle.std.specs.Prelude.{◌≡◌, false, List, ◌↔◌, ◌⊎◌, ℕ, ◌*◌, ◌≤◌, ◌<◌, length}
use Rattle.rules.specs.declared.events.Event.{Event}
use Rattle.rules.specs.declared.events.Event.TheVariants.{Received, Tick, Measured}
use Rattle.rules.specs.declared.parts.Identity.{Identity}
use Rattle.rules.specs.Events.{event}
use Rattle.rules.specs.PowerOn.{power_on}
use Rattle.rules.specs.Ranges.{in_range}
use Rattle.rules.specs.State.{State}

-- "device record has a field outside its range"
abbrev pub WrongRecord : State → Type 0
WrongRecord u = in_range u ≡ false

-- "journal length not 512 times 1 to 128"
abbrev pub WrongLength : List ℕ → Type 0
WrongLength j = (blocks : ℕ) → 1 ≤ blocks → blocks ≤ 128 → ¬ (length j ≡ 512 * blocks)

-- "or not the length at power-on", 512 times the blocks that the record holds since
abbrev pub OtherLength : State → Type 0
OtherLength u = ¬ (length u.journal ≡ 512 * u.saves.blocks)

abbrev pub WrongJournal : State → Type 0
WrongJournal u = WrongLength u.journal ⊎ OtherLength u

-- "frame identifier over 7FFh or length over 8"; a tick and a reading are no frame
abbrev pub WrongFrame : Event → ℕ → Type 0
WrongFrame (Received f) n = (0x7FF < f.identifier) ⊎ (8 < n)
WrongFrame (Tick ms) n = ⊥
WrongFrame (Measured a m) n = ⊥

-- "node number not 1 to 47"
abbrev pub WrongNode : ℕ → Type 0
WrongNode node = ¬ ((1 ≤ node) × (node ≤ 47))

-- "event 1st": 3, "event 2nd": 1, "event 3rd": 2, else 0; no other number
abbrev pub EventRows : Type 0
EventRows =
    (e : Event) (bytes : List ℕ) (n : ℕ) (u : State) →
    let refusal = (event e bytes n u).refusal in
    (refusal ≡ 3 ↔ WrongRecord u)
    × (refusal ≡ 1 ↔ (¬ WrongRecord u) × WrongJournal u)
    × (refusal ≡ 2 ↔ (¬ WrongRecord u) × (¬ WrongJournal u) × WrongFrame e n)
    × (refusal ≡ 0 ↔ (¬ WrongRecord u) × (¬ WrongJournal u) × (¬ WrongFrame e n))
    × (refusal ≤ 3)

-- "power-on 1st": 4, "power-on 2nd": 1, else 0; no other number
abbrev pub PowerOnRows : Type 0
PowerOnRows =
    (node : ℕ) (identity : Identity) (j : List ℕ) →
    let refusal = (power_on node identity j).refusal in
    (refusal ≡ 4 ↔ WrongNode node)
    × (refusal ≡ 1 ↔ (¬ WrongNode node) × WrongLength j)
    × (refusal ≡ 0 ↔ (¬ WrongNode node) × (¬ WrongLength j))
    × ((refusal ≡ 4) ⊎ (refusal ≤ 1))
