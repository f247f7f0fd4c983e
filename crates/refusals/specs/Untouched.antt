-- Demand 1: "Refusals 1 to 4 send nothing and leave record and journal as given; a refused power-on returns the all-zero record".
use Rattle.std.specs.Prelude.{◌≡◌, List, [], ℕ}
use Rattle.rules.specs.declared.events.Event.{Event}
use Rattle.rules.specs.declared.parts.Identity.{Identity}
use Rattle.rules.specs.Events.{event}
use Rattle.rules.specs.PowerOn.{zero_state, power_on}
use Rattle.rules.specs.Results.{refused}
use Rattle.rules.specs.State.{State}

abbrev pub EventUntouched : Type 0
EventUntouched =
    (e : Event) (bytes : List ℕ) (n : ℕ) (u : State) →
    ¬ ((event e bytes n u).refusal ≡ 0) → ((event e bytes n u).state ≡ u) × ((event e bytes n u).sent ≡ [])

-- the all-zero record, and the journal as it was
abbrev pub PowerOnUntouched : Type 0
PowerOnUntouched =
    (node : ℕ) (identity : Identity) (j : List ℕ) →
    ¬ ((power_on node identity j).refusal ≡ 0) → ((power_on node identity j).state ≡ zero_state j) × ((power_on node identity j).sent ≡ [])

-- "the all-zero record, which every event refuses with 3"
abbrev pub ZeroRefused : Type 0
ZeroRefused = (e : Event) (bytes : List ℕ) (n : ℕ) (j : List ℕ) → event e bytes n (zero_state j) ≡ refused 3 (zero_state j)
