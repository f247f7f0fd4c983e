-- The device and what moves it: what an event or a power-on answers.
use Rattle.std.specs.Prelude.{List, [], ℕ}
use Rattle.rules.specs.declared.events.Frame.{Frame}
use Rattle.rules.specs.State.{State}

-- "0 to 2 frames": the most of one answer
abbrev pub most_frames : ℕ
most_frames = 2

-- the number of the refusal or 0, the device and the journal then, and the frames sent, in their order
pub record Result : Type 0 where
  pub refusal : ℕ
  pub state : State
  pub sent : List Frame

abbrev pub accepted : State → List Frame → Result
accepted u frames = record { refusal = 0; state = u; sent = frames }

-- what does nothing
abbrev pub ignored : State → Result
ignored u = accepted u []

-- "send nothing and leave record and journal as given"
abbrev pub refused : ℕ → State → Result
refused number u = record { refusal = number; state = u; sent = [] }
