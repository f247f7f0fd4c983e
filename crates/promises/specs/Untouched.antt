-- Demand 1 as the promises say it: what a refused call hands back to the recorder.
use Rattle.std.specs.Prelude.{◌≡◌, List, [], ℕ, replicate}
use Rattle.answers.specs.declared.Answer.{Answer}
use Rattle.basintilt.specs.declared.Happening.{Happening}
use Rattle.basintilt.specs.Lent.{Lent}
use Rattle.device.specs.declared.Device.{Device}
use Rattle.device.specs.declared.Stepped.{Stepped}
use Rattle.device.specs.Promise.{Answered, PoweredOn}
use Rattle.device.specs.Seen.{held}
use Rattle.rules.specs.declared.events.Event.{Event}
use Rattle.rules.specs.declared.parts.Identity.{Identity}
use Rattle.rules.specs.Frames.{no_frame}
use Rattle.rules.specs.PowerOn.{zero_state}
use Rattle.rules.specs.Results.{most_frames}

-- a refusal and no frame: the count is 0 and every place is all zero
abbrev pub sends_nothing : ℕ → Answer
sends_nothing refusal = record { refusal = refusal; count = 0; frames = replicate most_frames no_frame }

-- "leave record and journal as given"
abbrev pub LentUntouched : Type 0
LentUntouched =
    (d : Device) (j : List ℕ) (h : Happening) (r : Answer) (a : Device) (k : List ℕ) →
    Lent d j h r a k → ¬ (r.refusal ≡ 0) → (a ≡ d) × (k ≡ j) × (r ≡ sends_nothing r.refusal)

abbrev pub EventHandsBack : Type 0
EventHandsBack =
    (d : Device) (j : List ℕ) (e : Event) (bytes : List ℕ) (size : ℕ) (r : Stepped) (k : List ℕ) →
    Answered d j e bytes size r k → ¬ (r.answer.refusal ≡ 0) → (r.device ≡ d) × (k ≡ j) × (r.answer ≡ sends_nothing r.answer.refusal)

-- "a refused power-on returns the all-zero record"
abbrev pub zero_record : Device
zero_record = held (zero_state [])

abbrev pub PowerOnHandsBack : Type 0
PowerOnHandsBack =
    (node : ℕ) (identity : Identity) (j : List ℕ) (r : Stepped) →
    PoweredOn node identity j r → ¬ (r.answer.refusal ≡ 0) → (r.device ≡ zero_record) × (r.answer ≡ sends_nothing r.answer.refusal)

-- "which every event refuses with 3"
abbrev pub ZeroRecordRefused : Type 0
ZeroRecordRefused = (j : List ℕ) (h : Happening) (r : Answer) (a : Device) (k : List ℕ) → Lent zero_record j h r a k → r.refusal ≡ 3
