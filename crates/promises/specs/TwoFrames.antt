-- "The answer is the new device record and 0 to 2 frames": the answer has room for two, and no frame is lost in it.
use Rattle.std.specs.Prelude.{◌≡◌, List, ℕ, take}
use Rattle.answers.specs.declared.Answer.{Answer}
use Rattle.basintilt.specs.declared.Happening.{Happening}
use Rattle.basintilt.specs.Happenings.{event_of, length_in}
use Rattle.basintilt.specs.Lent.{Lent}
use Rattle.device.specs.declared.Device.{Device}
use Rattle.device.specs.declared.Stepped.{Stepped}
use Rattle.device.specs.Promise.{Answered, PoweredOn, event_on}
use Rattle.rules.specs.declared.events.Event.{Event}
use Rattle.rules.specs.declared.events.Frame.{Frame}
use Rattle.rules.specs.declared.parts.Identity.{Identity}
use Rattle.rules.specs.PowerOn.{power_on}

-- the frames of an answer: as many as its count says
abbrev pub frames_in : Answer → List Frame
frames_in a = take a.count a.frames

abbrev pub EventFrames : Type 0
EventFrames =
    (d : Device) (j : List ℕ) (e : Event) (bytes : List ℕ) (size : ℕ) (r : Stepped) (k : List ℕ) →
    Answered d j e bytes size r k → frames_in r.answer ≡ (event_on d j e bytes size).sent

abbrev pub LentFrames : Type 0
LentFrames =
    (d : Device) (j : List ℕ) (h : Happening) (r : Answer) (a : Device) (k : List ℕ) →
    Lent d j h r a k → frames_in r ≡ (event_on d j (event_of h) h.bytes (length_in h)).sent

abbrev pub PowerOnFrames : Type 0
PowerOnFrames =
    (node : ℕ) (identity : Identity) (j : List ℕ) (r : Stepped) →
    PoweredOn node identity j r → frames_in r.answer ≡ (power_on node identity j).sent
