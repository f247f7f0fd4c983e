-- Demand 2: the sensors that it keeps out, each as what holds of every sensor of its kind.
use Rattle.std.specs.Prelude.{◌≡◌, true, List, [], ◌∷◌, ℕ, length}
use Rattle.interleaving.specs.Demand3.{constant}
use Rattle.interleaving.specs.Runs.{Sensor}
use Rattle.rules.specs.declared.events.Event.{Event}
use Rattle.rules.specs.declared.events.Frame.{Frame}
use Rattle.rules.specs.declared.objects.Channel.{Channel}
use Rattle.rules.specs.declared.parts.Identity.{Identity}
use Rattle.rules.specs.declared.requests.Caller.TheVariants.{Client}
use Rattle.rules.specs.Events.{request, NotRefused, event}
use Rattle.rules.specs.Frames.{reply_frame}
use Rattle.rules.specs.Numbers.{four}
use Rattle.rules.specs.PowerOn.{power_on}
use Rattle.rules.specs.Service.{served}
use Rattle.rules.specs.State.{State}

-- "what comes back and what every lent byte holds then, for all inputs, refused ones too"
abbrev pub Meets : Sensor → Type 0
Meets sensor = (e : Event) (bytes : List ℕ) (n : ℕ) (u : State) → sensor e bytes n u ≡ event e bytes n u

-- no sensor of a kind meets demand 2
abbrev pub KeptOut : (Sensor → Type 0) → Type 0
KeptOut Kind = (sensor : Sensor) → Kind sensor → ¬ Meets sensor

-- a record that serves requests
abbrev pub Serves : State → Type 0
Serves u = NotRefused u × (served u.network ≡ true)

-- "the sensor that refuses all"
abbrev pub RefusesAll : Sensor → Type 0
RefusesAll sensor = (e : Event) (bytes : List ℕ) (n : ℕ) (u : State) → ¬ ((sensor e bytes n u).refusal ≡ 0)

-- what it sends to a request of 8 bytes on a channel
abbrev pub replies : Sensor → Channel → List ℕ → State → List Frame
replies sensor c bytes u = (sensor (request c u) bytes 8 u).sent

-- "the one that answers every request with one frame", the same one: wherever it answers, on some channel of some record that serves
abbrev pub AnswersAlike : Sensor → Type 0
AnswersAlike sensor =
    (c : Channel) × (u : State) × Serves u × (f : Frame)
    × ((bytes : List ℕ) → length bytes ≡ 8 → ¬ (replies sensor c bytes u ≡ []) → replies sensor c bytes u ≡ f ∷ [])

-- or with exactly one frame, whichever it is: 80h gets "no reply"
abbrev pub AnswersEach : Sensor → Type 0
AnswersEach sensor =
    (c : Channel) × (u : State) × Serves u × ((bytes : List ℕ) → length bytes ≡ 8 → (f : Frame) × (replies sensor c bytes u ≡ f ∷ []))

-- "the one that takes events and changes nothing"
abbrev pub ChangesNothing : Sensor → Type 0
ChangesNothing sensor = (e : Event) (bytes : List ℕ) (n : ℕ) (u : State) → (sensor e bytes n u).state ≡ u

-- whatever comes next changes nothing and sends nothing
abbrev pub Dead : Sensor → State → Type 0
Dead sensor u = (next : Event) (bytes : List ℕ) (n : ℕ) → ((sensor next bytes n u).state ≡ u) × ((sensor next bytes n u).sent ≡ [])

-- "the one that works after power-on for one event only": dead after some accepted power-on and some first event, be it a frame, a tick or a reading
abbrev pub WorksOnce : Sensor → Type 0
WorksOnce sensor =
    (node : ℕ) × (identity : Identity) × (j : List ℕ) × ((power_on node identity j).refusal ≡ 0)
    × (first : Event) × (bytes : List ℕ) × (n : ℕ) × Dead sensor (sensor first bytes n (power_on node identity j).state).state

-- a read of 2100, and its answer: the record's filled blocks
abbrev pub read2100 : List ℕ
read2100 = 0x40 ∷ 0x00 ∷ 0x21 ∷ 0 ∷ 0 ∷ 0 ∷ 0 ∷ 0 ∷ []

abbrev pub filled_blocks : Channel → State → Frame
filled_blocks c u = reply_frame (Client c) u.node (0x4B ∷ 0x00 ∷ 0x21 ∷ 0 ∷ four u.saves.filled)

-- "the one whose 2100 is invented": beside some record that serves it answers anything else
abbrev pub Invents2100 : Sensor → Type 0
Invents2100 sensor =
    (c : Channel) × (u : State) × Serves u × ¬ (replies sensor c read2100 u ≡ filled_blocks c u ∷ [])

-- "Demand 3 alone admits the constant sensor": demand 2 does not
abbrev pub Constant : Sensor → Type 0
Constant sensor = (number : ℕ) × (frames : List Frame) × (sensor ≡ constant number frames)
