-- Demand 3: "From any record that is not refused, two runs of service requests, one a channel, of which none writes what one of the other
-- reads or writes by 01's table: however interleaved, each channel gets the same answers in its order, and device and journal end the same."
-- The runs are of service requests, each on its channel's identifier: LSS requests are not among them, and the record may be in configuration.
use Rattle.std.specs.Prelude.{◌≡◌, Bool, not, ◌&&◌, List, [], ◌∷◌, ℕ, T, eqb}
use Rattle.rules.specs.declared.events.Frame.{Frame}
use Rattle.rules.specs.declared.objects.Channel.TheVariants.{One, Two}
use Rattle.rules.specs.Events.{NotRefused, event}
use Rattle.rules.specs.State.{State}
use Rattle.interleaving.specs.ReadsWrites.{Apart}
use Rattle.interleaving.specs.Runs.{Sensor, RunFrame, Turn, Interleaves, end_of, answers}

-- "requests of 8 bytes only", "Remote frames … do nothing": any other frame reads and writes nothing
abbrev pub is_request : RunFrame → Bool
is_request f = not f.remote && eqb f.length 8

-- neither "writes what one of the other reads or writes by 01's table"
abbrev pub FramesApart : RunFrame → RunFrame → Type 0
FramesApart f g = T (is_request f) → T (is_request g) → Apart f.bytes g.bytes

abbrev pub Each : {A : Type 0} → (A → Type 0) → List A → Type 0
Each P [] = Unit {0}
Each P (x ∷ l) = P x × Each P l

abbrev pub RunsApart : List RunFrame → List RunFrame → Type 0
RunsApart ones twos = Each (λ f. Each (FramesApart f) twos) ones

-- "each channel gets the same answers in its order, and device and journal end the same"
abbrev pub Alike : Sensor → List Turn → List Turn → State → Type 0
Alike S turns others u =
    (end_of S u.node turns u ≡ end_of S u.node others u) ×
    (answers S u.node One turns u ≡ answers S u.node One others u) ×
    (answers S u.node Two turns u ≡ answers S u.node Two others u)

-- what demand 3 asks of a sensor
abbrev pub Independent : Sensor → Type 0
Independent S =
    (u : State) → NotRefused u →
    (ones twos : List RunFrame) → RunsApart ones twos →
    (turns others : List Turn) → Interleaves turns ones twos → Interleaves others ones twos → Alike S turns others u

-- "stated over demand 2's definition"
abbrev pub Demand3 : Type 0
Demand3 = Independent event

-- "Demand 3 alone admits the constant sensor": one answer always, device and journal as given
abbrev pub constant : ℕ → List Frame → Sensor
constant number frames e bytes length u = record { refusal = number; state = u; sent = frames }

abbrev pub AdmitsConstant : Type 0
AdmitsConstant = (number : ℕ) (frames : List Frame) → Independent (constant number frames)
