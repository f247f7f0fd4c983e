-- Two runs of frames, one a channel, in turns: where device and journal end, and what each channel gets.
use Rattle.std.specs.Prelude.{◌≡◌, Bool, List, [], ◌∷◌, ℕ, ◌+◌}
use Rattle.rules.specs.declared.events.Event.{Event}
use Rattle.rules.specs.declared.events.Event.TheVariants.{Received}
use Rattle.rules.specs.declared.events.Frame.{Frame}
use Rattle.rules.specs.declared.objects.Channel.{Channel}
use Rattle.rules.specs.declared.objects.Channel.TheVariants.{One, Two}
use Rattle.rules.specs.Frames.{requests_at}
use Rattle.rules.specs.Results.{Result}
use Rattle.rules.specs.State.{State}

-- a sensor: what it answers to an event, with the bytes beside it and their length, on a device and a journal
abbrev pub Sensor : Type 0
Sensor = Event → List ℕ → ℕ → State → Result

-- a frame of a run: of any bytes and any length, remote or not, served or not
pub record RunFrame : Type 0 where
  pub remote : Bool
  pub bytes : List ℕ
  pub length : ℕ

-- a channel's turn: its next frame
pub data Turn : Type 0 where
  turn : Channel → RunFrame → Turn

-- x in front, where its channel is the one that is asked for
abbrev pub add : {A : Type 0} → Channel → Channel → A → List A → List A
add One One x l = x ∷ l
add One Two x l = l
add Two One x l = l
add Two Two x l = x ∷ l

-- one channel's run: its frames in their order
unfoldable pub only : Channel → List Turn → List RunFrame
only c [] = []
only c (turn d f ∷ turns) = add c d f (only c turns)

-- turns that interleave a run on channel 1 and a run on channel 2
abbrev pub Interleaves : List Turn → List RunFrame → List RunFrame → Type 0
Interleaves turns ones twos = (only One turns ≡ ones) × (only Two turns ≡ twos)

-- what comes back for a frame: the number of the refusal or 0, and the frames sent
abbrev pub Answer : Type 0
Answer = ℕ × List Frame

module _ (S : Sensor) (node : ℕ) where
  -- the frame on its channel's identifier
  abbrev pub result : Channel → RunFrame → State → Result
  result c f u = S (Received (record { identifier = requests_at c + node; remote = f.remote })) f.bytes f.length u

  -- device and journal at the end
  unfoldable pub end_of : List Turn → State → State
  end_of [] u = u
  end_of (turn d f ∷ turns) u = end_of turns (result d f u).state

  -- the answers to one channel's frames, in their order
  unfoldable pub answers : Channel → List Turn → State → List Answer
  answers c [] u = []
  answers c (turn d f ∷ turns) u = add c d ((result d f u).refusal, (result d f u).sent) (answers c turns (result d f u).state)
