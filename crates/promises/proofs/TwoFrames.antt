-- No frame is lost in an answer: there are two at most.
use mathlib.Core.Path.{◌≡◌, refl, ap, ◌∙◌}
use mathlib.Core.List.{List, [], ◌∷◌}
use Prim.Native.Nat.{ℕ, ◌≤◌}
use native.Mathlib.Omega.{arith}
use lib.ListN.{length}
use Rattle.answers.specs.Answers.{answering}
use Rattle.basintilt.specs.Happenings.{event_of, length_in}
use Rattle.basintilt.specs.Lent.{step_of}
use Rattle.device.specs.declared.Stepped.{Stepped}
use Rattle.device.specs.Promise.{event_on}
use Rattle.device.specs.Seen.{seen}
use Rattle.rules.proofs.TwoFrames.{event_sends, power_on_sends}
use Rattle.rules.specs.declared.events.Frame.{Frame}
use Rattle.rules.specs.PowerOn.{power_on}
use Rattle.rules.specs.Results.{most_frames}
use Rattle.promises.specs.TwoFrames.{frames_in, EventFrames, LentFrames, PowerOnFrames}

all_there : (number : ℕ) (frames : List Frame) → length frames ≤ most_frames → frames_in (answering number frames) ≡ frames
all_there number [] h = refl
all_there number (f ∷ []) h = refl
all_there number (f ∷ g ∷ []) h = refl
all_there number (f ∷ g ∷ i ∷ l) h = absurd (omega arith)

pub event-frames : EventFrames
event-frames d j e bytes n r k given =
    ap (λ (s : Stepped). frames_in s.answer) given.0 ∙ all_there (event_on d j e bytes n).refusal _ (event_sends (seen d j) e bytes n)

pub lent-frames : LentFrames
unfolding step_of
lent-frames d j h r a k given =
    let e = event_of h in
    ap frames_in given.0 ∙ all_there (event_on d j e h.bytes (length_in h)).refusal _ (event_sends (seen d j) e h.bytes (length_in h))

pub power_on_frames : PowerOnFrames
power_on_frames node identity j r given =
    ap (λ (s : Stepped). frames_in s.answer) given ∙ all_there (power_on node identity j).refusal _ (power_on_sends node identity j)
