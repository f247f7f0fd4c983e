-- The answer that holds a refusal and the frames of a list.
use Rattle.std.specs.Prelude.{List, ◌++◌, ℕ, length, take, replicate}
use Rattle.rules.specs.declared.events.Frame.{Frame}
use Rattle.rules.specs.Frames.{no_frame}
use Rattle.rules.specs.Results.{most_frames}
use Rattle.answers.specs.declared.Answer.{Answer}

-- what stands past the frames is all zero
abbrev pub answering : ℕ → List Frame → Answer
answering refusal l = record { refusal = refusal; count = length l; frames = take most_frames (l ++ replicate most_frames no_frame) }
