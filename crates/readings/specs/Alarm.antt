-- What a reading sends, by the fault that it brings, and by the register before and after it.
use Rattle.std.specs.Prelude.{cond, not, ◌&&◌, List, [], ◌∷◌, ℕ, eqb, Option, Some, None}
use Rattle.rules.specs.declared.events.Frame.{Frame}
use Rattle.rules.specs.Frames.{emergency_frame}
use Rattle.rules.specs.Readings.{if_not_stopped}

abbrev pub alarm_frames : ℕ → Option ℕ → ℕ → ℕ → List Frame
alarm_frames node (Some code) before after = emergency_frame node code after ∷ []
alarm_frames node None before after = cond (not (eqb before 0) && eqb after 0) (emergency_frame node 0 after ∷ []) []

abbrev pub alarm_of : ℕ → ℕ → Option ℕ → ℕ → ℕ → List Frame
alarm_of node network fault before after = if_not_stopped network (alarm_frames node fault before after)
