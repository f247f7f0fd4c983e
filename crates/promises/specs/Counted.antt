-- "From a blank journal, filled blocks equal the acknowledged saves and loads counted in the frames, across resets and power-ons", and with item 1 of 02 the stores.
use Rattle.std.specs.Prelude.{◌≡◌, List, ℕ}
use Rattle.answers.specs.declared.Answer.{Answer}
use Rattle.device.specs.declared.Device.{Device}
use Rattle.device.specs.declared.Stepped.{Stepped}
use Rattle.device.specs.Promise.{PoweredOn}
use Rattle.rules.specs.declared.events.Frame.{Frame}
use Rattle.rules.specs.declared.parts.Identity.{Identity}
use Rattle.rules.specs.Acknowledged.{acknowledged}
use Rattle.rules.specs.Journal.{blank_blocks}
use Rattle.promises.specs.Calls.{History}

-- in any history: the filled blocks of the record, where the last call was accepted, and those that a power-on would count, where it is accepted
abbrev pub CallsCounted : Type 0
CallsCounted =
    (blocks : ℕ) (frames : List Frame) (r : Answer) (d : Device) (k : List ℕ) →
    History (blank_blocks blocks) frames r d k →
    (r.refusal ≡ 0 → d.saves.filled ≡ acknowledged frames)
    × ((node : ℕ) (identity : Identity) (s : Stepped) → PoweredOn node identity k s → s.answer.refusal ≡ 0 → s.device.saves.filled ≡ acknowledged frames)
