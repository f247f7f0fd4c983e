-- Nothing old makes room: which bytes of the journal the recorder's calls leave as they were.
use Rattle.std.specs.Prelude.{◌≡◌, List, ℕ, ◌+◌, ◌*◌, ◌≤◌, ◌<◌, length, get_or}
use Rattle.answers.specs.declared.Answer.{Answer}
use Rattle.device.specs.declared.Device.{Device}
use Rattle.device.specs.declared.Stepped.{Stepped}
use Rattle.device.specs.Promise.{PoweredOn}
use Rattle.rules.specs.declared.events.Frame.{Frame}
use Rattle.rules.specs.declared.parts.Identity.{Identity}
use Rattle.rules.specs.Acknowledged.{acknowledged}
use Rattle.promises.specs.Calls.{Call, Calls, History}
use Rattle.promises.specs.TwoFrames.{frames_in}

-- a call beside any record and any journal: outside the next block, the one behind the record's filled blocks, every byte is as it was
abbrev pub CallsOutsideTheNextBlock : Type 0
CallsOutsideTheNextBlock =
    (d a : Device) (j k : List ℕ) (r : Answer) →
    Call d j r a k →
    (length k ≡ length j)
    × ((i : ℕ) → i < 512 * d.saves.filled → get_or k i 0 ≡ get_or j i 0)
    × ((i : ℕ) → 512 * (d.saves.filled + 1) ≤ i → get_or k i 0 ≡ get_or j i 0)

-- where its answer acknowledges no save, no load and no store, no byte changes at all
abbrev pub CallsWithoutAcknowledgement : Type 0
CallsWithoutAcknowledgement = (d a : Device) (j k : List ℕ) (r : Answer) → Call d j r a k → acknowledged (frames_in r) ≡ 0 → k ≡ j

-- in a history, whatever calls follow: the length stays, and so do, byte for byte, the blocks that the record names as filled and those that a power-on would count
abbrev pub WhateverCallsFollow : Type 0
WhateverCallsFollow =
    (j k l : List ℕ) (before later : List Frame) (r : Answer) (d a : Device) →
    History j before r d k → Calls d k later a l →
    (length l ≡ length k)
    × ((i : ℕ) → i < 512 * d.saves.filled → get_or l i 0 ≡ get_or k i 0)
    × ((node : ℕ) (identity : Identity) (s : Stepped) (i : ℕ) → PoweredOn node identity k s → i < 512 * s.device.saves.filled → get_or l i 0 ≡ get_or k i 0)
