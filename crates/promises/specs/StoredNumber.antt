-- "after a power-on the stored one holds", over what C calls.
use Rattle.std.specs.Prelude.{◌≡◌, true, List, [], ◌∷◌, ℕ, take}
use Rattle.answers.specs.declared.Answer.{Answer}
use Rattle.device.specs.declared.Device.{Device}
use Rattle.device.specs.declared.Stepped.{Stepped}
use Rattle.device.specs.Promise.{PoweredOn}
use Rattle.rules.specs.declared.events.Frame.{Frame}
use Rattle.rules.specs.declared.parts.Identity.{Identity}
use Rattle.rules.specs.Acknowledged.{stores_acknowledged}
use Rattle.rules.specs.Frames.{boot_up_frame}
use Rattle.rules.specs.Ranges.{node_ok}
use Rattle.rules.specs.State.{node_else}
use Rattle.promises.specs.Calls.{Call, Calls, History}
use Rattle.promises.specs.TwoFrames.{frames_in}

-- each power-on with a node 1 to 47 is accepted and hands back a record under a number, whichever it is given: boot-up is its first frame
abbrev pub PowersOnUnder : ℕ → List ℕ → Type 0
PowersOnUnder number j =
    (node : ℕ) (identity : Identity) (s : Stepped) → node_ok node ≡ true → PoweredOn node identity j s →
    (s.answer.refusal ≡ 0) × (s.device.node ≡ number) × (take 1 (frames_in s.answer) ≡ boot_up_frame number ∷ [])

-- in a history, from any journal, a call's answer acknowledges a store: until the next acknowledged store, whatever calls follow, each power-on goes by
-- "the number last set, else the running one" of the record that the call was lent
abbrev pub CallsStoredNumber : Type 0
CallsStoredNumber =
    (i j k l : List ℕ) (before later : List Frame) (q r : Answer) (d a b : Device) →
    History i before q d j → Call d j r a k → stores_acknowledged (frames_in r) ≡ 1 → Calls a k later b l → stores_acknowledged later ≡ 0 →
    PowersOnUnder (node_else d.lss.node d.node) l
