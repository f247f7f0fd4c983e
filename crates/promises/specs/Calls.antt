-- What the recorder's C firmware may do: calls with any results that satisfy their promises, where "no one else writes buffer or record".
use Rattle.std.specs.Prelude.{List, [], ◌++◌, ℕ}
use Rattle.answers.specs.declared.Answer.{Answer}
use Rattle.basintilt.specs.declared.Happening.{Happening}
use Rattle.basintilt.specs.Lent.{Lent}
use Rattle.device.specs.declared.Device.{Device}
use Rattle.device.specs.declared.Stepped.{Stepped}
use Rattle.device.specs.Promise.{PoweredOn}
use Rattle.rules.specs.declared.events.Frame.{Frame}
use Rattle.rules.specs.declared.parts.Identity.{Identity}
use Rattle.promises.specs.TwoFrames.{frames_in}

-- one call beside a record and a journal: its answer, and the record and the journal then.
-- `basintilt_power_on` gives a new record and only reads the journal; `basintilt_event` is lent both
pub data Call (d : Device) (j : List ℕ) : Answer → Device → List ℕ → Type 0 where
  powers : (node : ℕ) (identity : Identity) (r : Stepped) → PoweredOn node identity j r → Call d j r.answer r.device j
  lends : (h : Happening) (r : Answer) (a : Device) (k : List ℕ) → Lent d j h r a k → Call d j r a k

-- calls one after the other, each beside what the last one left: the frames of all answers, and the record and the journal then
pub data Calls (d : Device) (j : List ℕ) : List Frame → Device → List ℕ → Type 0 where
  none : Calls d j [] d j
  next : {frames : List Frame} {r : Answer} {a b : Device} {k l : List ℕ} → Calls d j frames a k → Call a k r b l → Calls d j (frames ++ frames_in r) b l

-- a history of a journal begins with a power-on, refused or accepted, whatever record stood there before:
-- the frames of all answers, the last answer, and the record and the journal then
pub data History (j : List ℕ) : List Frame → Answer → Device → List ℕ → Type 0 where
  begins : (node : ℕ) (identity : Identity) (r : Stepped) → PoweredOn node identity j r → History j (frames_in r.answer) r.answer r.device j
  goes_on : {frames : List Frame} {q r : Answer} {a b : Device} {k l : List ℕ} → History j frames q a k → Call a k r b l → History j (frames ++ frames_in r) r b l
