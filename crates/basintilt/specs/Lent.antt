-- The promise of the lent record: the answer, and what record and journal hold then, are those of the rules.
use Rattle.std.specs.Prelude.{◌≡◌, List, ℕ}
use Rattle.answers.specs.declared.Answer.{Answer}
use Rattle.device.specs.Answers.{stepped_of}
use Rattle.device.specs.Promise.{event_on}
use Rattle.device.specs.declared.Device.{Device}
use Rattle.device.specs.declared.Stepped.{Stepped}
use Rattle.rules.specs.Results.{Result}
use Rattle.basintilt.specs.declared.Happening.{Happening}
use Rattle.basintilt.specs.Happenings.{event_of, length_in}

-- what the rules say of a happening on a record and a lent journal
abbrev pub happened : Device → List ℕ → Happening → Result
happened d j h = event_on d j (event_of h) h.bytes (length_in h)

-- the new record with the answer, and the journal then
unfoldable pub step_of : Device → List ℕ → Happening → Stepped
step_of d j h = stepped_of (happened d j h)

unfoldable pub journal_of : Device → List ℕ → Happening → List ℕ
journal_of d j h = (happened d j h).state.journal

abbrev pub Lent : Device → List ℕ → Happening → Answer → Device → List ℕ → Type 0
Lent d j h r d' j' = (r ≡ (step_of d j h).answer) × (d' ≡ (step_of d j h).device) × (j' ≡ journal_of d j h)
