-- The promises of power-on and of one event: the record handed back, the answer and every journal byte are those of the rules.
use Rattle.std.specs.Prelude.{◌≡◌, List, ℕ}
use Rattle.rules.specs.declared.events.Event.{Event}
use Rattle.rules.specs.declared.parts.Identity.{Identity}
use Rattle.rules.specs.Events.{event}
use Rattle.rules.specs.PowerOn.{power_on}
use Rattle.rules.specs.Results.{Result}
use Rattle.device.specs.declared.Device.{Device}
use Rattle.device.specs.declared.Stepped.{Stepped}
use Rattle.device.specs.Answers.{stepped_of}
use Rattle.device.specs.Seen.{seen}

-- the journal is lent to be read only
abbrev pub PoweredOn : ℕ → Identity → List ℕ → Stepped → Type 0
PoweredOn node identity j r = r ≡ stepped_of (power_on node identity j)

-- what the rules say of an event on a record and a lent journal
abbrev pub event_on : Device → List ℕ → Event → List ℕ → ℕ → Result
event_on d j e bytes size = event e bytes size (seen d j)

abbrev pub Answered : Device → List ℕ → Event → List ℕ → ℕ → Stepped → List ℕ → Type 0
Answered d j e bytes size r j' =
    (r ≡ stepped_of (event_on d j e bytes size)) × (j' ≡ (event_on d j e bytes size).state.journal)
