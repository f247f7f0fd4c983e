-- Demand 2: "Any two results that satisfy one promise are proved identical", one statement an exported routine.
use Rattle.std.specs.Prelude.{◌≡◌, List, ℕ}
use Rattle.answers.specs.declared.Answer.{Answer}
use Rattle.basintilt.specs.declared.Happening.{Happening}
use Rattle.basintilt.specs.declared.origin.Finding.{Finding}
use Rattle.basintilt.specs.Lent.{Lent}
use Rattle.basintilt.specs.Told.{Told}
use Rattle.basintilt.specs.Traced.{Traced}
use Rattle.device.specs.declared.Device.{Device}
use Rattle.device.specs.declared.Stepped.{Stepped}
use Rattle.device.specs.Promise.{Answered, PoweredOn}
use Rattle.rules.specs.declared.events.Event.{Event}
use Rattle.rules.specs.declared.parts.Identity.{Identity}

-- `power_on::power_on` and, for C, `basintilt_power_on`
abbrev pub OnePowerOn : Type 0
OnePowerOn = (node : ℕ) (identity : Identity) (j : List ℕ) (r s : Stepped) → PoweredOn node identity j r → PoweredOn node identity j s → r ≡ s

-- `Device::event`: the record and the answer, and every byte of the journal
abbrev pub OneEvent : Type 0
OneEvent =
    (d : Device) (j : List ℕ) (e : Event) (bytes : List ℕ) (size : ℕ) (r s : Stepped) (k l : List ℕ) →
    Answered d j e bytes size r k → Answered d j e bytes size s l → (r ≡ s) × (k ≡ l)

-- `basintilt_event`: the answer, the lent record and every byte of the journal
abbrev pub OneLentEvent : Type 0
OneLentEvent =
    (d : Device) (j : List ℕ) (h : Happening) (r s : Answer) (a b : Device) (k l : List ℕ) →
    Lent d j h r a k → Lent d j h s b l → (r ≡ s) × (a ≡ b) × (k ≡ l)

-- `basintilt_block`
abbrev pub OneBlock : Type 0
OneBlock = (block : List ℕ) (place : ℕ) (r s : ℕ) → Told block place r → Told block place s → r ≡ s

-- `basintilt_origin`
abbrev pub OneOrigin : Type 0
OneOrigin = (j : List ℕ) (index subindex : ℕ) (r s : Finding) → Traced j index subindex r → Traced j index subindex s → r ≡ s
