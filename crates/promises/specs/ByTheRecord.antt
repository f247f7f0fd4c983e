-- "Only power-on counts; events, 81h included, go by the record".
use Rattle.std.specs.Prelude.{◌≡◌, List, ℕ, length}
use Rattle.device.specs.declared.Device.{Device}
use Rattle.device.specs.declared.Stepped.{Stepped}
use Rattle.device.specs.Promise.{Answered}
use Rattle.rules.specs.declared.events.Event.{Event}

-- whatever stands in two journals of one length: the record after an event and the answer are the same
abbrev pub ByTheRecord : Type 0
ByTheRecord =
    (d : Device) (j k : List ℕ) (e : Event) (bytes : List ℕ) (size : ℕ) (r s : Stepped) (j' k' : List ℕ) →
    length j ≡ length k → Answered d j e bytes size r j' → Answered d k e bytes size s k' → r ≡ s
