-- The event that C's numbers name.
use Rattle.std.specs.Prelude.{true, false, cond, ℕ, eqb, leb}
use Rattle.rules.specs.declared.events.Event.{Event}
use Rattle.rules.specs.declared.events.Event.TheVariants.{Received, Tick, Measured}
use Rattle.rules.specs.declared.objects.Axis.TheVariants.{X, Y}
use Rattle.basintilt.specs.declared.Happening.{Happening}

-- 0 a frame, 1 a remote frame, 2 a tick, 3 and 4 a reading of X and Y; any other number a remote frame, which does nothing
abbrev pub event_of : Happening → Event
event_of h =
    cond (eqb h.kind 0) (Received (record { identifier = h.identifier; remote = false }))
    (cond (eqb h.kind 1) (Received (record { identifier = h.identifier; remote = true }))
    (cond (eqb h.kind 2) (Tick h.ms)
    (cond (eqb h.kind 3) (Measured X h.m)
    (cond (eqb h.kind 4) (Measured Y h.m)
    (Received (record { identifier = 0; remote = true }))))))

abbrev pub length_in : Happening → ℕ
length_in h = cond (leb h.kind 4) h.length 0
