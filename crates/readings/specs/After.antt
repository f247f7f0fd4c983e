-- Both readings after one: the axis that is not read stays.
use Rattle.std.specs.Prelude.{ℤ}
use Rattle.rules.specs.declared.objects.Axis.{Axis}
use Rattle.rules.specs.declared.objects.Axis.TheVariants.{X, Y}
use Rattle.rules.specs.Readings.{measured}
use Rattle.readings.specs.declared.Readings.{Readings}

abbrev pub after : Axis → ℤ → Readings → Readings
after X m r = record { x = measured m r.x; y = r.y }
after Y m r = record { x = r.x; y = measured m r.y }
