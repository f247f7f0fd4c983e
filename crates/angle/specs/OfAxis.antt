-- One axis's of two readings.
use Rattle.rules.specs.declared.objects.Axis.{Axis}
use Rattle.rules.specs.declared.objects.Axis.TheVariants.{X, Y}
use Rattle.rules.specs.declared.parts.Reading.{Reading}

abbrev pub of_axis : Axis → Reading → Reading → Reading
of_axis X x y = x
of_axis Y x y = y
