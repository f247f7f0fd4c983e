-- The sample values, computed.
use mathlib.Core.Path.{refl}
use Rattle.rules.specs.Angle.{steps, q, sum, turned, angle, offset, zeroed}
use Rattle.rules.specs.Samples.{Samples}

pub samples : Samples
unfolding steps q sum turned angle offset zeroed
samples = refl
