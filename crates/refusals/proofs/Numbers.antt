-- The numbers that refusals are told by, computed.
use mathlib.Core.Path.{refl}
use Rattle.refusals.specs.Numbers.{AbortCodes, OriginNumbers}

pub abort_codes : AbortCodes
abort_codes = refl

pub origin_numbers : OriginNumbers
origin_numbers = refl
