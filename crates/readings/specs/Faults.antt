-- The fault that a reading brings, a code or none, and the error list then.
use Rattle.std.specs.Prelude.{cond, ℕ, ℤ, Option, Some, None}
use Rattle.rules.specs.declared.errors.ErrorList.{ErrorList}
use Rattle.rules.specs.declared.objects.Axis.{Axis}
use Rattle.rules.specs.declared.parts.Reading.{Reading}
use Rattle.rules.specs.Errors.{entered}
use Rattle.rules.specs.Readings.{fails, fault_code}

abbrev pub fault_of : Axis → ℤ → Reading → Option ℕ
fault_of a m x = cond (fails m x) (Some (fault_code a)) None

abbrev pub listed_of : Option ℕ → ErrorList → ErrorList
listed_of (Some code) l = entered code l
listed_of None l = l
