-- What is refused is left as given and sends nothing.
use Rattle.rules.proofs.Refusals.{event-left, range-first, power_on_untouched, zero-out}
use Rattle.rules.specs.PowerOn.{zero_state}
use Rattle.refusals.specs.Untouched.{EventUntouched, PowerOnUntouched, ZeroRefused}

pub event_untouched : EventUntouched
event_untouched e bytes n u = (event-left bytes n u e).0

pub power_on_leaves : PowerOnUntouched
power_on_leaves = power_on_untouched

pub zero-refused : ZeroRefused
zero-refused e bytes n j = range-first e bytes n (zero_state j) (zero-out j)
