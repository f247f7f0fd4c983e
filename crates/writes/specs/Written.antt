-- A write that its checks let pass changes, and one that they refuse says why.
use Rattle.std.specs.Prelude.{Result, Ok, Err}
use Rattle.rules.specs.declared.aborts.Abort.{Abort}
use Rattle.rules.specs.declared.requests.Change.{Change}
use Rattle.rules.specs.Writes.{Check}

abbrev pub written_of : Check → Change → Result Change Abort
written_of (Ok passed) e = Ok e
written_of (Err why) e = Err why
