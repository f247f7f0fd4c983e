-- The outcome of a request that nothing refuses, or the abort.
use Rattle.std.specs.Prelude.{List, ℕ, Result, Ok, Err}
use Rattle.rules.specs.declared.aborts.Abort.{Abort}
use Rattle.rules.specs.declared.requests.Outcome.{Outcome}
use Rattle.rules.specs.Service.{refuse}

abbrev pub told : List ℕ → Result Outcome Abort → Outcome
told request (Ok o) = o
told request (Err why) = refuse request why
