-- Filled blocks equal the acknowledged saves, loads and stores, call after call.
use mathlib.Core.Path.{◌≡◌, ap, ◌∙◌}
use native.Mathlib.Omega.{arith}
use Rattle.rules.specs.declared.parts.Saves.{Saves}
use Rattle.rules.specs.Acknowledged.{acknowledged}
use Rattle.rules.specs.PowerOn.{saves_in}
use Rattle.saves.proofs.Counted.{none_yet}
use Rattle.promises.specs.Calls.{powers}
use Rattle.promises.specs.Counted.{CallsCounted}
use Rattle.promises.proofs.Calls.{call_step, history_step, call_in, history_in}

pub counted : CallsCounted
counted blocks frames r d k history =
    let now = history_step history in
    let found : (saves_in k).filled ≡ acknowledged frames = omega (arith, now.filled, (none_yet blocks).0) in (
      λ accepted. ap (λ (s : Saves). s.filled) (now.holds (history_in history accepted)).saves ∙ found,
      λ node identity s p accepted.
          let on = powers node identity s p in
          ap (λ (s : Saves). s.filled) ((call_step on now.holds).holds (call_in on accepted)).saves ∙ found,
    )
