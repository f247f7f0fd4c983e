-- Filled blocks stay, call after call.
use mathlib.Core.Path.{refl, ap, sym, ◌∙◌}
use Prim.Native.Nat.{◌≤◌}
use native.Mathlib.Omega.{arith}
use Rattle.basintilt.specs.Happenings.{event_of, length_in}
use Rattle.basintilt.specs.Lent.{journal_of}
use Rattle.device.specs.Seen.{seen}
use Rattle.rules.specs.Acknowledged.{acknowledged}
use Rattle.rules.specs.PowerOn.{saves_in}
use Rattle.saves.proofs.NothingMakesRoom as saves
use Rattle.promises.specs.Calls.{powers, lends}
use Rattle.promises.specs.NothingMakesRoom.{CallsOutsideTheNextBlock, CallsWithoutAcknowledgement, WhateverCallsFollow}
use Rattle.promises.proofs.Calls.{call_step, calls_step, history_step}
use Rattle.promises.proofs.TwoFrames.{lent-frames}

pub outside_the_next_block : CallsOutsideTheNextBlock
unfolding journal_of
outside_the_next_block d a j k r (powers node identity s p) = (refl, λ i h. refl, λ i h. refl)
outside_the_next_block d a j k r (lends h q b l p) = rw p.2 (saves.outside_the_next_block (event_of h) h.bytes (length_in h) (seen d j))

pub without_acknowledgement : CallsWithoutAcknowledgement
unfolding journal_of
without_acknowledgement d a j k r (powers node identity s p) zero = refl
without_acknowledgement d a j k r (lends h q b l p) zero =
    p.2 ∙ saves.without_acknowledgement (event_of h) h.bytes (length_in h) (seen d j) (ap acknowledged (sym (lent-frames d j h q b l p)) ∙ zero)

pub whatever_follows : WhateverCallsFollow
whatever_follows j k l before later r d a history calls =
    let now = history_step history in
    let names : d.saves.filled ≤ (saves_in k).filled = now.names (omega arith) in
    let step = calls_step calls now.holds in (
      step.length,
      λ i h. step.byte i (omega (arith, h, names)),
      λ node identity s i p h. step.byte i (omega (arith, h, (call_step (powers node identity s p) now.holds).names names)),
    )
