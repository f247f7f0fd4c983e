-- The stored number outlasts every call but a store.
use mathlib.Core.Path.{ap, sym, ◌∙◌, subst}
use lib.ListN.{take}
use Rattle.device.specs.declared.Stepped.{Stepped}
use Rattle.device.specs.Seen.{seen}
use Rattle.rules.specs.Acknowledged.{stores_acknowledged}
use Rattle.rules.specs.State.{State}
use Rattle.saves.proofs.Steps.{Step}
use Rattle.saves.proofs.StoredNumber.{store_holds}
use Rattle.promises.specs.StoredNumber.{CallsStoredNumber}
use Rattle.promises.proofs.Calls.{as_act, call_step, calls_step, history_step}
use Rattle.promises.proofs.TwoFrames.{power_on_frames}

pub stored-number : CallsStoredNumber
stored-number i j k l before later q r d a b history call stored calls unstored node identity s ok p =
    let holds = (history_step history).holds in
    let x = as_act call in
    let step = subst (λ (u : State). Step u later (seen b l)) (sym x.state) (calls_step calls (call_step call holds).holds) in
    let up = store_holds (seen d j) holds later (seen b l) unstored x.act (ap stores_acknowledged x.sent ∙ stored) step node identity ok in (
      ap (λ (y : Stepped). y.answer.refusal) p ∙ up.0,
      ap (λ (y : Stepped). y.device.node) p ∙ up.1,
      ap (take 1) (power_on_frames node identity l s p) ∙ up.2,
    )
