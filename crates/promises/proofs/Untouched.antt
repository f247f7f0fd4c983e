-- What a refused call hands back, from the promises and the laws of the refusals.
use mathlib.Core.Path.{◌≡◌, refl, ap, sym, ◌∙◌}
use mathlib.Core.List.{List}
use Prim.Native.Nat.{ℕ}
use Rattle.answers.specs.Answers.{answering}
use Rattle.answers.specs.declared.Answer.{Answer}
use Rattle.basintilt.specs.Happenings.{event_of, length_in}
use Rattle.basintilt.specs.Lent.{step_of, journal_of}
use Rattle.device.specs.declared.Device.{Device}
use Rattle.device.specs.declared.Stepped.{Stepped}
use Rattle.device.specs.Seen.{seen, held}
use Rattle.rules.proofs.Refusals.{Untouched, event-left, power_on_untouched, range-first, zero-out}
use Rattle.rules.specs.Events.{event}
use Rattle.rules.specs.PowerOn.{zero_state, power_on}
use Rattle.rules.specs.Results.{Result}
use Rattle.rules.specs.State.{State}
use Rattle.promises.specs.Untouched.{sends_nothing, LentUntouched, EventHandsBack, PowerOnHandsBack, ZeroRecordRefused}

-- a result that is refused, as the answer, the record and the journal that are handed back
handed_back : (u : State) (r : Result) (a : Answer) (d : Device) (j : List ℕ)
    → Untouched u r
    → a ≡ answering r.refusal r.sent
    → d ≡ held r.state
    → j ≡ r.state.journal
    → ¬ (a.refusal ≡ 0)
    → (d ≡ held u) × (j ≡ u.journal) × (a ≡ sends_nothing a.refusal)
handed_back u r a d j untouched answer record-then journal-then wrong =
    let number : a.refusal ≡ r.refusal = ap (λ (x : Answer). x.refusal) answer in
    let left = untouched (λ none. wrong (number ∙ none)) in (
      record-then ∙ ap held left.0,
      journal-then ∙ ap (λ (v : State). v.journal) left.0,
      answer ∙ rw left.1 refl ∙ ap sends_nothing (sym number),
    )

pub event_untouched : EventHandsBack
event_untouched d j e bytes length r k p =
    let u = seen d j in
    handed_back u (event e bytes length u) r.answer r.device k (event-left bytes length u e).0
    (ap (λ (s : Stepped). s.answer) p.0) (ap (λ (s : Stepped). s.device) p.0) p.1

pub lent_untouched : LentUntouched
unfolding step_of journal_of
lent_untouched d j h r a k p =
    let u = seen d j in
    handed_back u (event (event_of h) h.bytes (length_in h) u) r a k (event-left h.bytes (length_in h) u (event_of h)).0 p.0 p.1 p.2

pub power_on_leaves : PowerOnHandsBack
power_on_leaves node identity j r p wrong =
    let left =
    handed_back (zero_state j) (power_on node identity j) r.answer r.device (power_on node identity j).state.journal (power_on_untouched node identity j)
    (ap (λ (s : Stepped). s.answer) p) (ap (λ (s : Stepped). s.device) p) refl wrong in
    (left.0, left.2)

pub zero-refused : ZeroRecordRefused
unfolding step_of
zero-refused j h r a k p =
    let u = zero_state j in
    ap (λ (x : Answer). x.refusal) p.0 ∙ ap (λ (x : Result). x.refusal) (range-first (event_of h) h.bytes (length_in h) u (zero-out j))
