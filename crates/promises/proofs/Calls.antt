-- The recorder's calls as acts of the rules, and their histories as steps of the journal.
use mathlib.Core.Path.{◌≡◌, refl, ap, sym, ◌∙◌, subst}
use mathlib.Core.Bool.{true}
use mathlib.Core.List.{List, []}
use Prim.Native.Nat.{ℕ}
use Rattle.answers.specs.declared.Answer.{Answer}
use Rattle.basintilt.specs.Happenings.{event_of, length_in}
use Rattle.basintilt.specs.Lent.{step_of, journal_of}
use Rattle.device.specs.declared.Device.{Device}
use Rattle.device.specs.declared.Stepped.{Stepped}
use Rattle.device.specs.Seen.{seen, held}
use Rattle.refusals.proofs.WorksOn.{stays_in_range}
use Rattle.rules.proofs.Refusals.{power_on_journal}
use Rattle.rules.proofs.Resets.{zero-refused}
use Rattle.rules.proofs.Stays.{start-stays}
use Rattle.rules.specs.declared.events.Frame.{Frame}
use Rattle.rules.specs.PowerOn.{power_on}
use Rattle.rules.specs.Ranges.{in_range}
use Rattle.rules.specs.State.{State}
use Rattle.saves.proofs.Steps.{Holds, Step, along, by-act, along_acts}
use Rattle.saves.specs.Histories.{Act, power, occurs, done, after_acts, sent_by, unpowered}
use Rattle.promises.specs.Calls.{Call, powers, lends, Calls, none, next, History, begins, goes_on}
use Rattle.promises.specs.TwoFrames.{frames_in}
use Rattle.promises.specs.Untouched.{zero_record}
use Rattle.promises.proofs.TwoFrames.{lent-frames, power_on_frames}

-- the act of a call: it ends, sends and refuses alike
pub record Acts (d : Device) (j : List ℕ) (r : Answer) (a : Device) (k : List ℕ) : Type 0 where
  pub act : Act
  pub state : (done act (seen d j)).state ≡ seen a k
  pub sent : (done act (seen d j)).sent ≡ frames_in r
  pub refusal : (done act (seen d j)).refusal ≡ r.refusal

-- the state that is handed back as a record and a journal
held_then : (v : State) (a : Device) (k : List ℕ) → a ≡ held v → k ≡ v.journal → v ≡ seen a k
held_then v a k e f = rw (e, f) refl

pub as_act : {d a : Device} {j k : List ℕ} {r : Answer} → Call d j r a k → Acts d j r a k
unfolding step_of journal_of
as_act {j} (powers node identity s p) = record {
  act = power node identity;
  state = held_then (power_on node identity j).state s.device j (ap (λ (x : Stepped). x.device) p) (sym (power_on_journal node identity j));
  sent = sym (power_on_frames node identity j s p);
  refusal = sym (ap (λ (x : Stepped). x.answer.refusal) p);
}
as_act {d} {j} (lends h r a k p) = record {
  act = occurs (event_of h) h.bytes (length_in h);
  state = held_then _ a k p.1 p.2;
  sent = sym (lent-frames d j h r a k p);
  refusal = sym (ap (λ (x : Answer). x.refusal) p.0);
}

-- a call, and calls one after the other, from a record that agrees with its journal if it is in range
pub call_step : {d a : Device} {j k : List ℕ} {r : Answer} → Call d j r a k → Holds (seen d j) → Step (seen d j) (frames_in r) (seen a k)
call_step {d} {a} {j} {k} c holds =
    let x = as_act c in
    subst (λ (f : List Frame). Step (seen d j) f (seen a k)) x.sent (subst (Step (seen d j) _) x.state (by-act (seen d j) holds x.act))

pub calls_step : {d : Device} {j : List ℕ} {a : Device} {k : List ℕ} {frames : List Frame} → Calls d j frames a k → Holds (seen d j) → Step (seen d j) frames (seen a k)
unfolding after_acts sent_by
calls_step {d} {j} none holds = along_acts [] (seen d j) holds
calls_step (next before c) holds =
    let s = calls_step before holds in
    along _ _ _ _ _ s (call_step c s.holds)

-- a history from its first power-on, which does not look at the record
pub history_step : {j k : List ℕ} {frames : List Frame} {r : Answer} {d : Device} → History j frames r d k → Step (unpowered j) frames (seen d k)
history_step {j} (begins node identity r p) = call_step {d = zero_record} (powers node identity r p) (zero-refused j)
history_step (goes_on before c) =
    let s = history_step before in
    along _ _ _ _ _ s (call_step c s.holds)

-- what is accepted is in range then
accepted_in : (x : Act) (u : State) → (done x u).refusal ≡ 0 → in_range (done x u).state ≡ true
accepted_in (power node identity) u accepted = (start-stays node identity u.journal accepted).0
accepted_in (occurs e bytes n) u accepted = (stays_in_range e bytes n u accepted).0

pub call_in : {d a : Device} {j k : List ℕ} {r : Answer} → Call d j r a k → r.refusal ≡ 0 → in_range (seen a k) ≡ true
call_in {d} {j} c accepted =
    let x = as_act c in
    subst (λ (v : State). in_range v ≡ true) x.state (accepted_in x.act (seen d j) (x.refusal ∙ accepted))

pub history_in : {j k : List ℕ} {frames : List Frame} {r : Answer} {d : Device} → History j frames r d k → r.refusal ≡ 0 → in_range (seen d k) ≡ true
history_in (begins node identity r p) = call_in {d = zero_record} (powers node identity r p)
history_in (goes_on before c) = call_in c
