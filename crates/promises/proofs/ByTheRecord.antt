-- An event goes by the record: each kind moves it as it would beside any other journal of that length.
use mathlib.Core.Path.{◌≡◌, refl, ap, sym, ◌∙◌}
use mathlib.Core.Bool.{Bool, true, false, cond}
use mathlib.Core.List.{List}
use Prim.Native.Nat.{ℕ}
use Rattle.std.specs.Prelude.{Result, Ok, Err}
use lib.ListN.{length}
use Rattle.acts.proofs.Done.{done_as}
use Rattle.acts.specs.declared.Act.{Act}
use Rattle.acts.specs.declared.Act.TheVariants.{Stay, Tick, Sync, Measure, Operate, Enter, Reset, Communicate, Request}
use Rattle.acts.specs.Acts.{requested, act_of, does, comes_to}
use Rattle.answers.specs.declared.refusal.Refusal.{Refusal}
use Rattle.device.proofs.Acted.{acted-alike}
use Rattle.device.proofs.Asked.{outcome-beside}
use Rattle.device.proofs.Beside.{Beside, tick_beside, sync_beside, reading-beside, range-beside}
use Rattle.device.specs.declared.Device.{Device}
use Rattle.device.specs.Answers.{stepped_of}
use Rattle.device.specs.Seen.{seen, alone}
use Rattle.rules.specs.declared.events.Event.{Event}
use Rattle.rules.specs.declared.requests.Caller.{Caller}
use Rattle.rules.specs.declared.requests.Outcome.{Outcome}
use Rattle.rules.specs.Events.{outcome_for, answered, on_event, event, journal_fits}
use Rattle.rules.specs.Network.{start}
use Rattle.rules.specs.Ranges.{in_range}
use Rattle.rules.specs.Results
use Rattle.rules.specs.Results.{refused}
use Rattle.promises.specs.ByTheRecord.{ByTheRecord}

module _ (d : Device) (j k : List ℕ) where
  -- what moves the record beside either journal as it does alone
  same : {r s t : Results.Result} → Beside j r t → Beside k s t → stepped_of r ≡ stepped_of s
  same a b = a.same ∙ sym b.same

  -- a request: its outcome does not go by the journal, nor does what the outcome makes of the record
  acted : (c : Caller) (o : Outcome) (l : List ℕ) → stepped_of (answered c o (seen d l)) ≡ stepped_of (answered c o (alone d))
  acted c o l = acted-alike c o.reply o.transfer d l o.change

  requested-alike : (c : Caller) (bytes : List ℕ) → stepped_of (requested c bytes (seen d j)) ≡ stepped_of (requested c bytes (seen d k))
  requested-alike c bytes =
      acted c (outcome_for c bytes (seen d j)) j
      ∙ ap (λ (o : Outcome). stepped_of (answered c o (alone d))) (sym (outcome-beside d j c bytes) ∙ outcome-beside d k c bytes)
      ∙ sym (acted c (outcome_for c bytes (seen d k)) k)

  act-alike : (a : Act) → stepped_of (does a (seen d j)) ≡ stepped_of (does a (seen d k))
  unfolding start
  act-alike Stay = refl
  act-alike (Tick ms) = same (tick_beside d j ms) (tick_beside d k ms)
  act-alike Sync = same (sync_beside d j) (sync_beside d k)
  act-alike (Measure a m) = same (reading-beside d j a m) (reading-beside d k a m)
  act-alike Operate = refl
  act-alike (Enter network) = refl
  act-alike Reset = refl
  act-alike Communicate = refl
  act-alike (Request c bytes) = requested-alike c bytes

  -- done, or refused
  comes-alike : (a : Result Act Refusal) → stepped_of (comes_to a (seen d j)) ≡ stepped_of (comes_to a (seen d k))
  comes-alike (Ok a) = act-alike a
  comes-alike (Err why) = refl

  kind-alike : (e : Event) (bytes : List ℕ) (size : ℕ) → stepped_of (on_event e bytes size (seen d j)) ≡ stepped_of (on_event e bytes size (seen d k))
  kind-alike e bytes size = ap stepped_of (done_as bytes size (seen d j) e) ∙ comes-alike (act_of e bytes size d.node) ∙ sym (ap stepped_of (done_as bytes size (seen d k) e))

  -- by the two refusals that come first
  by_tests : (ranged fits : Bool) (r s : Results.Result) → stepped_of r ≡ stepped_of s
      → stepped_of (cond ranged (cond fits r (refused 1 (seen d j))) (refused 3 (seen d j))) ≡ stepped_of (cond ranged (cond fits s (refused 1 (seen d k))) (refused 3 (seen d k)))
  by_tests true true r s e = e
  by_tests true false r s e = refl
  by_tests false fits r s e = refl

  event-alike : (e : Event) (bytes : List ℕ) (size : ℕ) → length j ≡ length k → stepped_of (event e bytes size (seen d j)) ≡ stepped_of (event e bytes size (seen d k))
  unfolding event
  event-alike e bytes size l =
      rw (range-beside d j, range-beside d k, l)
      (by_tests (in_range (alone d)) (journal_fits (seen d k)) (on_event e bytes size (seen d j)) (on_event e bytes size (seen d k)) (kind-alike e bytes size))

pub by_the_record : ByTheRecord
by_the_record d j k e bytes size r s j' k' l a b = a.0 ∙ event-alike d j k e bytes size l ∙ sym b.0
