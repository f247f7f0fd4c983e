-- What an event comes to does what the rules say of the event.
use mathlib.Core.Path.{◌≡◌, refl, ap, sym, ◌∙◌, subst}
use mathlib.Core.Bool.{Bool, true, false, cond}
use mathlib.Core.List.{List, []}
use borrow.Author.Tests.{eqb-true}
use Prim.Native.Nat.{ℕ, ◌*◌}
use lib.Dec.{eqb}
use lib.ListN.{length as length_of}
use Rattle.std.specs.Prelude.{Result, Ok, Err}
use Rattle.acts.proofs.Done.{done_as}
use Rattle.acts.specs.declared.Act.{Act}
use Rattle.acts.specs.Acts.{act_of, does, comes_to}
use Rattle.answers.specs.declared.refusal.Refusal.{Refusal}
use Rattle.answers.specs.declared.refusal.Refusal.TheVariants.{OutOfRange, WrongLength}
use Rattle.answers.specs.Answers.{answering}
use Rattle.answers.specs.declared.Answer.{Answer}
use Rattle.answers.specs.Refusals.{refusal_number}
use Rattle.rules.specs.declared.events.Event.{Event}
use Rattle.rules.specs.Events.{on_event, event}
use Rattle.rules.specs.Ranges.{in_range}
use Rattle.rules.specs.Results
use Rattle.rules.specs.Results.{refused}
use Rattle.rules.specs.State.{State}
use Rattle.device.proofs.Beside.{range-beside}
use Rattle.device.specs.declared.Device.{Device}
use Rattle.device.specs.Answers.{DoneBeside}
use Rattle.device.specs.Decided.{behind, decided}
use Rattle.device.specs.Seen.{seen, alone, Fit}

-- by the two tests
by_tests : (ranged fits : Bool) (k : Result Act Refusal) (r : Results.Result) (u : State) → r ≡ comes_to k u
    → cond ranged (cond fits r (refused 1 u)) (refused 3 u) ≡ comes_to (behind (cond ranged (cond fits (Ok tt) (Err WrongLength)) (Err OutOfRange)) k) u
by_tests true true k r u p = p
by_tests true false k r u p = refl
by_tests false fits k r u p = refl

both : (ranged fits : Bool) (k : Result Act Refusal) (a : Act) → Ok a ≡ behind (cond ranged (cond fits (Ok tt) (Err WrongLength)) (Err OutOfRange)) k → (ranged ≡ true) × (fits ≡ true)
both true true k a p = (refl, refl)
both true false k a p = cc
both false fits k a p = cc

module _ (d : Device) (j : List ℕ) (e : Event) (bytes : List ℕ) (size : ℕ) where
  pub come : event e bytes size (seen d j) ≡ comes_to (decided (length_of j) e bytes size (alone d)) (seen d j)
  unfolding event
  come =
      rw (range-beside d j)
      (by_tests (in_range (alone d)) (eqb (length_of j) (512 * d.saves.blocks)) (act_of e bytes size d.node) (on_event e bytes size (seen d j)) (seen d j) (done_as bytes size (seen d j) e))

  module _ (k : Result Act Refusal) (p : k ≡ decided (length_of j) e bytes size (alone d)) where
    -- done, at a record that is not refused; or refused
    pub fit : (a : Act) → k ≡ Ok a → Fit d (length_of j)
    fit a q =
        let t = both (in_range (alone d)) (eqb (length_of j) (512 * d.saves.blocks)) (act_of e bytes size d.node) a (sym q ∙ p) in
        (t.0, eqb-true (length_of j) (512 * d.saves.blocks) t.1)

    as_event : (x : Result Act Refusal) → k ≡ x → comes_to x (seen d j) ≡ event e bytes size (seen d j)
    as_event x q = ap (λ (x : Result Act Refusal). comes_to x (seen d j)) (sym q ∙ p) ∙ sym come

    like : (x : Result Act Refusal) → k ≡ x → (r : Answer) (d' : Device) (j' : List ℕ) → DoneBeside (comes_to x (seen d j)) r d' j' → DoneBeside (event e bytes size (seen d j)) r d' j'
    like x q r d' j' = subst (λ (s : Results.Result). DoneBeside s r d' j') (as_event x q)

    pub taken : (a : Act) → k ≡ Ok a → (r : Answer) (d' : Device) (j' : List ℕ) → DoneBeside (does a (seen d j)) r d' j' → DoneBeside (event e bytes size (seen d j)) r d' j'
    taken a q = like (Ok a) q

    pub turned-away : (why : Refusal) → k ≡ Err why → (r : Answer) → r ≡ answering (refusal_number why) [] → DoneBeside (event e bytes size (seen d j)) r d j
    turned-away why q r s = like (Err why) q r d j ((s, refl), refl)
