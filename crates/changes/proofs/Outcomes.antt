-- What a request's change asks is there: its value is in its setting's length, a block to fill is left, and the settings that fill it are in the table.
use mathlib.Core.List.{List}
use mathlib.Core.Path.{◌≡◌}
use Prim.Native.Nat.{ℕ, ◌*◌}
use native.Mathlib.Omega.{arith}
use lib.ListN.{length}
use borrow.Author.Tests.{eq-eqb}
use Rattle.rules.specs.declared.requests.Caller.{Caller}
use Rattle.rules.specs.declared.requests.Change.{Change}
use Rattle.rules.specs.declared.requests.Change.TheVariants.{Put, Fill}
use Rattle.rules.specs.Events.{outcome_for}
use Rattle.rules.specs.State.{State}
use Rattle.rules.proofs.InRange.{InRange}
use Rattle.rules.proofs.Outcomes.{Allowed, allowed}
use Rattle.rules.proofs.Served.{stored_in}
use Rattle.changes.specs.After.{Possible}

module _ (u : State) (range : InRange u) (whole : length u.journal ≡ 512 * u.saves.blocks) where
  asked : (e : Change) → Allowed u e → Possible u e
  asked (Put s v) a = record { fitting = a.0; room = tt; fillable = tt }
  asked (Fill o) a = record {
    fitting = tt;
    room = a.0;
    fillable = (omega (arith, a.0), stored_in u range (eq-eqb _ _ whole) o);
  }
  asked _ a = record { fitting = tt; room = tt; fillable = tt }

  pub possible : (c : Caller) (request : List ℕ) → Possible u (outcome_for c request u).change
  possible c request = asked (outcome_for c request u).change (allowed u c request range)
