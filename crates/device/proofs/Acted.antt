-- An outcome acted on the record: what it does to the record has nothing to do with the journal.
use mathlib.Core.Path.{◌≡◌, refl}
use mathlib.Core.List.{List}
use Prim.Native.Nat.{ℕ}
use Rattle.std.specs.Prelude.{Option}
use Rattle.rules.specs.declared.parts.Transfer.{Transfer}
use Rattle.rules.specs.declared.requests.Caller.{Caller}
use Rattle.rules.specs.declared.requests.Change.{Change}
use Rattle.rules.specs.declared.requests.Change.TheVariants.{Keep, Put, Zero, Empty, Configure, Fill}
use Rattle.rules.specs.declared.requests.Outcome.{Outcome}
use Rattle.rules.specs.Events.{answered}
use Rattle.rules.specs.Service.{state_after}
use Rattle.device.specs.declared.Device.{Device}
use Rattle.device.specs.Answers.{stepped_of}
use Rattle.device.specs.Replied.{changed_by, journal_by, with_transfer}
use Rattle.device.specs.Seen.{seen, alone, held}

-- by the change
module _ (c : Caller) (reply : Option (List ℕ)) (t : Transfer) (d : Device) (j : List ℕ) where
  abbrev by : Change → Outcome
  by e = record { reply = reply; transfer = t; change = e }

  -- the record and the answer have nothing to do with the journal
  pub acted-alike : (e : Change) → stepped_of (answered c (by e) (seen d j)) ≡ stepped_of (answered c (by e) (alone d))
  acted-alike Keep = refl
  acted-alike (Put s v) = refl
  acted-alike (Zero a preset offset) = refl
  acted-alike Empty = refl
  acted-alike (Configure l) = refl
  acted-alike (Fill b) = refl

  -- the record after the change and the reply, and the journal
  pub acted-on : (e : Change) → let u = state_after c (by e) (seen d j) in (with_transfer c t (changed_by e d) ≡ held u) × (journal_by e d j ≡ u.journal)
  acted-on Keep = (refl, refl)
  acted-on (Put s v) = (refl, refl)
  acted-on (Zero a preset offset) = (refl, refl)
  acted-on Empty = (refl, refl)
  acted-on (Configure l) = (refl, refl)
  acted-on (Fill b) = (refl, refl)
