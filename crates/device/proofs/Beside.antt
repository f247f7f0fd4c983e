-- The journal beside the record: what an event does to the record does not depend on it, and none but a save, a load or a store touches it.
use mathlib.Core.Path.{◌≡◌, refl, ap, sym, ◌∙◌}
use mathlib.Core.List.{List}
use Prim.Native.Nat.{ℕ}
use lib.IntN.{ℤ}
use Rattle.acts.specs.declared.Act.TheVariants.{Reset}
use Rattle.acts.specs.Acts.{does}
use Rattle.answers.specs.declared.Answer.{Answer}
use Rattle.rules.specs.declared.objects.Axis.{Axis}
use Rattle.rules.specs.declared.objects.Axis.TheVariants.{X, Y}
use Rattle.rules.specs.Network.{start}
use Rattle.rules.specs.Ranges.{in_range}
use Rattle.rules.specs.Readings.{on_reading}
use Rattle.rules.specs.Results.{Result}
use Rattle.rules.specs.Time.{on_tick, on_sync}
use Rattle.device.specs.declared.Device.{Device}
use Rattle.device.specs.declared.Stepped.{Stepped}
use Rattle.device.specs.Answers.{stepped_of, Done, DoneBeside}
use Rattle.device.specs.Seen.{seen, alone}

-- r leaves the journal j, and moves the record as s does
pub record Beside (j : List ℕ) (r s : Result) : Type 0 where
  pub same : stepped_of r ≡ stepped_of s
  pub kept : r.state.journal ≡ j

-- an answer and a record by themselves, and as one
pub apart : (r : Result) {t : Stepped} → t ≡ stepped_of r → Done r t.answer t.device
apart r p = (ap (λ (t : Stepped). t.answer) p, ap (λ (t : Stepped). t.device) p)

pub whole : (r : Result) (a : Answer) (d : Device) → Done r a d → ◌≡◌ {A = Stepped} (record { device = d; answer = a }) (stepped_of r)
whole r a d p = rw (p.0, p.1)

-- so what does s does r, and leaves the journal
pub moved : {j : List ℕ} {r s : Result} {a : Answer} {d : Device} → Beside j r s → Done s a d → DoneBeside r a d j
moved {s = s} b p = let t = apart s b.same in ((p.0 ∙ sym t.0, p.1 ∙ sym t.1), sym b.kept)

module _ (d : Device) (j : List ℕ) where
  pub range-beside : in_range (seen d j) ≡ in_range (alone d)
  unfolding in_range
  range-beside = refl

  pub tick_beside : (ms : ℕ) → Beside j (on_tick ms (seen d j)) (on_tick ms (alone d))
  unfolding on_tick
  tick_beside ms = record { same = refl; kept = refl }

  pub sync_beside : Beside j (on_sync (seen d j)) (on_sync (alone d))
  unfolding on_sync
  sync_beside = record { same = refl; kept = refl }

  pub reading-beside : (a : Axis) (m : ℤ) → Beside j (on_reading a m (seen d j)) (on_reading a m (alone d))
  unfolding on_reading
  reading-beside X m = record { same = refl; kept = refl }
  reading-beside Y m = record { same = refl; kept = refl }

  pub reset_beside : Beside j (does Reset (seen d j)) (does Reset (alone d))
  unfolding start
  reset_beside = record { same = refl; kept = refl }
