-- What a preset means: where bit 1 of 6011 is set, the sum after an accepted preset is the preset, whatever the reading, and the angle is the preset turned and brought in.
use mathlib.Core.Path.{◌≡◌}
use mathlib.Core.Bool.{true}
use Prim.Native.Nat.{ℕ}
use lib.IntN.{ℤ, ◌+ℤ◌, ◌-ℤ◌, +ℤ_assoc, +ℤ_comm, -ℤ-+ℤ_cancel}
use Rattle.rules.specs.Angle.{shifted, q, nearer, sum, turned, angle, offset}

cancelled : (q p d : ℤ) → q +ℤ (p -ℤ q -ℤ d) +ℤ d ≡ p
cancelled q p d = rw (+ℤ_assoc q (p -ℤ q -ℤ d) d, -ℤ-+ℤ_cancel (p -ℤ q) d, +ℤ_comm q (p -ℤ q), -ℤ-+ℤ_cancel p q)

pub sum-is-preset : (m : ℤ) (r operating : ℕ) (differential preset : ℤ) → shifted operating ≡ true → sum m r operating (offset m r operating differential preset) differential ≡ preset
unfolding sum offset
sum-is-preset m r operating differential preset e = simp e (cancelled (q m r operating) preset differential)

pub angle_of_preset : (m : ℤ) (r operating : ℕ) (differential preset : ℤ) → shifted operating ≡ true → angle m r operating (offset m r operating differential preset) differential ≡ nearer 32767 (turned r preset)
unfolding angle
angle_of_preset m r operating differential preset e = simp (e, sum-is-preset m r operating differential preset e)
