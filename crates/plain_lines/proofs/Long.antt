-- A line of more than 29 bytes behind its letter and blank brings no node, no time and no reading.
use mathlib.Core.Path.{◌≡◌, refl}
use mathlib.Core.Bool.{Bool, true, false, cond}
use mathlib.Core.List.{List, [], ◌∷◌}
use Prim.Native.Nat.{ℕ, ◌<◌}
use native.Mathlib.Omega.{arith}
use lib.ListN.{length, drop, length-drop}
use Rattle.std.specs.Prelude.{None}
use Rattle.numerals.proofs.Long.{decimal-long}
use Rattle.rules.specs.declared.objects.Axis.{Axis}
use Rattle.plain_lines.specs.Reading.{line_of, measured_line, power_on_line}

pub same : {A : Type 0} (t : Bool) (a : A) → cond t a a ≡ a
same true a = refl
same false a = refl

power_on-long : (s : List ℕ) → 29 < length s → power_on_line s ≡ None
power_on-long [] long = refl
power_on-long (a ∷ []) long = refl
power_on-long (a ∷ b ∷ []) long = absurd (omega arith)
power_on-long (a ∷ b ∷ more ∷ s) long = refl

module _ (s : List ℕ) (long : 29 < length s) where
  measured-long : (axis : Axis) → measured_line axis s ≡ None
  unfolding measured_line
  measured-long axis =
      let rest : 10 < length (drop 1 s) = simp length-drop (omega arith) in
      rw (decimal-long s (omega arith), decimal-long (drop 1 s) rest, same)

  pub line-long : (letter : ℕ) → line_of letter s ≡ None
  unfolding line_of
  line-long letter = simp (power_on-long s long, decimal-long s (omega arith), measured-long, same)
