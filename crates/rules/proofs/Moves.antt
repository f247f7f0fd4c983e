-- Counts after a tick or a SYNC, and an axis after a reading, are in their ranges still.
use mathlib.Core.Path.{◌≡◌, refl}
use mathlib.Core.Bool.{Bool, true, cond}
use Prim.Native.Nat.{ℕ, ◌+◌}
use native.Mathlib.Omega.{arith}
use lib.Dec.{leb}
use lib.IntN.{ℤ}
use borrow.Author.Tests.{ne_eqb, lt-ltb, leb-false}
use Rattle.laws.proofs.Bools.{left, right, cond_both, cond-each}
use Rattle.rules.specs.declared.objects.Axis.{Axis}
use Rattle.rules.specs.declared.objects.Axis.TheVariants.{X, Y}
use Rattle.rules.specs.declared.parts.Reading.{Reading}
use Rattle.rules.specs.Network.{no_reading}
use Rattle.rules.specs.Numbers.{between}
use Rattle.rules.specs.Ranges.{elapsed_ok, syncs_ok, axis_ok, inside}
use Rattle.rules.specs.Readings.{measured, fault_code}
use Rattle.rules.specs.Settings.{synchronous}
use Rattle.rules.specs.State.{good, faulty}
use Rattle.rules.specs.Time.{adds, elapsed_after}
use Rattle.rules.proofs.Ranges.{axis-inside, no_elapsed_in}

-- a count after a tick is below its period still
pub elapsed_in : (runs : Bool) (period elapsed ms : ℕ) → elapsed_ok period elapsed ≡ true → elapsed_ok period (elapsed_after runs period elapsed ms) ≡ true
elapsed_in runs period elapsed ms e =
    let Ok : ℕ → Type 0 = λ n. elapsed_ok period n ≡ true in
    cond_both Ok (adds runs period)
    (cond-each Ok (leb period (elapsed + ms)) (λ h. no_elapsed_in period)
    (λ h. let below = leb-false period (elapsed + ms) h in simp (ne_eqb period 0 (omega (arith, below)), lt-ltb (elapsed + ms) period below)))
    e

-- a count of SYNCs is below its type still
pub syncs_in : (transmission syncs : ℕ) → synchronous transmission ≡ true → syncs_ok transmission (cond (leb transmission (syncs + 1)) 0 (syncs + 1)) ≡ true
syncs_in transmission syncs e =
    let Ok : ℕ → Type 0 = λ n. syncs_ok transmission n ≡ true in
    let least = left (leb 1 transmission) (leb transmission 240) e in
    let most = right (leb 1 transmission) (leb transmission 240) e in
    cond-each Ok (leb transmission (syncs + 1)) (λ h. simp (least, most))
    (λ h. simp (least, most, lt-ltb (syncs + 1) transmission (leb-false transmission (syncs + 1) h)))

-- an axis after a reading
good_in : (m : ℤ) → inside m ≡ true → axis_ok (record { state = good; m = m }) ≡ true
unfolding axis_ok
good_in m e = simp e

faulty_in : (m : ℤ) → inside m ≡ true → axis_ok (record { state = faulty; m = m }) ≡ true
unfolding axis_ok
faulty_in m e = simp e

pub measured_in : (m : ℤ) (x : Reading) → axis_ok x ≡ true → axis_ok (measured m x) ≡ true
measured_in m x e = cond-each (λ (y : Reading). axis_ok y ≡ true) (inside m) (good_in m) (λ h. faulty_in x.m (axis-inside x e))

pub code_in : (a : Axis) → between 0xFF00 0xFF02 (fault_code a) ≡ true
code_in X = refl
code_in Y = refl

pub none_in : axis_ok no_reading ≡ true
unfolding axis_ok
none_in = refl
