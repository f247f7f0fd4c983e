-- Laws of the ranges: what the width of a field says, and what a record in its ranges says of each part.
use mathlib.Core.Path.{◌≡◌, refl, sym, ◌∙◌, subst}
use mathlib.Core.Bool.{Bool, true, false, cond}
use mathlib.Core.List.{[], ◌∷◌}
use Prim.Native.Nat.{ℕ, zero, suc, ◌+◌, ◌-◌, ◌≤◌, ◌<◌}
use native.Mathlib.Numerals.{add-one}
use native.Mathlib.Omega.{arith}
use borrow.Author.Tests.{eqb-true, leb-true, le-leb, lt-ltb, ltb-true, ltb-false}
use lib.Dec.{eqb, ltb, leb, leb-suc-suc}
use lib.IntN.{ℤ, pos, negsuc, nat_abs}
use lib.ListN.{get_or}
use lib.Seq.{get_or-take}
use lib.Signed.{mag, le_z}
use Rattle.laws.proofs.Bools.{both, left, right, cond_both, cond-each, either, one_of}
use Rattle.laws.proofs.Signed.{mag-within}
use Rattle.rules.specs.declared.errors.ErrorList.{ErrorList}
use Rattle.rules.specs.declared.objects.Setting.TheVariants.{Resolution}
use Rattle.rules.specs.declared.parts.Reading.{Reading}
use Rattle.rules.specs.declared.settings.PdoSettings.{PdoSettings}
use Rattle.rules.specs.Errors.{no_errors, entered}
use Rattle.rules.specs.Numbers.{between, between_ℤ, fits, signed}
use Rattle.rules.specs.Ranges.{code_ok, errors_ok, elapsed_ok, syncs_ok, counts_ok, inside, axis_ok}
use Rattle.rules.specs.Settings.{synchronous, within, in_table, factory}
use Rattle.rules.specs.State.{none, faulty, no_counts}

-- sixteen bits hold what fits them
pub fits-sixteen : (z : ℤ) → mag z < 32768 → fits 16 z ≡ true
fits-sixteen (pos n) h = le-leb n 32767 (omega arith)
fits-sixteen (negsuc n) h = simp (le-leb n 32767 (omega arith))

-- sixteen bits make a number that fits them
pub signed-fits : (v : ℕ) → v < 0x10000 → fits 16 (signed 16 v) ≡ true
signed-fits v h =
    cond-each (λ (z : ℤ). fits 16 z ≡ true) (ltb v 32768) (λ e. fits-sixteen (pos v) (ltb-true v 32768 e))
    (λ e. fits-sixteen (negsuc (65536 - suc v)) (omega (arith, ltb-false v 32768 e)))

-- a number between two ends is no larger than the farther one
pub between-small : (z : ℤ) (k n : ℕ) → k ≤ n → between_ℤ (negsuc k) (pos n) z ≡ true → mag z ≤ n
between-small z k n h e =
    let low = le_z (negsuc k) z in
    let high = le_z z (pos n) in
    mag-within z k n h (left low high e) (right low high e)

-- what holds of 1, 10, 100 and 1000 holds of a resolution
pub each-resolution : (P : ℕ → Type 0) → P 1 → P 10 → P 100 → P 1000 → (r : ℕ) → within Resolution r ≡ true → P r
each-resolution P one ten hundred thousand r =
    let is : (n : ℕ) → P n → eqb r n ≡ true → P r = λ n p e. subst P (sym (eqb-true r n e)) p in
    either _ _ (either _ _ (either _ _ (is 1 one) (is 10 ten)) (is 100 hundred)) (is 1000 thousand)

-- behind 1, 10 and 100 only 1000 is left
pub last-resolution : (r : ℕ) → within Resolution r ≡ true → (r ≡ 1 → ⊥) → (r ≡ 10 → ⊥) → (r ≡ 100 → ⊥) → r ≡ 1000
last-resolution r w one ten hundred =
    each-resolution (λ d. r ≡ d → r ≡ 1000) (λ e. absurd (one e)) (λ e. absurd (ten e)) (λ e. absurd (hundred e)) (λ e. e) r w refl

-- an axis's last good reading
pub inside-size : (m : ℤ) → inside m ≡ true → nat_abs m ≤ 180000
inside-size (pos n) e = leb-true n 180000 e
inside-size (negsuc n) e = omega (arith, leb-true n 179999 (left (leb n 179999) true e))

zero-inside : (m : ℤ) → eqb (nat_abs m) 0 ≡ true → inside m ≡ true
zero-inside (pos n) e = le-leb n 180000 (omega (arith, eqb-true n 0 e))
zero-inside (negsuc n) e = absurd (omega (arith, eqb-true (suc n) 0 e))

none-or-inside : (is_none : Bool) (m : ℤ) → cond is_none (eqb (nat_abs m) 0) (inside m) ≡ true → inside m ≡ true
none-or-inside true m e = zero-inside m e
none-or-inside false m e = e

pub axis-inside : (x : Reading) → axis_ok x ≡ true → inside x.m ≡ true
unfolding axis_ok
axis-inside x e =
    let is_none = eqb x.state none in
    none-or-inside is_none x.m (right (leb x.state faulty) (cond is_none (eqb (nat_abs x.m) 0) (inside x.m)) e)

-- factory settings are within the object table
pub factory_in : in_table factory ≡ true
unfolding in_table
factory_in = refl

-- the empty list is in its range
pub no-errors_in : errors_ok no_errors ≡ true
unfolding errors_ok
no-errors_in = refl

-- counts of 0 are in their ranges, whatever the settings
above : (n : ℕ) → ltb 0 (suc n) ≡ true
above n = lt-ltb 0 (suc n) (omega arith)

pub no_elapsed_in : (period : ℕ) → elapsed_ok period 0 ≡ true
no_elapsed_in zero = refl
no_elapsed_in (suc n) = cond_both (λ b. b ≡ true) (eqb (suc n) 0) refl (above n)

no_syncs_in : (transmission : ℕ) → syncs_ok transmission 0 ≡ true
no_syncs_in zero = refl
no_syncs_in (suc n) = cond_both (λ b. b ≡ true) (synchronous (suc n)) (above n) refl

pub no-counts_in : (s : PdoSettings) → counts_ok s no_counts ≡ true
no-counts_in s = both (no_elapsed_in s.timer) (no_syncs_in s.transmission)

-- the length that a new code leaves: a place is in the list exactly if the one before it was
longer : (n i : ℕ) (t : Bool) → ltb n 5 ≡ t → i < 4 → ltb (suc i) (cond t (n + 1) 5) ≡ ltb i n
longer n i true e h = rw add-one (leb-suc-suc (suc i) n)
longer n i false e h = lt-ltb (suc i) 5 (omega arith) ∙ sym (lt-ltb i n (omega (arith, ltb-false n 5 e)))

five : (n : ℕ) (t : Bool) → ltb n 5 ≡ t → leb (cond t (n + 1) 5) 5 ≡ true
five n true e = le-leb (n + 1) 5 (omega (arith, ltb-true n 5 e))
five n false e = refl

some : (n : ℕ) (t : Bool) → ltb 0 (cond t (n + 1) 5) ≡ true
some n true = lt-ltb 0 (n + 1) (omega arith)
some n false = refl

-- the code at a place of the list is in its range
abbrev at : ErrorList → ℕ → Bool
at l i = code_ok l.length i (get_or l.codes i 0)

-- a new code of the paper's keeps the list in its range
module _ (code : ℕ) (l : ErrorList) where
  moved : (i : ℕ) → i < 4 → at l i ≡ true → at (entered code l) (suc i) ≡ true
  moved i h e = simp (longer l.length i _ refl h, get_or-take 4 l.codes i 0 h) e

  pub entered_in : between 0xFF00 0xFF02 code ≡ true → errors_ok l ≡ true → errors_ok (entered code l) ≡ true
  unfolding errors_ok
  entered_in k e =
      let was = one_of (leb l.length 5) (at l 0 ∷ at l 1 ∷ at l 2 ∷ at l 3 ∷ at l 4 ∷ []) e in
      let front : at (entered code l) 0 ≡ true = simp (some l.length (ltb l.length 5)) k in
      simp (five l.length _ refl, front, moved 0 (omega arith) (was 1), moved 1 (omega arith) (was 2), moved 2 (omega arith) (was 3), moved 3 (omega arith) (was 4))
