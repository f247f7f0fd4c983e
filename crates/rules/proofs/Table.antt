-- Laws of the object table: what it allows of each setting.
use mathlib.Core.Path.{◌≡◌, refl, ap, ◌∙◌}
use mathlib.Core.Bool.{Bool, true}
use mathlib.Core.List.{List, [], ◌∷◌, map}
use Prim.Native.Nat.{ℕ, zero, suc, ◌<◌}
use native.Mathlib.Omega.{arith}
use lib.Dec.{eqb, lit<}
use lib.ListN.{get_or}
use borrow.Author.Tests.{eqb-true, leb-true}
use Rattle.laws.proofs.Bools.{both, left, right, either}
use Rattle.rules.proofs.Numbers.{to-most}
use Rattle.rules.proofs.Ranges.{each-resolution}
use Rattle.rules.specs.Numbers.{between}
use Rattle.rules.specs.declared.objects.Axis.TheVariants.{X, Y}
use Rattle.rules.specs.declared.objects.PdoNumber.TheVariants.{First}
use Rattle.rules.specs.declared.objects.PdoSetting.TheVariants.{On, Transmission, Timer}
use Rattle.rules.specs.declared.objects.Setting.{Setting}
use Rattle.rules.specs.declared.objects.Setting.TheVariants.{Heartbeat, Pdo, Resolution, Operating, Preset, Offset, Differential}
use Rattle.rules.specs.declared.settings.Settings.{Settings}
use Rattle.rules.specs.Settings.{Held, every, in_table, setting, settings, within, pdo_within}
use Rattle.rules.proofs.BySetting.{settings_of}

-- what holds of every element holds of the one at a place
pub every-at : {A : Type 0} (p : A → Bool) (l : List A) → every p l ≡ true → (i : ℕ) → get_or (map p l) i true ≡ true
every-at p [] e i = refl
every-at p (x ∷ l) e zero = left (p x) _ e
every-at p (x ∷ l) e (suc i) = every-at p l (right (p x) _ e) i

-- and of what is read at any place, where it holds of what stands for none
pub every_get : {A : Type 0} (p : A → Bool) (z : A) → p z ≡ true → (l : List A) → every p l ≡ true → (i : ℕ) → p (get_or l i z) ≡ true
every_get p z h [] e i = h
every_get p z h (x ∷ l) e zero = left (p x) _ e
every_get p z h (x ∷ l) e (suc i) = every_get p z h l (right (p x) _ e) i

-- settings within the object table have each one in its range
module _ (t : Settings) (e : in_table t ≡ true) where
  by_place : (i : ℕ) → get_or (map (λ s. within s (setting s t)) settings) i true ≡ true
  unfolding in_table
  by_place = every-at (λ s. within s (setting s t)) settings e

  pub setting_in : (s : Setting) → within s (setting s t) ≡ true
  setting_in Heartbeat = by_place 0
  setting_in (Pdo First On) = by_place 1
  setting_in (Pdo First Transmission) = by_place 2
  setting_in (Pdo First Timer) = by_place 3
  setting_in Resolution = by_place 4
  setting_in (Operating X) = by_place 5
  setting_in (Operating Y) = by_place 6
  setting_in (Preset X) = by_place 7
  setting_in (Offset X) = by_place 8
  setting_in (Differential X) = by_place 9
  setting_in (Preset Y) = by_place 10
  setting_in (Offset Y) = by_place 11
  setting_in (Differential Y) = by_place 12

-- and settings with each one in its range are within the object table
every_of : {A : Type 0} (p : A → Bool) (l : List A) → ((x : A) → p x ≡ true) → every p l ≡ true
every_of p [] h = refl
every_of p (x ∷ l) h = both (h x) (every_of p l h)

pub in_table_lem : (t : Settings) → ((s : Setting) → within s (setting s t) ≡ true) → in_table t ≡ true
unfolding in_table
in_table_lem t h = every_of (λ s. within s (setting s t)) settings h

-- a setting of the settings with each one given
pub setting_of : (f : (s : Setting) → Held s) (s : Setting) → setting s (settings_of f) ≡ f s
setting_of f Heartbeat = refl
setting_of f (Pdo First On) = refl
setting_of f (Pdo First Transmission) = refl
setting_of f (Pdo First Timer) = refl
setting_of f Resolution = refl
setting_of f (Operating X) = refl
setting_of f (Operating Y) = refl
setting_of f (Preset X) = refl
setting_of f (Preset Y) = refl
setting_of f (Offset X) = refl
setting_of f (Offset Y) = refl
setting_of f (Differential X) = refl
setting_of f (Differential Y) = refl

pub table_of : (f : (s : Setting) → Held s) → ((s : Setting) → within s (f s) ≡ true) → in_table (settings_of f) ≡ true
table_of f h = in_table_lem (settings_of f) (λ s. ap (within s) (setting_of f s) ∙ h s)

-- the numbers of two bytes have 16 bits
pub heartbeat-fits : (x : ℕ) → within Heartbeat x ≡ true → x < 0x10000
heartbeat-fits x = either (eqb x 0) (between 25 65535 x) (λ e. omega (arith, eqb-true x 0 e)) (λ e. omega (arith, to-most 25 65535 x e))

pub timer_fits : (x : ℕ) → pdo_within Timer x ≡ true → x < 0x10000
timer_fits x e = omega (arith, leb-true x 65535 e)

pub resolution-fits : (x : ℕ) → within Resolution x ≡ true → x < 0x10000
resolution-fits = each-resolution (λ x. x < 0x10000) (lit< tt) (lit< tt) (lit< tt) (lit< tt)
