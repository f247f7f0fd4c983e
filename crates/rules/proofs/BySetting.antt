-- The settings one by one: each given by itself, what a change makes of each, and that this is what it makes of all.
use mathlib.Core.Path.{◌≡◌, refl}
use mathlib.Core.Bool.{Bool, true, false, cond}
use Prim.Native.Nat.{ℕ}
use lib.Dec.{ltb}
use lib.IntN.{ℤ}
use Rattle.rules.specs.declared.objects.Axis.{Axis}
use Rattle.rules.specs.declared.objects.Axis.TheVariants.{X, Y}
use Rattle.rules.specs.declared.objects.PdoNumber.{PdoNumber}
use Rattle.rules.specs.declared.objects.PdoNumber.TheVariants.{First}
use Rattle.rules.specs.declared.objects.PdoSetting.{PdoSetting}
use Rattle.rules.specs.declared.objects.PdoSetting.TheVariants.{On, Transmission, Timer}
use Rattle.rules.specs.declared.objects.Setting.{Setting}
use Rattle.rules.specs.declared.objects.Setting.TheVariants.{Heartbeat, Pdo, Resolution, Operating, Preset, Offset, Differential}
use Rattle.rules.specs.declared.requests.Change.{Change}
use Rattle.rules.specs.declared.requests.Change.TheVariants.{Keep, Put, Zero, Empty, Configure, Fill}
use Rattle.rules.specs.declared.settings.AxisSettings.{AxisSettings}
use Rattle.rules.specs.declared.settings.PdoSettings.{PdoSettings}
use Rattle.rules.specs.declared.settings.Settings.{Settings}
use Rattle.rules.specs.Numbers.{signed}
use Rattle.rules.specs.Objects.{same_setting}
use Rattle.rules.specs.Service.{put, running_after}
use Rattle.rules.specs.Settings.{Held, setting}

-- the settings with each one given
abbrev axis_of : ((s : Setting) → Held s) → Axis → AxisSettings
axis_of f a = record { operating = f (Operating a); preset = f (Preset a); offset = f (Offset a); differential = f (Differential a) }

abbrev pdo_settings_of : ((s : Setting) → Held s) → PdoNumber → PdoSettings
pdo_settings_of f n = record { on = f (Pdo n On); transmission = f (Pdo n Transmission); timer = f (Pdo n Timer) }

abbrev pub settings_of : ((s : Setting) → Held s) → Settings
settings_of f = record {
  heartbeat = f Heartbeat;
  pdo = pdo_settings_of f First;
  resolution = f Resolution;
  x = axis_of f X;
  y = axis_of f Y;
}

-- a written value as a setting holds it
abbrev pdo_valued : PdoSetting → ℕ → ℕ
pdo_valued On v = cond (ltb v 0x80000000) 1 0
pdo_valued Transmission v = v
pdo_valued Timer v = v

abbrev pub valued : (s : Setting) → ℕ → Held s
valued Heartbeat v = v
valued (Pdo n p) v = pdo_valued p v
valued Resolution v = v
valued (Operating a) v = v
valued (Preset a) v = signed 16 v
valued (Offset a) v = signed 16 v
valued (Differential a) v = signed 16 v

abbrev pub same_axis : Axis → Axis → Bool
same_axis X X = true
same_axis X Y = false
same_axis Y X = false
same_axis Y Y = true

-- an axis's preset and offset
abbrev pub zeroed_at : Axis → ℤ → ℤ → (s : Setting) → Held s → Held s
zeroed_at a preset offset Heartbeat x = x
zeroed_at a preset offset (Pdo n p) x = x
zeroed_at a preset offset Resolution x = x
zeroed_at a preset offset (Operating b) x = x
zeroed_at a preset offset (Preset b) x = cond (same_axis a b) preset x
zeroed_at a preset offset (Offset b) x = cond (same_axis a b) offset x
zeroed_at a preset offset (Differential b) x = x

abbrev pub on_setting : Change → (s : Setting) → Held s → Held s
on_setting Keep s x = x
on_setting (Put t v) s x = cond (same_setting s t) (valued s v) x
on_setting (Zero a preset offset) s x = zeroed_at a preset offset s x
on_setting Empty s x = x
on_setting (Configure l) s x = x
on_setting (Fill o) s x = x

put-by-setting : (s : Setting) (v : ℕ) (t : Settings) → put s v t ≡ settings_of (λ k. on_setting (Put s v) k (setting k t))
put-by-setting Heartbeat v t = refl
put-by-setting (Pdo First On) v t = refl
put-by-setting (Pdo First Transmission) v t = refl
put-by-setting (Pdo First Timer) v t = refl
put-by-setting Resolution v t = refl
put-by-setting (Operating X) v t = refl
put-by-setting (Operating Y) v t = refl
put-by-setting (Preset X) v t = refl
put-by-setting (Preset Y) v t = refl
put-by-setting (Offset X) v t = refl
put-by-setting (Offset Y) v t = refl
put-by-setting (Differential X) v t = refl
put-by-setting (Differential Y) v t = refl

pub by-setting : (e : Change) (t : Settings) → running_after e t ≡ settings_of (λ s. on_setting e s (setting s t))
by-setting Keep t = refl
by-setting (Put s v) t = put-by-setting s v t
by-setting (Zero X preset offset) t = refl
by-setting (Zero Y preset offset) t = refl
by-setting Empty t = refl
by-setting (Configure l) t = refl
by-setting (Fill o) t = refl
