-- Objects, the settings: accepted values and factory.
use Rattle.std.specs.Prelude.{Bool, ◌&&◌, ◌||◌, List, [], ◌∷◌, ℕ, eqb, leb, ℤ, pos}
use Rattle.rules.specs.declared.objects.Axis.{Axis}
use Rattle.rules.specs.declared.objects.Axis.TheVariants.{X, Y}
use Rattle.rules.specs.declared.objects.PdoNumber.{PdoNumber}
use Rattle.rules.specs.declared.objects.PdoNumber.TheVariants.{First}
use Rattle.rules.specs.declared.objects.PdoSetting.{PdoSetting}
use Rattle.rules.specs.declared.objects.PdoSetting.TheVariants.{On, Transmission, Timer}
use Rattle.rules.specs.declared.objects.Setting.{Setting}
use Rattle.rules.specs.declared.objects.Setting.TheVariants.{Heartbeat, Pdo, Resolution, Operating, Preset, Offset, Differential}
use Rattle.rules.specs.declared.settings.AxisSettings.{AxisSettings}
use Rattle.rules.specs.declared.settings.PdoSettings.{PdoSettings}
use Rattle.rules.specs.declared.settings.Settings.{Settings}
use Rattle.rules.specs.Numbers.{between, fits}

-- every setting, "all that a block carries"
abbrev pub settings : List Setting
settings =
    Heartbeat ∷ Pdo First On ∷ Pdo First Transmission ∷ Pdo First Timer ∷ Resolution ∷ Operating X ∷ Operating Y ∷
    Preset X ∷ Offset X ∷ Differential X ∷ Preset Y ∷ Offset Y ∷ Differential Y ∷ []

-- what a setting holds
abbrev pub Held : Setting → Type 0
Held Heartbeat = ℕ
Held (Pdo n p) = ℕ
Held Resolution = ℕ
Held (Operating a) = ℕ
Held (Preset a) = ℤ
Held (Offset a) = ℤ
Held (Differential a) = ℤ

abbrev pub axis_settings : Axis → Settings → AxisSettings
axis_settings X t = t.x
axis_settings Y t = t.y

-- a PDO's settings, by its number: there is one PDO
abbrev pub pdo_settings : PdoNumber → Settings → PdoSettings
pdo_settings First t = t.pdo

abbrev pub pdo_setting : PdoSetting → PdoSettings → ℕ
pdo_setting On s = s.on
pdo_setting Transmission s = s.transmission
pdo_setting Timer s = s.timer

abbrev pub setting : (s : Setting) → Settings → Held s
setting Heartbeat t = t.heartbeat
setting (Pdo n p) t = pdo_setting p (pdo_settings n t)
setting Resolution t = t.resolution
setting (Operating a) t = (axis_settings a t).operating
setting (Preset a) t = (axis_settings a t).preset
setting (Offset a) t = (axis_settings a t).offset
setting (Differential a) t = (axis_settings a t).differential

-- the settings with one axis's given, or one PDO's
abbrev pub with_axis : Axis → AxisSettings → Settings → Settings
with_axis X s t = record { heartbeat = t.heartbeat; pdo = t.pdo; resolution = t.resolution; x = s; y = t.y }
with_axis Y s t = record { heartbeat = t.heartbeat; pdo = t.pdo; resolution = t.resolution; x = t.x; y = s }

abbrev pub with_pdo : PdoNumber → PdoSettings → Settings → Settings
with_pdo First s t = record { heartbeat = t.heartbeat; pdo = s; resolution = t.resolution; x = t.x; y = t.y }

-- "1..240", the types that count SYNCs, and "254, 255", those that the timer drives
abbrev pub synchronous : ℕ → Bool
synchronous t = between 1 240 t

abbrev pub timed : ℕ → Bool
timed t = between 254 255 t

-- the range of a setting, with the ends that its own length sets
abbrev pub pdo_within : PdoSetting → ℕ → Bool
pdo_within On x = leb x 1
pdo_within Transmission x = synchronous x || timed x
pdo_within Timer x = leb x 65535

abbrev pub within : (s : Setting) → Held s → Bool
within Heartbeat x = eqb x 0 || between 25 65535 x
within (Pdo n p) x = pdo_within p x
within Resolution x = eqb x 1 || eqb x 10 || eqb x 100 || eqb x 1000
within (Operating a) x = leb x 3
within (Preset a) x = fits 16 x
within (Offset a) x = fits 16 x
within (Differential a) x = fits 16 x

-- all settings of a record or a block "within the object table"
abbrev pub every {ℓ} : {A : Type ℓ} → (A → Bool) → List A → Bool
every p [] = Bool.true
every p (x ∷ l) = p x && every p l

unfoldable pub in_table : Settings → Bool
in_table t = every (λ s. within s (setting s t)) settings

-- factory
abbrev pub axis_factory : AxisSettings
axis_factory = record { operating = 0; preset = pos 0; offset = pos 0; differential = pos 0 }

abbrev pub pdo_factory : PdoSettings
pdo_factory = record { on = 1; transmission = 254; timer = 100 }

abbrev pub factory : Settings
factory = record { heartbeat = 0; pdo = pdo_factory; resolution = 10; x = axis_factory; y = axis_factory }
