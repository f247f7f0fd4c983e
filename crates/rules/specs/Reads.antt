-- Service channels, reads: what each object gives.
use Rattle.std.specs.Prelude.{cond, ℕ, ◌+◌, ◌-◌, eqb, leb, ℤ, get_or, Result, Ok, Err}
use Rattle.rules.specs.declared.aborts.Abort.{Abort}
use Rattle.rules.specs.declared.aborts.Abort.TheVariants.{AxisNotGood, NoEntry}
use Rattle.rules.specs.declared.errors.ErrorList.{ErrorList}
use Rattle.rules.specs.declared.objects.Axis.{Axis}
use Rattle.rules.specs.declared.objects.Axis.TheVariants.{X, Y}
use Rattle.rules.specs.declared.objects.Fixed.{Fixed}
use Rattle.rules.specs.declared.objects.Fixed.TheVariants.{DeviceType, ErrorRegister, SyncIdentifier, SaveCount, LoadCount, EmergencyIdentifier, IdentityCount, Vendor, Product, Revision, Serial, ServerCount, RequestIdentifier, ReplyIdentifier, PdoCount, MappingCount, Mapped, Blocks}
use Rattle.rules.specs.declared.objects.Object.{Object}
use Rattle.rules.specs.declared.objects.Object.TheVariants.{Const, ErrorCount, ErrorEntry, Name, Save, Load, Filled, Angle, Of}
use Rattle.rules.specs.declared.objects.PdoNumber.{PdoNumber}
use Rattle.rules.specs.declared.objects.PdoSetting.{PdoSetting}
use Rattle.rules.specs.declared.objects.PdoSetting.TheVariants.{On, Transmission, Timer}
use Rattle.rules.specs.declared.objects.Setting.{Setting}
use Rattle.rules.specs.declared.objects.Setting.TheVariants.{Heartbeat, Pdo, Resolution, Operating, Preset, Offset, Differential}
use Rattle.rules.specs.declared.parts.Identity.{Identity}
use Rattle.rules.specs.declared.parts.Reading.{Reading}
use Rattle.rules.specs.declared.requests.Got.{Got}
use Rattle.rules.specs.declared.requests.Got.TheVariants.{Number, Text}
use Rattle.rules.specs.Angle.{angle}
use Rattle.rules.specs.Frames.{requests_at, replies_at}
use Rattle.rules.specs.Numbers.{unsigned}
use Rattle.rules.specs.Objects.{fixed_row, setting_row}
use Rattle.rules.specs.Readings.{register_of}
use Rattle.rules.specs.Settings.{Held, setting, axis_settings}
use Rattle.rules.specs.State.{State, good, reading}
use Rattle.rules.specs.Writes.{on_value, off_value}

-- 1A00:1 and :2: 6010 and 6020, 16 bits
abbrev pub mapping : Axis → ℕ
mapping X = 0x60100010
mapping Y = 0x60200010

-- the objects that no request changes, by error register, node, identity and number of blocks
unfoldable pub fixed_value : Fixed → ℕ → ℕ → Identity → ℕ → ℕ
fixed_value DeviceType register node identity blocks = 0x0002019A
fixed_value ErrorRegister register node identity blocks = register
fixed_value SyncIdentifier register node identity blocks = 0x80
fixed_value SaveCount register node identity blocks = 1
fixed_value LoadCount register node identity blocks = 1
fixed_value EmergencyIdentifier register node identity blocks = 0x80 + node
fixed_value IdentityCount register node identity blocks = 4
fixed_value Vendor register node identity blocks = identity.vendor
fixed_value Product register node identity blocks = identity.product
fixed_value Revision register node identity blocks = identity.revision
fixed_value Serial register node identity blocks = identity.serial
fixed_value (ServerCount c) register node identity blocks = 2
fixed_value (RequestIdentifier c) register node identity blocks = requests_at c + node
fixed_value (ReplyIdentifier c) register node identity blocks = replies_at c + node
fixed_value (PdoCount n) register node identity blocks = 5
fixed_value MappingCount register node identity blocks = 2
fixed_value (Mapped a) register node identity blocks = mapping a
fixed_value Blocks register node identity blocks = blocks

-- a setting as the number that is read
abbrev pub pdo_value : PdoNumber → PdoSetting → ℕ → ℕ → ℕ
pdo_value n On node x = cond (eqb x 0) (off_value n node) (on_value n node)
pdo_value n Transmission node x = x
pdo_value n Timer node x = x

unfoldable pub setting_value : (s : Setting) → ℕ → Held s → ℕ
setting_value Heartbeat node x = x
setting_value (Pdo n p) node x = pdo_value n p node x
setting_value Resolution node x = x
setting_value (Operating a) node x = x
setting_value (Preset a) node x = unsigned 16 x
setting_value (Offset a) node x = unsigned 16 x
setting_value (Differential a) node x = unsigned 16 x

-- "Reading 6010 or 6020 of an axis not good: 08000022h"
unfoldable pub angle_read : Reading → ℕ → ℕ → ℤ → ℤ → Result Got Abort
angle_read x r operating offset differential =
    cond (eqb x.state good) (Ok (Number 2 (unsigned 16 (angle x.m r operating offset differential)))) (Err AxisNotGood)

-- "1003:n above the length: 08000024h"; "newest first", "the upper half of an entry is 0"
unfoldable pub entry_read : ℕ → ErrorList → Result Got Abort
entry_read n l = cond (leb n l.length) (Ok (Number 4 (get_or l.codes (n - 1) 0))) (Err NoEntry)

abbrev pub read_of : Object → State → Result Got Abort
read_of (Const f) u = Ok (Number (fixed_row f).size (fixed_value f (register_of u) u.node u.identity u.saves.blocks))
read_of ErrorCount u = Ok (Number 1 u.errors.length)
read_of (ErrorEntry n) u = entry_read n u.errors
read_of Name u = Ok Text
read_of Save u = Ok (Number 4 1)
read_of Load u = Ok (Number 4 1)
read_of Filled u = Ok (Number 2 u.saves.filled)
read_of (Angle a) u =
    let s = axis_settings a u.running in
    angle_read (reading a u) u.running.resolution s.operating s.offset s.differential
read_of (Of s) u = Ok (Number (setting_row s).size (setting_value s u.node (setting s u.running)))
