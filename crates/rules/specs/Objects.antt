-- Objects: the table, by index and subindex.
use Rattle.std.specs.Prelude.{Bool, true, false, cond, ◌&&◌, List, [], ◌∷◌, ◌++◌, map, ℕ, ◌+◌, eqb, Result, Ok, Err}
use Rattle.rules.specs.declared.aborts.Abort.{Abort}
use Rattle.rules.specs.declared.aborts.Abort.TheVariants.{NoObject, NoSubindex}
use Rattle.rules.specs.declared.objects.Axis.{Axis}
use Rattle.rules.specs.declared.objects.Axis.TheVariants.{X, Y}
use Rattle.rules.specs.declared.objects.Channel.{Channel}
use Rattle.rules.specs.declared.objects.Channel.TheVariants.{One, Two}
use Rattle.rules.specs.declared.objects.Fixed.{Fixed}
use Rattle.rules.specs.declared.objects.Fixed.TheVariants.{DeviceType, ErrorRegister, SyncIdentifier, SaveCount, LoadCount, EmergencyIdentifier, IdentityCount, Vendor, Product, Revision, Serial, ServerCount, RequestIdentifier, ReplyIdentifier, PdoCount, MappingCount, Mapped, Blocks}
use Rattle.rules.specs.declared.objects.Object.{Object}
use Rattle.rules.specs.declared.objects.Object.TheVariants.{Const, ErrorCount, ErrorEntry, Name, Save, Load, Filled, Angle, Of}
use Rattle.rules.specs.declared.objects.PdoNumber.{PdoNumber}
use Rattle.rules.specs.declared.objects.PdoNumber.TheVariants.{First}
use Rattle.rules.specs.declared.objects.PdoSetting.{PdoSetting}
use Rattle.rules.specs.declared.objects.PdoSetting.TheVariants.{On, Transmission, Timer}
use Rattle.rules.specs.declared.objects.Setting.{Setting}
use Rattle.rules.specs.declared.objects.Setting.TheVariants.{Heartbeat, Pdo, Resolution, Operating, Preset, Offset, Differential}
use Rattle.rules.specs.Settings.{settings}

-- a row of the table: index, subindex, length in bytes, whether it is written
pub record Row : Type 0 where
  pub index : ℕ
  pub subindex : ℕ
  pub size : ℕ
  pub writable : Bool

abbrev pub row : ℕ → ℕ → ℕ → Bool → Row
row index subindex size writable = record { index = index; subindex = subindex; size = size; writable = writable }

-- types, by their length
abbrev pub u8 : ℕ
u8 = 1

abbrev pub u16 : ℕ
u16 = 2

abbrev pub i16 : ℕ
i16 = 2

abbrev pub u32 : ℕ
u32 = 4

-- access
abbrev pub read_only : Bool
read_only = false

abbrev pub read_write : Bool
read_write = true

-- where a PDO's settings stand
abbrev pub on_pdo : PdoNumber → ℕ
on_pdo First = 0x1800

abbrev pub pdo_subindex : PdoSetting → ℕ
pdo_subindex On = 1
pdo_subindex Transmission = 2
pdo_subindex Timer = 5

abbrev pub pdo_size : PdoSetting → ℕ
pdo_size On = u32
pdo_size Transmission = u8
pdo_size Timer = u16

-- Y's objects stand 10h behind X's, and 1201 behind 1200
abbrev pub on_axis : Axis → ℕ → ℕ
on_axis X index = index
on_axis Y index = index + 0x10

abbrev pub on_channel : Channel → ℕ → ℕ
on_channel One index = index
on_channel Two index = index + 1

abbrev pub mapped_at : Axis → ℕ
mapped_at X = 1
mapped_at Y = 2

abbrev pub fixed_row : Fixed → Row
fixed_row DeviceType = row 0x1000 0 u32 read_only
fixed_row ErrorRegister = row 0x1001 0 u8 read_only
fixed_row SyncIdentifier = row 0x1005 0 u32 read_only
fixed_row SaveCount = row 0x1010 0 u8 read_only
fixed_row LoadCount = row 0x1011 0 u8 read_only
fixed_row EmergencyIdentifier = row 0x1014 0 u32 read_only
fixed_row IdentityCount = row 0x1018 0 u8 read_only
fixed_row Vendor = row 0x1018 1 u32 read_only
fixed_row Product = row 0x1018 2 u32 read_only
fixed_row Revision = row 0x1018 3 u32 read_only
fixed_row Serial = row 0x1018 4 u32 read_only
fixed_row (ServerCount c) = row (on_channel c 0x1200) 0 u8 read_only
fixed_row (RequestIdentifier c) = row (on_channel c 0x1200) 1 u32 read_only
fixed_row (ReplyIdentifier c) = row (on_channel c 0x1200) 2 u32 read_only
fixed_row (PdoCount n) = row (on_pdo n) 0 u8 read_only
fixed_row MappingCount = row 0x1A00 0 u8 read_only
fixed_row (Mapped a) = row 0x1A00 (mapped_at a) u32 read_only
fixed_row Blocks = row 0x2101 0 u16 read_only

abbrev pub setting_row : Setting → Row
setting_row Heartbeat = row 0x1017 0 u16 read_write
setting_row (Pdo n p) = row (on_pdo n) (pdo_subindex p) (pdo_size p) read_write
setting_row Resolution = row 0x6000 0 u16 read_write
setting_row (Operating a) = row (on_axis a 0x6011) 0 u8 read_write
setting_row (Preset a) = row (on_axis a 0x6012) 0 i16 read_write
setting_row (Offset a) = row (on_axis a 0x6013) 0 i16 read_only
setting_row (Differential a) = row (on_axis a 0x6014) 0 i16 read_write

-- a setting is told by its object, "one index with one subindex", and a PDO's settings by their index
abbrev pub same_setting : Setting → Setting → Bool
same_setting s t = eqb (setting_row s).index (setting_row t).index && eqb (setting_row s).subindex (setting_row t).subindex

abbrev pub of_pdo : PdoNumber → Setting → Bool
of_pdo n s = eqb (setting_row s).index (on_pdo n)

-- the string `BASINTILT2` has ten bytes
abbrev pub row_of : Object → Row
row_of (Const f) = fixed_row f
row_of ErrorCount = row 0x1003 0 u8 read_write
row_of (ErrorEntry n) = row 0x1003 n u32 read_only
row_of Name = row 0x1008 0 10 read_only
row_of Save = row 0x1010 1 u32 read_write
row_of Load = row 0x1011 1 u32 read_write
row_of Filled = row 0x2100 0 u16 read_only
row_of (Angle a) = row (on_axis a 0x6010) 0 i16 read_only
row_of (Of s) = setting_row s

-- all objects
abbrev pub fixed : List Fixed
fixed =
    DeviceType ∷ ErrorRegister ∷ SyncIdentifier ∷ SaveCount ∷ LoadCount ∷ EmergencyIdentifier ∷
    IdentityCount ∷ Vendor ∷ Product ∷ Revision ∷ Serial ∷
    ServerCount One ∷ RequestIdentifier One ∷ ReplyIdentifier One ∷
    ServerCount Two ∷ RequestIdentifier Two ∷ ReplyIdentifier Two ∷
    PdoCount First ∷ MappingCount ∷ Mapped X ∷ Mapped Y ∷ Blocks ∷ []

abbrev pub objects : List Object
objects =
    ErrorCount ∷ ErrorEntry 1 ∷ ErrorEntry 2 ∷ ErrorEntry 3 ∷ ErrorEntry 4 ∷ ErrorEntry 5 ∷
    Name ∷ Save ∷ Load ∷ Filled ∷ Angle X ∷ Angle Y ∷ map Of settings ++ map Const fixed

-- the object at an index and a subindex; where none is, whether one has the index
unfoldable pub find : ℕ → ℕ → Abort → List Object → Result Object Abort
find index subindex missing [] = Err missing
find index subindex missing (o ∷ os) =
    let here = eqb index (row_of o).index in
    cond (here && eqb subindex (row_of o).subindex) (Ok o) (find index subindex (cond here NoSubindex missing) os)

abbrev pub object_at : ℕ → ℕ → Result Object Abort
object_at index subindex = find index subindex NoObject objects
