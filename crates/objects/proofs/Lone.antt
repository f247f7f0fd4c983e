-- The objects that are alone at their index, and what the table has there and at a server's index.
use mathlib.Core.Path.{◌≡◌, refl}
use Prim.Native.Nat.{ℕ}
use Rattle.rules.specs.declared.objects.Axis.{Axis}
use Rattle.rules.specs.declared.objects.Axis.TheVariants.{X, Y}
use Rattle.rules.specs.declared.objects.Channel.{Channel}
use Rattle.rules.specs.declared.objects.Channel.TheVariants.{One, Two}
use Rattle.rules.specs.declared.objects.Fixed.TheVariants.{DeviceType, ErrorRegister, SyncIdentifier, SaveCount, LoadCount, EmergencyIdentifier, Blocks}
use Rattle.rules.specs.declared.objects.Object.{Object}
use Rattle.rules.specs.declared.objects.Object.TheVariants.{Const, Name, Save, Load, Filled, Angle, Of}
use Rattle.rules.specs.declared.objects.Setting.TheVariants.{Heartbeat, Resolution, Operating, Preset, Offset, Differential}
use Rattle.rules.specs.Objects.{find, object_at, on_axis, on_channel}
use Rattle.objects.specs.Rows.{counted_at, only_at, server_at}

pub data Lone : ℕ → Object → Type 0 where
  device_type : Lone 0x1000 (Const DeviceType)
  error_register : Lone 0x1001 (Const ErrorRegister)
  sync_identifier : Lone 0x1005 (Const SyncIdentifier)
  name : Lone 0x1008 Name
  emergency_identifier : Lone 0x1014 (Const EmergencyIdentifier)
  heartbeat : Lone 0x1017 (Of Heartbeat)
  filled : Lone 0x2100 Filled
  blocks : Lone 0x2101 (Const Blocks)
  resolution : Lone 0x6000 (Of Resolution)
  angle : (a : Axis) → Lone (on_axis a 0x6010) (Angle a)
  operating : (a : Axis) → Lone (on_axis a 0x6011) (Of (Operating a))
  preset : (a : Axis) → Lone (on_axis a 0x6012) (Of (Preset a))
  offset : (a : Axis) → Lone (on_axis a 0x6013) (Of (Offset a))
  differential : (a : Axis) → Lone (on_axis a 0x6014) (Of (Differential a))

pub lone_at : {i : ℕ} {o : Object} → Lone i o → (s : ℕ) → only_at s o ≡ object_at i s
unfolding find
lone_at device_type s = refl
lone_at error_register s = refl
lone_at sync_identifier s = refl
lone_at name s = refl
lone_at emergency_identifier s = refl
lone_at heartbeat s = refl
lone_at filled s = refl
lone_at blocks s = refl
lone_at resolution s = refl
lone_at (angle X) s = refl
lone_at (angle Y) s = refl
lone_at (operating X) s = refl
lone_at (operating Y) s = refl
lone_at (preset X) s = refl
lone_at (preset Y) s = refl
lone_at (offset X) s = refl
lone_at (offset Y) s = refl
lone_at (differential X) s = refl
lone_at (differential Y) s = refl

pub server_at_lem : (c : Channel) (s : ℕ) → server_at c s ≡ object_at (on_channel c 0x1200) s
unfolding find
server_at_lem One s = refl
server_at_lem Two s = refl

-- 1010 and 1011, each with its count and its one command
pub saves-counted : (subindex : ℕ) → counted_at SaveCount Save subindex ≡ object_at 0x1010 subindex
unfolding find
saves-counted subindex = refl

pub loads-counted : (subindex : ℕ) → counted_at LoadCount Load subindex ≡ object_at 0x1011 subindex
unfolding find
loads-counted subindex = refl
