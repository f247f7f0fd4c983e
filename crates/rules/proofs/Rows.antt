-- Laws of the object table: its rows.
use mathlib.Core.Path.{◌≡◌, refl}
use mathlib.Core.Bool.{true}
use lib.Dec.{eqb}
use Rattle.std.specs.Prelude.{Ok}
use borrow.Author.Tests.{eqb-true}
use Rattle.laws.proofs.Bools.{left, right}
use Rattle.rules.specs.declared.objects.Axis.TheVariants.{X, Y}
use Rattle.rules.specs.declared.objects.Fixed.{Fixed}
use Rattle.rules.specs.declared.objects.Fixed.TheVariants.{DeviceType, ErrorRegister, SyncIdentifier, SaveCount, LoadCount, EmergencyIdentifier, IdentityCount, Vendor, Product, Revision, Serial, ServerCount, RequestIdentifier, ReplyIdentifier, PdoCount, MappingCount, Mapped, Blocks}
use Rattle.rules.specs.declared.objects.Object.TheVariants.{Of}
use Rattle.rules.specs.declared.objects.PdoNumber.TheVariants.{First}
use Rattle.rules.specs.declared.objects.PdoSetting.TheVariants.{On, Transmission, Timer}
use Rattle.rules.specs.declared.objects.Setting.{Setting}
use Rattle.rules.specs.declared.objects.Setting.TheVariants.{Heartbeat, Pdo, Resolution, Operating, Preset, Offset, Differential}
use Rattle.rules.specs.Objects.{fixed_row, setting_row, same_setting, read_only, find, object_at}

-- no request changes these
pub fixed-read-only : (f : Fixed) → (fixed_row f).writable ≡ read_only
fixed-read-only DeviceType = refl
fixed-read-only ErrorRegister = refl
fixed-read-only SyncIdentifier = refl
fixed-read-only SaveCount = refl
fixed-read-only LoadCount = refl
fixed-read-only EmergencyIdentifier = refl
fixed-read-only IdentityCount = refl
fixed-read-only Vendor = refl
fixed-read-only Product = refl
fixed-read-only Revision = refl
fixed-read-only Serial = refl
fixed-read-only (ServerCount c) = refl
fixed-read-only (RequestIdentifier c) = refl
fixed-read-only (ReplyIdentifier c) = refl
fixed-read-only (PdoCount n) = refl
fixed-read-only MappingCount = refl
fixed-read-only (Mapped a) = refl
fixed-read-only Blocks = refl

-- a setting stands at its numbers, so settings with the same numbers are one
pub setting-at : (s : Setting) → object_at (setting_row s).index (setting_row s).subindex ≡ Ok (Of s)
unfolding find
setting-at Heartbeat = refl
setting-at (Pdo First On) = refl
setting-at (Pdo First Transmission) = refl
setting-at (Pdo First Timer) = refl
setting-at Resolution = refl
setting-at (Operating X) = refl
setting-at (Operating Y) = refl
setting-at (Preset X) = refl
setting-at (Preset Y) = refl
setting-at (Offset X) = refl
setting-at (Offset Y) = refl
setting-at (Differential X) = refl
setting-at (Differential Y) = refl

pub one-setting : (s t : Setting) → same_setting s t ≡ true → s ≡ t
one-setting s t e =
    let index = eqb (setting_row s).index (setting_row t).index in
    let subindex = eqb (setting_row s).subindex (setting_row t).subindex in
    let i = eqb-true (setting_row s).index (setting_row t).index (left index subindex e) in
    let j = eqb-true (setting_row s).subindex (setting_row t).subindex (right index subindex e) in
    let p = setting-at s in
    let q = setting-at t in
    cc
