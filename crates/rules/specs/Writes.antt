-- Service channels, writes: the checks in their order, and what an accepted write changes.
use Rattle.std.specs.Prelude.{Bool, true, false, not, ◌||◌, ℕ, ◌+◌, eqb, ltb, ℤ, Result, Ok, Err, ⊤, Option, Some, None}
use Rattle.rules.specs.declared.aborts.Abort.{Abort}
use Rattle.rules.specs.declared.aborts.Abort.TheVariants.{JournalFull, ReadOnly, JournalSpoiled, TooLong, TooShort, WrongValue, WrongSignature}
use Rattle.rules.specs.declared.journal.Origin.{Origin}
use Rattle.rules.specs.declared.journal.Origin.TheVariants.{Saved, Loaded}
use Rattle.rules.specs.declared.objects.Axis.{Axis}
use Rattle.rules.specs.declared.objects.Channel.{Channel}
use Rattle.rules.specs.declared.objects.Object.{Object}
use Rattle.rules.specs.declared.objects.Object.TheVariants.{Const, ErrorCount, ErrorEntry, Name, Save, Load, Filled, Angle, Of}
use Rattle.rules.specs.declared.objects.PdoNumber.{PdoNumber}
use Rattle.rules.specs.declared.objects.PdoSetting.{PdoSetting}
use Rattle.rules.specs.declared.objects.PdoSetting.TheVariants.{On, Transmission, Timer}
use Rattle.rules.specs.declared.objects.Setting.{Setting}
use Rattle.rules.specs.declared.objects.Setting.TheVariants.{Heartbeat, Pdo, Resolution, Operating, Preset, Offset, Differential}
use Rattle.rules.specs.declared.requests.Change.{Change}
use Rattle.rules.specs.declared.requests.Change.TheVariants.{Keep, Put, Zero, Empty, Fill}
use Rattle.rules.specs.Angle.{zeroed}
use Rattle.rules.specs.Frames.{pdo_at}
use Rattle.rules.specs.Numbers.{signed}
use Rattle.rules.specs.Objects.{row_of}
use Rattle.rules.specs.Settings.{within, pdo_within, axis_settings}
use Rattle.rules.specs.State.{State, reading}

-- a check: passed, or why it refuses
abbrev pub Check : Type 0
Check = Result ⊤ Abort

-- one check after the other: the first that refuses gives its abort
abbrev pub ◌then◌ : Check → Check → Check
(Ok passed) then v = v
(Err why) then v = Err why

infixr 20 ◌then◌
abbrev pub unless : Bool → Abort → Check
unless true why = Ok tt
unless false why = Err why

-- "length, too long 06070012h, too short 06070013h"; none is the object's own
unfoldable pub length_check : Option ℕ → ℕ → Check
length_check None own = Ok tt
length_check (Some given) own = unless (not (ltb own given)) TooLong then unless (not (ltb given own)) TooShort

-- "40000180h+node, or C0000180h+node (off)"
abbrev pub on_value : PdoNumber → ℕ → ℕ
on_value n node = 0x40000000 + pdo_at n + node

abbrev pub off_value : PdoNumber → ℕ → ℕ
off_value n node = 0xC0000000 + pdo_at n + node

abbrev pub pdo_accepts : ℕ → PdoNumber → PdoSetting → ℕ → Bool
pdo_accepts node n On v = eqb v (on_value n node) || eqb v (off_value n node)
pdo_accepts node n Transmission v = pdo_within Transmission v
pdo_accepts node n Timer v = pdo_within Timer v

-- what a write comes to: the check of its value, the check of the device state, and what it changes, by its channel, where both pass
pub record WriteRow : Type 0 where
  pub value : Check
  pub state : Check
  pub change : Channel → Change

-- what is read-only is refused before
abbrev pub read_only_write : WriteRow
read_only_write = record { value = Ok tt; state = Ok tt; change = λ c. Keep }

-- "value 06090030h"
abbrev pub value_write : Bool → Change → WriteRow
value_write accepted e = record { value = unless accepted WrongValue; state = Ok tt; change = λ c. e }

-- "Spoiled: 06060000h; else full: 05040005h"
unfoldable pub room_check : ℕ → ℕ → ℕ → Check
room_check spoiled filled blocks = unless (eqb spoiled 0) JournalSpoiled then unless (ltb filled blocks) JournalFull

-- "wrong signature: 08000020h"; a save or a load fills the next block
abbrev pub fill_write : Bool → (Channel → Origin) → State → WriteRow
fill_write signature from u = record {
  value = unless signature WrongSignature;
  state = room_check u.saves.spoiled u.saves.filled u.saves.blocks;
  change = λ c. Fill (from c);
}

-- what a preset makes of its axis, by "6000, 6011, 6014" and the axis
abbrev pub zeroed_by : Axis → ℕ → State → Result ℤ Abort
zeroed_by a v u =
    let s = axis_settings a u.running in
    zeroed (reading a u) u.running.resolution s.operating s.differential (signed 16 v)

-- refused by the rule, or "An accepted write of 6012 stores the preset, and offset = …"
abbrev pub zero_check : Result ℤ Abort → Check
zero_check (Ok offset) = Ok tt
zero_check (Err why) = Err why

abbrev pub zero_change : Axis → ℕ → Result ℤ Abort → Change
zero_change a v (Ok offset) = Zero a (signed 16 v) offset
zero_change a v (Err why) = Keep

abbrev pub preset_write : Axis → ℕ → Result ℤ Abort → WriteRow
preset_write a v z = record { value = Ok tt; state = zero_check z; change = λ c. zero_change a v z }

-- the accepted values of a setting; every i16 is one
abbrev pub setting_write : Setting → ℕ → State → WriteRow
setting_write Heartbeat v u = value_write (within Heartbeat v) (Put Heartbeat v)
setting_write (Pdo n p) v u = value_write (pdo_accepts u.node n p v) (Put (Pdo n p) v)
setting_write Resolution v u = value_write (within Resolution v) (Put Resolution v)
setting_write (Operating a) v u = value_write (within (Operating a) v) (Put (Operating a) v)
setting_write (Preset a) v u = preset_write a v (zeroed_by a v u)
setting_write (Offset a) v u = read_only_write
setting_write (Differential a) v u = value_write true (Put (Differential a) v)

-- 1003:0 "write 0 only; empties the list"; 1010:1 "save", 1011:1 "load"
abbrev pub write_of : Object → ℕ → State → WriteRow
write_of (Const f) v u = read_only_write
write_of ErrorCount v u = value_write (eqb v 0) Empty
write_of (ErrorEntry n) v u = read_only_write
write_of Name v u = read_only_write
write_of Save v u = fill_write (eqb v 0x65766173) Saved u
write_of Load v u = fill_write (eqb v 0x64616F6C) Loaded u
write_of Filled v u = read_only_write
write_of (Angle a) v u = read_only_write
write_of (Of s) v u = setting_write s v u

-- "access, writing read-only (06010002h); length …; value …; device state"
abbrev pub write_check : Option ℕ → Object → ℕ → State → Check
write_check given o v u =
    unless (row_of o).writable ReadOnly then length_check given (row_of o).size then (write_of o v u).value then (write_of o v u).state

abbrev pub change : Channel → Object → ℕ → State → Change
change c o v u = (write_of o v u).change c
