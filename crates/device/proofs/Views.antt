-- A request sees of the record all that its outcome depends on.
use Rattle.std.specs.Prelude.{Result, Ok, Err}
use mathlib.Core.Path.{◌≡◌, refl, ap}
use mathlib.Core.List.{List}
use Prim.Native.Nat.{ℕ}
use lib.ListN.{get_or}
use Rattle.rules.specs.declared.objects.Axis.TheVariants.{X, Y}
use Rattle.rules.specs.declared.objects.Channel.{Channel}
use Rattle.rules.specs.declared.objects.Channel.TheVariants.{One, Two}
use Rattle.rules.specs.declared.aborts.Abort.{Abort}
use Rattle.rules.specs.declared.aborts.Abort.TheVariants.{ReadOnly}
use Rattle.rules.specs.declared.objects.Object.{Object}
use Rattle.rules.specs.declared.objects.Object.TheVariants.{Const, ErrorCount, ErrorEntry, Name, Save, Load, Filled, Angle, Of}
use Rattle.rules.specs.declared.objects.Setting.{Setting}
use Rattle.rules.specs.declared.objects.Setting.TheVariants.{Heartbeat, Pdo, Resolution, Operating, Preset, Offset, Differential}
use Rattle.rules.specs.declared.requests.Command.{Command}
use Rattle.rules.specs.declared.requests.Command.TheVariants.{Write, Read, Segment, End, Unknown}
use Rattle.lss.specs.Sighted.{sighted}
use Rattle.rules.specs.Lss.{lss_command_of, on_lss_command, lss_outcome}
use Rattle.rules.specs.Objects.{row_of, object_at}
use Rattle.rules.specs.Reads.{read_of}
use Rattle.rules.specs.Requests.{command, index_of, subindex_of, value_for}
use Rattle.rules.specs.Service.{on_write, on_command, outcome}
use Rattle.rules.specs.State.{State, transfer_of}
use Rattle.rules.specs.Writes.{WriteRow, ◌then◌, unless, length_check, setting_write, write_of}
use Rattle.device.specs.declared.Device.{Device}
use Rattle.rules.specs.declared.requests.LssCommand.{LssCommand}
use Rattle.rules.specs.declared.requests.LssCommand.TheVariants.{Switch, Select, SetNode, StoreNode, TellIdentity, TellNode, Unheard}
use Rattle.device.specs.Seen.{seen}
use Rattle.device.specs.Views.{view_of, sight_of}

module _ (c : Channel) (d : Device) (j : List ℕ) where
  -- the view's state, and the record's beside the journal
  abbrev looked : State
  looked = view_of c d

  abbrev whole : State
  whole = seen d j

  read_alike : (o : Object) → read_of o looked ≡ read_of o whole
  read_alike (Const f) = refl
  read_alike ErrorCount = refl
  read_alike (ErrorEntry n) = refl
  read_alike Name = refl
  read_alike Save = refl
  read_alike Load = refl
  read_alike Filled = refl
  read_alike (Angle X) = refl
  read_alike (Angle Y) = refl
  read_alike (Of s) = refl

  setting-alike : (s : Setting) (v : ℕ) → setting_write s v looked ≡ setting_write s v whole
  setting-alike Heartbeat v = refl
  setting-alike (Pdo n p) v = refl
  setting-alike Resolution v = refl
  setting-alike (Operating a) v = refl
  setting-alike (Preset X) v = refl
  setting-alike (Preset Y) v = refl
  setting-alike (Offset a) v = refl
  setting-alike (Differential a) v = refl

  write_alike : (o : Object) (v : ℕ) → write_of o v looked ≡ write_of o v whole
  write_alike (Const f) v = refl
  write_alike ErrorCount v = refl
  write_alike (ErrorEntry n) v = refl
  write_alike Name v = refl
  write_alike Save v = refl
  write_alike Load v = refl
  write_alike Filled v = refl
  write_alike (Angle a) v = refl
  write_alike (Of s) v = setting-alike s v

transfer-alike : (c : Channel) (d : Device) (j : List ℕ) → transfer_of c (view_of c d) ≡ transfer_of c (seen d j)
transfer-alike One d j = refl
transfer-alike Two d j = refl

module _ (c : Channel) (request : List ℕ) (d : Device) (j : List ℕ) where
  command-alike : (k : Command) (f : Result Object Abort) → on_command c request k f (view_of c d) ≡ on_command c request k f (seen d j)
  command-alike (Write given) (Ok o) =
      ap (λ (w : WriteRow). on_write request (unless (row_of o).writable ReadOnly then length_check given (row_of o).size then w.value then w.state) (w.change c))
      (write_alike c d j o (value_for o request))
  command-alike (Write given) (Err why) = refl
  command-alike Read (Ok o) = rw (read_alike c d j o)
  command-alike Read (Err why) = refl
  command-alike (Segment toggle) f = rw (transfer-alike c d j)
  command-alike End f = refl
  command-alike Unknown f = refl

  pub outcome-alike : outcome c request (view_of c d) ≡ outcome c request (seen d j)
  outcome-alike = rw (command-alike (command request) (object_at (index_of request) (subindex_of request)), transfer-alike c d j)

-- and so does LSS
module _ (request : List ℕ) (d : Device) (j : List ℕ) where
  lss-command-alike : (k : LssCommand) → on_lss_command k request (sighted (sight_of d)) ≡ on_lss_command k request (seen d j)
  lss-command-alike Switch = refl
  lss-command-alike (Select p) = refl
  lss-command-alike SetNode = refl
  lss-command-alike StoreNode = refl
  lss-command-alike (TellIdentity p) = refl
  lss-command-alike TellNode = refl
  lss-command-alike Unheard = refl

  pub lss-alike : lss_outcome request (sighted (sight_of d)) ≡ lss_outcome request (seen d j)
  lss-alike = rw (lss-command-alike (lss_command_of (get_or request 0 0)))
