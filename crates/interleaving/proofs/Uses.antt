-- The cells that a request's reads and writes name.
use mathlib.Core.Bool.{Bool, true, false, ◌&&◌, ◌||◌}
use mathlib.Core.List.{List}
use Prim.Native.Nat.{ℕ}
use lib.Dec.{eqb}
use Rattle.rules.specs.declared.objects.Channel.{Channel}
use Rattle.rules.specs.declared.objects.Channel.TheVariants.{One, Two}
use Rattle.rules.specs.declared.objects.Setting.{Setting}
use Rattle.rules.specs.declared.requests.Command.{Command}
use Rattle.rules.specs.declared.requests.Command.TheVariants.{Write, Read, Segment, End, Unknown}
use Rattle.rules.specs.Objects.{setting_row}
use Rattle.rules.specs.Requests.{command, index_of, subindex_of}
use Rattle.interleaving.proofs.Cells.{Cell, running, errors, kept, heartbeat, pdo, transfer, axis, lss, rest}
use Rattle.interleaving.proofs.Members.{reads_by, writes_by}
use Rattle.interleaving.specs.ReadsWrites.{Value, object, journal, is}

abbrev pub same_channel : Channel → Channel → Bool
same_channel One One = true
same_channel One Two = false
same_channel Two One = false
same_channel Two Two = true

-- a setting's object
abbrev pub object_of : Setting → Value
object_of s = object (setting_row s).index (setting_row s).subindex

-- a command that names an object, and one that writes it
abbrev pub names : Command → Bool
names (Write given) = true
names Read = true
names (Segment toggle) = false
names End = false
names Unknown = false

abbrev pub is_write : Command → Bool
is_write (Write given) = true
is_write Read = false
is_write (Segment toggle) = false
is_write End = false
is_write Unknown = false

-- a request's outcome may depend on these cells, its channel's transfer among them
abbrev pub uses : Channel → Command → ℕ → ℕ → Cell → Bool
uses c k i s (running t) = reads_by k i s (object_of t) || writes_by k i s (object_of t)
uses c k i s errors = names k && eqb i 0x1003
uses c k i s kept = reads_by k i s journal || writes_by k i s journal
uses c k i s heartbeat = false
uses c k i s (pdo n) = false
uses c k i s (transfer b) = same_channel c b
uses c k i s (axis a) = true
uses c k i s lss = false
uses c k i s rest = true

-- and may change these; the counts too, which are only ever zeroed
abbrev pub alters : Channel → Command → ℕ → ℕ → Cell → Bool
alters c k i s (running t) = writes_by k i s (object_of t)
alters c k i s errors = is_write k && is i s 0x1003 0
alters c k i s kept = writes_by k i s journal
alters c k i s heartbeat = true
alters c k i s (pdo n) = true
alters c k i s (transfer b) = same_channel c b
alters c k i s (axis a) = false
alters c k i s lss = false
alters c k i s rest = false

-- the cells of a request by its bytes
abbrev pub uses_of : Channel → List ℕ → Cell → Bool
uses_of c request x = uses c (command request) (index_of request) (subindex_of request) x

abbrev pub alters_of : Channel → List ℕ → Cell → Bool
alters_of c request x = alters c (command request) (index_of request) (subindex_of request) x
