-- The device and what moves it: the device record and the journal it is lent.
use Rattle.std.specs.Prelude.{Bool, cond, List, [], ◌∷◌, ℕ, eqb, leb, get_or}
use Rattle.rules.specs.declared.errors.ErrorList.{ErrorList}
use Rattle.rules.specs.declared.objects.Axis.{Axis}
use Rattle.rules.specs.declared.objects.Axis.TheVariants.{X, Y}
use Rattle.rules.specs.declared.objects.Channel.{Channel}
use Rattle.rules.specs.declared.objects.Channel.TheVariants.{One, Two}
use Rattle.rules.specs.declared.objects.PdoNumber.{PdoNumber}
use Rattle.rules.specs.declared.objects.PdoNumber.TheVariants.{First}
use Rattle.rules.specs.declared.parts.Identity.{Identity}
use Rattle.rules.specs.declared.parts.Lss.{Lss}
use Rattle.rules.specs.declared.parts.PdoCounts.{PdoCounts}
use Rattle.rules.specs.declared.parts.Reading.{Reading}
use Rattle.rules.specs.declared.parts.Saves.{Saves}
use Rattle.rules.specs.declared.parts.Transfer.{Transfer}
use Rattle.rules.specs.declared.settings.Settings.{Settings}

-- the device record, field by field, and the journal's bytes
pub record State : Type 0 where
  pub node : ℕ
  pub identity : Identity
  pub network : ℕ
  pub lss : Lss
  pub saves : Saves
  pub running : Settings
  pub errors : ErrorList
  pub heartbeat : ℕ
  pub pdo : PdoCounts
  pub transfers : List Transfer
  pub x : Reading
  pub y : Reading
  pub journal : List ℕ

-- "node 1 to 47"; a number that is stored or set is one of these, or 0 for none
abbrev pub most_node : ℕ
most_node = 47

abbrev pub node_or_none : ℕ → Bool
node_or_none n = leb n most_node

abbrev pub node_else : ℕ → ℕ → ℕ
node_else n other = cond (eqb n 0) other n

-- "the number last set, else the running one"
abbrev pub last_set : State → ℕ
last_set u = node_else u.lss.node u.node

-- LSS waits, or is in configuration; power-on and resets end configuration and matches, and keep the number set
abbrev pub waiting : ℕ
waiting = 0

abbrev pub configuration : ℕ
configuration = 1

abbrev pub unselected : ℕ → Lss
unselected node = record { mode = waiting; matches = 0; node = node }

-- "NMT state 4, 5 or 127"
abbrev pub stopped : ℕ
stopped = 4

abbrev pub operational : ℕ
operational = 5

abbrev pub pre_operational : ℕ
pre_operational = 127

-- "a segmented transfer on each channel, absent or at the start or after 7 bytes"
abbrev pub absent : ℕ
absent = 0

abbrev pub at_start : ℕ
at_start = 1

abbrev pub after_seven : ℕ
after_seven = 2

-- each channel has its own, channel 1 the first
abbrev pub transferring : ℕ → Transfer
transferring stage = record { stage = stage }

abbrev pub no_transfers : List Transfer
no_transfers = transferring absent ∷ transferring absent ∷ []

abbrev pub place : Channel → ℕ
place One = 0
place Two = 1

abbrev pub transfer_of : Channel → State → Transfer
transfer_of c u = get_or u.transfers (place c) (transferring absent)

-- "axis none, good or faulty"
abbrev pub none : ℕ
none = 0

abbrev pub good : ℕ
good = 1

abbrev pub faulty : ℕ
faulty = 2

-- the PDO's counts zeroed
abbrev pub no_counts : PdoCounts
no_counts = record { elapsed = 0; syncs = 0 }

-- a PDO's counts, by its number
abbrev pub pdo_counts : PdoNumber → State → PdoCounts
pdo_counts First u = u.pdo

abbrev pub reading : Axis → State → Reading
reading X u = u.x
reading Y u = u.y

-- the state with what the network, time and readings move: NMT state, running settings, error list, counts, transfers, axes
abbrev pub moved : ℕ → Settings → ErrorList → ℕ → PdoCounts → List Transfer → Reading → Reading → State → State
moved network running errors heartbeat pdo transfers x y u = record {
  node = u.node;
  identity = u.identity;
  network = network;
  lss = u.lss;
  saves = u.saves;
  running = running;
  errors = errors;
  heartbeat = heartbeat;
  pdo = pdo;
  transfers = transfers;
  x = x;
  y = y;
  journal = u.journal;
}

abbrev pub with_counts : ℕ → PdoCounts → State → State
with_counts heartbeat pdo u = moved u.network u.running u.errors heartbeat pdo u.transfers u.x u.y u

abbrev pub with_network : ℕ → PdoCounts → State → State
with_network network pdo u = moved network u.running u.errors u.heartbeat pdo u.transfers u.x u.y u

abbrev pub with_reading : Axis → Reading → ErrorList → State → State
with_reading X r errors u = moved u.network u.running errors u.heartbeat u.pdo u.transfers r u.y u
with_reading Y r errors u = moved u.network u.running errors u.heartbeat u.pdo u.transfers u.x r u
