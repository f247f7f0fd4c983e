-- The device record and a lent journal as the rules' state, and back.
use Rattle.std.specs.Prelude.{◌≡◌, true, List, [], ℕ, ◌*◌}
use Rattle.rules.specs.Ranges.{in_range}
use Rattle.rules.specs.State.{State}
use Rattle.device.specs.declared.Device.{Device}

abbrev pub seen : Device → List ℕ → State
seen d j = record {
  node = d.node;
  identity = d.identity;
  network = d.network;
  lss = d.lss;
  saves = d.saves;
  running = d.running;
  errors = d.errors;
  heartbeat = d.heartbeat;
  pdo = d.pdo;
  transfers = d.transfers;
  x = d.x;
  y = d.y;
  journal = j;
}

abbrev pub held : State → Device
held u = record {
  identity = u.identity;
  x = u.x;
  y = u.y;
  heartbeat = u.heartbeat;
  pdo = u.pdo;
  saves = u.saves;
  running = u.running;
  errors = u.errors;
  lss = u.lss;
  node = u.node;
  network = u.network;
  transfers = u.transfers;
}

-- what most events do has nothing to do with the journal: they are said of the record beside no journal
abbrev pub alone : Device → State
alone d = seen d []

abbrev pub Ranged : Device → Type 0
Ranged d = in_range (alone d) ≡ true

-- a record that is not refused beside a journal of a length
abbrev pub Fit : Device → ℕ → Type 0
Fit d size = Ranged d × (size ≡ 512 * d.saves.blocks)
