-- What an LSS request looks at as a state: what it leaves out is empty.
use Rattle.std.specs.Prelude.{[]}
use Rattle.rules.specs.Errors.{no_errors}
use Rattle.rules.specs.Network.{no_reading}
use Rattle.rules.specs.Settings.{factory}
use Rattle.rules.specs.State.{State, no_transfers, no_counts}
use Rattle.lss.specs.declared.Sight.{Sight}

abbrev pub sighted : Sight → State
sighted v = record {
  node = v.node;
  identity = v.identity;
  network = v.network;
  lss = v.lss;
  saves = record { blocks = v.blocks; filled = v.filled; spoiled = v.spoiled; node = 0; stored = factory };
  running = factory;
  errors = no_errors;
  heartbeat = 0;
  pdo = no_counts;
  transfers = no_transfers;
  x = no_reading;
  y = no_reading;
  journal = [];
}
