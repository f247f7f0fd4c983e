-- A view as a state: what it leaves out is empty, and either channel has its transfer.
use Rattle.std.specs.Prelude.{[], ◌∷◌}
use Rattle.rules.specs.Settings.{factory}
use Rattle.rules.specs.State.{State, no_counts, unselected}
use Rattle.view.specs.declared.View.{View}

abbrev pub viewed : View → State
viewed v = record {
  node = v.node;
  identity = v.identity;
  network = v.network;
  lss = unselected 0;
  saves = record { blocks = v.blocks; filled = v.filled; spoiled = v.spoiled; node = 0; stored = factory };
  running = v.axes.settings;
  errors = v.errors;
  heartbeat = 0;
  pdo = no_counts;
  transfers = v.transfer ∷ v.transfer ∷ [];
  x = v.axes.x;
  y = v.axes.y;
  journal = [];
}
