-- What a request sees of the record: one on a channel, as a state.
use Rattle.std.specs.Prelude.{[], ◌∷◌}
use Rattle.lss.specs.declared.Sight.{Sight}
use Rattle.rules.specs.declared.objects.Channel.{Channel}
use Rattle.rules.specs.Settings.{factory}
use Rattle.rules.specs.State.{State, no_counts, transfer_of, unselected}
use Rattle.device.specs.declared.Device.{Device}
use Rattle.device.specs.Seen.{alone}

abbrev pub view_of : Channel → Device → State
view_of c d =
    let transfer = transfer_of c (alone d) in
    record {
      node = d.node;
      identity = d.identity;
      network = d.network;
      lss = unselected 0;
      saves = record { blocks = d.saves.blocks; filled = d.saves.filled; spoiled = d.saves.spoiled; node = 0; stored = factory };
      running = d.running;
      errors = d.errors;
      heartbeat = 0;
      pdo = no_counts;
      transfers = transfer ∷ transfer ∷ [];
      x = d.x;
      y = d.y;
      journal = [];
    }

-- and an LSS request
abbrev pub sight_of : Device → Sight
sight_of d = record {
  identity = d.identity;
  node = d.node;
  network = d.network;
  lss = d.lss;
  blocks = d.saves.blocks;
  filled = d.saves.filled;
  spoiled = d.saves.spoiled;
}
