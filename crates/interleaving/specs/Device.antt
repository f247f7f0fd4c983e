-- A device, and requests to it, for the examples.
use Rattle.std.specs.Prelude.{false, List, [], ◌∷◌, ◌++◌, ℕ, pos, replicate}
use Rattle.rules.specs.declared.parts.Reading.{Reading}
use Rattle.rules.specs.declared.settings.AxisSettings.{AxisSettings}
use Rattle.rules.specs.Numbers.{two, four, minus}
use Rattle.rules.specs.Settings.{factory, pdo_factory}
use Rattle.rules.specs.State.{State, configuration, operational, no_transfers, good, no_counts}
use Rattle.interleaving.specs.Runs.{RunFrame}

-- an axis at 12345 thousandths, 1235 steps of 6000
abbrev pub good_reading : Reading
good_reading = record { state = good; m = pos 12345 }

-- its offsets are added, and its offset is the one of a preset of 7
abbrev pub adding : AxisSettings
adding = record { operating = 2; preset = pos 0; offset = minus 1228; differential = pos 0 }

-- node 1 in Operational, LSS in configuration with node 2 set, both axes like that, else factory settings, five errors listed, and one blank block
unfoldable pub device : State
device = record {
  node = 1;
  identity = record { vendor = 0; product = 0; revision = 0; serial = 0 };
  network = operational;
  lss = record { mode = configuration; matches = 0; node = 2 };
  saves = record { blocks = 1; filled = 0; spoiled = 0; node = 0; stored = factory };
  running = record { heartbeat = 0; pdo = pdo_factory; resolution = 10; x = adding; y = adding };
  errors = record { length = 5; codes = 0xFF01 ∷ 0xFF02 ∷ 0xFF01 ∷ 0xFF02 ∷ 0xFF00 ∷ [] };
  heartbeat = 0;
  pdo = no_counts;
  transfers = no_transfers;
  x = good_reading;
  y = good_reading;
  journal = replicate 512 255;
}

abbrev pub request_frame : List ℕ → RunFrame
request_frame bytes = record { remote = false; bytes = bytes; length = 8 }

-- "40h read"; "22h takes the object's own length"
abbrev pub read_frame : ℕ → ℕ → RunFrame
read_frame index subindex = request_frame (0x40 ∷ two index ++ subindex ∷ four 0)

abbrev pub write_frame : ℕ → ℕ → ℕ → RunFrame
write_frame index subindex value = request_frame (0x22 ∷ two index ++ subindex ∷ four value)

abbrev pub save_frame : RunFrame
save_frame = write_frame 0x1010 1 0x65766173

abbrev pub load_frame : RunFrame
load_frame = write_frame 0x1011 1 0x64616F6C
