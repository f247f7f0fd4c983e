-- `print_lines` ends: each line moves the place on, up to the length.
use Rattle.std.proofs.Common.{length, ◌-◌}
use Rattle.crc_vectors.proofs.print_lines.Given as goal

abbrev pub decreases-loop-from : goal.decreases-loop-from
decreases-loop-from g l = length l.text - l.from
