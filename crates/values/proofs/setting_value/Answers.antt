-- `setting_value` meets its contract: each arm knows its setting; of a signed one the machine hands on the number that it read.
use Rattle.std.proofs.Common.{rules}
use Rattle.rules.specs.Reads.{setting_value}
use Rattle.values.proofs.setting_value.Goals as goal

pub returns-in-Heartbeat : goal.returns-in-Heartbeat
unfolding setting_value
returns-in-Heartbeat c = simp c.in-Heartbeat.is

pub returns-in-Pdo : goal.returns-in-Pdo
unfolding setting_value
returns-in-Pdo c = simp (c.pdo_value.ensures, c.pdo.ensures, c.in-Pdo.is)

pub returns-in-Resolution : goal.returns-in-Resolution
unfolding setting_value
returns-in-Resolution c = simp c.in-Resolution.is

pub returns-in-Operating : goal.returns-in-Operating
unfolding setting_value
returns-in-Operating c = simp (c.in-Operating.is, c.axis.ensures)

pub returns-in-Preset : goal.returns-in-Preset
unfolding setting_value
returns-in-Preset c = simp c.in-Preset.is (search rules)

pub returns-in-Offset : goal.returns-in-Offset
unfolding setting_value
returns-in-Offset c = simp c.in-Offset.is (search rules)

pub returns-in-Differential : goal.returns-in-Differential
unfolding setting_value
returns-in-Differential c = simp c.in-Differential.is (search rules)
