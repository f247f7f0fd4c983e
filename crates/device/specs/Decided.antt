-- What an event comes to: the record and the length of its journal are looked at first.
use Rattle.std.specs.Prelude.{cond, List, ℕ, ◌*◌, eqb, Result, Ok, Err, ⊤}
use Rattle.acts.specs.declared.Act.{Act}
use Rattle.acts.specs.Acts.{act_of}
use Rattle.answers.specs.declared.refusal.Refusal.{Refusal}
use Rattle.answers.specs.declared.refusal.Refusal.TheVariants.{OutOfRange, WrongLength}
use Rattle.rules.specs.declared.events.Event.{Event}
use Rattle.rules.specs.Ranges.{in_range}
use Rattle.rules.specs.State.{State}

-- the refusal that the record, or the length of its journal, brings to any event
abbrev pub checked : ℕ → State → Result ⊤ Refusal
checked size u = cond (in_range u) (cond (eqb size (512 * u.saves.blocks)) (Ok tt) (Err WrongLength)) (Err OutOfRange)

-- and else what the event does
abbrev pub behind : Result ⊤ Refusal → Result Act Refusal → Result Act Refusal
behind (Ok fine) a = a
behind (Err why) a = Err why

abbrev pub decided : ℕ → Event → List ℕ → ℕ → State → Result Act Refusal
decided size e bytes length u = behind (checked size u) (act_of e bytes length u.node)
