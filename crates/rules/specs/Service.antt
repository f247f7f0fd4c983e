-- Service channels: the outcome of a request, and the state after it.
use Rattle.std.specs.Prelude.{Bool, cond, ◌||◌, List, [], ◌∷◌, ℕ, ◌+◌, eqb, ltb, ℤ, Some, None, Result, Ok, Err}
use Rattle.rules.specs.declared.aborts.Abort.{Abort}
use Rattle.rules.specs.declared.aborts.Abort.TheVariants.{UnknownCommand}
use Rattle.rules.specs.declared.errors.ErrorList.{ErrorList}
use Rattle.rules.specs.declared.journal.Origin.{Origin}
use Rattle.rules.specs.declared.journal.Origin.TheVariants.{Saved, Loaded, Stored}
use Rattle.rules.specs.declared.objects.Axis.{Axis}
use Rattle.rules.specs.declared.objects.Channel.{Channel}
use Rattle.rules.specs.declared.objects.Channel.TheVariants.{One, Two}
use Rattle.rules.specs.declared.objects.Object.{Object}
use Rattle.rules.specs.declared.objects.PdoNumber.{PdoNumber}
use Rattle.rules.specs.declared.objects.PdoNumber.TheVariants.{First}
use Rattle.rules.specs.declared.objects.PdoSetting.{PdoSetting}
use Rattle.rules.specs.declared.objects.PdoSetting.TheVariants.{On, Transmission, Timer}
use Rattle.rules.specs.declared.objects.Setting.{Setting}
use Rattle.rules.specs.declared.objects.Setting.TheVariants.{Heartbeat, Pdo, Resolution, Operating, Preset, Offset, Differential}
use Rattle.rules.specs.declared.parts.Lss.{Lss}
use Rattle.rules.specs.declared.parts.PdoCounts.{PdoCounts}
use Rattle.rules.specs.declared.parts.Transfer.{Transfer}
use Rattle.rules.specs.declared.requests.Caller.{Caller}
use Rattle.rules.specs.declared.requests.Caller.TheVariants.{Client, Master}
use Rattle.rules.specs.declared.requests.Change.{Change}
use Rattle.rules.specs.declared.requests.Change.TheVariants.{Keep, Put, Zero, Empty, Configure, Fill}
use Rattle.rules.specs.declared.requests.Command.{Command}
use Rattle.rules.specs.declared.requests.Command.TheVariants.{Write, Read, Segment, End, Unknown}
use Rattle.rules.specs.declared.requests.Got.{Got}
use Rattle.rules.specs.declared.requests.Got.TheVariants.{Number, Text}
use Rattle.rules.specs.declared.requests.Outcome.{Outcome}
use Rattle.rules.specs.declared.settings.PdoSettings.{PdoSettings}
use Rattle.rules.specs.declared.settings.Settings.{Settings}
use Rattle.rules.specs.Block.{block_from}
use Rattle.rules.specs.Errors.{no_errors}
use Rattle.rules.specs.Journal.{put_behind}
use Rattle.rules.specs.Numbers.{signed}
use Rattle.rules.specs.Objects.{same_setting, of_pdo, object_at}
use Rattle.rules.specs.Reads.{read_of}
use Rattle.rules.specs.Replies.{written, read_number, read_text, aborted, first_segment, last_segment, wrong_toggle, no_transfer}
use Rattle.rules.specs.Requests.{command, index_of, subindex_of, value_for}
use Rattle.rules.specs.Settings.{factory, axis_settings, pdo_settings, with_axis, with_pdo}
use Rattle.rules.specs.State.{State, operational, pre_operational, absent, at_start, after_seven, transferring, no_counts, transfer_of}
use Rattle.rules.specs.Writes.{Check, change, write_check}

-- a reply, with the transfer after it and the change; and no reply
abbrev pub replied : List ℕ → ℕ → Change → Outcome
replied bytes stage e = record { reply = Some bytes; transfer = transferring stage; change = e }

abbrev pub unanswered : Transfer → Change → Outcome
unanswered t e = record { reply = None; transfer = t; change = e }

abbrev pub silent : Transfer → Outcome
silent t = unanswered t Keep

-- "An abort, sent or received, the last segment or any new initiate ends that channel's transfer"
abbrev pub refuse : List ℕ → Abort → Outcome
refuse request why = replied (aborted request why) absent Keep

abbrev pub on_write : List ℕ → Check → Change → Outcome
on_write request (Ok passed) e = replied (written request) absent e
on_write request (Err why) e = refuse request why

-- "an initiate read of the string begins one"
abbrev pub on_read : List ℕ → Result Got Abort → Outcome
on_read request (Ok (Number size n)) = replied (read_number size request n) absent Keep
on_read request (Ok Text) = replied (read_text request) at_start Keep
on_read request (Err why) = refuse request why

-- "toggle starts at 0"; "No transfer" is looked at first
unfoldable pub on_segment : ℕ → Transfer → Outcome
on_segment toggle t =
    cond (eqb t.stage absent) (replied no_transfer absent Keep)
    (cond (eqb t.stage at_start) (cond (eqb toggle 0) (replied first_segment after_seven Keep) (replied wrong_toggle absent Keep))
    (cond (eqb toggle 1) (replied last_segment absent Keep) (replied wrong_toggle absent Keep)))

-- "object …; subindex …": what is not found is refused
abbrev pub on_found : List ℕ → Result Object Abort → (Object → Outcome) → Outcome
on_found request (Ok o) on = on o
on_found request (Err why) on = refuse request why

-- "Checks in order: first byte; object …; subindex …"; "All others get 05040001h"; "80h ends the transfer, no reply"
abbrev pub on_command : Channel → List ℕ → Command → Result Object Abort → State → Outcome
on_command c request (Write given) f u = on_found request f (λ o. let v = value_for o request in on_write request (write_check given o v u) (change c o v u))
on_command c request Read f u = on_found request f (λ o. on_read request (read_of o u))
on_command c request (Segment toggle) f u = on_segment toggle (transfer_of c u)
on_command c request End f u = silent (transferring absent)
on_command c request Unknown f u = refuse request UnknownCommand

-- "Served in Pre-Operational and Operational"
abbrev pub served : ℕ → Bool
served network = eqb network pre_operational || eqb network operational

abbrev pub outcome : Channel → List ℕ → State → Outcome
outcome c request u =
    cond (served u.network)
    (on_command c request (command request) (object_at (index_of request) (subindex_of request)) u)
    (silent (transfer_of c u))

-- a written value in its setting; bit 31 of 1800:1 is "off"
abbrev pub put_pdo : PdoSetting → ℕ → PdoSettings → PdoSettings
put_pdo On v s = record { on = cond (ltb v 0x80000000) 1 0; transmission = s.transmission; timer = s.timer }
put_pdo Transmission v s = record { on = s.on; transmission = v; timer = s.timer }
put_pdo Timer v s = record { on = s.on; transmission = s.transmission; timer = v }

-- an axis's preset, with the offset that comes with it
abbrev pub zero_at : Axis → ℤ → ℤ → Settings → Settings
zero_at a preset offset t =
    let s = axis_settings a t in
    with_axis a (record { operating = s.operating; preset = preset; offset = offset; differential = s.differential }) t

abbrev pub put : Setting → ℕ → Settings → Settings
put Heartbeat v t = record { heartbeat = v; pdo = t.pdo; resolution = t.resolution; x = t.x; y = t.y }
put (Pdo n p) v t = with_pdo n (put_pdo p v (pdo_settings n t)) t
put Resolution v t = record { heartbeat = t.heartbeat; pdo = t.pdo; resolution = v; x = t.x; y = t.y }
put (Operating a) v t =
    let s = axis_settings a t in
    with_axis a (record { operating = v; preset = s.preset; offset = s.offset; differential = s.differential }) t
put (Preset a) v t = zero_at a (signed 16 v) (axis_settings a t).offset t
put (Offset a) v t = zero_at a (axis_settings a t).preset (signed 16 v) t
put (Differential a) v t =
    let s = axis_settings a t in
    with_axis a (record { operating = s.operating; preset = s.preset; offset = s.offset; differential = signed 16 v }) t

-- "running ones wait for a reset": a save, a load or a store leaves them
abbrev pub running_after : Change → Settings → Settings
running_after Keep t = t
running_after (Put s v) t = put s v t
running_after (Zero a preset offset) t = zero_at a preset offset t
running_after Empty t = t
running_after (Configure l) t = t
running_after (Fill o) t = t

abbrev pub on_errors : Change → ErrorList → ErrorList
on_errors Keep x = x
on_errors (Put s v) x = x
on_errors (Zero a preset offset) x = x
on_errors Empty x = no_errors
on_errors (Configure l) x = x
on_errors (Fill o) x = x

-- what is stored, of the running settings and those stored before: "A save fills the next block with running settings, a load with factory settings",
-- "Store appends a block … with the stored settings"
abbrev pub storing : Origin → Settings → Settings → Settings
storing (Saved c) running stored = running
storing (Loaded c) running stored = factory
storing (Stored node) running stored = stored

-- the stored number: "saves and loads carry it on unchanged"
abbrev pub carrying : Origin → ℕ → ℕ
carrying (Saved c) was = was
carrying (Loaded c) was = was
carrying (Stored node) was = node

-- the settings that stand beside a change, factory where it stores none
abbrev pub stores : Change → Settings → Settings → Settings
stores Keep running stored = factory
stores (Put s v) running stored = factory
stores (Zero a preset offset) running stored = factory
stores Empty running stored = factory
stores (Configure l) running stored = factory
stores (Fill o) running stored = storing o running stored

-- what only a save, a load or a store changes
pub record Kept : Type 0 where
  pub filled : ℕ
  pub node : ℕ
  pub stored : Settings
  pub journal : List ℕ

abbrev pub kept_in : State → Kept
kept_in u = record { filled = u.saves.filled; node = u.saves.node; stored = u.saves.stored; journal = u.journal }

-- the next block filled with settings; "Both update the stored settings"
abbrev pub on_kept : Change → Settings → Kept → Kept
on_kept Keep t x = x
on_kept (Put s v) t x = x
on_kept (Zero a preset offset) t x = x
on_kept Empty t x = x
on_kept (Configure l) t x = x
on_kept (Fill o) t x = record {
  filled = x.filled + 1;
  node = carrying o x.node;
  stored = t;
  journal = put_behind x.filled (block_from o (x.filled + 1) t (carrying o x.node)) x.journal;
}

-- "A write to 1017 zeroes the heartbeat's" count
abbrev pub on_heartbeat : Change → ℕ → ℕ
on_heartbeat Keep x = x
on_heartbeat (Put s v) x = cond (same_setting s Heartbeat) 0 x
on_heartbeat (Zero a preset offset) x = x
on_heartbeat Empty x = x
on_heartbeat (Configure l) x = x
on_heartbeat (Fill o) x = x

-- "so does an accepted write to 1800": it zeroes the PDO's elapsed and SYNC counts
abbrev pub on_counts : PdoNumber → Change → PdoCounts → PdoCounts
on_counts n Keep x = x
on_counts n (Put s v) x = cond (of_pdo n s) no_counts x
on_counts n (Zero a preset offset) x = x
on_counts n Empty x = x
on_counts n (Configure l) x = x
on_counts n (Fill o) x = x

-- what only LSS changes
abbrev pub on_lss : Change → Lss → Lss
on_lss Keep x = x
on_lss (Put s v) x = x
on_lss (Zero a preset offset) x = x
on_lss Empty x = x
on_lss (Configure l) x = l
on_lss (Fill o) x = x

-- each channel has its own transfer, and LSS has none
abbrev pub on_transfer : Caller → Channel → Transfer → Transfer → Transfer
on_transfer (Client One) One next x = next
on_transfer (Client One) Two next x = x
on_transfer (Client Two) One next x = x
on_transfer (Client Two) Two next x = next
on_transfer Master c next x = x

-- the state after an outcome for its caller
abbrev pub state_after : Caller → Outcome → State → State
state_after c o u =
    let e = o.change in
    let kept = on_kept e (stores e u.running u.saves.stored) (kept_in u) in
    record {
      node = u.node;
      identity = u.identity;
      network = u.network;
      lss = on_lss e u.lss;
      saves = record { blocks = u.saves.blocks; filled = kept.filled; spoiled = u.saves.spoiled; node = kept.node; stored = kept.stored };
      running = running_after e u.running;
      errors = on_errors e u.errors;
      heartbeat = on_heartbeat e u.heartbeat;
      pdo = on_counts First e u.pdo;
      transfers = on_transfer c One o.transfer (transfer_of One u) ∷ on_transfer c Two o.transfer (transfer_of Two u) ∷ [];
      x = u.x;
      y = u.y;
      journal = kept.journal;
    }
