-- The device and what moves it, the ranges: what a device record holds that is not refused with 3.
use Rattle.std.specs.Prelude.{Bool, cond, ◌&&◌, ◌||◌, List, ℕ, eqb, ltb, leb, ℤ, pos, nat_abs, length, get_or}
use Rattle.rules.specs.declared.errors.ErrorList.{ErrorList}
use Rattle.rules.specs.declared.objects.PdoNumber.TheVariants.{First}
use Rattle.rules.specs.declared.parts.Lss.{Lss}
use Rattle.rules.specs.declared.parts.PdoCounts.{PdoCounts}
use Rattle.rules.specs.declared.parts.Reading.{Reading}
use Rattle.rules.specs.declared.parts.Saves.{Saves}
use Rattle.rules.specs.declared.parts.Transfer.{Transfer}
use Rattle.rules.specs.declared.settings.PdoSettings.{PdoSettings}
use Rattle.rules.specs.Block.{most_blocks}
use Rattle.rules.specs.Numbers.{between, between_ℤ, minus}
use Rattle.rules.specs.Settings.{synchronous, every, in_table, pdo_settings}
use Rattle.rules.specs.State.{State, most_node, node_or_none, stopped, operational, pre_operational, configuration, after_seven, none, faulty, pdo_counts}

-- "node 1 to 47"
abbrev pub node_ok : ℕ → Bool
node_ok node = between 1 most_node node

-- "NMT state 4, 5 or 127"
abbrev pub network_ok : ℕ → Bool
network_ok n = eqb n stopped || eqb n operational || eqb n pre_operational

-- "blocks 1 to 128; filled blocks at most blocks", the spoiled mark 0 or 1, the stored number 0 to 47,
-- stored settings "within the object table"
abbrev pub saves_ok : Saves → Bool
saves_ok s =
    between 1 most_blocks s.blocks && leb s.filled s.blocks && leb s.spoiled 1 && node_or_none s.node && in_table s.stored

-- "error list 0 to 5 codes long, each FF00h to FF02h, 0 past its end"
abbrev pub code_ok : ℕ → ℕ → ℕ → Bool
code_ok n i code = cond (ltb i n) (between 0xFF00 0xFF02 code) (eqb code 0)

unfoldable pub errors_ok : ErrorList → Bool
errors_ok l =
    leb l.length 5 && code_ok l.length 0 (get_or l.codes 0 0) && code_ok l.length 1 (get_or l.codes 1 0)
    && code_ok l.length 2 (get_or l.codes 2 0) && code_ok l.length 3 (get_or l.codes 3 0) && code_ok l.length 4 (get_or l.codes 4 0)

-- "each elapsed count below its period, or 0 where the period is 0"
abbrev pub elapsed_ok : ℕ → ℕ → Bool
elapsed_ok period elapsed = cond (eqb period 0) (eqb elapsed 0) (ltb elapsed period)

-- "SYNC count below the type where that is 1 to 240, else 0"
abbrev pub syncs_ok : ℕ → ℕ → Bool
syncs_ok transmission syncs = cond (synchronous transmission) (ltb syncs transmission) (eqb syncs 0)

abbrev pub counts_ok : PdoSettings → PdoCounts → Bool
counts_ok s c = elapsed_ok s.timer c.elapsed && syncs_ok s.transmission c.syncs

-- "absent or at the start or after 7 bytes"
abbrev pub transfer_ok : Transfer → Bool
transfer_ok t = leb t.stage after_seven

-- "a segmented transfer on each channel"
abbrev pub transfers_ok : List Transfer → Bool
transfers_ok l = eqb (length l) 2 && every transfer_ok l

-- "axis none, good or faulty, with its m from −180,000 to 180,000, and 0 where none"
abbrev pub inside : ℤ → Bool
inside m = between_ℤ (minus 180000) (pos 180000) m

unfoldable pub axis_ok : Reading → Bool
axis_ok x = leb x.state faulty && cond (eqb x.state none) (eqb (nat_abs x.m) 0) (inside x.m)

-- LSS: mode 0 or 1, matches 0 to 3, the number set 0 to 47
abbrev pub lss_ok : Lss → Bool
lss_ok l = leb l.mode configuration && leb l.matches 3 && node_or_none l.node

-- identity is free
unfoldable pub in_range : State → Bool
in_range u =
    node_ok u.node && network_ok u.network && saves_ok u.saves && in_table u.running && errors_ok u.errors
    && elapsed_ok u.running.heartbeat u.heartbeat && counts_ok (pdo_settings First u.running) (pdo_counts First u)
    && transfers_ok u.transfers && axis_ok u.x && axis_ok u.y && lss_ok u.lss
