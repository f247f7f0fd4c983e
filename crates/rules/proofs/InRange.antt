-- What a state in range says of each part, and that nothing else is asked.
use mathlib.Core.Path.{◌≡◌}
use mathlib.Core.Bool.{Bool, true}
use mathlib.Core.List.{List, [], ◌∷◌}
use Prim.Native.Nat.{ℕ}
use lib.ListN.{get_or}
use lib.Dec.{leb}
use Rattle.rules.specs.declared.parts.Saves.{Saves}
use Rattle.laws.proofs.Bools.{one_of}
use Rattle.rules.specs.Block.{most_blocks}
use Rattle.rules.specs.Numbers.{between}
use Rattle.rules.specs.Ranges.{in_range, node_ok, network_ok, saves_ok, errors_ok, elapsed_ok, counts_ok, transfers_ok, axis_ok, lss_ok}
use Rattle.rules.specs.Settings.{in_table}
use Rattle.rules.specs.State.{State, node_or_none}

pub record InRange (u : State) : Type 0 where
  pub node : node_ok u.node ≡ true
  pub network : network_ok u.network ≡ true
  pub saves : saves_ok u.saves ≡ true
  pub running : in_table u.running ≡ true
  pub errors : errors_ok u.errors ≡ true
  pub heartbeat : elapsed_ok u.running.heartbeat u.heartbeat ≡ true
  pub pdo : counts_ok u.running.pdo u.pdo ≡ true
  pub transfers : transfers_ok u.transfers ≡ true
  pub x : axis_ok u.x ≡ true
  pub y : axis_ok u.y ≡ true
  pub lss : lss_ok u.lss ≡ true

pub parts : (u : State) → in_range u ≡ true → InRange u
unfolding in_range
parts u e =
    let rest : List Bool =
    network_ok u.network ∷ saves_ok u.saves ∷ in_table u.running ∷ errors_ok u.errors ∷
    elapsed_ok u.running.heartbeat u.heartbeat ∷ counts_ok u.running.pdo u.pdo ∷
    transfers_ok u.transfers ∷ axis_ok u.x ∷ axis_ok u.y ∷ lss_ok u.lss ∷ [] in
    let at : (i : ℕ) → get_or (node_ok u.node ∷ rest) i true ≡ true = one_of (node_ok u.node) rest e in
    record {
      node = at 0;
      network = at 1;
      saves = at 2;
      running = at 3;
      errors = at 4;
      heartbeat = at 5;
      pdo = at 6;
      transfers = at 7;
      x = at 8;
      y = at 9;
      lss = at 10;
    }

pub together : (u : State) → InRange u → in_range u ≡ true
unfolding in_range
together u r =
    simp (r.node, r.network, r.saves, r.running, r.errors, r.heartbeat, r.pdo, r.transfers, r.x, r.y, r.lss)

-- the same of what the record keeps of the journal
pub record SavesInRange (s : Saves) : Type 0 where
  pub blocks : between 1 most_blocks s.blocks ≡ true
  pub filled : leb s.filled s.blocks ≡ true
  pub spoiled : leb s.spoiled 1 ≡ true
  pub node : node_or_none s.node ≡ true
  pub stored : in_table s.stored ≡ true

pub saves-parts : (s : Saves) → saves_ok s ≡ true → SavesInRange s
saves-parts s e =
    let at = one_of (between 1 most_blocks s.blocks) (leb s.filled s.blocks ∷ leb s.spoiled 1 ∷ node_or_none s.node ∷ in_table s.stored ∷ []) e in
    record { blocks = at 0; filled = at 1; spoiled = at 2; node = at 3; stored = at 4 }

pub saves-together : (s : Saves) → SavesInRange s → saves_ok s ≡ true
saves-together s r = simp (r.blocks, r.filled, r.spoiled, r.node, r.stored)
