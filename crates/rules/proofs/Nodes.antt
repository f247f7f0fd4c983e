-- Laws of node numbers: those that are stored or set, the number that runs after a power-on or a reset, and LSS in its range.
use mathlib.Core.Path.{◌≡◌}
use mathlib.Core.Bool.{true, ◌&&◌}
use Prim.Native.Nat.{ℕ}
use native.Mathlib.Omega.{arith}
use borrow.Author.Tests.{eqb-false, le-leb}
use lib.Dec.{eqb, leb}
use Rattle.laws.proofs.Bools.{both, left, right, cond-each}
use Rattle.rules.specs.declared.parts.Lss.{Lss}
use Rattle.rules.specs.Ranges.{node_ok, lss_ok}
use Rattle.rules.specs.State.{State, most_node, node_or_none, node_else, last_set, configuration}
use Rattle.rules.proofs.InRange.{InRange}

pub node-small : (n : ℕ) → node_ok n ≡ true → node_or_none n ≡ true
node-small n e = right (leb 1 n) (leb n most_node) e

-- a number, or another where it is none
pub node_else_lem : (n other : ℕ) → node_or_none n ≡ true → node_ok other ≡ true → node_ok (node_else n other) ≡ true
node_else_lem n other small ok =
    cond-each (λ (x : ℕ). node_ok x ≡ true) (eqb n 0) (λ e. ok) (λ e. both (le-leb 1 n (omega (arith, eqb-false n 0 e))) small)

-- LSS in its range, by its parts
pub lss_in : (mode matches node : ℕ) → leb mode configuration ≡ true → leb matches 3 ≡ true → node_or_none node ≡ true
    → lss_ok (record { mode = mode; matches = matches; node = node }) ≡ true
lss_in mode matches node m c n = both (both m c) n

module _ (l : Lss) (e : lss_ok l ≡ true) where
  pub lss-node : node_or_none l.node ≡ true
  lss-node = right (leb l.mode configuration && leb l.matches 3) (node_or_none l.node) e

  pub lss_mode : leb l.mode configuration ≡ true
  lss_mode = left (leb l.mode configuration) (leb l.matches 3) (left (leb l.mode configuration && leb l.matches 3) (node_or_none l.node) e)

  pub lss-matches : leb l.matches 3 ≡ true
  lss-matches = right (leb l.mode configuration) (leb l.matches 3) (left (leb l.mode configuration && leb l.matches 3) (node_or_none l.node) e)

-- the number that a reset takes and a store stores
pub last_set_lem : (u : State) → InRange u → node_ok (last_set u) ≡ true
last_set_lem u range = node_else_lem u.lss.node u.node (lss-node u.lss range.lss) range.node
