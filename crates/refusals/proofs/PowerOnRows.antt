-- The refusal table for power-on: 4, then 1.
use mathlib.Core.Path.{◌≡◌, refl, sym, ◌∙◌}
use mathlib.Core.Bool.{Bool, true, false}
use mathlib.Core.List.{List}
use Prim.Native.Nat.{ℕ, ◌*◌, ◌≤◌, ◌<◌}
use native.Mathlib.Omega.{arith}
use borrow.Author.Tests.{eq-eqb}
use lib.ListN.{length}
use Rattle.laws.proofs.Bools.{no, both}
use Rattle.rules.proofs.Numbers.{from_least, to-most, in_between}
use Rattle.rules.proofs.Refusals.{node-first, journal-second, then-starts}
use Rattle.rules.proofs.Run.{sized}
use Rattle.rules.specs.declared.parts.Identity.{Identity}
use Rattle.rules.specs.Journal.{blocks_in, length_ok}
use Rattle.rules.specs.Network.{start}
use Rattle.rules.specs.PowerOn.{power_on}
use Rattle.rules.specs.Ranges.{node_ok}
use Rattle.rules.specs.Results.{Result}
use Rattle.refusals.specs.Rows.{WrongLength, WrongNode, PowerOnRows}
use Rattle.refusals.proofs.Sorted.{Sorted, by_first, by_second, by_none, row_first, row_second, row_none, no_other}

-- power-on's length
whole : (j : List ℕ) (blocks : ℕ) → 1 ≤ blocks → blocks ≤ 128 → length j ≡ 512 * blocks → length_ok j ≡ true
unfolding length_ok
whole j blocks low high e =
    let count : blocks_in j ≡ blocks = omega arith in
    rw count (both (in_between low high) (eq-eqb _ _ e))

wrong_length : (j : List ℕ) → length_ok j ≡ false → WrongLength j
wrong_length j other blocks low high e = no (sym other ∙ whole j blocks low high e)

right-length : (j : List ℕ) → length_ok j ≡ true → ¬ WrongLength j
right-length j e wrong = wrong (blocks_in j) (sized j e).least (sized j e).most (sized j e).length

module _ (node : ℕ) (identity : Identity) (j : List ℕ) where
  abbrev PowerOnSorted : Result → Type 0
  PowerOnSorted r = Sorted 4 (WrongNode node) (WrongLength j) ⊥ r.refusal

  wrong_node : node_ok node ≡ false → WrongNode node
  wrong_node other ok = no (sym other ∙ in_between ok.0 ok.1)

  right-node : node_ok node ≡ true → ¬ WrongNode node
  right-node e wrong = wrong (from_least 1 47 node e, to-most 1 47 node e)

  power_on_sorted : (a b : Bool) → node_ok node ≡ a → length_ok j ≡ b → PowerOnSorted (power_on node identity j)
  unfolding start
  power_on_sorted false b other e = rw (node-first node identity j other) (by_first refl (wrong_node other))
  power_on_sorted true false ok other = rw (journal-second node identity j ok other) (by_second refl (right-node ok) (wrong_length j other))
  power_on_sorted true true ok fits = rw (then-starts node identity j ok fits) (by_none refl (right-node ok) (right-length j fits) (λ x. x))

pub power_on_rows : PowerOnRows
power_on_rows node identity j =
    let sorted = power_on_sorted node identity j (node_ok node) (length_ok j) refl refl in
    let high : 2 < 4 = omega arith in
    let accepted = row_none high sorted in
    (row_first high sorted, row_second high sorted, (λ e. ((accepted.0 e).0, (accepted.0 e).1), λ ok. accepted.1 (ok.0, ok.1, λ x. x)), no_other sorted)
