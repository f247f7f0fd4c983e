-- What is found at an index and a subindex has these numbers.
use mathlib.Core.Path.{◌≡◌}
use mathlib.Core.Bool.{cond, ◌&&◌}
use mathlib.Core.List.{List, [], ◌∷◌}
use Prim.Native.Nat.{ℕ}
use Rattle.std.specs.Prelude.{Result, Ok, Err}
use lib.Dec.{eqb}
use borrow.Author.Tests.{eqb-true}
use Rattle.laws.proofs.Bools.{left, right, cond-each}
use Rattle.rules.specs.declared.aborts.Abort.{Abort}
use Rattle.rules.specs.declared.aborts.Abort.TheVariants.{NoObject, NoSubindex}
use Rattle.rules.specs.declared.objects.Object.{Object}
use Rattle.rules.specs.Objects.{row_of, find, objects, object_at}

abbrev pub Names : Result Object Abort → ℕ → ℕ → Type 0
Names (Ok o) i s = (i ≡ (row_of o).index) × (s ≡ (row_of o).subindex)
Names (Err why) i s = Unit {0}

module _ (i s : ℕ) where
  found : (missing : Abort) → (l : List Object) → Names (find i s missing l) i s
  unfolding find
  found missing [] = tt
  found missing (o ∷ l) =
      let P : Result Object Abort → Type 0 = λ f. Names f i s in
      let here = eqb i (row_of o).index in
      let there = eqb s (row_of o).subindex in
      cond-each P (here && there) (λ e. (eqb-true i (row_of o).index (left here there e), eqb-true s (row_of o).subindex (right here there e)))
      (λ e. found (cond here NoSubindex missing) l)

  pub named : Names (object_at i s) i s
  named = found NoObject objects
