-- The table row by row, computed over all objects; and what is no object has no line.
use Rattle.std.specs.Prelude.{Result, Ok, Err}
use mathlib.Core.Path.{◌≡◌, refl}
use mathlib.Core.Bool.{Bool, true, false, ◌&&◌}
use mathlib.Core.List.{List, [], ◌∷◌}
use Prim.Native.Nat.{ℕ}
use lib.Dec.{eqb}
use borrow.Author.Tests.{eqb-true}
use Rattle.laws.proofs.Bools.{no, left, right, cond-each}
use Rattle.rules.specs.declared.aborts.Abort.{Abort}
use Rattle.rules.specs.declared.objects.Object.{Object}
use Rattle.rules.specs.Objects.{find, object_at}
use Rattle.interleaving.specs.ReadsWrites.{Named, Line, line, is, also, read_reads, write_reads, write_writes}
use Rattle.interleaving.specs.Table.{RowByRow, NoFurtherRow, Others}

pub row-by-row : RowByRow
row-by-row given = refl

pub others : Others
others = (λ i s. refl, λ toggle. (λ i s. refl, λ i s. refl), (λ i s. refl, λ i s. refl), (λ i s. refl, λ i s. refl))

-- every line is an object's
abbrev found : Result Object Abort → Bool
found (Ok o) = true
found (Err why) = false

abbrev of_objects : List Line → Bool
of_objects [] = true
of_objects (line j t ns ∷ lines) = found (object_at j t) && of_objects lines

module _ (i s : ℕ) (none : (o : Object) → object_at i s ≡ Ok o → ⊥) where
  not_found : (f : Result Object Abort) → object_at i s ≡ f → found f ≡ true → ⊥
  not_found (Ok o) e t = none o e
  not_found (Err why) e t = no t

  no_line : (lines : List Line) → of_objects lines ≡ true → also i s lines ≡ []
  no_line [] e = refl
  no_line (line j t ns ∷ lines) e =
      cond-each (λ (l : List Named). l ≡ []) (is i s j t)
      (λ h. absurd (not_found (object_at i s) refl
      (rw (eqb-true i j (left (eqb i j) (eqb s t) h), eqb-true s t (right (eqb i j) (eqb s t) h)) (left (found (object_at j t)) _ e))))
      (λ h. no_line lines (right (found (object_at j t)) _ e))

pub no-further-row : NoFurtherRow
unfolding find
no-further-row given i s none = rw (no_line i s none read_reads refl, no_line i s none write_reads refl, no_line i s none write_writes refl)
