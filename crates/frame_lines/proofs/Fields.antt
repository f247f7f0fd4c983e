-- Laws of the fields of a frame's line.
use mathlib.Core.Path.{◌≡◌}
use mathlib.Core.Bool.{true}
use mathlib.Core.List.{List, [], ◌∷◌}
use Prim.Native.Nat.{ℕ, ◌/◌, ◌%◌, ◌≤◌}
use lib.Dec.{eqb}
use lib.ListN.{length}
use Rattle.laws.proofs.Bools.{one_of}
use Rattle.rules.proofs.Numbers.{to-most}
use Rattle.rules.specs.Numbers.{between}
use Rattle.numerals.specs.Numerals.{digits}
use Rattle.frame_lines.specs.Reading.{joined}

-- joined pairs are few
pub joined_few : (s : List ℕ) → joined s ≡ true → length s / 2 ≤ 9
unfolding joined
joined_few s e = to-most 1 9 (length s / 2) (one_of (digits 16 s) (eqb (length s % 2) 0 ∷ between 1 9 (length s / 2) ∷ []) e 2)
