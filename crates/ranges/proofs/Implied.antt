-- A test that another one implies.
use mathlib.Core.Path.{◌≡◌, refl}
use mathlib.Core.Bool.{Bool, true, false, ◌&&◌}

pub implied : (a b : Bool) → (b ≡ true → a ≡ true) → a && b ≡ b
implied true b h = refl
implied false true h = h refl
implied false false h = refl
