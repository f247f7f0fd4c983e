-- What a test shows of one element, the test over a list shows of each.
use mathlib.Core.Path.{◌≡◌}
use mathlib.Core.Bool.{Bool, true}
use mathlib.Core.List.{List, [], ◌∷◌}
use Rattle.laws.proofs.Bools.{left, right}
use Rattle.rules.specs.Settings.{every}
use Rattle.interleaving.specs.Demand3.{Each}

module _ {A : Type 0} (p : A → Bool) (P : A → Type 0) (shows : (x : A) → p x ≡ true → P x) where
  pub each : (l : List A) → every p l ≡ true → Each P l
  each [] e = tt
  each (x ∷ l) e = (shows x (left (p x) _ e), each l (right (p x) _ e))
