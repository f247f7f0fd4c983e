-- A number by conditions in their order: the first that holds gives it. Then each number is given exactly where its row says.
use mathlib.Core.Path.{◌≡◌}
use mathlib.Core.Logic.{◌↔◌, ◌⊎◌, inl, inr}
use Prim.Native.Nat.{ℕ, ◌≤◌, ◌<◌}
use native.Mathlib.Omega.{arith}

-- a number by three conditions in their order: the first number, 1, 2 or 0
pub data Sorted (first : ℕ) (A B C : Type 0) (n : ℕ) : Type 0 where
  by_first : n ≡ first → A → Sorted first A B C n
  by_second : n ≡ 1 → ¬ A → B → Sorted first A B C n
  by_third : n ≡ 2 → ¬ A → ¬ B → C → Sorted first A B C n
  by_none : n ≡ 0 → ¬ A → ¬ B → ¬ C → Sorted first A B C n

module _ {first : ℕ} {A B C : Type 0} {n : ℕ} (high : 2 < first) where
  pub row_first : Sorted first A B C n → (n ≡ first) ↔ A
  row_first (by_first e a) = (λ g. a, λ x. e)
  row_first (by_second e a b) = (λ g. absurd (omega arith), λ x. absurd (a x))
  row_first (by_third e a b c) = (λ g. absurd (omega arith), λ x. absurd (a x))
  row_first (by_none e a b c) = (λ g. absurd (omega arith), λ x. absurd (a x))

  pub row_second : Sorted first A B C n → (n ≡ 1) ↔ (¬ A) × B
  row_second (by_first e a) = (λ g. absurd (omega arith), λ x. absurd (x.0 a))
  row_second (by_second e a b) = (λ g. (a, b), λ x. e)
  row_second (by_third e a b c) = (λ g. absurd (omega arith), λ x. absurd (b x.1))
  row_second (by_none e a b c) = (λ g. absurd (omega arith), λ x. absurd (b x.1))

  pub row_third : Sorted first A B C n → (n ≡ 2) ↔ (¬ A) × (¬ B) × C
  row_third (by_first e a) = (λ g. absurd (omega arith), λ x. absurd (x.0 a))
  row_third (by_second e a b) = (λ g. absurd (omega arith), λ x. absurd (x.1 b))
  row_third (by_third e a b c) = (λ g. (a, b, c), λ x. e)
  row_third (by_none e a b c) = (λ g. absurd (omega arith), λ x. absurd (c x.2))

  pub row_none : Sorted first A B C n → (n ≡ 0) ↔ (¬ A) × (¬ B) × (¬ C)
  row_none (by_first e a) = (λ g. absurd (omega arith), λ x. absurd (x.0 a))
  row_none (by_second e a b) = (λ g. absurd (omega arith), λ x. absurd (x.1 b))
  row_none (by_third e a b c) = (λ g. absurd (omega arith), λ x. absurd (x.2 c))
  row_none (by_none e a b c) = (λ g. (a, b, c), λ x. e)

  pub no_more : Sorted first A B C n → n ≤ first
  no_more (by_first e a) = omega arith
  no_more (by_second e a b) = omega arith
  no_more (by_third e a b c) = omega arith
  no_more (by_none e a b c) = omega arith

-- where no third condition can hold
pub no_other : {first n : ℕ} {A B : Type 0} → Sorted first A B ⊥ n → (n ≡ first) ⊎ (n ≤ 1)
no_other (by_first e a) = inl e
no_other (by_second e a b) = inr (omega arith)
no_other (by_third e a b c) = absurd c
no_other (by_none e a b c) = inr (omega arith)
