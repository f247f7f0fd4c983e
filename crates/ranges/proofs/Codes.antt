-- The codes of a list of five, one by one.
use mathlib.Core.Bool.{and-true, and_assoc}
use Rattle.std.proofs.Common.{◌≡◌, arith, Bool, true, ◌&&◌, ℕ, List, [], ◌∷◌, length, get_or}
use Rattle.std.specs.List.{list_all, enumerate_from}
use Rattle.rules.specs.Ranges.{code_ok}

grouped : (a b c d e : Bool) → a && (b && (c && (d && (e && true)))) ≡ a && b && c && d && e
grouped a b c d e = simp (and_assoc, and-true)

pub by_place : (n : ℕ) (l : List ℕ) → length l ≡ 5
    → list_all (λ p. code_ok n p.0 p.1) (enumerate_from 0 l)
    ≡ code_ok n 0 (get_or l 0 0) && code_ok n 1 (get_or l 1 0) && code_ok n 2 (get_or l 2 0) && code_ok n 3 (get_or l 3 0) && code_ok n 4 (get_or l 4 0)
by_place n (a ∷ b ∷ c ∷ d ∷ e ∷ []) h = grouped (code_ok n 0 a) (code_ok n 1 b) (code_ok n 2 c) (code_ok n 3 d) (code_ok n 4 e)
by_place n [] h = absurd (omega (arith, h))
by_place n (a ∷ []) h = absurd (omega (arith, h))
by_place n (a ∷ b ∷ []) h = absurd (omega (arith, h))
by_place n (a ∷ b ∷ c ∷ []) h = absurd (omega (arith, h))
by_place n (a ∷ b ∷ c ∷ d ∷ []) h = absurd (omega (arith, h))
by_place n (a ∷ b ∷ c ∷ d ∷ e ∷ f ∷ l) h = absurd (omega (arith, h))
