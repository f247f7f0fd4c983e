-- Numbers as the lines write them.
use Rattle.std.specs.Prelude.{Bool, true, false, cond, ◌&&◌, List, [], ◌∷◌, ℕ, ◌+◌, ◌*◌, ◌-◌, ◌^◌, eqb, ltb, length, get_or, Option, Some, None, unwrap_or}
use Rattle.rules.specs.Numbers.{between}

-- what a digit counts, "hex of either case": `0` is 30h, `A` 41h, `a` 61h
unfoldable pub digit_of : ℕ → Option ℕ
digit_of b =
    cond (between 0x30 0x39 b) (Some (b - 0x30))
    (cond (between 0x41 0x46 b) (Some (b - 0x41 + 10))
    (cond (between 0x61 0x66 b) (Some (b - 0x61 + 10)) None))

-- there is a digit, of the base
abbrev pub below : ℕ → Option ℕ → Bool
below base None = false
below base (Some d) = ltb d base

-- every byte is a digit of the base
unfoldable pub digits : ℕ → List ℕ → Bool
digits base [] = true
digits base (b ∷ bs) = below base (digit_of b) && digits base bs

-- what a byte counts in a number; one that is no digit is in none
abbrev pub counted : ℕ → ℕ
counted b = unwrap_or (digit_of b) 0

-- the number that digits write, those of n before them
unfoldable pub value_from : ℕ → ℕ → List ℕ → ℕ
value_from base n [] = n
value_from base n (b ∷ bs) = value_from base (n * base + counted b) bs

-- a number of 32 bits in one digit or more
unfoldable pub number_in : ℕ → List ℕ → Option ℕ
number_in base field =
    cond (ltb 0 (length field) && digits base field && ltb (value_from base 0 field) (2 ^ 32)) (Some (value_from base 0 field)) None

-- "in decimal without leading zeros"
unfoldable pub decimal_in : List ℕ → Option ℕ
decimal_in field = cond (ltb 1 (length field) && eqb (get_or field 0 0) 0x30) None (number_in 10 field)
