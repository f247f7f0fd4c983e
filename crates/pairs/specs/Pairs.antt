-- An index and a subindex as the papers write them, `6013:0`.
use Rattle.std.specs.Prelude.{cond, ◌&&◌, List, ℕ, eqb, ltb, leb, length, get_or, take, drop, Option, Some, None}
use Rattle.numerals.specs.Numerals.{number_in, decimal_in}
use Rattle.pairs.specs.declared.Pair.{Pair}

-- two numbers that are an index of 16 bits and a subindex of 8
abbrev pub joined : Option ℕ → Option ℕ → Option Pair
joined (Some index) (Some subindex) = cond (leb index 0xFFFF && leb subindex 0xFF) (Some (record { index = index; subindex = subindex })) None
joined (Some index) None = None
joined None second = None

-- four hex digits, a colon, 3Ah, and the subindex in decimal without leading zeros
unfoldable pub pair_in : List ℕ → Option Pair
pair_in word =
    cond (ltb (length word) 5) None
    (cond (eqb (get_or word 4 0) 0x3A) (joined (number_in 16 (take 4 word)) (decimal_in (drop 5 word))) None)
