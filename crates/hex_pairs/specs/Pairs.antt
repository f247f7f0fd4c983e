-- Bytes as the lines write them.
use Rattle.std.specs.Prelude.{List, [], ◌∷◌, ℕ, ◌+◌, ◌*◌, Option, Some, None, unwrap_or}
use Rattle.numerals.specs.Numerals.{digit_of}

-- two digits
abbrev pub joined_digits : Option ℕ → Option ℕ → Option ℕ
joined_digits (Some high) (Some low) = Some (high * 16 + low)
joined_digits (Some high) None = None
joined_digits None low = None

-- the byte that two hex digits write
abbrev pub byte_of : ℕ → ℕ → Option ℕ
byte_of high low = joined_digits (digit_of high) (digit_of low)

-- "bytes as joined hex pairs"; a pair that writes no byte stands in none
unfoldable pub bytes_in : List ℕ → List ℕ
bytes_in [] = []
bytes_in (h ∷ []) = []
bytes_in (h ∷ l ∷ rest) = unwrap_or (byte_of h l) 0 ∷ bytes_in rest
