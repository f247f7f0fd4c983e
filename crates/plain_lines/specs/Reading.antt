-- What a line says that brings no bytes: "fields parted by one blank".
use Rattle.std.specs.Prelude.{cond, List, [], ◌∷◌, ℕ, ℤ, ◌^◌, eqb, leb, ltb, pos, get_or, drop, Option, Some, None, option_map}
use Rattle.rules.specs.declared.events.Event.TheVariants.{Tick, Measured}
use Rattle.rules.specs.declared.objects.Axis.{Axis}
use Rattle.rules.specs.declared.objects.Axis.TheVariants.{X, Y}
use Rattle.rules.specs.Numbers.{between, minus}
use Rattle.numerals.specs.Numerals.{decimal_in}
use Rattle.hex_pairs.specs.Pairs.{byte_of}
use Rattle.plain_lines.specs.declared.Line.{Line}
use Rattle.plain_lines.specs.declared.Line.TheVariants.{PowerOn, Happens}

-- "P and a node of two hex digits"
abbrev pub power_on_line : List ℕ → Option Line
power_on_line [] = None
power_on_line (high ∷ []) = None
power_on_line (high ∷ low ∷ []) = option_map PowerOn (byte_of high low)
power_on_line (high ∷ low ∷ more ∷ rest) = None

-- "T and 0 to 65,535"
abbrev pub tick_of : Option ℕ → Option Line
tick_of (Some n) = cond (leb n 65535) (Some (Happens (Tick n))) None
tick_of None = None

-- "X or Y and a 32-bit reading", "`-` before a negative"
abbrev pub positive : Option ℕ → Option ℤ
positive (Some n) = cond (ltb n (2 ^ 31)) (Some (pos n)) None
positive None = None

abbrev pub negative : Option ℕ → Option ℤ
negative (Some n) = cond (between 1 (2 ^ 31) n) (Some (minus n)) None
negative None = None

unfoldable pub measured_line : Axis → List ℕ → Option Line
measured_line axis field =
    option_map (λ reading. Happens (Measured axis reading))
    (cond (eqb (get_or field 0 0) 0x2D) (negative (decimal_in (drop 1 field))) (positive (decimal_in field)))

-- the letters P, T, X, Y, none of which brings bytes; none for a "line of none of the forms"
unfoldable pub line_of : ℕ → List ℕ → Option Line
line_of letter field =
    cond (eqb letter 0x50) (power_on_line field)
    (cond (eqb letter 0x54) (tick_of (decimal_in field))
    (cond (eqb letter 0x58) (measured_line X field)
    (cond (eqb letter 0x59) (measured_line Y field)
    None)))
