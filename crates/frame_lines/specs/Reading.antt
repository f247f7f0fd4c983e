-- What a line says that brings a frame.
use Rattle.std.specs.Prelude.{Bool, false, cond, ◌&&◌, List, [], ℕ, ◌+◌, ◌/◌, ◌%◌, eqb, leb, length, take, drop, position, Option, Some, None, option_map}
use Rattle.laws.specs.Lists.{elements}
use Rattle.rules.specs.declared.events.Event.TheVariants.{Received}
use Rattle.rules.specs.Numbers.{between}
use Rattle.numerals.specs.Numerals.{digits, number_in}
use Rattle.hex_pairs.specs.Pairs.{bytes_in}
use Rattle.plain_lines.specs.declared.Line.{Line}
use Rattle.plain_lines.specs.declared.Line.TheVariants.{Happens}
use Rattle.frame_lines.specs.declared.Parsed.{Parsed}

-- a line that brings no bytes
abbrev pub plain : Line → Parsed
plain line = record { line = line; bytes = elements 8 0 []; length = 0 }

-- where the first blank stands
abbrev pub first_blank : List ℕ → Option ℕ
first_blank field = position (λ b. eqb b 0x20) field

-- "an identifier of 1 to 8 hex digits"
unfoldable pub identifier_in : List ℕ → Option ℕ
identifier_in field = cond (leb (length field) 8) (number_in 16 field) None

-- "1 to 9 bytes as joined hex pairs"
unfoldable pub joined : List ℕ → Bool
joined field = digits 16 field && eqb (length field % 2) 0 && between 1 9 (length field / 2)

-- a frame that is not remote, with its first eight bytes and their count
abbrev pub received : ℕ → List ℕ → ℕ → Parsed
received n bytes count = record { line = Happens (Received (record { identifier = n; remote = false })); bytes = bytes; length = count }

-- without an identifier there is none
abbrev pub frame_of : Option ℕ → List ℕ → Option Parsed
frame_of number bytes = option_map (λ n. received n (elements 8 0 bytes) (length bytes)) number

-- "F, an identifier … and, if any, 1 to 9 bytes": the identifier alone, or a blank and bytes behind it
abbrev pub fields_read : List ℕ → Option ℕ → Option Parsed
fields_read field None = frame_of (identifier_in field) []
fields_read field (Some n) =
    cond (joined (drop (n + 1) field)) (frame_of (identifier_in (take n field)) (bytes_in (drop (n + 1) field))) None

unfoldable pub frame_read : List ℕ → Option Parsed
frame_read field = fields_read field (first_blank field)
