-- What the trace program prints: "each frame as a three-digit identifier, blank, bytes, hex in capitals, or `R`, blank and the number".
use Rattle.std.specs.Prelude.{true, List, [], ◌∷◌, ◌++◌, ℕ, ◌/◌, ◌%◌, take}
use Rattle.std.specs.Fmt.{decimal, digit_glyph}
use Rattle.std.specs.List.{flat_map}
use Rattle.rules.specs.declared.events.Frame.{Frame}

abbrev pub line_feed : ℕ
line_feed = 0x0A

abbrev pub one_blank : ℕ
one_blank = 0x20

abbrev pub letter_r : ℕ
letter_r = 0x52

-- a digit, "hex in capitals": `0` is 30h, `A` is 41h
abbrev pub capital : ℕ → ℕ
capital n = digit_glyph true n

-- a byte as two digits, and bytes as joined pairs
abbrev pub pair : ℕ → List ℕ
pair b = capital (b / 16) ∷ capital (b % 16) ∷ []

abbrev pub pairs : List ℕ → List ℕ
pairs bytes = flat_map pair bytes

-- "a three-digit identifier, blank"; above FFFh the last three digits
abbrev pub heading : ℕ → List ℕ
heading identifier = capital (identifier / 256 % 16) ∷ pair (identifier % 256) ++ one_blank ∷ []

-- "bytes"
abbrev pub frame_line : Frame → List ℕ
frame_line f = heading f.identifier ++ pairs (take f.length f.bytes) ++ line_feed ∷ []

-- "`R`, blank and the number", in decimal
abbrev pub refusal_line : ℕ → List ℕ
refusal_line n = letter_r ∷ one_blank ∷ decimal n ++ line_feed ∷ []
