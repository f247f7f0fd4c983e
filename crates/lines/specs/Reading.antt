-- What a line of the trace program says: "fields parted by one blank".
use Rattle.std.specs.Prelude.{cond, List, ℕ, eqb, get_or, drop, Option, None, Result, Ok, Err, ok_or, option_map}
use Rattle.frame_lines.specs.declared.Parsed.{Parsed}
use Rattle.frame_lines.specs.Reading.{frame_read, plain}
use Rattle.plain_lines.specs.Reading.{line_of}
use Rattle.lines.specs.declared.Malformed.{Malformed}

-- the letter F
unfoldable pub form : ℕ → List ℕ → Option Parsed
form letter field = cond (eqb letter 0x46) (frame_read field) (option_map plain (line_of letter field))

-- a letter, a blank, and the fields behind it
unfoldable pub parsed : List ℕ → Result Parsed Malformed
parsed line = ok_or (cond (eqb (get_or line 1 0) 0x20) (form (get_or line 0 0) (drop 2 line)) None) (record {})

-- "5 (trace program only) line of none of the forms under Sample values"; "0 accepted" as far as the form goes
abbrev pub line_refusal : Result Parsed Malformed → ℕ
line_refusal (Ok line) = 0
line_refusal (Err malformed) = 5
