-- A line that was collected in constant memory says what the whole line says.
use Rattle.std.specs.Prelude.{◌≡◌, cond, List, [], ℕ, leb, take, Result, Err}
use Rattle.texts.specs.declared.Text.{Text}
use Rattle.texts.specs.Texts.{longer_by, text_of}
use Rattle.frame_lines.specs.declared.Parsed.{Parsed}
use Rattle.lines.specs.declared.Malformed.{Malformed}
use Rattle.lines.specs.Reading.{parsed}

-- what is held is read; the mark of a longer line is none of the forms
unfoldable pub text_collected : Text → Result Parsed Malformed
text_collected t = cond (leb t.length 32) (parsed (take t.length t.bytes)) (Err (record {}))

-- from the empty text, one byte after the other, for a line of any length
abbrev pub Collected : Type 0
Collected = (line : List ℕ) → text_collected (longer_by line (text_of [])) ≡ parsed line
