-- A line as it is held in constant memory.
use Rattle.std.specs.Prelude.{List, [], ◌∷◌, ℕ, ◌+◌, min, length, set}
use Rattle.laws.specs.Lists.{elements}
use Rattle.texts.specs.declared.Text.{Text}

-- the first 32 bytes, 0 past the end; every line longer than 32 bytes has the length 33
unfoldable pub text_of : List ℕ → Text
text_of line = record { bytes = elements 32 0 line; length = min (length line) 33 }

-- one byte more; past the last place nothing is stored
unfoldable pub longer : Text → ℕ → Text
longer t b = record { bytes = set t.bytes t.length b; length = min (t.length + 1) 33 }

-- bytes after it, in their order
abbrev pub longer_by : List ℕ → Text → Text
longer_by [] t = t
longer_by (b ∷ bs) t = longer_by bs (longer t b)
