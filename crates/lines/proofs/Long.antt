-- A line longer than 32 bytes is none of the forms.
use mathlib.Core.Path.{◌≡◌}
use mathlib.Core.List.{List}
use Prim.Native.Nat.{ℕ, ◌<◌}
use native.Mathlib.Omega.{arith}
use lib.ListN.{length, get_or, drop, length-drop}
use Rattle.std.specs.Prelude.{None, Err}
use Rattle.frame_lines.proofs.Long.{frame-long}
use Rattle.plain_lines.proofs.Long.{line-long, same}
use Rattle.lines.specs.Reading.{form, parsed}

form-long : (s : List ℕ) → 29 < length s → (letter : ℕ) → form letter s ≡ None
unfolding form
form-long s long letter = simp (frame-long s long, line-long s long, same)

pub too_long : (line : List ℕ) → 32 < length line → parsed line ≡ Err (record {})
unfolding parsed
too_long line h =
    let long : 29 < length (drop 2 line) = simp length-drop (omega arith) in
    rw (form-long (drop 2 line) long (get_or line 0 0), same)
