-- A collected line says what the whole line says: up to 32 bytes it is held whole, and a longer one is none of the forms.
use mathlib.Core.Path.{◌≡◌, refl}
use mathlib.Core.Bool.{Bool, true, false}
use mathlib.Core.List.{List}
use Prim.Native.Nat.{ℕ, ◌<◌, ◌≤◌}
use borrow.Author.Tests.{leb-true, leb-false}
use lib.Dec.{leb}
use lib.ListN.{length}
use Rattle.texts.proofs.Longer.{beyond, held, longer-by}
use Rattle.texts.specs.Texts.{text_of}
use Rattle.lines.specs.Collecting.{Collected, text_collected}
use Rattle.lines.specs.Reading.{parsed}
use Rattle.lines.proofs.Long.{too_long}

text-read : (line : List ℕ) (t : Bool) → leb (length line) 32 ≡ t → text_collected (text_of line) ≡ parsed line
unfolding text_collected
text-read line true e =
    let few : length line ≤ 32 = leb-true (length line) 32 e in
    rw ((held line few).1, (held line few).0, e)
text-read line false e =
    let many : 32 < length line = leb-false (length line) 32 e in
    rw (beyond line many, too_long line many)

pub collected : Collected
collected line = rw longer-by (text-read line (leb (length line) 32) refl)
