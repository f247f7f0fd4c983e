-- Laws of what is printed: bytes are printed one by one.
use mathlib.Core.Path.{◌≡◌}
use mathlib.Core.List.{List, []}
use Prim.Native.Nat.{ℕ, ◌+◌, ◌<◌}
use lib.ListN.{length, get_or, take}
use Rattle.std.proofs.lemmas.List.{flat_map_more, take_more}
use Rattle.texts.specs.declared.Text.{Text}
use Rattle.printing.specs.Printing.{pair, pairs}
use Rattle.texts.specs.Texts.{longer_by}
use Rattle.texts.proofs.Longer.{longer-append}

-- one byte more
pub byte_more : (l : List ℕ) (i : ℕ) (t : Text) → i < length l → longer_by (pair (get_or l i 0)) (longer_by (pairs (take i l)) t) ≡ longer_by (pairs (take (i + 1) l)) t
byte_more l i t h = rw (take_more l i 0 h, ← flat_map_more pair [] (take i l) (get_or l i 0), longer-append)
