-- A line of more than 29 bytes behind its letter and blank brings no frame.
use mathlib.Core.Path.{◌≡◌, refl}
use mathlib.Core.Bool.{Bool, true, false, cond}
use mathlib.Core.List.{List}
use Prim.Native.Nat.{ℕ, ◌+◌, ◌/◌, ◌≤◌, ◌<◌}
use native.Mathlib.Omega.{arith}
use borrow.Author.Tests.{leb-true, leb-false, lt-leb, ltb-true}
use lib.Dec.{eqb, leb, ltb}
use lib.ListN.{length, drop, length-drop}
use lib.Seq.{length-take-le}
use Rattle.std.specs.List.{position_or_len}
use Rattle.std.specs.Prelude.{None, Some}
use Rattle.numerals.proofs.Digits.{and-false, over}
use Rattle.plain_lines.proofs.Long.{same}
use Rattle.frame_lines.specs.Reading.{fields_read, frame_read, identifier_in, joined}

module _ (s : List ℕ) (long : 29 < length s) where
  alone : identifier_in s ≡ None
  unfolding identifier_in
  alone = rw (lt-leb (length s) 8 (omega arith))

  -- the identifier is too long, or what stands behind it is
  behind : (n : ℕ) → n < length s → fields_read s (Some n) ≡ None
  unfolding identifier_in joined
  behind n within = which (leb n 8) refl where
    which : (t : Bool) → leb n 8 ≡ t → fields_read s (Some n) ≡ None
    which true e =
        let few : n ≤ 8 = leb-true n 8 e in
        let many : 9 < length (drop (n + 1) s) / 2 = simp length-drop (omega arith) in
        rw (over 1 9 (length (drop (n + 1) s) / 2) many, and-false)
    which false e =
        let many : 8 < n = leb-false n 8 e in
        rw (length-take-le n s (omega arith), lt-leb n 8 many, same)

  fields : (n : ℕ) (t : Bool) → ltb n (length s) ≡ t → fields_read s (cond t (Some n) None) ≡ None
  fields n true e = behind n (ltb-true n (length s) e)
  fields n false e = rw alone

  pub frame-long : frame_read s ≡ None
  unfolding frame_read
  frame-long = fields (position_or_len (λ b. eqb b 0x20) s) _ refl
