-- Service channels, replies: writes, reads, aborts and segments, eight bytes each.
use Rattle.std.specs.Prelude.{cond, List, [], ◌∷◌, ◌++◌, ℕ, ◌+◌, ◌*◌, ◌-◌, eqb, length, take, drop, get_or, replicate}
use Rattle.rules.specs.declared.aborts.Abort.{Abort}
use Rattle.rules.specs.declared.aborts.Abort.TheVariants.{WrongToggle, UnknownCommand}
use Rattle.rules.specs.Aborts.{abort_code}
use Rattle.rules.specs.Numbers.{four}

-- "Their bytes 1 to 3 repeat the request's; unused bytes are 0"
unfoldable pub reply : ℕ → List ℕ → ℕ → List ℕ
reply first request n = first ∷ get_or request 1 0 ∷ get_or request 2 0 ∷ get_or request 3 0 ∷ four n

-- "write 60h"
abbrev pub written : List ℕ → List ℕ
written request = reply 0x60 request 0

-- "reads 4Fh, 4Bh, 43h" by the length of 1, 2 and 4 bytes
abbrev pub read_first : ℕ → ℕ
read_first size = cond (eqb size 1) 0x4F (cond (eqb size 2) 0x4B 0x43)

abbrev pub read_number : ℕ → List ℕ → ℕ → List ℕ
read_number size request n = reply (read_first size) request n

-- `BASINTILT2`
abbrev pub name : List ℕ
name = 66 ∷ 65 ∷ 83 ∷ 73 ∷ 78 ∷ 84 ∷ 73 ∷ 76 ∷ 84 ∷ 50 ∷ []

-- "the string 41h with its size"
abbrev pub read_text : List ℕ → List ℕ
read_text request = reply 0x41 request (length name)

-- "An abort reply is 80h, the three bytes, the code"
abbrev pub aborted : List ℕ → Abort → List ℕ
aborted request why = reply 0x80 request (abort_code why)

-- "A segment has text from byte 1; its first byte is 16 × toggle + 2 × (7 − bytes) + 1 if last"
abbrev pub segment : ℕ → ℕ → List ℕ → List ℕ
segment toggle last text = (16 * toggle + 2 * (7 - length text) + last) ∷ take 7 (text ++ replicate 7 0)

abbrev pub first_segment : List ℕ
first_segment = segment 0 0 (take 7 name)

abbrev pub last_segment : List ℕ
last_segment = segment 1 1 (drop 7 name)

-- "Wrong toggle: 05030000h, naming the transfer's object": 1008:0
abbrev pub wrong_toggle : List ℕ
wrong_toggle = 0x80 ∷ 0x08 ∷ 0x10 ∷ 0 ∷ four (abort_code WrongToggle)

-- "No transfer: 05040001h with bytes 1 to 3 zero"
abbrev pub no_transfer : List ℕ
no_transfer = 0x80 ∷ 0 ∷ 0 ∷ 0 ∷ four (abort_code UnknownCommand)
