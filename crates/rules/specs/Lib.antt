-- Documents 01 and 02 as definitions: the sections of 01 in their order, and what items 1 to 3 of 02 change.
--
-- How to read them. Words in "…" are the paper's. A definition is a name with its type behind `:` (arguments, `→`, what it gives) and one line
-- for each case, a case of an enum beginning with a capital; `abbrev` and `unfoldable` only tell the prover when to look inside.
--   ℕ, ℤ, Bool, List A     numbers from 0, whole numbers (`pos n`, `minus n`), true or false, lists
--   [], x ∷ l, a ++ b      the empty list, one that begins with x, one list behind another
--   get_or l i 0           the element at i, counted from 0; 0 past the end
--   take, drop, replicate  the first elements of a list, those behind them, one element many times
--   cond t a b             a where the test t is true, else b
--   eqb, ltb, leb          tests: equal, below, at most; `&&`, `||`, `not` join them
--   record { f = v }, u.f  a record with its fields, and a field of a record
--   let x = a in b, λ x. b b with x for a; what b is for any x
--   Ok x, Err e            what a `Result` holds: a value, or why there is none; `Some x`, `None`: a value or none
--   a ≡ b, A × B, ¬ A      statements: both are the same; both hold; A does not
-- What stands in a module named `declared` is a type of the code, in `src/`.
-- "low byte first"
pub mod Numbers
-- The device and what moves it
pub mod State
pub mod Results
pub mod PowerOn
pub mod Events
pub mod Ranges
-- Objects
pub mod Objects
pub mod Settings
-- Angle and zero
pub mod Angle
pub mod Rounding
pub mod Turning
-- Service channels
pub mod Requests
pub mod Aborts
pub mod Writes
pub mod Reads
pub mod Replies
pub mod Service
-- 02, item 1: node number by LSS
pub mod Lss
-- Network, heartbeat, PDO, errors
pub mod Network
pub mod Time
pub mod Errors
pub mod Readings
pub mod Frames
-- The journal
pub mod Check
pub mod Block
pub mod Journal
pub mod Acknowledged
-- 02, item 3: who set this zero?
pub mod Origins
pub mod OriginTexts
pub mod Brings
-- What a request reads and writes: `crates/interleaving/specs/ReadsWrites.antt`
-- Sample values
pub mod Samples
