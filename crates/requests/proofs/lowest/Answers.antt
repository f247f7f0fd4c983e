-- `lowest` meets its contract: from four bytes on the number is below the power.
use Rattle.std.proofs.Common.{arith, ◌≡◌, ℕ, ◌<◌, ◌≤◌, ◌%◌, ◌^◌, sym}
use Rattle.requests.proofs.lowest.Goals as goal
use Rattle.std.proofs.Math.Nat.{mod-eq_of_lt, pow-le-pow_right, lt_of_lt_of_le}

-- a number of four bytes is itself in four bytes or more
all-four : (size n : ℕ) → 4 ≤ size → n < 256 ^ 4 → n ≡ n % 256 ^ size
all-four size n h f = sym (mod-eq_of_lt (lt_of_lt_of_le f (pow-le-pow_right {n = 256} (omega arith) h)))

pub returns-in_default : goal.returns-in_default
returns-in_default c = all-four c.args.size c.args.n (omega arith) (omega arith)
