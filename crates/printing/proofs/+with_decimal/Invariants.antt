-- A tenth of a number is less.
use Rattle.printing.proofs.+with_decimal.Given as goal

abbrev pub decreases-with_decimal : goal.decreases-with_decimal
decreases-with_decimal l = l.n
