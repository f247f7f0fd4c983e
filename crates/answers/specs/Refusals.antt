-- The refusal table's numbers: "journal length", "frame identifier over 7FFh or length over 8", "device record has a field outside its range", "node number not 1 to 47".
use Rattle.std.specs.Prelude.{ℕ}
use Rattle.answers.specs.declared.refusal.Refusal.{Refusal}
use Rattle.answers.specs.declared.refusal.Refusal.TheVariants.{WrongLength, WrongFrame, OutOfRange, WrongNode}

abbrev pub refusal_number : Refusal → ℕ
refusal_number WrongLength = 1
refusal_number WrongFrame = 2
refusal_number OutOfRange = 3
refusal_number WrongNode = 4
