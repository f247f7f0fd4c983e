-- The text so far has the pairs of the bytes passed.
use Rattle.std.proofs.Common.{◌≡◌, take}
use Rattle.printing.specs.Printing.{pairs}
use Rattle.texts.specs.Texts.{longer_by}
use Rattle.printing.proofs.with_pairs.Given as goal

abbrev pub invariant-loop-b : goal.invariant-loop-b
invariant-loop-b l = l.longer ≡ longer_by (pairs (take l.b-index l.bytes)) l.initial.longer
