-- The number so far, carried on over the digits left, is that of all.
use Rattle.std.proofs.Common.{drop, ◌≡◌, ◌<◌, ◌^◌}
use Rattle.numerals.specs.Numerals.{digits, value_from}
use Rattle.numerals.proofs.number_in.Given as goal

abbrev pub invariant-loop-b : goal.invariant-loop-b
invariant-loop-b l = record {
  in_range : l.n < 2 ^ 32;
  digits : digits l.base (drop l.b-index l.s) ≡ digits l.base l.s;
  value : value_from l.base l.n (drop l.b-index l.s) ≡ value_from l.base 0 l.s;
}
