-- `hex` meets its contract: the digits of base 16 are std's.
use Rattle.std.proofs.Common.{rules}
use Rattle.std.proofs.lemmas.Iterator.{YieldsList-from_slice}
use Rattle.std.proofs.lemmas.Iterator.Search.{all_from_yields_List}
use Rattle.std.specs.Char.{is_ascii_hexdigit}
use borrow.Author.Tests.{tests}
use Rattle.numerals.proofs.Digits.{hex_digits}
use Rattle.hex_pairs.proofs.hex.Goals as goal

pub returns : goal.returns
returns c =
    rw hex_digits
    (all_from_yields_List is_ascii_hexdigit _ _ _ c.all.ensures.ran (YieldsList-from_slice c.args.s.now cc) (λ x b q k. search (rules, tests)))
