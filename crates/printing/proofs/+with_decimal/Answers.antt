-- `with_decimal` meets its contract: the last digit goes behind the tenth's.
use Rattle.std.proofs.Common.{◌≡◌, ◌<◌, ◌≤◌, ◌%◌, ◌^◌, arith, refl}
use Rattle.std.proofs.lemmas.Fmt.{decimal_digit, decimal_step}
use Rattle.texts.proofs.Longer.{longer-append}
use Rattle.printing.proofs.+with_decimal.Goals as goal

pub returns-then-n-lt10 : goal.returns-then-n-lt10
returns-then-n-lt10 t c =
    let n = c.args.n in
    let one : n < 10 = omega (arith, c.if-n-lt10.true) in
    let last : n % 10 ≡ n = omega arith in
    simp (c.with.ensures, last) (rw (decimal_digit n one) refl)

pub returns : goal.returns
returns t c =
    let n = c.args.n in
    let more : 10 ≤ n = omega (arith, c.if-n-lt10.false) in
    let small : n < 2 ^ 64 = omega arith in
    simp (c.with-2.ensures, c.with_decimal.ensures) (rw (decimal_step n more small, longer-append) refl)
