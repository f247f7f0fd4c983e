-- `number_in` meets its contract: what stops the loop decides the number, and so does its end.
use Rattle.std.proofs.Common.{arith, ◌≡◌, ◌≤◌, get_or, ◌+◌, ◌*◌, ◌^◌, ◌<◌, length, drop, sym, ◌∙◌, ap, None, Some, unwrap_or, subst, rules}
use borrow.Author.Tests.{le-ltb, lt-ltb}
use Rattle.std.proofs.Math.Nat.{le_trans, mul-le-mul_left}
use Rattle.numerals.specs.Numerals.{below, digit_of, number_in, value_from}
use Rattle.numerals.proofs.Digits.{digits_end, digits_more, digits-not, no-digits, the_number, too_large, value_end, value_grows, value-more}
use Rattle.numerals.proofs.number_in.Goals as goal

pub returns-then-is_empty : goal.returns-then-is_empty
unfolding number_in
returns-then-is_empty c =
    let empty : length c.args.s.now ≡ 0 = search rules in
    rw empty

pub returns-in_err-digit : goal.returns-in_err-digit
returns-in_err-digit c =
    let l = c.loop-b in
    let a = c.args in
    let s = a.s.now in
    let none : digit_of (get_or s l.b-index 0) ≡ None = sym c.digit.ensures.value ∙ c.in_err-digit.was in
    c.from_residual.ensures ∙ sym (no-digits a.base s (sym l.invariant.digits ∙ digits-not a.base s l.b-index c.loop-b-test.true (ap (below a.base) none)))

pub returns-then-base-d : goal.returns-then-base-d
returns-then-base-d c =
    let l = c.loop-b in
    let a = c.args in
    let s = a.s.now in
    let some : digit_of (get_or s l.b-index 0) ≡ Some c.in_ok-digit.field-0 = sym c.digit.ensures.value ∙ c.in_ok-digit.was in
    let large : a.base ≤ c.in_ok-digit.field-0 = omega (arith, c.from-d.ensures, c.if-base-d.true) in
    sym (no-digits a.base s (sym l.invariant.digits ∙ digits-not a.base s l.b-index c.loop-b-test.true (ap (below a.base) some ∙ le-ltb _ _ large)))

pub overflow_mul-from : goal.overflow_mul-from
overflow_mul-from c =
    let sixteen : c.loop-b.n * c.args.base ≤ c.loop-b.n * 16 = mul-le-mul_left c.loop-b.n c.requires.1 in
    rw c.from.ensures (omega arith)

pub overflow_add-from : goal.overflow_add-from
overflow_add-from c =
    let sixteen : c.loop-b.n * c.args.base ≤ c.loop-b.n * 16 = mul-le-mul_left c.loop-b.n c.requires.1 in
    rw c.from.ensures (omega arith)

pub returns-in_err-n : goal.returns-in_err-n
returns-in_err-n c =
    let l = c.loop-b in
    let a = c.args in
    let s = a.s.now in
    let some : digit_of (get_or s l.b-index 0) ≡ Some c.in_ok-digit.field-0 = sym c.digit.ensures.value ∙ c.in_ok-digit.was in
    let more : value_from a.base l.n (drop l.b-index s) ≡ value_from a.base (l.n * a.base + c.in_ok-digit.field-0) (drop (l.b-index + 1) s) =
    value-more a.base l.n s l.b-index c.loop-b-test.true ∙ ap (λ o. value_from a.base (l.n * a.base + unwrap_or o 0) (drop (l.b-index + 1) s)) some in
    let large : 2 ^ 32 ≤ c.from.result * a.base + c.from-d.result = search rules in
    let same : c.from.result * a.base + c.from-d.result ≡ l.n * a.base + c.in_ok-digit.field-0 = rw (c.from.ensures, c.from-d.ensures) in
    let grown = value_grows a.base (l.n * a.base + c.in_ok-digit.field-0) (drop (l.b-index + 1) s) c.requires.0 in
    c.from_residual-in_err-n.ensures ∙ sym (too_large a.base s (rw (← l.invariant.value, more) (le_trans (subst (λ n. 2 ^ 32 ≤ n) same large) grown)))

pub loop-b-preserved : goal.loop-b-preserved
loop-b-preserved c =
    let l = c.loop-b in
    let a = c.args in
    let s = a.s.now in
    let some : digit_of (get_or s l.b-index 0) ≡ Some c.in_ok-digit.field-0 = sym c.digit.ensures.value ∙ c.in_ok-digit.was in
    let more : value_from a.base l.n (drop l.b-index s) ≡ value_from a.base (l.n * a.base + c.in_ok-digit.field-0) (drop (l.b-index + 1) s) =
    value-more a.base l.n s l.b-index c.loop-b-test.true ∙ ap (λ o. value_from a.base (l.n * a.base + unwrap_or o 0) (drop (l.b-index + 1) s)) some in
    let small : c.in_ok-digit.field-0 < a.base = omega (arith, c.from-d.ensures, c.if-base-d.false) in
    let sum : c.in_ok-n.n ≡ c.from.result * a.base + c.from-d.result = search rules in
    let same : c.from.result * a.base + c.from-d.result ≡ l.n * a.base + c.in_ok-digit.field-0 = rw (c.from.ensures, c.from-d.ensures) in
    record {
      in_range = search rules;
      digits = sym (digits_more a.base s l.b-index c.loop-b-test.true (ap (below a.base) some ∙ lt-ltb _ _ small)) ∙ l.invariant.digits;
      value = rw (sum, same) (sym more ∙ l.invariant.value);
    }

pub returns : goal.returns
returns c =
    let l = c.loop-b in
    let a = c.args in
    let s = a.s.now in
    let end : l.b-index ≡ length s = omega arith in
    let value : value_from a.base 0 s ≡ l.n = sym l.invariant.value ∙ value_end a.base l.n s l.b-index end in
    sym (the_number a.base s l.n (search rules) (sym l.invariant.digits ∙ digits_end a.base s l.b-index end) value (omega arith))
