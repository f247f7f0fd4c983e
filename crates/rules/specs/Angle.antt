-- Angle and zero, with items 2 and 5 of 02.
use Rattle.std.specs.Prelude.{Bool, cond, ℕ, suc, ◌+◌, ◌*◌, ◌-◌, ◌/◌, ◌%◌, eqb, ℤ, pos, neg_ℤ, nat_abs, ◌+ℤ◌, ◌-ℤ◌, Result, Ok, Err}
use Rattle.std.specs.Int.Signed.{lt_z}
use Rattle.rules.specs.declared.aborts.Abort.{Abort}
use Rattle.rules.specs.declared.aborts.Abort.TheVariants.{WrongValue, AxisNotGood}
use Rattle.rules.specs.declared.parts.Reading.{Reading}
use Rattle.rules.specs.declared.settings.AxisSettings.{AxisSettings}
use Rattle.rules.specs.Numbers.{minus, fits}
use Rattle.rules.specs.State.{good}

-- bit 0 and bit 1 of 6011
abbrev pub reversed : ℕ → Bool
reversed operating = eqb (operating % 2) 1

abbrev pub shifted : ℕ → Bool
shifted operating = eqb (operating / 2 % 2) 1

-- a size over r, rounded: half of r is added before it is cut, so that a half goes up
abbrev pub rounded : ℕ → ℕ → ℕ
rounded size r = (2 * size + r) / (2 * r)

-- "m / r rounded to the nearest whole number, halves away from zero": rounded by its size, with its sign
unfoldable pub steps : ℤ → ℕ → ℤ
steps m r = cond (lt_z m (pos 0)) (minus (rounded (nat_abs m) r)) (pos (rounded (nat_abs m) r))

-- "q is to be s times m / r rounded", "s is −1 where bit 0 of 6011 is set, else 1"
unfoldable pub q : ℤ → ℕ → ℕ → ℤ
q m r operating = cond (reversed operating) (neg_ℤ (steps m r)) (steps m r)

-- "brought into" −end to end "at the nearer end"
abbrev pub nearer : ℕ → ℤ → ℤ
nearer end z = cond (lt_z z (minus end)) (minus end) (cond (lt_z (pos end) z) (pos end) z)

-- "The angle is q, plus offset plus differential offset where bit 1 is set"
unfoldable pub sum : ℤ → ℕ → ℕ → ℤ → ℤ → ℤ
sum m r operating offset differential =
    cond (shifted operating) (q m r operating +ℤ offset +ℤ differential) (q m r operating)

-- what is left of a number when whole turns are taken from it or added to it: from 0 to below a turn
abbrev pub rest : ℕ → ℤ → ℕ
rest turn (ℤ.pos n) = n % turn
rest turn (ℤ.negsuc n) = turn - suc (n % turn)

-- "moved by whole turns (360,000 / r) until it is above −180,000 / r and at most 180,000 / r": whole turns go out of its way up to 180,000 / r
unfoldable pub turned : ℕ → ℤ → ℤ
turned r z = pos (180000 / r) -ℤ pos (rest (360000 / r) (pos (180000 / r) -ℤ z))

-- "Where bit 1 of 6011 is set, the sum is first moved by whole turns"
abbrev pub turned_if_shifted : ℕ → ℕ → ℤ → ℤ
turned_if_shifted r operating z = cond (shifted operating) (turned r z) z

-- "and then brought into −32,767 to 32,767 at the nearer end"; turned or not, "clamping applies as before"
unfoldable pub angle : ℤ → ℕ → ℕ → ℤ → ℤ → ℤ
angle m r operating offset differential = nearer 32767 (turned_if_shifted r operating (sum m r operating offset differential))

-- "An axis that is none or faulty shows −32,768 in the PDO"
unfoldable pub shown : Reading → ℕ → AxisSettings → ℤ
shown x r s = cond (eqb x.state good) (angle x.m r s.operating s.offset s.differential) (minus 32768)

-- "offset = preset − q − differential offset"
unfoldable pub offset : ℤ → ℕ → ℕ → ℤ → ℤ → ℤ
offset m r operating differential preset = preset -ℤ q m r operating -ℤ differential

-- "refused exactly if the axis is not good (08000022h), or else if the offset would not fit 16 signed bits (06090030h)"
unfoldable pub zeroed : Reading → ℕ → ℕ → ℤ → ℤ → Result ℤ Abort
zeroed x r operating differential preset =
    let o = offset x.m r operating differential preset in
    cond (eqb x.state good) (cond (fits 16 o) (Ok o) (Err WrongValue)) (Err AxisNotGood)
