-- The sum is moved by whole turns into the range of one turn, and to no other number; what is in that range stays; the range of the angle.
use mathlib.Core.Path.{◌≡◌, refl, sym, ◌∙◌, ap}
use mathlib.Core.Bool.{Bool, true, false}
use Prim.Native.Nat.{ℕ, zero, suc, ◌+◌, ◌*◌, ◌-◌, ◌/◌, ◌%◌, ◌≤◌, ◌<◌}
use native.Mathlib.Nat.{mod-add-div', mod-lt, mod-eq_of_lt, add-mul-mod_self_right}
use native.Mathlib.Omega.{arith}
use borrow.Author.Tests.{leb-true, le-leb, ltb-true, ltb-false, lt-ltb}
use lib.Dec.{ltb}
use lib.IntN.{ℤ, pos, negsuc, ◌+ℤ◌, ◌-ℤ◌, ◌*ℤ◌, +ℤ_assoc, +ℤ_comm, +ℤ_idr, +ℤ-neg_ℤ_cancel, -ℤ-+ℤ_cancel}
use Rattle.laws.proofs.Bools.{cond-each}
use Rattle.laws.proofs.Signed.{taken-within, taken-beyond}
use Rattle.rules.proofs.Ranges.{each-resolution}
use Rattle.rules.specs.declared.objects.Setting.TheVariants.{Resolution}
use Rattle.rules.specs.Angle.{shifted, q, nearer, sum, rest, turned, turned_if_shifted, angle}
use Rattle.rules.specs.Numbers.{minus, between_ℤ}
use Rattle.rules.specs.Settings.{within}
use Rattle.rules.specs.Turning.{InTurn, Turned}

-- what lies between h and z in two parts, taken in the other order
parts : (h z d w : ℤ) → h -ℤ z ≡ d +ℤ w → h ≡ z +ℤ w +ℤ d
parts h z d w e = sym (-ℤ-+ℤ_cancel h z) ∙ ap (λ x. x +ℤ z) e ∙ +ℤ_comm (d +ℤ w) z ∙ ap (λ x. z +ℤ x) (+ℤ_comm d w) ∙ sym (+ℤ_assoc z w d)

across : (h z d w : ℤ) → h -ℤ z ≡ d +ℤ w → h -ℤ d ≡ z +ℤ w
across h z d w e = ap (λ x. x -ℤ d) (parts h z d w e) ∙ +ℤ-neg_ℤ_cancel (z +ℤ w) d

there_and_back : (h t : ℤ) → h -ℤ (h -ℤ t) ≡ t
there_and_back h t = across h t (h -ℤ t) (pos 0) (sym (+ℤ_idr (h -ℤ t))) ∙ +ℤ_idr t

-- whole turns and what is left make the number, and what is left is below a turn
whole : (turn : ℕ) (z : ℤ) → 0 < turn → (k : ℤ) × (z ≡ pos (rest turn z) +ℤ k *ℤ pos turn)
whole turn (pos n) h = (pos (n / turn), ap pos (sym (mod-add-div' n turn)))
whole turn (negsuc n) h =
    let left = mod-lt n h in
    let back = taken-beyond (turn - suc (n % turn)) (suc (n / turn) * turn) (omega (arith, left)) in
    (negsuc (n / turn), sym (back ∙ ap negsuc (omega (arith, left, mod-add-div' n turn))))

below-turn : (turn : ℕ) (z : ℤ) → 0 < turn → rest turn z < turn
below-turn turn (pos n) h = mod-lt n h
below-turn turn (negsuc n) h = omega arith

-- and it is what was there before the turns
left_again : (turn b : ℕ) (k : ℤ) → b < turn → rest turn (pos b +ℤ k *ℤ pos turn) ≡ b
left_again turn b (pos j) h = add-mul-mod_self_right b j turn ∙ mod-eq_of_lt h
left_again turn b (negsuc j) h =
    let under : suc j * turn - suc b ≡ (turn - suc b) + j * turn = omega arith in
    let left : (suc j * turn - suc b) % turn ≡ turn - suc b = ap (λ n. n % turn) under ∙ add-mul-mod_self_right (turn - suc b) j turn ∙ mod-eq_of_lt (omega arith) in
    ap (rest turn) (taken-beyond b (suc j * turn) (omega arith)) ∙ omega (arith, left)

-- the way from a number of the range up to its end is below a turn, and what is so far below its end is in the range
way : (half : ℕ) (t : ℤ) → 0 < half → InTurn half t → (b : ℕ) × (b < 2 * half) × (pos half -ℤ t ≡ pos b)
way half (pos n) h (e, f) = (half - n, omega arith, taken-within half n (leb-true n half f))
way (suc half) (negsuc n) h (e, f) = (suc half + suc n, omega (arith, ltb-true n half e), refl)
way zero (negsuc n) h e = absurd (omega arith)

far : (half d : ℕ) → half < d → d < 2 * half → InTurn half (negsuc (d - suc half))
far (suc half) d a b = (lt-ltb (d - suc (suc half)) half (omega arith), refl)
far zero d a b = absurd (omega arith)

near : (half d : ℕ) → 0 < half → InTurn half (pos (half - d))
near (suc half) d h = (refl, le-leb (suc half - d) (suc half) (omega arith))
near zero d h = absurd (omega arith)

reached : (half d : ℕ) (t : Bool) → ltb half d ≡ t → d < 2 * half → InTurn half (pos half -ℤ pos d)
reached half d true e h = rw (taken-beyond half d (ltb-true half d e)) (far half d (ltb-true half d e) h)
reached half d false e h = rw (taken-within half d (ltb-false half d e)) (near half d (omega arith))

-- a turn is two halves, not 0 and at most 360,000
pub two_halves : (r : ℕ) → within Resolution r ≡ true → 360000 / r ≡ 2 * (180000 / r)
two_halves = each-resolution (λ r. 360000 / r ≡ 2 * (180000 / r)) refl refl refl refl

pub some_turn : (r : ℕ) → within Resolution r ≡ true → 0 < 360000 / r
some_turn = each-resolution (λ r. 0 < 360000 / r) (omega arith) (omega arith) (omega arith) (omega arith)

pub most-turn : (r : ℕ) → within Resolution r ≡ true → 360000 / r ≤ 360000
most-turn = each-resolution (λ r. 360000 / r ≤ 360000) (omega arith) (omega arith) (omega arith) (omega arith)

-- the sum so moved is what the paper asks for
pub turns : (r : ℕ) (z : ℤ) → within Resolution r ≡ true → Turned r z (turned r z)
unfolding turned
turns r z w =
    let half = 180000 / r in
    let turn = 360000 / r in
    let left = rest turn (pos half -ℤ z) in
    let (k, up) = whole turn (pos half -ℤ z) (some_turn r w) in
    let inside : left < 2 * half = omega (arith, below-turn turn (pos half -ℤ z) (some_turn r w), two_halves r w) in
    (reached half left _ refl inside, (k, across (pos half) z (pos left) (k *ℤ pos turn) up))

-- and no other number is
pub only : (r : ℕ) (z t : ℤ) → within Resolution r ≡ true → Turned r z t → t ≡ turned r z
unfolding turned
only r z t w (into, (k, by-turns)) =
    let half = 180000 / r in
    let turn = 360000 / r in
    let (b, inside, up) = way half t (omega (arith, some_turn r w, two_halves r w)) into in
    let down : pos half -ℤ pos b ≡ t = ap (λ x. pos half -ℤ x) (sym up) ∙ there_and_back (pos half) t in
    let again = across (pos half) (pos b) z (k *ℤ pos turn) (down ∙ by-turns) in
    let left : rest turn (pos half -ℤ z) ≡ b = ap (rest turn) again ∙ left_again turn b k (omega (arith, two_halves r w)) in
    sym (ap (λ n. pos half -ℤ pos n) left ∙ down)

-- what is in the range stays
pub stays : (r : ℕ) (z : ℤ) → within Resolution r ≡ true → InTurn (180000 / r) z → turned r z ≡ z
stays r z w h = sym (only r z z w (h, (pos 0, sym (ap (λ n. z +ℤ pos n) (omega arith) ∙ +ℤ_idr z))))

-- with bit 1 clear nothing moves
pub clear_stays : (m : ℤ) (r operating : ℕ) (offset differential : ℤ) → shifted operating ≡ false → angle m r operating offset differential ≡ nearer 32767 (q m r operating)
unfolding angle sum
clear_stays m r operating offset differential e = simp e

-- moved or not, the angle is from −32,767 to 32,767
abbrev Held : ℤ → Type 0
Held z = between_ℤ (minus 32767) (pos 32767) z ≡ true

brought_in : (z : ℤ) → Held (nearer 32767 z)
brought_in (pos n) = cond-each Held (ltb 32767 n) (λ e. refl) (λ e. le-leb n 32767 (ltb-false 32767 n e))
brought_in (negsuc n) = cond-each Held (ltb 32766 n) (λ e. refl) (λ e. simp (le-leb n 32766 (ltb-false 32766 n e)))

pub angle-range : (m : ℤ) (r operating : ℕ) (offset differential : ℤ) → between_ℤ (minus 32767) (pos 32767) (angle m r operating offset differential) ≡ true
unfolding angle
angle-range m r operating offset differential = brought_in (turned_if_shifted r operating (sum m r operating offset differential))
