-- What "rounded to the nearest whole number, halves away from zero" asks of a number, apart from how the number is worked out.
use Rattle.std.specs.Prelude.{◌≡◌, ℕ, ◌*◌, ◌≤◌, ◌<◌, ℤ, pos, nat_abs, ◌-ℤ◌, ◌*ℤ◌}

-- how far m is from t times r
abbrev pub away : ℤ → ℕ → ℤ → ℕ
away m r t = nat_abs (m -ℤ t *ℤ pos r)

-- t is at most a half from m / r, and where it is a half, the size of t is above that of m / r
abbrev pub Rounded : ℤ → ℕ → ℤ → Type 0
Rounded m r t = (2 * away m r t ≤ r) × (2 * away m r t ≡ r → nat_abs m < nat_abs t * r)
