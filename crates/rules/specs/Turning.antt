-- What "moved by whole turns until it is above −180,000 / r and at most 180,000 / r" asks of a number, apart from how the number is worked out.
use Rattle.std.specs.Prelude.{◌≡◌, true, ℕ, ◌/◌, ℤ, pos, ◌+ℤ◌, ◌*ℤ◌}
use Rattle.std.specs.Int.Signed.{lt_z, le_z}
use Rattle.rules.specs.Numbers.{minus}

-- above −half and at most half
abbrev pub InTurn : ℕ → ℤ → Type 0
InTurn half t = (lt_z (minus half) t ≡ true) × (le_z t (pos half) ≡ true)

-- t is above −180,000 / r and at most 180,000 / r, and z moved by k whole turns for some k
abbrev pub Turned : ℕ → ℤ → ℤ → Type 0
Turned r z t = InTurn (180000 / r) t × ((k : ℤ) × (t ≡ z +ℤ k *ℤ pos (360000 / r)))
