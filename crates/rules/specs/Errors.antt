-- Network, heartbeat, PDO, errors: the error list and the error register.
use Rattle.std.specs.Prelude.{cond, not, ◌||◌, [], ◌∷◌, ℕ, ◌+◌, eqb, ltb, take}
use Rattle.rules.specs.declared.errors.ErrorList.{ErrorList}
use Rattle.rules.specs.State.{faulty}

abbrev pub no_errors : ErrorList
no_errors = record { length = 0; codes = 0 ∷ 0 ∷ 0 ∷ 0 ∷ 0 ∷ [] }

-- "The list keeps five, the oldest falls out"
abbrev pub entered : ℕ → ErrorList → ErrorList
entered code l = record { length = cond (ltb l.length 5) (l.length + 1) 5; codes = code ∷ take 4 l.codes }

-- "Register: bit 5 an axis faulty, bit 7 journal spoiled, bit 0 at least one of these"
unfoldable pub register : ℕ → ℕ → ℕ → ℕ
register spoiled x y =
    let bad = not (eqb spoiled 0) in
    let axes = eqb x faulty || eqb y faulty in
    cond bad 128 0 + cond axes 32 0 + cond (bad || axes) 1 0
