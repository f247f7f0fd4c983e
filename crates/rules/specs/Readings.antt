-- Network, heartbeat, PDO, errors: a reading of an axis.
use Rattle.std.specs.Prelude.{Bool, cond, not, ◌&&◌, List, [], ◌∷◌, ℕ, eqb, ℤ}
use Rattle.rules.specs.declared.events.Frame.{Frame}
use Rattle.rules.specs.declared.objects.Axis.{Axis}
use Rattle.rules.specs.declared.objects.Axis.TheVariants.{X, Y}
use Rattle.rules.specs.declared.parts.Reading.{Reading}
use Rattle.rules.specs.Errors.{entered, register}
use Rattle.rules.specs.Frames.{emergency_frame}
use Rattle.rules.specs.Ranges.{inside}
use Rattle.rules.specs.Results.{Result, accepted}
use Rattle.rules.specs.State.{State, stopped, good, faulty, reading, with_reading}

-- "A reading outside ±180,000 makes the axis faulty and keeps the old m"
abbrev pub measured : ℤ → Reading → Reading
measured m x = cond (inside m) (record { state = good; m = m }) (record { state = faulty; m = x.m })

-- "if it was not faulty, code FF01h (X) or FF02h (Y) enters the list"
abbrev pub fault_code : Axis → ℕ
fault_code X = 0xFF01
fault_code Y = 0xFF02

abbrev pub fails : ℤ → Reading → Bool
fails m x = not (inside m) && not (eqb x.state faulty)

-- the register of a state
abbrev pub register_of : State → ℕ
register_of u = register u.saves.spoiled u.x.state u.y.state

-- "in Stopped it isn't sent, the list still grows"
abbrev pub if_not_stopped : ℕ → List Frame → List Frame
if_not_stopped network frames = cond (eqb network stopped) [] frames

-- an axis's new reading, with the list
abbrev pub with_measured : Axis → ℤ → State → State
with_measured a m u =
    with_reading a (measured m (reading a u)) (cond (fails m (reading a u)) (entered (fault_code a) u.errors) u.errors) u

-- "EMCY: … code, register"; "A good reading that brings the register to 0 sends code 0000h, not listed"
abbrev pub reading_frames : Axis → ℤ → State → State → List Frame
reading_frames a m u v =
    cond (fails m (reading a u)) (emergency_frame u.node (fault_code a) (register_of v) ∷ [])
    (cond (not (eqb (register_of u) 0) && eqb (register_of v) 0) (emergency_frame u.node 0 (register_of v) ∷ []) [])

unfoldable pub on_reading : Axis → ℤ → State → Result
on_reading a m u =
    let v = with_measured a m u in
    accepted v (if_not_stopped u.network (reading_frames a m u v))
