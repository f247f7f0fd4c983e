-- Sample values (a) to (l), with item 2 of 02, and turned angles of item 5, one table.
use Rattle.std.specs.Prelude.{◌≡◌, Bool, true, false, List, [], ◌∷◌, ℕ, ℤ, pos, get_or, Result, Ok, Err}
use Rattle.std.specs.Result.{result_map_both}
use Rattle.rules.specs.declared.objects.PdoNumber.TheVariants.{First}
use Rattle.rules.specs.declared.objects.PdoSetting.TheVariants.{Transmission}
use Rattle.rules.specs.declared.objects.Setting.TheVariants.{Heartbeat, Pdo}
use Rattle.rules.specs.Aborts.{abort_code}
use Rattle.rules.specs.Angle.{angle, zeroed}
use Rattle.rules.specs.Numbers.{minus}
use Rattle.rules.specs.Replies.{first_segment, last_segment}
use Rattle.rules.specs.Settings.{within}
use Rattle.rules.specs.State.{good}

pub data Sample : Type 0 where
  shows : ℤ → Sample
  zeroes : Result ℤ ℕ → Sample
  passes : Bool → Sample
  begins : ℕ → Sample

-- the angle of m at r with the bits of 6011 and an offset, and a preset on a good axis, refused by its abort code
abbrev pub angle_of : ℤ → ℕ → ℕ → ℤ → Sample
angle_of m r operating offset = shows (angle m r operating offset (pos 0))

abbrev pub preset_on : ℤ → ℕ → ℤ → Sample
preset_on m r preset = zeroes (result_map_both (λ o. o) abort_code (zeroed (record { state = good; m = m }) r 0 (pos 0) preset))

-- what is asked, (a) to (l) in their order; then with bit 1: half a turn either way, 91 turns either way, and at r 1 past half a turn either way
abbrev pub asked : List Sample
asked =
    angle_of (pos 12345) 10 0 (pos 0) ∷ angle_of (pos 12345) 10 1 (pos 0) ∷ angle_of (minus 19) 10 0 (pos 0) ∷
    angle_of (pos 180000) 1 0 (pos 0) ∷ angle_of (minus 180000) 1 0 (pos 0) ∷
    preset_on (pos 12345) 10 (pos 0) ∷ angle_of (pos 12345) 10 2 (minus 1235) ∷
    preset_on (pos 32000) 1 (minus 768) ∷ preset_on (pos 32000) 1 (minus 769) ∷
    passes (within Heartbeat 0) ∷ passes (within Heartbeat 25) ∷ passes (within Heartbeat 24) ∷
    passes (within (Pdo First Transmission) 240) ∷ passes (within (Pdo First Transmission) 254) ∷ passes (within (Pdo First Transmission) 0) ∷
    passes (within (Pdo First Transmission) 241) ∷ passes (within (Pdo First Transmission) 253) ∷
    begins (get_or first_segment 0 0) ∷ begins (get_or last_segment 0 0) ∷
    angle_of (minus 180000) 10 2 (pos 0) ∷ angle_of (pos 180000) 10 2 (pos 0) ∷
    angle_of (pos 0) 1000 2 (pos 32767) ∷ angle_of (pos 0) 1000 2 (minus 32768) ∷
    angle_of (pos 180000) 1 2 (pos 32767) ∷ angle_of (minus 180000) 1 2 (minus 32767) ∷ []

-- what the paper says of (a) to (l), and what follows from item 5
abbrev pub told : List Sample
told =
    shows (pos 1235) ∷ shows (minus 1235) ∷ shows (minus 2) ∷
    shows (pos 32767) ∷ shows (minus 32767) ∷
    zeroes (Ok (minus 1235)) ∷ shows (pos 0) ∷
    zeroes (Ok (minus 32768)) ∷ zeroes (Err 0x06090030) ∷
    passes true ∷ passes true ∷ passes false ∷
    passes true ∷ passes true ∷ passes false ∷
    passes false ∷ passes false ∷
    begins 0x00 ∷ begins 0x19 ∷
    shows (pos 18000) ∷ shows (pos 18000) ∷
    shows (pos 7) ∷ shows (minus 8) ∷
    shows (minus 32767) ∷ shows (pos 32767) ∷ []

abbrev pub Samples : Type 0
Samples = asked ≡ told
