-- The frames that the device sends.
use Rattle.std.specs.Prelude.{List, [], ◌∷◌, ◌++◌, ℕ, ◌+◌, length, take, replicate, Option, Some, None}
use Rattle.rules.specs.declared.events.Frame.{Frame}
use Rattle.rules.specs.declared.objects.Channel.{Channel}
use Rattle.rules.specs.declared.objects.Channel.TheVariants.{One, Two}
use Rattle.rules.specs.declared.objects.PdoNumber.{PdoNumber}
use Rattle.rules.specs.declared.objects.PdoNumber.TheVariants.{First}
use Rattle.rules.specs.declared.parts.Reading.{Reading}
use Rattle.rules.specs.declared.requests.Caller.{Caller}
use Rattle.rules.specs.declared.requests.Caller.TheVariants.{Client, Master}
use Rattle.rules.specs.declared.settings.Settings.{Settings}
use Rattle.rules.specs.Numbers.{two, unsigned}
use Rattle.rules.specs.Angle.{shown}

-- an identifier and up to eight bytes; what stands past the bytes is 0
abbrev pub frame : ℕ → List ℕ → Frame
frame identifier bytes = record { identifier = identifier; length = length bytes; bytes = take 8 (bytes ++ replicate 8 0) }

-- no frame: all zero
abbrev pub no_frame : Frame
no_frame = frame 0 []

-- where a channel's requests come and its replies go: 1200 and 1201
abbrev pub requests_at : Channel → ℕ
requests_at One = 0x600
requests_at Two = 0x680

abbrev pub replies_at : Channel → ℕ
replies_at One = 0x580
replies_at Two = 0x6B0

-- "boot-up (700h+node, 00h)"
abbrev pub boot_up_frame : ℕ → Frame
boot_up_frame node = frame (0x700 + node) (0 ∷ [])

-- "one heartbeat (state 4, 5 or 127)"
abbrev pub heartbeat_frame : ℕ → ℕ → Frame
heartbeat_frame node network = frame (0x700 + node) (network ∷ [])

-- "EMCY: 80h+node, code, register, five zeros"
abbrev pub emergency_frame : ℕ → ℕ → ℕ → Frame
emergency_frame node code register = frame (0x80 + node) (two code ++ register ∷ 0 ∷ 0 ∷ 0 ∷ 0 ∷ 0 ∷ [])

-- "PDO: 180h+node, X then Y, 4 bytes"; by the PDO's number
abbrev pub pdo_at : PdoNumber → ℕ
pdo_at First = 0x180

unfoldable pub pdo_frame : PdoNumber → ℕ → Reading → Reading → Settings → Frame
pdo_frame n node x y s =
    frame (pdo_at n + node)
    (two (unsigned 16 (shown x s.resolution s.x)) ++ two (unsigned 16 (shown y s.resolution s.y)))

-- a reply to its caller: on a service channel, or at 7E4h, whatever the node: "request 7E5h, reply 7E4h"
abbrev pub request_at : Caller → ℕ → ℕ
request_at (Client c) node = requests_at c + node
request_at Master node = 0x7E5

abbrev pub reply_at : Caller → ℕ → ℕ
reply_at (Client c) node = replies_at c + node
reply_at Master node = 0x7E4

abbrev pub reply_frame : Caller → ℕ → List ℕ → Frame
reply_frame c node bytes = frame (reply_at c node) bytes

-- what is sent of a reply, or of none
abbrev pub reply_frames : Caller → ℕ → Option (List ℕ) → List Frame
reply_frames c node (Some bytes) = reply_frame c node bytes ∷ []
reply_frames c node None = []
