-- Demand 3 is not empty: two runs that are apart, and write and read, one object on both channels.
use Rattle.std.specs.Prelude.{◌≡◌, false, List, [], ◌∷◌, ℕ}
use Rattle.rules.specs.declared.objects.Channel.TheVariants.{One, Two}
use Rattle.rules.specs.Events.{NotRefused, event}
use Rattle.rules.specs.Frames.{frame}
use Rattle.interleaving.specs.Demand3.{RunsApart}
use Rattle.interleaving.specs.Device.{device, read_frame, write_frame, load_frame}
use Rattle.interleaving.specs.Runs.{RunFrame, Turn, turn, Interleaves, Answer, end_of, answers}

-- one answer to a request
abbrev pub reply_to : ℕ → List ℕ → Answer
reply_to identifier bytes = (0, frame identifier bytes ∷ [])

-- the requests: 1800:2 to 1, 1800:5 to 50 ms, load, and reads of 6010 and 2100
abbrev pub write_type : RunFrame
write_type = write_frame 0x1800 2 1

abbrev pub write_timer : RunFrame
write_timer = write_frame 0x1800 5 50

abbrev pub read_angle : RunFrame
read_angle = read_frame 0x6010 0

abbrev pub read_filled : RunFrame
read_filled = read_frame 0x2100 0

-- a write of 6000 that is cut short: no request, so it is apart from a read of 6010
abbrev pub cut_short : RunFrame
cut_short = record { remote = false; bytes = (write_frame 0x6000 0 1).bytes; length = 6 }

abbrev pub ones : List RunFrame
ones = write_type ∷ read_angle ∷ []

abbrev pub twos : List RunFrame
twos = cut_short ∷ write_timer ∷ load_frame ∷ read_filled ∷ read_angle ∷ []

abbrev pub turns : List Turn
turns = turn Two cut_short ∷ turn One write_type ∷ turn Two write_timer ∷ turn Two load_frame ∷ turn One read_angle ∷ turn Two read_filled ∷ turn Two read_angle ∷ []

-- channel 1 gets: written, and an angle of 7 steps
abbrev pub to_one : List Answer
to_one = reply_to 0x581 (0x60 ∷ 0x00 ∷ 0x18 ∷ 2 ∷ 0 ∷ 0 ∷ 0 ∷ 0 ∷ []) ∷ reply_to 0x581 (0x4B ∷ 0x10 ∷ 0x60 ∷ 0 ∷ 7 ∷ 0 ∷ 0 ∷ 0 ∷ []) ∷ []

-- channel 2 gets: nothing, written, loaded, one filled block, and the angle
abbrev pub to_two : List Answer
to_two =
    (0, []) ∷
    reply_to 0x6B1 (0x60 ∷ 0x00 ∷ 0x18 ∷ 5 ∷ 0 ∷ 0 ∷ 0 ∷ 0 ∷ []) ∷
    reply_to 0x6B1 (0x60 ∷ 0x11 ∷ 0x10 ∷ 1 ∷ 0 ∷ 0 ∷ 0 ∷ 0 ∷ []) ∷
    reply_to 0x6B1 (0x4B ∷ 0x00 ∷ 0x21 ∷ 0 ∷ 1 ∷ 0 ∷ 0 ∷ 0 ∷ []) ∷
    reply_to 0x6B1 (0x4B ∷ 0x10 ∷ 0x60 ∷ 0 ∷ 7 ∷ 0 ∷ 0 ∷ 0 ∷ []) ∷ []

-- demand 3 speaks of them, both write and read, and all of it is done
abbrev pub WriteAndRead : Type 0
WriteAndRead =
    NotRefused device × RunsApart ones twos × Interleaves turns ones twos ×
    (answers event 1 One turns device ≡ to_one) ×
    (answers event 1 Two turns device ≡ to_two) ×
    ((end_of event 1 turns device).running.pdo ≡ record { on = 1; transmission = 1; timer = 50 }) ×
    ((end_of event 1 turns device).saves.filled ≡ 1)
