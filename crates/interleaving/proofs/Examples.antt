-- The example, computed.
use mathlib.Core.Path.{refl}
use Rattle.rules.specs.Angle.{steps, q, sum, turned, angle}
use Rattle.rules.specs.Block.{body, block}
use Rattle.rules.specs.Events.{on_request, on_frame, event}
use Rattle.rules.specs.Numbers.{two_at, four_at}
use Rattle.rules.specs.Objects.{find}
use Rattle.rules.specs.Ranges.{errors_ok, axis_ok, in_range}
use Rattle.rules.specs.Reads.{angle_read}
use Rattle.rules.specs.Replies.{reply}
use Rattle.rules.specs.Requests.{command_of}
use Rattle.rules.specs.Settings.{in_table}
use Rattle.rules.specs.Writes.{length_check, room_check}
use Rattle.interleaving.proofs.Apart.{runs-apart}
use Rattle.interleaving.specs.Device.{device}
use Rattle.interleaving.specs.Examples.{ones, twos, WriteAndRead}
use Rattle.interleaving.specs.Runs.{only, end_of, answers}

pub write_and_read : WriteAndRead
unfolding only end_of answers event device in_range in_table errors_ok axis_ok on_frame on_request command_of two_at four_at find length_check room_check body block reply angle_read angle turned sum q steps
write_and_read = ((refl, refl), runs-apart ones twos refl, (refl, refl), refl, refl, refl, refl)
