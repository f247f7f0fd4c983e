-- A result of the rules as the device hands it back.
use Rattle.std.specs.Prelude.{◌≡◌, List, ℕ}
use Rattle.answers.specs.Answers.{answering}
use Rattle.answers.specs.declared.Answer.{Answer}
use Rattle.rules.specs.Results.{Result}
use Rattle.device.specs.declared.Device.{Device}
use Rattle.device.specs.declared.Stepped.{Stepped}
use Rattle.device.specs.Seen.{held}

abbrev pub stepped_of : Result → Stepped
stepped_of r = record { device = held r.state; answer = answering r.refusal r.sent }

-- the answer, and what a lent record holds then
abbrev pub Done : Result → Answer → Device → Type 0
Done r a d = (a ≡ answering r.refusal r.sent) × (d ≡ held r.state)

-- and what a journal lent beside it holds
abbrev pub DoneBeside : Result → Answer → Device → List ℕ → Type 0
DoneBeside r a d j = Done r a d × (j ≡ r.state.journal)
