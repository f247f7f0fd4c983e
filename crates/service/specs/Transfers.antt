-- The two transfers with a caller's own another.
use Rattle.std.specs.Prelude.{List, [], ◌∷◌, get_or}
use Rattle.rules.specs.declared.objects.Channel.TheVariants.{One, Two}
use Rattle.rules.specs.declared.parts.Transfer.{Transfer}
use Rattle.rules.specs.declared.requests.Caller.{Caller}
use Rattle.rules.specs.Service.{on_transfer}
use Rattle.rules.specs.State.{absent, transferring}

abbrev pub transfers_after : Caller → Transfer → List Transfer → List Transfer
transfers_after c t l = on_transfer c One t (get_or l 0 (transferring absent)) ∷ on_transfer c Two t (get_or l 1 (transferring absent)) ∷ []
