-- "running ones wait for a reset": a save, a load or a store leaves the running settings.
use mathlib.Core.Path.{◌≡◌, refl}
use Rattle.rules.specs.declared.requests.Change.TheVariants.{Fill}
use Rattle.rules.specs.declared.settings.Settings.{Settings}
use Rattle.rules.specs.Service.{running_after}
use Rattle.rules.specs.declared.journal.Origin.{Origin}

pub fill_waits : (o : Origin) (t : Settings) → running_after (Fill o) t ≡ t
fill_waits o t = refl
