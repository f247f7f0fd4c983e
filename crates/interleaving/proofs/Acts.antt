-- An outcome acts on each cell by itself.
use mathlib.Core.Path.{◌≡◌, ap}
use mathlib.Core.List.{[], ◌∷◌}
use Rattle.rules.proofs.BySetting.{on_setting, by-setting}
use Rattle.rules.specs.declared.objects.Channel.{Channel}
use Rattle.rules.specs.declared.objects.Channel.TheVariants.{One, Two}
use Rattle.rules.specs.declared.objects.PdoNumber.TheVariants.{First}
use Rattle.rules.specs.declared.requests.Caller.TheVariants.{Client}
use Rattle.rules.specs.declared.requests.Change.{Change}
use Rattle.rules.specs.declared.requests.Outcome.{Outcome}
use Rattle.rules.specs.declared.settings.Settings.{Settings}
use Rattle.rules.specs.Service.{on_errors, stores, kept_in, on_kept, on_heartbeat, on_counts, on_lss, on_transfer, state_after}
use Rattle.rules.specs.State.{State, transfer_of}
use Rattle.interleaving.proofs.Cells.{Cell, running, errors, kept, heartbeat, pdo, transfer, axis, lss, rest, Content, get, state_of}

-- the settings that stand beside a change, in a state
abbrev pub beside : Change → State → Settings
beside e u = stores e u.running u.saves.stored

-- with the settings that the outcome would store
abbrev pub act : Channel → Outcome → Settings → (k : Cell) → Content k → Content k
act c o t (running s) x = on_setting o.change s x
act c o t errors x = on_errors o.change x
act c o t kept x = on_kept o.change t x
act c o t heartbeat x = on_heartbeat o.change x
act c o t (pdo n) x = on_counts n o.change x
act c o t (transfer b) x = on_transfer (Client c) b o.transfer x
act c o t (axis a) x = x
act c o t lss x = on_lss o.change x
act c o t rest x = x

-- the running settings are given one by one, the other parts are the cells' already
pub after_acts_lem : (c : Channel) (o : Outcome) (u : State) → state_after (Client c) o u ≡ state_of (λ k. act c o (beside o.change u) k (get k u))
after_acts_lem c o u =
    let left = on_kept o.change (beside o.change u) (kept_in u) in
    ap (λ (t : Settings). record {
      node = u.node;
      identity = u.identity;
      network = u.network;
      lss = on_lss o.change u.lss;
      saves = record { blocks = u.saves.blocks; filled = left.filled; spoiled = u.saves.spoiled; node = left.node; stored = left.stored };
      running = t;
      errors = on_errors o.change u.errors;
      heartbeat = on_heartbeat o.change u.heartbeat;
      pdo = on_counts First o.change u.pdo;
      transfers = on_transfer (Client c) One o.transfer (transfer_of One u) ∷ on_transfer (Client c) Two o.transfer (transfer_of Two u) ∷ [];
      x = u.x;
      y = u.y;
      journal = left.journal;
    })
    (by-setting o.change u.running)
