-- A request leaves every cell that it does not write, its channel's transfer and the counts apart.
use Rattle.std.specs.Prelude.{Result, Ok, Err, Option}
use mathlib.Core.Path.{◌≡◌, refl, subst}
use mathlib.Core.Bool.{Bool, true, false, cond, ◌&&◌, ◌||◌}
use mathlib.Core.List.{List}
use Prim.Native.Nat.{ℕ}
use lib.Dec.{T}
use lib.IntN.{ℤ}
use Rattle.rules.proofs.BySetting.{valued, zeroed_at, on_setting}
use Rattle.rules.proofs.EachOutcome.{each_outcome}
use Rattle.rules.proofs.Named.{Names, named}
use Rattle.rules.proofs.Selection.{service-apart}
use Rattle.rules.specs.declared.aborts.Abort.{Abort}
use Rattle.rules.specs.declared.errors.ErrorList.{ErrorList}
use Rattle.rules.specs.declared.journal.Origin.{Origin}
use Rattle.rules.specs.declared.journal.Origin.TheVariants.{Saved, Loaded}
use Rattle.rules.specs.declared.objects.Axis.{Axis}
use Rattle.rules.specs.declared.objects.Axis.TheVariants.{X, Y}
use Rattle.rules.specs.declared.objects.Channel.{Channel}
use Rattle.rules.specs.declared.objects.Channel.TheVariants.{One, Two}
use Rattle.rules.specs.declared.objects.Object.{Object}
use Rattle.rules.specs.declared.objects.Object.TheVariants.{Const, ErrorCount, ErrorEntry, Name, Save, Load, Filled, Angle, Of}
use Rattle.rules.specs.declared.objects.Setting.{Setting}
use Rattle.rules.specs.declared.objects.Setting.TheVariants.{Heartbeat, Pdo, Resolution, Operating, Preset, Offset, Differential}
use Rattle.rules.specs.declared.parts.Transfer.{Transfer}
use Rattle.rules.specs.declared.requests.Caller.TheVariants.{Client}
use Rattle.rules.specs.declared.requests.Change.{Change}
use Rattle.rules.specs.declared.requests.Change.TheVariants.{Keep, Put, Fill}
use Rattle.rules.specs.declared.requests.Command.{Command}
use Rattle.rules.specs.declared.requests.Command.TheVariants.{Write}
use Rattle.rules.specs.declared.settings.Settings.{Settings}
use Rattle.rules.specs.Numbers.{signed}
use Rattle.rules.specs.Objects.{same_setting, setting_row, row_of, object_at}
use Rattle.rules.specs.Requests.{command, index_of, subindex_of, value_for}
use Rattle.rules.specs.Service.{Kept, outcome, on_errors, on_kept, on_transfer}
use Rattle.rules.specs.Settings.{Held}
use Rattle.rules.specs.State.{State}
use Rattle.rules.specs.Writes.{zeroed_by, zero_change, setting_write, change}
use Rattle.interleaving.proofs.Acts.{act}
use Rattle.interleaving.proofs.Cells.{Cell, running, errors, kept, heartbeat, pdo, transfer, axis, lss, rest, Content}
use Rattle.interleaving.proofs.Members.{writes_by}
use Rattle.interleaving.proofs.Uses.{same_channel, object_of, is_write, alters_of}
use Rattle.interleaving.specs.ReadsWrites.{journal, is}

-- what a change leaves: of the settings, the error list and what only a save, a load or a store changes, all that command and numbers do not write
pub record Leaves (k : Command) (i s : ℕ) (e : Change) : Type 0 where
  pub running : (t : Setting) (x : Held t) → (T (writes_by k i s (object_of t)) → ⊥) → on_setting e t x ≡ x
  pub errors : (x : ErrorList) → (T (is_write k && is i s 0x1003 0) → ⊥) → on_errors e x ≡ x
  pub kept : (t : Settings) (x : Kept) → (T (writes_by k i s journal) → ⊥) → on_kept e t x ≡ x

keep-leaves : (k : Command) (i s : ℕ) → Leaves k i s Keep
keep-leaves k i s = record { running = λ t x h. refl; errors = λ x h. refl; kept = λ t x h. refl }

module _ (given : Option ℕ) where
  abbrev Written : Object → Change → Type 0
  Written o e = Leaves (Write given) (row_of o).index (row_of o).subindex e

  -- "Write: its object"
  put-leaves : (s : Setting) (v : ℕ) → Written (Of s) (Put s v)
  put-leaves s v = record {
    running = λ t x h. unless t x (same_setting t s) _ h;
    errors = λ x h. refl;
    kept = λ t x h. refl;
  }
    where
      unless : (t : Setting) (x : Held t) (a b : Bool) → (T (a || b) → ⊥) → cond a (valued t v) x ≡ x
      unless t x true b h = absurd (h tt)
      unless t x false b h = refl

  -- "6012 also … writes 6013"
  zero-leaves : (a : Axis) (preset offset : ℤ) (t : Setting) (x : Held t) →
      (T (writes_by (Write given) (setting_row (Preset a)).index 0 (object_of t)) → ⊥) → zeroed_at a preset offset t x ≡ x
  zero-leaves a preset offset Heartbeat x h = refl
  zero-leaves a preset offset (Pdo n p) x h = refl
  zero-leaves a preset offset Resolution x h = refl
  zero-leaves a preset offset (Operating b) x h = refl
  zero-leaves X preset offset (Preset X) x h = absurd (h tt)
  zero-leaves X preset offset (Preset Y) x h = refl
  zero-leaves Y preset offset (Preset X) x h = refl
  zero-leaves Y preset offset (Preset Y) x h = absurd (h tt)
  zero-leaves X preset offset (Offset X) x h = absurd (h tt)
  zero-leaves X preset offset (Offset Y) x h = refl
  zero-leaves Y preset offset (Offset X) x h = refl
  zero-leaves Y preset offset (Offset Y) x h = absurd (h tt)
  zero-leaves a preset offset (Differential b) x h = refl

  preset-leaves : (a : Axis) (v : ℕ) (z : Result ℤ Abort) → Written (Of (Preset a)) (zero_change a v z)
  preset-leaves a v (Ok offset) = record { running = zero-leaves a (signed 16 v) offset; errors = λ x h. refl; kept = λ t x h. refl }
  preset-leaves a v (Err why) = keep-leaves (Write given) _ 0

  module _ (c : Channel) (v : ℕ) (u : State) where
    setting-leaves : (s : Setting) → Written (Of s) ((setting_write s v u).change c)
    setting-leaves Heartbeat = put-leaves Heartbeat v
    setting-leaves (Pdo n p) = put-leaves (Pdo n p) v
    setting-leaves Resolution = put-leaves Resolution v
    setting-leaves (Operating a) = put-leaves (Operating a) v
    setting-leaves (Preset a) = preset-leaves a v (zeroed_by a v u)
    setting-leaves (Offset a) = keep-leaves (Write given) _ 0
    setting-leaves (Differential a) = put-leaves (Differential a) v

    -- "1010:1 … writes the journal; 1011:1 writes the journal"
    fill_leaves : (o : Object) (from : Origin) → T (writes_by (Write given) (row_of o).index (row_of o).subindex journal) → Written o (Fill from)
    fill_leaves o from w = record { running = λ s x h. refl; errors = λ x h. refl; kept = λ t x h. absurd (h w) }

    -- "1003:0 all of 1003"
    change-leaves : (o : Object) → Written o (change c o v u)
    change-leaves (Const f) = keep-leaves (Write given) _ _
    change-leaves ErrorCount = record { running = λ t x h. refl; errors = λ x h. absurd (h tt); kept = λ t x h. refl }
    change-leaves (ErrorEntry n) = keep-leaves (Write given) _ n
    change-leaves Name = keep-leaves (Write given) _ _
    change-leaves Save = fill_leaves Save (Saved c) tt
    change-leaves Load = fill_leaves Load (Loaded c) tt
    change-leaves Filled = keep-leaves (Write given) _ _
    change-leaves (Angle a) = keep-leaves (Write given) _ _
    change-leaves (Of s) = setting-leaves s

-- the outcome of a request
module _ (c : Channel) (request : List ℕ) (u : State) where
  abbrev Left : Change → Type 0
  Left e = Leaves (command request) (index_of request) (subindex_of request) e

  wrote-leaves : (given : Option ℕ) (o : Object) (v : ℕ) → command request ≡ Write given → object_at (index_of request) (subindex_of request) ≡ Ok o → Left (change c o v u)
  wrote-leaves given o v p q =
      let n = subst (λ (f : Result Object Abort). Names f (index_of request) (subindex_of request)) q (named (index_of request) (subindex_of request)) in
      rw (p, n.0, n.1) (change-leaves given c v u o)

  outcome-leaves : Left (outcome c request u).change
  outcome-leaves =
      let keeps = keep-leaves (command request) (index_of request) (subindex_of request) in
      each_outcome c request u (λ o. Left o.change)
      (record {
        aborted = λ code. keeps;
        wrote = λ given o p q pass. wrote-leaves given o (value_for o request) p q;
        number = λ size n. keeps;
        text = keeps;
        first = keeps;
        last = keeps;
        toggle = keeps;
        missing = keeps;
        ended = keeps;
        unserved = keeps;
      })

transfer-left : (c b : Channel) (next x : Transfer) → (T (same_channel c b) → ⊥) → on_transfer (Client c) b next x ≡ x
transfer-left One One next x h = absurd (h tt)
transfer-left One Two next x h = refl
transfer-left Two One next x h = refl
transfer-left Two Two next x h = absurd (h tt)

pub outcome-left : (c : Channel) (request : List ℕ) (u : State) (t : Settings) (cell : Cell) (x : Content cell) →
    (T (alters_of c request cell) → ⊥) → act c (outcome c request u) t cell x ≡ x
outcome-left c request u t (running s) x h = (outcome-leaves c request u).running s x h
outcome-left c request u t errors x h = (outcome-leaves c request u).errors x h
outcome-left c request u t kept x h = (outcome-leaves c request u).kept t x h
outcome-left c request u t heartbeat x h = absurd (h tt)
outcome-left c request u t (pdo n) x h = absurd (h tt)
outcome-left c request u t (transfer b) x h = transfer-left c b (outcome c request u).transfer x h
outcome-left c request u t (axis a) x h = refl
outcome-left c request u t lss x h = service-apart c u x request
outcome-left c request u t rest x h = refl
