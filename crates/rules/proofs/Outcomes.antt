-- What is known of the change that a request makes: its values are in their ranges, and a block to fill is left.
use mathlib.Core.Path.{◌≡◌, refl}
use mathlib.Core.Bool.{Bool, true, false}
use mathlib.Core.List.{List}
use Prim.Native.Nat.{ℕ, ◌<◌, ◌^◌}
use native.Mathlib.Nat.{mod-lt, one-le-pow}
use native.Mathlib.Omega.{arith}
use lib.Dec.{eqb, ltb, leb}
use lib.IntN.{ℤ}
use Rattle.std.specs.Prelude.{Result, Ok, Err, Option}
use borrow.Author.Tests.{eqb-true, ltb-true}
use Rattle.laws.proofs.Bools.{cond_both, cond-each}
use Rattle.rules.specs.declared.journal.Origin.{Origin}
use Rattle.rules.specs.declared.journal.Origin.TheVariants.{Saved, Loaded, Stored}
use Rattle.rules.specs.declared.objects.Axis.{Axis}
use Rattle.rules.specs.declared.objects.Channel.{Channel}
use Rattle.rules.specs.declared.objects.Object.{Object}
use Rattle.rules.specs.declared.objects.Object.TheVariants.{Const, ErrorCount, ErrorEntry, Name, Save, Load, Filled, Angle, Of}
use Rattle.rules.specs.declared.objects.PdoSetting.TheVariants.{On, Transmission, Timer}
use Rattle.rules.specs.declared.objects.Setting.{Setting}
use Rattle.rules.specs.declared.objects.Setting.TheVariants.{Heartbeat, Pdo, Resolution, Operating, Preset, Offset, Differential}
use Rattle.rules.specs.declared.parts.Reading.{Reading}
use Rattle.rules.specs.declared.requests.Caller.{Caller}
use Rattle.rules.specs.declared.requests.Caller.TheVariants.{Client, Master}
use Rattle.rules.specs.declared.requests.Change.{Change}
use Rattle.rules.specs.declared.requests.Change.TheVariants.{Keep, Put, Zero, Empty, Configure, Fill}
use Rattle.rules.specs.declared.requests.Outcome.{Outcome}
use Rattle.rules.specs.declared.aborts.Abort.{Abort}
use Rattle.rules.specs.declared.aborts.Abort.TheVariants.{JournalFull, ReadOnly, JournalSpoiled, WrongValue}
use Rattle.rules.specs.Angle.{offset, zeroed}
use Rattle.rules.specs.Events.{outcome_for}
use Rattle.rules.specs.Lss.{lss_outcome}
use Rattle.rules.specs.Numbers.{four_at, fits, signed}
use Rattle.rules.specs.Objects.{row_of, setting_row}
use Rattle.rules.specs.Ranges.{transfer_ok, lss_ok}
use Rattle.rules.specs.Requests.{value_for}
use Rattle.rules.specs.Service.{outcome, carrying}
use Rattle.rules.specs.Settings.{within, pdo_within, axis_settings}
use Rattle.rules.specs.State.{State, good, reading, transfer_of, node_or_none, last_set}
use Rattle.rules.specs.Writes.{Check, ◌then◌, unless, length_check, room_check, zeroed_by, zero_change, setting_write, write_of, write_check, change}
use Rattle.rules.proofs.BySetting.{valued}
use Rattle.rules.proofs.EachLss.{each_lss}
use Rattle.rules.proofs.EachOutcome.{each_outcome}
use Rattle.rules.proofs.InRange.{InRange}
use Rattle.rules.proofs.Nodes.{node-small, last_set_lem}
use Rattle.rules.proofs.Ranges.{signed-fits}

-- a store stores a node number
abbrev pub Numbered : Origin → Type 0
Numbered (Saved c) = Unit {0}
Numbered (Loaded c) = Unit {0}
Numbered (Stored node) = node_or_none node ≡ true

pub carrying_in : (o : Origin) (was : ℕ) → Numbered o → node_or_none was ≡ true → node_or_none (carrying o was) ≡ true
carrying_in (Saved c) was n h = h
carrying_in (Loaded c) was n h = h
carrying_in (Stored node) was n h = n

-- what a change may be in a state: a value is in its setting's length and range, LSS in its range, and a block is filled where one is left
abbrev pub Allowed : State → Change → Type 0
Allowed u Keep = Unit {0}
Allowed u (Put s v) = (v < 256 ^ (setting_row s).size) × (within s (valued s v) ≡ true)
Allowed u (Zero a preset offset) = (fits 16 preset ≡ true) × (fits 16 offset ≡ true)
Allowed u Empty = Unit {0}
Allowed u (Configure l) = lss_ok l ≡ true
Allowed u (Fill o) = (u.saves.filled < u.saves.blocks) × (u.saves.spoiled ≡ 0) × Numbered o

-- the first and the last check pass where the whole chain does
pub passes-first : (v w : Check) → v then w ≡ Ok tt → v ≡ Ok tt
passes-first (Ok passed) w e = refl
passes-first (Err why) w e = let z : ◌≡◌ {A = ℕ} 0 1 = cc in absurd (omega arith)

pub passes-last : (v w : Check) → v then w ≡ Ok tt → w ≡ Ok tt
passes-last (Ok passed) w e = e
passes-last (Err why) w e = let z : ◌≡◌ {A = ℕ} 0 1 = cc in absurd (omega arith)

passes : (t : Bool) (why : Abort) → unless t why ≡ Ok tt → t ≡ true
passes true why e = refl
passes false why e = let z : ◌≡◌ {A = ℕ} 0 1 = cc in absurd (omega arith)

-- a value that is written is in its object's length
value-fits : (o : Object) (request : List ℕ) → value_for o request < 256 ^ (row_of o).size
value-fits o request = mod-lt (four_at request 4) (one-le-pow (row_of o).size 256 (omega arith))

-- an accepted value is in its setting's range
accepted_in : (u : State) (s : Setting) (v : ℕ) → v < 256 ^ (setting_row s).size → (setting_write s v u).value ≡ Ok tt → within s (valued s v) ≡ true
accepted_in u Heartbeat v h e = passes (within Heartbeat v) WrongValue e
accepted_in u (Pdo n On) v h e = cond_both (λ (n : ℕ). leb n 1 ≡ true) (ltb v 0x80000000) refl refl
accepted_in u (Pdo n Transmission) v h e = passes (pdo_within Transmission v) WrongValue e
accepted_in u (Pdo n Timer) v h e = passes (pdo_within Timer v) WrongValue e
accepted_in u Resolution v h e = passes (within Resolution v) WrongValue e
accepted_in u (Operating a) v h e = passes (within (Operating a) v) WrongValue e
accepted_in u (Preset a) v h e = signed-fits v h
accepted_in u (Offset a) v h e = signed-fits v h
accepted_in u (Differential a) v h e = signed-fits v h

-- an offset that is stored fits
abbrev ZeroFits : Result ℤ Abort → Type 0
ZeroFits (Ok offset) = fits 16 offset ≡ true
ZeroFits (Err why) = Unit {0}

zero-fits : (x : Reading) (r operating : ℕ) (differential preset : ℤ) → ZeroFits (zeroed x r operating differential preset)
unfolding zeroed
zero-fits x r operating differential preset =
    let o = offset x.m r operating differential preset in
    cond_both ZeroFits (eqb x.state good) (cond-each ZeroFits (fits 16 o) (λ e. e) (λ e. tt)) tt

module _ (u : State) where
  pub fill_allowed : (o : Origin) → Numbered o
      → room_check u.saves.spoiled u.saves.filled u.saves.blocks ≡ Ok tt → Allowed u (Fill o)
  unfolding room_check
  fill_allowed o numbered e =
      let whole = eqb u.saves.spoiled 0 in
      let free = ltb u.saves.filled u.saves.blocks in
      let first = unless whole JournalSpoiled in
      let last = unless free JournalFull in (
        ltb-true u.saves.filled u.saves.blocks (passes free JournalFull (passes-last first last e)),
        eqb-true u.saves.spoiled 0 (passes whole JournalSpoiled (passes-first first last e)),
        numbered,
      )

  zeroes : (a : Axis) (v : ℕ) (z : Result ℤ Abort) → v < 0x10000 → ZeroFits z → Allowed u (zero_change a v z)
  zeroes a v (Ok offset) h e = (signed-fits v h, e)
  zeroes a v (Err why) h e = tt

  sets : (c : Channel) (s : Setting) (v : ℕ) → v < 256 ^ (setting_row s).size → (setting_write s v u).value ≡ Ok tt → Allowed u ((setting_write s v u).change c)
  sets c Heartbeat v h e = (h, accepted_in u Heartbeat v h e)
  sets c (Pdo n p) v h e = (h, accepted_in u (Pdo n p) v h e)
  sets c Resolution v h e = (h, accepted_in u Resolution v h e)
  sets c (Operating a) v h e = (h, accepted_in u (Operating a) v h e)
  sets c (Preset a) v h e =
      let s = axis_settings a u.running in
      zeroes a v (zeroed_by a v u) h (zero-fits (reading a u) u.running.resolution s.operating s.differential (signed 16 v))
  sets c (Offset a) v h e = tt
  sets c (Differential a) v h e = (h, accepted_in u (Differential a) v h e)

  -- an object's change, where the value's check and the device state's pass
  changes : (c : Channel) (o : Object) (v : ℕ) → v < 256 ^ (row_of o).size → (write_of o v u).value ≡ Ok tt → (write_of o v u).state ≡ Ok tt → Allowed u (change c o v u)
  changes c (Const f) v h p e = tt
  changes c ErrorCount v h p e = tt
  changes c (ErrorEntry n) v h p e = tt
  changes c Name v h p e = tt
  changes c Save v h p e = fill_allowed (Saved c) tt e
  changes c Load v h p e = fill_allowed (Loaded c) tt e
  changes c Filled v h p e = tt
  changes c (Angle a) v h p e = tt
  changes c (Of s) v h p e = sets c s v h p

  -- an accepted write, whose checks all passed
  wrote : (c : Channel) (request : List ℕ) (given : Option ℕ) (o : Object) → write_check given o (value_for o request) u ≡ Ok tt → Allowed u (change c o (value_for o request) u)
  wrote c request given o e =
      let v = value_for o request in
      let state = (write_of o v u).state in
      let value = (write_of o v u).value in
      let long = length_check given (row_of o).size in
      let checked = passes-last long (value then state) (passes-last (unless (row_of o).writable ReadOnly) (long then value then state) e) in
      changes c o v (value-fits o request) (passes-first value state checked) (passes-last value state checked)

  client_allowed : (c : Channel) (request : List ℕ) → Allowed u (outcome c request u).change
  client_allowed c request =
      each_outcome c request u (λ (o : Outcome). Allowed u o.change)
      (record {
        aborted = λ code. tt;
        wrote = λ given o p q. wrote c request given o;
        number = λ size n. tt;
        text = tt;
        first = tt;
        last = tt;
        toggle = tt;
        missing = tt;
        ended = tt;
        unserved = tt;
      })

  -- an LSS request: LSS stays in its range, and a store's number is a node number
  master_allowed : (request : List ℕ) → InRange u → Allowed u (lss_outcome request u).change
  master_allowed request range =
      each_lss request u (λ (o : Outcome). Allowed u o.change)
      (record {
        silent = tt;
        changed = λ l h. h range.lss;
        configured = λ first l n h. h range.lss;
        answered = λ first n h. tt;
        stored = λ e. fill_allowed (Stored (last_set u)) (node-small (last_set u) (last_set_lem u range)) e;
      })

  pub allowed : (c : Caller) (request : List ℕ) → InRange u → Allowed u (outcome_for c request u).change
  allowed (Client c) request range = client_allowed c request
  allowed Master request range = master_allowed request range

  -- a channel's transfer stays absent, at the start or after seven bytes
  client_transfer : (c : Channel) (request : List ℕ) → transfer_ok (transfer_of c u) ≡ true → transfer_ok (outcome c request u).transfer ≡ true
  client_transfer c request h =
      each_outcome c request u (λ (o : Outcome). transfer_ok o.transfer ≡ true)
      (record {
        aborted = λ code. refl;
        wrote = λ given o p q e. refl;
        number = λ size n. refl;
        text = refl;
        first = refl;
        last = refl;
        toggle = refl;
        missing = refl;
        ended = refl;
        unserved = h;
      })

  pub transfer_in : (c : Caller) (request : List ℕ) → ((b : Channel) → transfer_ok (transfer_of b u) ≡ true) → transfer_ok (outcome_for c request u).transfer ≡ true
  transfer_in (Client c) request h = client_transfer c request (h c)
  transfer_in Master request h =
      each_lss request u (λ (o : Outcome). transfer_ok o.transfer ≡ true)
      (record { silent = refl; changed = λ l r. refl; configured = λ first l n r. refl; answered = λ first n r. refl; stored = λ e. refl })
