-- A request's outcome depends on what the request reads and writes, on its channel's transfer and on what no request changes, alone.
use lib.IntN.{ℤ}
use Rattle.std.specs.Prelude.{Result, Ok, Err, Option}
use mathlib.Core.Path.{◌≡◌, refl, ap, sym, ◌∙◌, subst, subst₂}
use mathlib.Core.Bool.{Bool, false, cond, ◌||◌}
use mathlib.Core.List.{List}
use Prim.Native.Nat.{ℕ}
use lib.Dec.{T, eqb}
use Rattle.laws.proofs.Bools.{or_left, or_right}
use Rattle.rules.proofs.BySetting.{settings_of}
use Rattle.rules.proofs.EachOutcome.{each_outcome}
use Rattle.rules.proofs.Named.{Names, named}
use Rattle.rules.specs.declared.aborts.Abort.TheVariants.{ReadOnly, WrongSignature}
use Rattle.rules.specs.declared.aborts.Abort.{Abort}
use Rattle.rules.specs.declared.journal.Origin.{Origin}
use Rattle.rules.specs.declared.journal.Origin.TheVariants.{Saved, Loaded}
use Rattle.rules.specs.declared.objects.Axis.{Axis}
use Rattle.rules.specs.declared.objects.Axis.TheVariants.{X, Y}
use Rattle.rules.specs.declared.objects.Channel.{Channel}
use Rattle.rules.specs.declared.objects.Channel.TheVariants.{One, Two}
use Rattle.rules.specs.declared.objects.Object.{Object}
use Rattle.rules.specs.declared.objects.Object.TheVariants.{Const, ErrorCount, ErrorEntry, Name, Save, Load, Filled, Angle, Of}
use Rattle.rules.specs.declared.objects.PdoNumber.TheVariants.{First}
use Rattle.rules.specs.declared.objects.PdoSetting.TheVariants.{On, Transmission, Timer}
use Rattle.rules.specs.declared.objects.Setting.{Setting}
use Rattle.rules.specs.declared.objects.Setting.TheVariants.{Heartbeat, Pdo, Resolution, Operating, Preset, Offset, Differential}
use Rattle.rules.specs.declared.requests.Change.TheVariants.{Put, Fill}
use Rattle.rules.specs.declared.requests.Command.{Command}
use Rattle.rules.specs.declared.requests.Command.TheVariants.{Write, Read, Segment, End, Unknown}
use Rattle.rules.specs.declared.requests.Got.TheVariants.{Number}
use Rattle.rules.specs.declared.requests.Outcome.{Outcome}
use Rattle.rules.specs.Objects.{row_of, setting_row, object_at}
use Rattle.rules.specs.Reads.{read_of, setting_value}
use Rattle.rules.specs.Requests.{command, index_of, subindex_of, value_for}
use Rattle.rules.specs.Service.{on_write, on_command, on_read, on_segment, outcome, served, silent}
use Rattle.rules.specs.Settings.{factory}
use Rattle.rules.specs.State.{State}
use Rattle.rules.specs.Writes.{WriteRow, ◌then◌, unless, length_check, pdo_accepts, value_write, room_check, fill_write, zeroed_by, zero_change, preset_write, setting_write, write_of, change}
use Rattle.interleaving.proofs.Acts.{beside}
use Rattle.interleaving.proofs.Cells.{Cell, running, errors, kept, transfer, axis, rest, get}
use Rattle.interleaving.proofs.Members.{covers, reads_by, writes_by, its_own}
use Rattle.interleaving.proofs.Uses.{names, uses, uses_of}
use Rattle.interleaving.specs.ReadsWrites.{object, one}

-- two states alike in what a request uses
abbrev pub Alike : Channel → Command → ℕ → ℕ → State → State → Type 0
Alike c k i s u w = (cell : Cell) → T (uses c k i s cell) → get cell u ≡ get cell w

-- whoever names an object reads or writes it
pub own : (k : Command) (i s : ℕ) → T (names k) → T (reads_by k i s (object i s) || writes_by k i s (object i s))
own (Write given) i s t = or_right (reads_by (Write given) i s (object i s)) _ (or_left (covers (one i s) (object i s)) _ (its_own i s))
own Read i s t = or_left (reads_by Read i s (object i s)) false (or_left (covers (one i s) (object i s)) _ (its_own i s))
own (Segment toggle) i s t = absurd t
own End i s t = absurd t
own Unknown i s t = absurd t

module _ (c : Channel) (u w : State) where
  abbrev For : Command → Object → Type 0
  For k o = Alike c k (row_of o).index (row_of o).subindex u w

  -- what no request changes, field by field
  rest-alike : get rest u ≡ get rest w →
      (u.node ≡ w.node) × (u.identity ≡ w.identity) × (u.network ≡ w.network) × (u.saves.blocks ≡ w.saves.blocks) × (u.saves.spoiled ≡ w.saves.spoiled)
  rest-alike t = (λ i. (t i).node, λ i. (t i).identity, λ i. (t i).network, λ i. (t i).blocks, λ i. (t i).spoiled)

  -- a setting that a command on an object uses
  abbrev Uses : Command → Object → Setting → Type 0
  Uses k o s = T (uses c k (row_of o).index (row_of o).subindex (running s))

  -- "6010 also reads 6000, 6011, 6013, 6014; Y likewise"
  angle-uses : (a : Axis) →
      Uses Read (Angle a) Resolution × Uses Read (Angle a) (Operating a) × Uses Read (Angle a) (Offset a) × Uses Read (Angle a) (Differential a)
  angle-uses X = (tt, tt, tt, tt)
  angle-uses Y = (tt, tt, tt, tt)

  angle-alike : (a : Axis) → For Read (Angle a) → read_of (Angle a) u ≡ read_of (Angle a) w
  angle-alike a h =
      let t = angle-uses a in
      cc (h (axis a) tt, h (running Resolution) t.0, h (running (Operating a)) t.1, h (running (Offset a)) t.2, h (running (Differential a)) t.3)

  read_alike : (o : Object) → For Read o → read_of o u ≡ read_of o w
  read_alike (Const f) h = let t = rest-alike (h rest tt) in cc (t.0, t.1, t.3, t.4, h (axis X) tt, h (axis Y) tt)
  read_alike ErrorCount h = cc (h errors tt)
  read_alike (ErrorEntry n) h = cc (h errors tt)
  read_alike Name h = refl
  read_alike Save h = refl
  read_alike Load h = refl
  read_alike Filled h = let k = h kept tt in λ i. Ok (Number 2 (k i).filled)
  read_alike (Angle a) h = angle-alike a h
  read_alike (Of s) h =
      let t = h rest tt in
      let x = h (running s) (own Read (setting_row s).index (setting_row s).subindex tt) in
      λ i. Ok (Number (setting_row s).size (setting_value s (t i).node (x i)))

  module _ (given : Option ℕ) where
    -- "6012 also reads 6000, 6011, 6014"
    abbrev PresetUses : Axis → Setting → Type 0
    PresetUses a s = Uses (Write given) (Of (Preset a)) s

    preset-uses : (a : Axis) → PresetUses a Resolution × PresetUses a (Operating a) × PresetUses a (Differential a)
    preset-uses X = (tt, tt, tt)
    preset-uses Y = (tt, tt, tt)

    zeroed-alike : (a : Axis) (v : ℕ) → For (Write given) (Of (Preset a)) → zeroed_by a v u ≡ zeroed_by a v w
    zeroed-alike a v h =
        let t = preset-uses a in
        cc (h (axis a) tt, h (running Resolution) t.0, h (running (Operating a)) t.1, h (running (Differential a)) t.2)

    setting-alike : (s : Setting) (v : ℕ) → For (Write given) (Of s) → setting_write s v u ≡ setting_write s v w
    setting-alike Heartbeat v h = refl
    setting-alike (Pdo n p) v h = let t = h rest tt in λ i. value_write (pdo_accepts (t i).node n p v) (Put (Pdo n p) v)
    setting-alike Resolution v h = refl
    setting-alike (Operating a) v h = refl
    setting-alike (Preset a) v h = ap (preset_write a v) (zeroed-alike a v h)
    setting-alike (Offset a) v h = refl
    setting-alike (Differential a) v h = refl

    -- "1010:1 reads every setting"
    save_uses : (s : Setting) → Uses (Write given) Save s
    save_uses Heartbeat = tt
    save_uses (Pdo First On) = tt
    save_uses (Pdo First Transmission) = tt
    save_uses (Pdo First Timer) = tt
    save_uses Resolution = tt
    save_uses (Operating X) = tt
    save_uses (Operating Y) = tt
    save_uses (Preset X) = tt
    save_uses (Preset Y) = tt
    save_uses (Offset X) = tt
    save_uses (Offset Y) = tt
    save_uses (Differential X) = tt
    save_uses (Differential Y) = tt

    -- a save and a load, by their signature and what their block comes from
    fill_alike : (signature : Bool) (from : Channel → Origin) → get rest u ≡ get rest w → get kept u ≡ get kept w → fill_write signature from u ≡ fill_write signature from w
    fill_alike signature from t k = λ i. record {
      value = unless signature WrongSignature;
      state = room_check (t i).spoiled (k i).filled (t i).blocks;
      change = λ c. Fill (from c);
    }

    write_alike : (o : Object) (v : ℕ) → For (Write given) o → write_of o v u ≡ write_of o v w
    write_alike (Const f) v h = refl
    write_alike ErrorCount v h = refl
    write_alike (ErrorEntry n) v h = refl
    write_alike Name v h = refl
    write_alike Save v h = fill_alike (eqb v 0x65766173) Saved (h rest tt) (h kept tt)
    write_alike Load v h = fill_alike (eqb v 0x64616F6C) Loaded (h rest tt) (h kept tt)
    write_alike Filled v h = refl
    write_alike (Angle a) v h = refl
    write_alike (Of s) v h = setting-alike s v h

    -- the settings beside a change: a save's are the running ones, and no other change of a request's stores what runs or was stored
    zero-stores : (a : Axis) (v : ℕ) (z : Result ℤ Abort) (y : State) → beside (zero_change a v z) y ≡ factory
    zero-stores a v (Ok offset) y = refl
    zero-stores a v (Err why) y = refl

    setting-stores : (s : Setting) (v : ℕ) (z y : State) → beside ((setting_write s v z).change c) y ≡ factory
    setting-stores Heartbeat v z y = refl
    setting-stores (Pdo n p) v z y = refl
    setting-stores Resolution v z y = refl
    setting-stores (Operating a) v z y = refl
    setting-stores (Preset a) v z y = zero-stores a v (zeroed_by a v z) y
    setting-stores (Offset a) v z y = refl
    setting-stores (Differential a) v z y = refl

    change-stores : (o : Object) (v : ℕ) (z : State) → For (Write given) o → beside (change c o v z) u ≡ beside (change c o v z) w
    change-stores (Const f) v z h = refl
    change-stores ErrorCount v z h = refl
    change-stores (ErrorEntry n) v z h = refl
    change-stores Name v z h = refl
    change-stores Save v z h = λ i. settings_of (λ s. h (running s) (save_uses s) i)
    change-stores Load v z h = refl
    change-stores Filled v z h = refl
    change-stores (Angle a) v z h = refl
    change-stores (Of s) v z h = setting-stores s v z u ∙ sym (setting-stores s v z w)

  command-alike : (request : List ℕ) (k : Command) (i s : ℕ) (f : Result Object Abort) → Names f i s → Alike c k i s u w → on_command c request k f u ≡ on_command c request k f w
  command-alike request (Write given) i s (Ok o) n h =
      let g : For (Write given) o = subst₂ (λ (i s : ℕ). Alike c (Write given) i s u w) n.0 n.1 h in
      ap (λ (row : WriteRow). on_write request (unless (row_of o).writable ReadOnly then length_check given (row_of o).size then row.value then row.state) (row.change c))
      (write_alike given o (value_for o request) g)
  command-alike request (Write given) i s (Err why) n h = refl
  command-alike request Read i s (Ok o) n h = ap (on_read request) (read_alike o (subst₂ (λ (i s : ℕ). Alike c Read i s u w) n.0 n.1 h))
  command-alike request Read i s (Err why) n h = refl
  command-alike request (Segment toggle) i s f n h = ap (on_segment toggle) (by c h)
    where
      by : (c : Channel) → Alike c (Segment toggle) i s u w → get (transfer c) u ≡ get (transfer c) w
      by One h = h (transfer One) tt
      by Two h = h (transfer Two) tt
  command-alike request End i s f n h = refl
  command-alike request Unknown i s f n h = refl

pub outcome-alike : (c : Channel) (request : List ℕ) (u w : State) → ((cell : Cell) → T (uses_of c request cell) → get cell u ≡ get cell w) → outcome c request u ≡ outcome c request w
outcome-alike c request u w h =
    let o = command-alike c u w request (command request) (index_of request) (subindex_of request) (object_at (index_of request) (subindex_of request)) (named (index_of request) (subindex_of request)) h in
    let t = h rest tt in
    let x = h (transfer c) (mine c) in
    λ i. cond (served (t i).network) (o i) (silent (x i))
  where
    mine : (c : Channel) → T (uses c (command request) (index_of request) (subindex_of request) (transfer c))
    mine One = tt
    mine Two = tt

-- and so do the settings beside its change
pub stores-alike : (c : Channel) (request : List ℕ) (u w : State) → ((cell : Cell) → T (uses_of c request cell) → get cell u ≡ get cell w)
    → beside (outcome c request u).change u ≡ beside (outcome c request w).change w
stores-alike c request u w h =
    each_outcome c request u (λ (o : Outcome). beside o.change u ≡ beside o.change w)
    (record {
      aborted = λ code. refl;
      wrote = λ given o p q e. change-stores c u w given o (value_for o request) u (its given o p q);
      number = λ size n. refl;
      text = refl;
      first = refl;
      last = refl;
      toggle = refl;
      missing = refl;
      ended = refl;
      unserved = refl;
    })
    ∙ ap (λ (o : Outcome). beside o.change w) (outcome-alike c request u w h)
  where
    its : (given : Option ℕ) (o : Object) → command request ≡ Write given → object_at (index_of request) (subindex_of request) ≡ Ok o → For c u w (Write given) o
    its given o p q =
        let n = subst (λ (f : Result Object Abort). Names f (index_of request) (subindex_of request)) q (named (index_of request) (subindex_of request)) in
        subst₂ (λ (i s : ℕ). Alike c (Write given) i s u w) n.0 n.1 (subst (λ (k : Command). Alike c k (index_of request) (subindex_of request) u w) p h)
