-- No line of the table is idle: whatever it names, there are requests whose order matters.
use Rattle.std.specs.Prelude.{cond, List, [], ◌∷◌, ◌++◌, map, ℕ}
use Rattle.rules.specs.declared.objects.Channel.TheVariants.{One, Two}
use Rattle.rules.specs.Events.{NotRefused, event}
use Rattle.rules.specs.State.{State}
use Rattle.interleaving.specs.Demand3.{FramesApart, Each, Alike}
use Rattle.interleaving.specs.Device.{device, read_frame, write_frame, save_frame, load_frame}
use Rattle.interleaving.specs.ReadsWrites.{Named, one, all, the_journal, is, Line, line, read_reads, every_setting, write_reads, write_writes}
use Rattle.interleaving.specs.Runs.{RunFrame, turn}

-- a request on channel 1 and one on channel 2
pub data Pair : Type 0 where
  pair : RunFrame → RunFrame → Pair

-- from a record that is not refused, an answer, the device or the journal goes by the order
abbrev pub OrderMatters : State → Pair → Type 0
OrderMatters u (pair f g) = NotRefused u × (Alike event (turn One f ∷ turn Two g ∷ []) (turn Two g ∷ turn One f ∷ []) u → ⊥)

-- by demand 3 such requests are not apart
abbrev pub NotApart : Type 0
NotApart = (u : State) (f g : RunFrame) → OrderMatters u (pair f g) → FramesApart f g → ⊥

-- two requests that change an object of the device; the first changes no other setting
pub data Changed : Type 0 where
  by : RunFrame → RunFrame → ℕ → ℕ → Changed

abbrev pub writing : ℕ → ℕ → ℕ → ℕ → Changed
writing i s v w = by (write_frame i s v) (write_frame i s w) i s

-- 6013 and 6023 go with their presets: 7 leaves the offset as it is, 0 the preset
abbrev pub changes : List Changed
changes =
    writing 0x1003 0 0 0 ∷ by save_frame save_frame 0x1010 1 ∷ by load_frame load_frame 0x1011 1 ∷
    writing 0x1017 0 25 26 ∷ writing 0x1800 1 0xC0000181 0x40000181 ∷ writing 0x1800 2 1 2 ∷ writing 0x1800 5 50 51 ∷ writing 0x6000 0 1 100 ∷
    writing 0x6011 0 1 3 ∷ writing 0x6012 0 7 8 ∷ by (write_frame 0x6012 0 0) (write_frame 0x6012 0 8) 0x6013 0 ∷ writing 0x6014 0 5 6 ∷
    writing 0x6021 0 1 3 ∷ writing 0x6022 0 7 8 ∷ by (write_frame 0x6022 0 0) (write_frame 0x6022 0 8) 0x6023 0 ∷ writing 0x6024 0 5 6 ∷ []

-- reads, where nothing changes it
abbrev pub changes_of : ℕ → ℕ → List Changed → RunFrame × RunFrame
changes_of i s [] = (read_frame i s, read_frame i s)
changes_of i s (by f g j t ∷ cs) = cond (is i s j t) (f, g) (changes_of i s cs)

-- two requests that change what is named
abbrev pub changing : Named → RunFrame × RunFrame
changing (one i s) = changes_of i s changes
changing (all i) = changes_of i 0 changes
changing the_journal = (save_frame, load_frame)

-- requests that show what is named
abbrev pub showing : Named → List RunFrame
showing (one i s) = read_frame i s ∷ []
showing (all i) = read_frame i 0 ∷ read_frame i 1 ∷ read_frame i 2 ∷ read_frame i 3 ∷ read_frame i 4 ∷ read_frame i 5 ∷ []
showing the_journal = read_frame 0x2100 0 ∷ []

abbrev pub flat : {A : Type 0} → (A → List Pair) → List A → List Pair
flat f [] = []
flat f (x ∷ l) = f x ++ flat f l

-- what a line's object has beside all that the line names
abbrev pub along : (ℕ → ℕ → Named → List Pair) → Line → List Pair
along f (line i s ns) = flat (f i s) ns

-- a read, and what changes what it reads
abbrev pub read_and_change : List Pair
read_and_change = flat (along (λ i s n. pair (read_frame i s) (changing n).0 ∷ [])) read_reads

-- a write, and what changes what it reads
abbrev pub write_and_change : List Pair
write_and_change = flat (along (λ i s n. pair (changing (one i s)).1 (changing n).0 ∷ [])) write_reads

-- a write, and what shows what it writes beside its object
abbrev pub write_and_show : List Pair
write_and_show = flat (along (λ i s n. map (pair (changing (one i s)).1) (showing n))) write_writes

-- "Read: its object", "Write: its object": a setting is changed, and shown or changed by the other
abbrev pub its_object : List Pair
its_object = flat (λ n. map (pair (changing n).0) ((changing n).1 ∷ showing n)) every_setting

-- both write the journal
abbrev pub both_fill : List Pair
both_fill = pair save_frame save_frame ∷ pair save_frame load_frame ∷ pair load_frame load_frame ∷ []

abbrev pub all_pairs : List Pair
all_pairs = read_and_change ++ write_and_change ++ write_and_show ++ its_object ++ both_fill

abbrev pub NoLineIdle : Type 0
NoLineIdle = Each (OrderMatters device) all_pairs
