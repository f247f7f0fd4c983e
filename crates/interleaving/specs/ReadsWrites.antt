-- What a request reads and writes, "by its first four bytes; an object here is one index with one subindex".
use Rattle.std.specs.Prelude.{◌≡◌, Bool, cond, ◌&&◌, List, [], ◌∷◌, map, ◌⊎◌, ℕ, eqb}
use Rattle.rules.specs.declared.requests.Command.{Command}
use Rattle.rules.specs.declared.requests.Command.TheVariants.{Write, Read, Segment, End, Unknown}
use Rattle.rules.specs.Objects.{setting_row}
use Rattle.rules.specs.Requests.{command, index_of, subindex_of}
use Rattle.rules.specs.Settings.{settings}

-- what is read and written: an object, by its numbers, or the journal
pub data Value : Type 0 where
  object : ℕ → ℕ → Value
  journal : Value

-- as the table names it: one object, all of an index whatever its subindex, the journal
pub data Named : Type 0 where
  one : ℕ → ℕ → Named
  all : ℕ → Named
  the_journal : Named

abbrev pub Is : Named → Value → Type 0
Is (one i s) v = v ≡ object i s
Is (all i) v = (s : ℕ) × (v ≡ object i s)
Is the_journal v = v ≡ journal

abbrev pub In : List Named → Value → Type 0
In [] v = ⊥
In (n ∷ ns) v = Is n v ⊎ In ns v

-- an object's line in the table: what goes with it
pub data Line : Type 0 where
  line : ℕ → ℕ → List Named → Line

abbrev pub is : ℕ → ℕ → ℕ → ℕ → Bool
is i s j t = eqb i j && eqb s t

-- nothing, where it has no line
abbrev pub also : ℕ → ℕ → List Line → List Named
also i s [] = []
also i s (line j t ns ∷ lines) = cond (is i s j t) ns (also i s lines)

-- "6010 also reads 6000, 6011, 6013, 6014; Y likewise"; "2100 reads the journal"
abbrev pub read_reads : List Line
read_reads =
    line 0x6010 0 (one 0x6000 0 ∷ one 0x6011 0 ∷ one 0x6013 0 ∷ one 0x6014 0 ∷ []) ∷
    line 0x6020 0 (one 0x6000 0 ∷ one 0x6021 0 ∷ one 0x6023 0 ∷ one 0x6024 0 ∷ []) ∷
    line 0x2100 0 (the_journal ∷ []) ∷ []

-- "every setting (all that a block carries, wherever it lies there)"
abbrev pub every_setting : List Named
every_setting = map (λ s. one (setting_row s).index (setting_row s).subindex) settings

-- "6012 also reads 6000, 6011, 6014", Y likewise; "1010:1 reads every setting"
abbrev pub write_reads : List Line
write_reads =
    line 0x6012 0 (one 0x6000 0 ∷ one 0x6011 0 ∷ one 0x6014 0 ∷ []) ∷
    line 0x6022 0 (one 0x6000 0 ∷ one 0x6021 0 ∷ one 0x6024 0 ∷ []) ∷
    line 0x1010 1 every_setting ∷ []

-- 6012 "also … writes 6013", Y likewise; "1003:0 all of 1003; 1010:1 … writes the journal; 1011:1 writes the journal"
abbrev pub write_writes : List Line
write_writes =
    line 0x6012 0 (one 0x6013 0 ∷ []) ∷
    line 0x6022 0 (one 0x6023 0 ∷ []) ∷
    line 0x1003 0 (all 0x1003 ∷ []) ∷
    line 0x1010 1 (the_journal ∷ []) ∷
    line 0x1011 1 (the_journal ∷ []) ∷ []

-- "Read: its object", and what its line says; "Others: nothing"
abbrev pub reads_of : Command → ℕ → ℕ → List Named
reads_of Read i s = one i s ∷ also i s read_reads
reads_of (Write given) i s = also i s write_reads
reads_of (Segment toggle) i s = []
reads_of End i s = []
reads_of Unknown i s = []

-- "Write: its object"
abbrev pub writes_of : Command → ℕ → ℕ → List Named
writes_of Read i s = []
writes_of (Write given) i s = one i s ∷ also i s write_writes
writes_of (Segment toggle) i s = []
writes_of End i s = []
writes_of Unknown i s = []

-- "By its first four bytes"
abbrev pub all_read : List ℕ → List Named
all_read request = reads_of (command request) (index_of request) (subindex_of request)

abbrev pub all_written : List ℕ → List Named
all_written request = writes_of (command request) (index_of request) (subindex_of request)

-- a "writes what … the other reads or writes": never
abbrev pub Clear : List ℕ → List ℕ → Type 0
Clear a b = (v : Value) → In (all_written a) v → ¬ (In (all_read b) v ⊎ In (all_written b) v)

abbrev pub Apart : List ℕ → List ℕ → Type 0
Apart a b = Clear a b × Clear b a
