-- The table row by row: for every object, what a read of it reads, and what a write of it reads and writes.
use Rattle.std.specs.Prelude.{◌≡◌, List, [], ◌∷◌, map, ℕ, Ok, Option}
use Rattle.rules.specs.declared.objects.Object.{Object}
use Rattle.rules.specs.declared.requests.Command.{Command}
use Rattle.rules.specs.declared.requests.Command.TheVariants.{Write, Read, Segment, End, Unknown}
use Rattle.rules.specs.Objects.{row_of, objects, object_at}
use Rattle.interleaving.specs.ReadsWrites.{Named, one, all, the_journal, reads_of, writes_of}

-- index and subindex; what a read reads; what a write reads; what a write writes
pub data TableRow : Type 0 where
  row : ℕ → ℕ → List Named → List Named → List Named → TableRow

-- a read reads the object, a write writes it
abbrev pub plain_row : ℕ → ℕ → TableRow
plain_row i s = row i s (one i s ∷ []) [] (one i s ∷ [])

-- in the order of `objects`
abbrev pub rows : List TableRow
rows =
    row 0x1003 0 (one 0x1003 0 ∷ []) [] (one 0x1003 0 ∷ all 0x1003 ∷ []) ∷
    plain_row 0x1003 1 ∷ plain_row 0x1003 2 ∷ plain_row 0x1003 3 ∷ plain_row 0x1003 4 ∷ plain_row 0x1003 5 ∷
    plain_row 0x1008 0 ∷
    row 0x1010 1 (one 0x1010 1 ∷ [])
    (one 0x1017 0 ∷ one 0x1800 1 ∷ one 0x1800 2 ∷ one 0x1800 5 ∷ one 0x6000 0 ∷ one 0x6011 0 ∷ one 0x6021 0 ∷
    one 0x6012 0 ∷ one 0x6013 0 ∷ one 0x6014 0 ∷ one 0x6022 0 ∷ one 0x6023 0 ∷ one 0x6024 0 ∷ [])
    (one 0x1010 1 ∷ the_journal ∷ []) ∷
    row 0x1011 1 (one 0x1011 1 ∷ []) [] (one 0x1011 1 ∷ the_journal ∷ []) ∷
    row 0x2100 0 (one 0x2100 0 ∷ the_journal ∷ []) [] (one 0x2100 0 ∷ []) ∷
    row 0x6010 0 (one 0x6010 0 ∷ one 0x6000 0 ∷ one 0x6011 0 ∷ one 0x6013 0 ∷ one 0x6014 0 ∷ []) [] (one 0x6010 0 ∷ []) ∷
    row 0x6020 0 (one 0x6020 0 ∷ one 0x6000 0 ∷ one 0x6021 0 ∷ one 0x6023 0 ∷ one 0x6024 0 ∷ []) [] (one 0x6020 0 ∷ []) ∷
    plain_row 0x1017 0 ∷ plain_row 0x1800 1 ∷ plain_row 0x1800 2 ∷ plain_row 0x1800 5 ∷ plain_row 0x6000 0 ∷ plain_row 0x6011 0 ∷ plain_row 0x6021 0 ∷
    row 0x6012 0 (one 0x6012 0 ∷ []) (one 0x6000 0 ∷ one 0x6011 0 ∷ one 0x6014 0 ∷ []) (one 0x6012 0 ∷ one 0x6013 0 ∷ []) ∷
    plain_row 0x6013 0 ∷ plain_row 0x6014 0 ∷
    row 0x6022 0 (one 0x6022 0 ∷ []) (one 0x6000 0 ∷ one 0x6021 0 ∷ one 0x6024 0 ∷ []) (one 0x6022 0 ∷ one 0x6023 0 ∷ []) ∷
    plain_row 0x6023 0 ∷ plain_row 0x6024 0 ∷
    plain_row 0x1000 0 ∷ plain_row 0x1001 0 ∷ plain_row 0x1005 0 ∷ plain_row 0x1010 0 ∷ plain_row 0x1011 0 ∷ plain_row 0x1014 0 ∷
    plain_row 0x1018 0 ∷ plain_row 0x1018 1 ∷ plain_row 0x1018 2 ∷ plain_row 0x1018 3 ∷ plain_row 0x1018 4 ∷
    plain_row 0x1200 0 ∷ plain_row 0x1200 1 ∷ plain_row 0x1200 2 ∷ plain_row 0x1201 0 ∷ plain_row 0x1201 1 ∷ plain_row 0x1201 2 ∷
    plain_row 0x1800 0 ∷ plain_row 0x1A00 0 ∷ plain_row 0x1A00 1 ∷ plain_row 0x1A00 2 ∷ plain_row 0x2101 0 ∷ []

-- what `ReadsWrites` says of an index and a subindex, whatever length a write gives
abbrev pub row_by : Option ℕ → ℕ → ℕ → TableRow
row_by given i s = row i s (reads_of Read i s) (reads_of (Write given) i s) (writes_of (Write given) i s)

-- every object has its row, and no more
abbrev pub RowByRow : Type 0
RowByRow = (given : Option ℕ) → map (λ o. row_by given (row_of o).index (row_of o).subindex) objects ≡ rows

-- what is no object has nothing but its own numbers
abbrev pub NoFurtherRow : Type 0
NoFurtherRow = (given : Option ℕ) (i s : ℕ) → ((o : Object) → object_at i s ≡ Ok o → ⊥) → row_by given i s ≡ plain_row i s

-- a read writes nothing, and "Others: nothing": the next segment, 80h and every other first byte
abbrev pub WritesNothing : Command → Type 0
WritesNothing k = (i s : ℕ) → writes_of k i s ≡ []

abbrev pub Nothing : Command → Type 0
Nothing k = ((i s : ℕ) → reads_of k i s ≡ []) × WritesNothing k

abbrev pub Others : Type 0
Others = WritesNothing Read × ((toggle : ℕ) → Nothing (Segment toggle)) × Nothing End × Nothing Unknown
