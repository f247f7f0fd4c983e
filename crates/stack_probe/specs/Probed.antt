-- What the probe answers: the run of at most 4,096 blocks, and 65,536 more where the journal is spoiled; 0 for other lengths.
use Rattle.std.specs.Prelude.{Bool, cond, ◌&&◌, List, ℕ, ◌+◌, ◌*◌, eqb, leb, length}
use Rattle.rules.specs.Journal.{blocks_in, run, spoiled}

abbrev pub fits_blocks : List ℕ → Bool
fits_blocks j = leb (blocks_in j) 4096 && eqb (length j) (512 * blocks_in j)

unfoldable pub probed : List ℕ → ℕ
probed j = cond (fits_blocks j) (run (blocks_in j) j + 65536 * cond (spoiled (blocks_in j) j) 1 0) 0
