-- Service channels: what a request of eight bytes asks.
use Rattle.std.specs.Prelude.{cond, List, ℕ, ◌%◌, ◌^◌, eqb, get_or, Some, None}
use Rattle.rules.specs.declared.objects.Object.{Object}
use Rattle.rules.specs.declared.requests.Command.{Command}
use Rattle.rules.specs.declared.requests.Command.TheVariants.{Write, Read, Segment, End, Unknown}
use Rattle.rules.specs.Numbers.{two_at, four_at}
use Rattle.rules.specs.Objects.{row_of}

-- "First bytes: 22h, 23h, 27h, 2Bh, 2Fh write (22h takes the object's own length); 40h read; 60h, 70h next segment; 80h ends the transfer"
unfoldable pub command_of : ℕ → Command
command_of first =
    cond (eqb first 0x22) (Write None)
    (cond (eqb first 0x23) (Write (Some 4))
    (cond (eqb first 0x27) (Write (Some 3))
    (cond (eqb first 0x2B) (Write (Some 2))
    (cond (eqb first 0x2F) (Write (Some 1))
    (cond (eqb first 0x40) Read
    (cond (eqb first 0x60) (Segment 0)
    (cond (eqb first 0x70) (Segment 1)
    (cond (eqb first 0x80) End Unknown))))))))

abbrev pub command : List ℕ → Command
command request = command_of (get_or request 0 0)

abbrev pub index_of : List ℕ → ℕ
index_of request = two_at request 1

abbrev pub subindex_of : List ℕ → ℕ
subindex_of request = get_or request 3 0

-- the value that is written, in the object's own length
abbrev pub value_for : Object → List ℕ → ℕ
value_for o request = four_at request 4 % 256 ^ (row_of o).size
