-- Document 02, item 1: the node number by LSS, "the CiA 305 slave in Stopped only".
use Rattle.std.specs.Prelude.{Bool, cond, ◌&&◌, ◌||◌, List, [], ◌∷◌, ◌++◌, ℕ, ◌+◌, eqb, leb, get_or, Ok, Err}
use Rattle.rules.specs.declared.journal.Origin.TheVariants.{Stored}
use Rattle.rules.specs.declared.parts.Identity.{Identity}
use Rattle.rules.specs.declared.parts.Lss.{Lss}
use Rattle.rules.specs.declared.requests.Change.{Change}
use Rattle.rules.specs.declared.requests.Change.TheVariants.{Keep, Configure, Fill}
use Rattle.rules.specs.declared.requests.IdentityPart.{IdentityPart}
use Rattle.rules.specs.declared.requests.IdentityPart.TheVariants.{Vendor, Product, Revision, Serial}
use Rattle.rules.specs.declared.requests.LssCommand.{LssCommand}
use Rattle.rules.specs.declared.requests.LssCommand.TheVariants.{Switch, Select, SetNode, StoreNode, TellIdentity, TellNode, Unheard}
use Rattle.rules.specs.declared.requests.Outcome.{Outcome}
use Rattle.rules.specs.Numbers.{four, four_at}
use Rattle.rules.specs.Ranges.{node_ok}
use Rattle.rules.specs.Service.{replied, unanswered}
use Rattle.rules.specs.State.{State, stopped, waiting, configuration, absent, transferring, last_set}
use Rattle.rules.specs.Writes.{Check, room_check}

-- "04h switch global (mode 0 or 1), 40h to 43h selective by vendor, product, revision, serial …, and in configuration: 11h node number, 17h store,
-- 5Ah to 5Dh identity, 5Eh node number"
unfoldable pub lss_command_of : ℕ → LssCommand
lss_command_of first =
    cond (eqb first 0x04) Switch
    (cond (eqb first 0x40) (Select Vendor)
    (cond (eqb first 0x41) (Select Product)
    (cond (eqb first 0x42) (Select Revision)
    (cond (eqb first 0x43) (Select Serial)
    (cond (eqb first 0x11) SetNode
    (cond (eqb first 0x17) StoreNode
    (cond (eqb first 0x5A) (TellIdentity Vendor)
    (cond (eqb first 0x5B) (TellIdentity Product)
    (cond (eqb first 0x5C) (TellIdentity Revision)
    (cond (eqb first 0x5D) (TellIdentity Serial)
    (cond (eqb first 0x5E) TellNode Unheard)))))))))))

-- "vendor, product, revision, serial (four matches in that order …)"
abbrev pub identity_part : IdentityPart → Identity → ℕ
identity_part Vendor i = i.vendor
identity_part Product i = i.product
identity_part Revision i = i.revision
identity_part Serial i = i.serial

abbrev pub matches_before : IdentityPart → ℕ
matches_before Vendor = 0
matches_before Product = 1
matches_before Revision = 2
matches_before Serial = 3

-- a reply of 8 bytes: the command, a number from byte 1 on, else 0; and no reply
abbrev pub lss_reply : ℕ → ℕ → List ℕ
lss_reply first n = first ∷ four n ++ 0 ∷ 0 ∷ 0 ∷ []

abbrev pub lss_replied : ℕ → ℕ → Change → Outcome
lss_replied first n e = replied (lss_reply first n) absent e

abbrev pub lss_silent : Change → Outcome
lss_silent e = unanswered (transferring absent) e

-- "04h switch global (mode 0 or 1)": no match is left then; another mode does nothing
unfoldable pub on_switch : ℕ → Lss → Outcome
on_switch mode l = lss_silent (cond (leb mode 1) (Configure (record { mode = mode; matches = 0; node = l.node })) Keep)

-- "four matches in that order, reply 44h": the first counts whatever was matched before, each other one directly behind the one before it, and
-- what does not match leaves none; the fourth brings configuration
abbrev pub matched : ℕ → Lss → Change
matched n l = Configure (record { mode = waiting; matches = n; node = l.node })

unfoldable pub on_select : ℕ → Bool → Lss → Outcome
on_select before same l =
    cond (same && (eqb before 0 || eqb l.matches before))
    (cond (eqb before 3) (lss_replied 0x44 0 (Configure (record { mode = configuration; matches = 0; node = l.node }))) (lss_silent (matched (before + 1) l)))
    (lss_silent (matched 0 l))

-- "11h answers error 1 outside 1 to 47", and keeps the number set before
unfoldable pub on_set_node : ℕ → Lss → Outcome
on_set_node n l = cond (node_ok n) (lss_replied 0x11 0 (Configure (record { mode = l.mode; matches = l.matches; node = n }))) (lss_replied 0x11 1 Keep)

-- "Store appends a block … with … the number last set, else the running one"; "17h answers error 2 when the journal is spoiled or full"
abbrev pub on_store : Check → ℕ → Outcome
on_store (Ok passed) n = lss_replied 0x17 0 (Fill (Stored n))
on_store (Err why) n = lss_replied 0x17 2 Keep

-- what is not served in a mode is not answered
abbrev pub in_mode : ℕ → Lss → Outcome → Outcome
in_mode mode l o = cond (eqb l.mode mode) o (lss_silent Keep)

abbrev pub on_lss_command : LssCommand → List ℕ → State → Outcome
on_lss_command Switch request u = on_switch (get_or request 1 0) u.lss
on_lss_command (Select p) request u =
    in_mode waiting u.lss (on_select (matches_before p) (eqb (four_at request 1) (identity_part p u.identity)) u.lss)
on_lss_command SetNode request u = in_mode configuration u.lss (on_set_node (get_or request 1 0) u.lss)
on_lss_command StoreNode request u =
    in_mode configuration u.lss (on_store (room_check u.saves.spoiled u.saves.filled u.saves.blocks) (last_set u))
on_lss_command (TellIdentity p) request u = in_mode configuration u.lss (lss_replied (0x5A + matches_before p) (identity_part p u.identity) Keep)
on_lss_command TellNode request u = in_mode configuration u.lss (lss_replied 0x5E u.node Keep)
on_lss_command Unheard request u = lss_silent Keep

-- "in Stopped only"
abbrev pub lss_outcome : List ℕ → State → Outcome
lss_outcome request u = cond (eqb u.network stopped) (on_lss_command (lss_command_of (get_or request 0 0)) request u) (lss_silent Keep)
