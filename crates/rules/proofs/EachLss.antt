-- The outcomes that an LSS request can have: what holds of each holds of the request's.
use mathlib.Core.Path.{◌≡◌, refl}
use mathlib.Core.Bool.{Bool, true, false, ◌&&◌}
use mathlib.Core.List.{List}
use Prim.Native.Nat.{ℕ, ◌+◌, ◌≤◌, ◌%◌}
use native.Mathlib.Omega.{arith}
use borrow.Author.Tests.{ne_eqb, le-leb}
use lib.Dec.{eqb, leb}
use lib.ListN.{get_or}
use Rattle.std.specs.Prelude.{Ok, Err}
use Rattle.laws.proofs.Bools.{cond_both, cond-each}
use Rattle.rules.specs.declared.journal.Origin.TheVariants.{Stored}
use Rattle.rules.specs.declared.parts.Lss.{Lss}
use Rattle.rules.specs.declared.requests.Change.{Change}
use Rattle.rules.specs.declared.requests.Change.TheVariants.{Keep, Configure, Fill}
use Rattle.rules.specs.declared.requests.IdentityPart.{IdentityPart}
use Rattle.rules.specs.declared.requests.IdentityPart.TheVariants.{Vendor, Product, Revision, Serial}
use Rattle.rules.specs.declared.requests.LssCommand.{LssCommand}
use Rattle.rules.specs.declared.requests.LssCommand.TheVariants.{Switch, Select, SetNode, StoreNode, TellIdentity, TellNode, Unheard}
use Rattle.rules.specs.declared.requests.Outcome.{Outcome}
use Rattle.rules.specs.Lss.{lss_command_of, lss_replied, lss_silent, on_switch, on_select, on_set_node, on_store, in_mode, on_lss_command, lss_outcome, identity_part, matches_before}
use Rattle.rules.specs.Numbers.{four_at}
use Rattle.rules.specs.Ranges.{node_ok, lss_ok}
use Rattle.rules.specs.State.{State, stopped, waiting, configuration, last_set}
use Rattle.rules.specs.Writes.{Check, room_check}
use Rattle.rules.proofs.Nodes.{node-small, lss_in, lss-node, lss_mode, lss-matches}
use Rattle.rules.proofs.Selection.{each_select}

few : (p : IdentityPart) → matches_before p ≤ 3
few Vendor = omega arith
few Product = omega arith
few Revision = omega arith
few Serial = omega arith

-- a reply that acknowledges no store
abbrev pub NoStore : ℕ → ℕ → Type 0
NoStore first n = eqb first 0x17 && eqb (n % 256) 0 ≡ false

module _ (request : List ℕ) (u : State) (P : Outcome → Type 0) where
  -- LSS after the request is in its range, where it was so before
  abbrev Ranged : Lss → Type 0
  Ranged l = lss_ok u.lss ≡ true → lss_ok l ≡ true

  -- no reply, with or without a change; a reply with a change, or with none; a store
  pub record Each : Type 0 where
    pub silent : P (lss_silent Keep)
    pub changed : (l : Lss) → Ranged l → P (lss_silent (Configure l))
    pub configured : (first : ℕ) (l : Lss) → NoStore first 0 → Ranged l → P (lss_replied first 0 (Configure l))
    pub answered : (first n : ℕ) → NoStore first n → P (lss_replied first n Keep)
    pub stored : room_check u.saves.spoiled u.saves.filled u.saves.blocks ≡ Ok tt → P (lss_replied 0x17 0 (Fill (Stored (last_set u))))

  module _ (each : Each) where
    switches : (mode : ℕ) → P (on_switch mode u.lss)
    unfolding on_switch
    switches mode =
        cond-each (λ (e : Change). P (lss_silent e)) (leb mode 1) (λ m. each.changed _ (λ h. lss_in mode 0 u.lss.node m refl (lss-node u.lss h))) (λ m. each.silent)

    selects : (part : ℕ) → part ≤ 3 → (same : Bool) → P (on_select part same u.lss)
    selects part most same =
        each_select part same u.lss P
        (λ m last. each.configured 0x44 _ refl (λ h. lss_in 1 0 u.lss.node refl refl (lss-node u.lss h)))
        (λ m more. each.changed _ (λ h. lss_in 0 (part + 1) u.lss.node refl (le-leb (part + 1) 3 (omega (arith, more))) (lss-node u.lss h)))
        (λ m. each.changed _ (λ h. lss_in 0 0 u.lss.node refl refl (lss-node u.lss h)))

    sets : (n : ℕ) → P (on_set_node n u.lss)
    unfolding on_set_node
    sets n =
        cond-each P (node_ok n)
        (λ ok. each.configured 0x11 _ refl (λ h. lss_in u.lss.mode u.lss.matches n (lss_mode u.lss h) (lss-matches u.lss h) (node-small n ok)))
        (λ no. each.answered 0x11 1 refl)

    stores : (v : Check) → room_check u.saves.spoiled u.saves.filled u.saves.blocks ≡ v → P (on_store v (last_set u))
    stores (Ok passed) e = each.stored e
    stores (Err why) e = each.answered 0x17 2 refl

    tells_not : (p : IdentityPart) (n : ℕ) → NoStore (0x5A + matches_before p) n
    tells_not p n = rw (ne_eqb (0x5A + matches_before p) 0x17 (omega (arith, few p)))

    served : (mode : ℕ) (o : Outcome) → P o → P (in_mode mode u.lss o)
    served mode o h = cond_both P (eqb u.lss.mode mode) h each.silent

    commands : (k : LssCommand) → P (on_lss_command k request u)
    commands Switch = switches (get_or request 1 0)
    commands (Select p) = served waiting _ (selects (matches_before p) (few p) (eqb (four_at request 1) (identity_part p u.identity)))
    commands SetNode = served configuration _ (sets (get_or request 1 0))
    commands StoreNode = served configuration _ (stores (room_check u.saves.spoiled u.saves.filled u.saves.blocks) refl)
    commands (TellIdentity p) =
        served configuration _ (each.answered (0x5A + matches_before p) (identity_part p u.identity) (tells_not p (identity_part p u.identity)))
    commands TellNode = served configuration _ (each.answered 0x5E u.node refl)
    commands Unheard = each.silent

    pub each_lss : P (lss_outcome request u)
    each_lss = cond_both P (eqb u.network stopped) (commands (lss_command_of (get_or request 0 0))) each.silent
