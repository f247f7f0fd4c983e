-- Two requests that are apart, on two channels: either order gives each its outcome and ends in the same state.
use mathlib.Core.Path.{◌≡◌, refl, ap, sym, ◌∙◌, subst, subst₂}
use mathlib.Core.Bool.{Bool, true, false, cond, ◌&&◌, ◌||◌}
use mathlib.Core.List.{List}
use Prim.Native.Nat.{ℕ}
use lib.Dec.{T, eqb, eqb→eq}
use Rattle.laws.proofs.Bools.{parts, or_right}
use Rattle.rules.specs.declared.objects.Channel.{Channel}
use Rattle.rules.specs.declared.objects.Channel.TheVariants.{One, Two}
use Rattle.rules.specs.declared.objects.PdoNumber.{PdoNumber}
use Rattle.rules.specs.declared.parts.PdoCounts.{PdoCounts}
use Rattle.rules.specs.declared.objects.Setting.{Setting}
use Rattle.rules.specs.declared.objects.Setting.TheVariants.{Heartbeat}
use Rattle.rules.specs.declared.requests.Caller.TheVariants.{Client}
use Rattle.rules.specs.declared.requests.Change.{Change}
use Rattle.rules.specs.declared.requests.Change.TheVariants.{Keep, Put, Zero, Empty, Configure, Fill}
use Rattle.rules.specs.declared.requests.Command.{Command}
use Rattle.rules.specs.declared.requests.Command.TheVariants.{Write, Read, Segment, End, Unknown}
use Rattle.rules.specs.declared.settings.Settings.{Settings}
use Rattle.rules.specs.Objects.{same_setting, of_pdo}
use Rattle.rules.specs.Requests.{command, index_of, subindex_of}
use Rattle.rules.specs.Service.{outcome, on_heartbeat, on_counts, state_after}
use Rattle.rules.specs.State.{State, no_counts}
use Rattle.interleaving.proofs.Acts.{beside, act, after_acts_lem}
use Rattle.interleaving.proofs.Cells.{Cell, running, errors, kept, heartbeat, pdo, transfer, axis, lss, rest, Content, get, state_of, get_of, of_same}
use Rattle.interleaving.proofs.Depends.{own, outcome-alike, stores-alike}
use Rattle.interleaving.proofs.Leaves.{outcome-left}
use Rattle.interleaving.proofs.Members.{covers, writes_by, reads, writes, never_meet}
use Rattle.interleaving.proofs.Uses.{same_channel, object_of, names, is_write, uses_of, alters_of}
use Rattle.interleaving.specs.ReadsWrites.{object, journal, one, is, Clear, Apart}

-- whoever empties the error list writes all of 1003, and names one object there
module _ (i s : ℕ) where
  emptier_writes : (k : Command) → T (is_write k && is i s 0x1003 0) → (n : ℕ) → T (writes_by k i s (object 0x1003 n))
  emptier_writes (Write given) t n =
      let p = parts (eqb i 0x1003) (eqb s 0) t in
      subst₂ (λ (j m : ℕ). T (writes_by (Write given) j m (object 0x1003 n))) (sym (eqb→eq i 0x1003 p.0)) (sym (eqb→eq s 0 p.1))
      (or_right (covers (one 0x1003 0) (object 0x1003 n)) true tt)
  emptier_writes Read t n = absurd t
  emptier_writes (Segment toggle) t n = absurd t
  emptier_writes End t n = absurd t
  emptier_writes Unknown t n = absurd t

  emptier_names : (k : Command) → T (is_write k && is i s 0x1003 0) → T (names k && eqb i 0x1003)
  emptier_names (Write given) t = (parts (eqb i 0x1003) (eqb s 0) t).0
  emptier_names Read t = absurd t
  emptier_names (Segment toggle) t = absurd t
  emptier_names End t = absurd t
  emptier_names Unknown t = absurd t

two-transfers : (c d b : Channel) → (T (same_channel c d) → ⊥) → T (same_channel d b) → T (same_channel c b) → ⊥
two-transfers One One b h p q = h tt
two-transfers One Two One h p q = p
two-transfers One Two Two h p q = q
two-transfers Two One One h p q = q
two-transfers Two One Two h p q = p
two-transfers Two Two b h p q = h tt

-- a count that one zeroes, and the other zeroes or leaves
abbrev zeroes : (Setting → Bool) → Change → Bool
zeroes told Keep = false
zeroes told (Put s v) = told s
zeroes told (Zero a preset offset) = false
zeroes told Empty = false
zeroes told (Configure l) = false
zeroes told (Fill o) = false

abbrev is_heartbeat : Setting → Bool
is_heartbeat s = same_setting s Heartbeat

heartbeat-is : (e : Change) (x : ℕ) → on_heartbeat e x ≡ cond (zeroes is_heartbeat e) 0 x
heartbeat-is Keep x = refl
heartbeat-is (Put s v) x = refl
heartbeat-is (Zero a preset offset) x = refl
heartbeat-is Empty x = refl
heartbeat-is (Configure l) x = refl
heartbeat-is (Fill o) x = refl

pdo-is : (n : PdoNumber) (e : Change) (x : PdoCounts) → on_counts n e x ≡ cond (zeroes (of_pdo n) e) no_counts x
pdo-is n Keep x = refl
pdo-is n (Put s v) x = refl
pdo-is n (Zero a preset offset) x = refl
pdo-is n Empty x = refl
pdo-is n (Configure l) x = refl
pdo-is n (Fill o) x = refl

zeroed-twice : {A : Type 0} (p q : Bool) (zero x : A) → cond p zero (cond q zero x) ≡ cond q zero (cond p zero x)
zeroed-twice true true zero x = refl
zeroed-twice true false zero x = refl
zeroed-twice false true zero x = refl
zeroed-twice false false zero x = refl

heartbeat-swaps : (e f : Change) (x : ℕ) → on_heartbeat e (on_heartbeat f x) ≡ on_heartbeat f (on_heartbeat e x)
heartbeat-swaps e f x = simp heartbeat-is (zeroed-twice (zeroes is_heartbeat e) (zeroes is_heartbeat f) 0 x)

pdo-swaps : (n : PdoNumber) (e f : Change) (x : PdoCounts) → on_counts n e (on_counts n f x) ≡ on_counts n f (on_counts n e x)
pdo-swaps n e f x = simp (pdo-is n) (zeroed-twice (zeroes (of_pdo n) e) (zeroes (of_pdo n) f) no_counts x)

-- the state after a request on a channel
abbrev pub next : Channel → List ℕ → State → State
next c request u = state_after (Client c) (outcome c request u) u

module _ (c d : Channel) (two : T (same_channel c d) → ⊥) (a b : List ℕ) (clear : Clear a b) where
  -- what b on d uses, a on c does not alter
  no_meeting : (cell : Cell) → T (uses_of d b cell) → T (alters_of c a cell) → ⊥
  no_meeting (running t) p q = never_meet a b clear (object_of t) q p
  no_meeting errors p q =
      let n = parts (names (command b)) (eqb (index_of b) 0x1003) p in
      never_meet a b clear (object 0x1003 (subindex_of b)) (emptier_writes (index_of a) (subindex_of a) (command a) q (subindex_of b))
      (subst (λ (i : ℕ). T (reads b (object i (subindex_of b)) || writes b (object i (subindex_of b)))) (eqb→eq (index_of b) 0x1003 n.1)
      (own (command b) (index_of b) (subindex_of b) n.0))
  no_meeting kept p q = never_meet a b clear journal q p
  no_meeting heartbeat p q = p
  no_meeting (pdo n) p q = p
  no_meeting (transfer e) p q = two-transfers c d e two p q
  no_meeting (axis a) p q = q
  no_meeting lss p q = q
  no_meeting rest p q = q

  module _ (u : State) where
    -- the settings beside each one's change
    abbrev mine : Settings
    mine = beside (outcome c a u).change u

    abbrev other : Settings
    other = beside (outcome d b u).change u

    abbrev first : (k : Cell) → Content k → Content k
    first = act c (outcome c a u) mine

    abbrev second : (k : Cell) → Content k → Content k
    second = act d (outcome d b u) other

    -- each cell after a
    after_first : (k : Cell) → get k (next c a u) ≡ first k (get k u)
    after_first k = ap (get k) (after_acts_lem c (outcome c a u) u) ∙ get_of (λ k. first k (get k u)) k

    -- what b uses is the same after a, and so are its outcome and the settings beside it
    unaltered : (k : Cell) → T (uses_of d b k) → get k (next c a u) ≡ get k u
    unaltered k t = after_first k ∙ outcome-left c a u mine k (get k u) (no_meeting k t)

    pub outcome_past : outcome d b (next c a u) ≡ outcome d b u
    outcome_past = outcome-alike d b (next c a u) u unaltered

    stores_past : beside (outcome d b (next c a u)).change (next c a u) ≡ other
    stores_past = stores-alike d b (next c a u) u unaltered

    -- a cell that is no count is altered by one of the two at most
    one-alters : (k : Cell) (x : Content k) → (T (alters_of d b k) → T (alters_of c a k) → ⊥) → (t : Bool) → alters_of c a k ≡ t →
        second k (first k x) ≡ first k (second k x)
    one-alters k x m true e =
        let left : T (alters_of d b k) → ⊥ = λ h. m h (subst T (sym e) tt) in
        outcome-left d b u other k (first k x) left ∙ ap (first k) (sym (outcome-left d b u other k x left))
    one-alters k x m false e =
        let left : T (alters_of c a k) → ⊥ = λ h. subst T e h in
        ap (second k) (outcome-left c a u mine k x left) ∙ sym (outcome-left c a u mine k (second k x) left)

    swaps : (k : Cell) (x : Content k) → second k (first k x) ≡ first k (second k x)
    swaps (running t) x = one-alters (running t) x (λ h. no_meeting (running t) (or_right (reads b (object_of t)) _ h)) _ refl
    swaps errors x = one-alters errors x (λ h. no_meeting errors (emptier_names (index_of b) (subindex_of b) (command b) h)) _ refl
    swaps kept x = one-alters kept x (λ h. no_meeting kept (or_right (reads b journal) _ h)) _ refl
    swaps heartbeat x = heartbeat-swaps (outcome d b u).change (outcome c a u).change x
    swaps (pdo n) x = pdo-swaps n (outcome d b u).change (outcome c a u).change x
    swaps (transfer e) x = one-alters (transfer e) x (no_meeting (transfer e)) _ refl
    swaps (axis a) x = refl
    swaps lss x = one-alters lss x (no_meeting lss) _ refl
    swaps rest x = refl

    -- the state after both, by what each does alone
    both-act : next d b (next c a u) ≡ state_of (λ k. second k (first k (get k u)))
    both-act =
        after_acts_lem d (outcome d b (next c a u)) (next c a u)
        ∙ of_same _ _ (λ k i. act d (outcome_past i) (stores_past i) k (after_first k i))

pub diamond : (c d : Channel) → (T (same_channel c d) → ⊥) → (T (same_channel d c) → ⊥) → (a b : List ℕ) → Apart a b → (u : State) →
    next d b (next c a u) ≡ next c a (next d b u)
diamond c d p q a b h u =
    both-act c d p a b h.0 u ∙ of_same _ _ (λ k. swaps c d p a b h.0 u k (get k u)) ∙ sym (both-act d c q b a h.1 u)
