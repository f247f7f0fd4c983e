-- A test whether a value is named, and that it says just that.
use mathlib.Core.Path.{refl, ap, ap₂, sym, subst}
use mathlib.Core.Bool.{Bool, true, false, ◌&&◌, ◌||◌}
use mathlib.Core.List.{List, [], ◌∷◌}
use mathlib.Core.Logic.{◌⊎◌, inl, inr}
use Prim.Native.Nat.{ℕ}
use lib.Dec.{T, eqb, eqb→eq, eqb_refl}
use Rattle.laws.proofs.Bools.{parts, or_left, or_right}
use Rattle.rules.specs.declared.requests.Command.{Command}
use Rattle.interleaving.specs.ReadsWrites.{Value, object, journal, Named, one, all, the_journal, Is, In, is, reads_of, writes_of, all_read, all_written, Clear}

abbrev pub covers : Named → Value → Bool
covers (one j t) (object i s) = is i s j t
covers (one j t) journal = false
covers (all j) (object i s) = eqb i j
covers (all j) journal = false
covers the_journal (object i s) = false
covers the_journal journal = true

abbrev pub among : Value → List Named → Bool
among v [] = false
among v (n ∷ ns) = covers n v || among v ns

abbrev pub reads_by : Command → ℕ → ℕ → Value → Bool
reads_by k i s v = among v (reads_of k i s)

abbrev pub writes_by : Command → ℕ → ℕ → Value → Bool
writes_by k i s v = among v (writes_of k i s)

abbrev pub reads : List ℕ → Value → Bool
reads request v = among v (all_read request)

abbrev pub writes : List ℕ → Value → Bool
writes request v = among v (all_written request)

abbrev pub used : List ℕ → Value → Bool
used request v = reads request v || writes request v

pub its_own : (i s : ℕ) → T (covers (one i s) (object i s))
its_own i s = and (eqb i i) (eqb s s) (eqb_refl i) (eqb_refl s)
  where
    and : (a b : Bool) → T a → T b → T (a && b)
    and true b p q = q
    and false b p q = p

is-covered : (n : Named) (v : Value) → T (covers n v) → Is n v
is-covered (one j t) (object i s) h = let p = parts (eqb i j) (eqb s t) h in ap₂ object (eqb→eq i j p.0) (eqb→eq s t p.1)
is-covered (one j t) journal h = absurd h
is-covered (all j) (object i s) h = (s, ap (λ (i : ℕ). object i s) (eqb→eq i j h))
is-covered (all j) journal h = absurd h
is-covered the_journal (object i s) h = absurd h
is-covered the_journal journal h = refl

covered : (n : Named) (v : Value) → Is n v → T (covers n v)
covered (one j t) v e = subst (λ (v : Value). T (covers (one j t) v)) (sym e) (its_own j t)
covered (all j) v (s, e) = subst (λ (v : Value). T (covers (all j) v)) (sym e) (eqb_refl j)
covered the_journal v e = subst (λ (v : Value). T (covers the_journal v)) (sym e) tt

one_of : {P : Type 0} (a b : Bool) → (T a → P) → (T b → P) → T (a || b) → P
one_of true b f g h = f tt
one_of false b f g h = g h

is_in : (ns : List Named) (v : Value) → T (among v ns) → In ns v
is_in [] v h = h
is_in (n ∷ ns) v h = one_of (covers n v) (among v ns) (λ t. inl (is-covered n v t)) (λ t. inr (is_in ns v t)) h

in_list : (ns : List Named) (v : Value) → In ns v → T (among v ns)
in_list [] v h = h
in_list (n ∷ ns) v (inl t) = or_left (covers n v) _ (covered n v t)
in_list (n ∷ ns) v (inr t) = or_right (covers n v) _ (in_list ns v t)

-- the same of all that a request reads or writes
module _ (b : List ℕ) (v : Value) where
  is-used : T (used b v) → In (all_read b) v ⊎ In (all_written b) v
  is-used h = one_of (reads b v) (writes b v) (λ t. inl (is_in (all_read b) v t)) (λ t. inr (is_in (all_written b) v t)) h

  pub in_used : In (all_read b) v ⊎ In (all_written b) v → T (used b v)
  in_used (inl h) = or_left (reads b v) (writes b v) (in_list (all_read b) v h)
  in_used (inr h) = or_right (reads b v) (writes b v) (in_list (all_written b) v h)

pub never_meet : (a b : List ℕ) → Clear a b → (v : Value) → T (writes a v) → T (used b v) → ⊥
never_meet a b h v w u = h v (is_in (all_written a) v w) (is-used b v u)
