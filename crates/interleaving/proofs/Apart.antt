-- A test that runs are apart, for those that write no index as a whole.
use mathlib.Core.Path.{◌≡◌, subst}
use mathlib.Core.Bool.{Bool, true, false, not, ◌&&◌, ◌||◌}
use mathlib.Core.List.{List, [], ◌∷◌}
use mathlib.Core.Logic.{inl, inr}
use Prim.Native.Nat.{ℕ}
use lib.Dec.{T}
use Rattle.laws.proofs.Bools.{no, left, right}
use Rattle.rules.specs.Settings.{every}
use Rattle.interleaving.proofs.Each.{each}
use Rattle.interleaving.proofs.Members.{used, in_used}
use Rattle.interleaving.specs.Demand3.{is_request, FramesApart, Each, RunsApart}
use Rattle.interleaving.specs.ReadsWrites.{Value, object, journal, Named, one, all, the_journal, Is, In, all_written, Clear}
use Rattle.interleaving.specs.Runs.{RunFrame}

abbrev spared : List ℕ → Named → Bool
spared b (one i s) = not (used b (object i s))
spared b (all i) = false
spared b the_journal = not (used b journal)

not-both : (t : Bool) → not t ≡ true → T t → ⊥
not-both true e h = no e
not-both false e h = h

module _ (b : List ℕ) where
  one-spared : (n : Named) → spared b n ≡ true → (v : Value) → Is n v → T (used b v) → ⊥
  one-spared (one i s) e v h u = not-both (used b (object i s)) e (subst (λ (v : Value). T (used b v)) h u)
  one-spared (all i) e v h u = no e
  one-spared the_journal e v h u = not-both (used b journal) e (subst (λ (v : Value). T (used b v)) h u)

  all-spared : (ns : List Named) → every (spared b) ns ≡ true → (v : Value) → In ns v → T (used b v) → ⊥
  all-spared [] e v h u = h
  all-spared (n ∷ ns) e v (inl h) u = one-spared n (left (spared b n) _ e) v h u
  all-spared (n ∷ ns) e v (inr h) u = all-spared ns (right (spared b n) _ e) v h u

abbrev clear : List ℕ → List ℕ → Bool
clear a b = every (spared b) (all_written a)

clear-by : (a b : List ℕ) → clear a b ≡ true → Clear a b
clear-by a b e v w u = all-spared b (all_written a) e v w (in_used b v u)

abbrev apart : RunFrame → RunFrame → Bool
apart f g = not (is_request f && is_request g) || (clear f.bytes g.bytes && clear g.bytes f.bytes)

frames-apart : (f g : RunFrame) → apart f g ≡ true → FramesApart f g
frames-apart f g e p q =
    let there = clear f.bytes g.bytes in
    let back = clear g.bytes f.bytes in
    let h = of_requests (is_request f) (is_request g) (there && back) e p q in
    (clear-by f.bytes g.bytes (left there back h), clear-by g.bytes f.bytes (right there back h))
  where
    of_requests : (s t r : Bool) → not (s && t) || r ≡ true → T s → T t → r ≡ true
    of_requests true true r e p q = e
    of_requests true false r e p q = absurd q
    of_requests false t r e p q = absurd p

pub runs-apart : (ones twos : List RunFrame) → every (λ f. every (apart f) twos) ones ≡ true → RunsApart ones twos
runs-apart ones twos = each (λ f. every (apart f) twos) (λ f. Each (FramesApart f) twos) (λ f. each (apart f) (FramesApart f) (frames-apart f) twos) ones
