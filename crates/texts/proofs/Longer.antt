-- Laws of a line in constant memory: a byte stored behind it is the line with that byte.
use mathlib.Core.Path.{◌≡◌, refl, sym, ap, ◌∙◌}
use mathlib.Core.List.{List, [], ◌∷◌, ◌++◌, append_assoc, append-nil}
use mathlib.Core.Bool.{Bool, true, false}
use Prim.Native.Nat.{ℕ, zero, suc, ◌+◌, ◌≤◌, ◌<◌, min}
use native.Mathlib.Omega.{arith}
use lib.Dec.{leb}
use lib.ListN.{length, set, take, length-append, get_or-eq_default, get_or-append}
use lib.Seq.{get_or_at, set_out}
use borrow.Author.Tests.{leb-true, leb-false}
use Rattle.laws.specs.Lists.{elements}
use Rattle.texts.specs.declared.Text.{Text}
use Rattle.texts.specs.Texts.{text_of, longer, longer_by}

elements-length : (n i : ℕ) (l : List ℕ) → length (elements n i l) ≡ n
elements-length zero i l = refl
elements-length (suc n) i l = ap suc (elements-length n (suc i) l)

-- behind the end of both lists stands 0
behind : (n i : ℕ) (l : List ℕ) (b : ℕ) → length l < i → elements n i l ≡ elements n i (l ++ b ∷ [])
behind zero i l b h = refl
behind (suc n) i l b h =
    let past : length l ≤ i = omega arith in
    let past-both : length (l ++ b ∷ []) ≤ i = simp length-append (omega arith) in
    let next : length l < suc i = omega arith in
    rw (get_or-eq_default l 0 past, get_or-eq_default (l ++ b ∷ []) 0 past-both, behind n (suc i) l b next)

-- a byte stored behind the last
stored : (n i k : ℕ) (l : List ℕ) (b : ℕ) → length l ≡ i + k → set (elements n i l) k b ≡ elements n i (l ++ b ∷ [])
stored zero i k l b e = refl
stored (suc n) i zero l b e =
    let here : length l ≡ i = omega arith in
    let next : length l < suc i = omega arith in
    rw (get_or_at l b [] 0 i here, behind n (suc i) l b next)
stored (suc n) i (suc k) l b e =
    let inside : i < length l = omega arith in
    let rest : length l ≡ suc i + k = omega arith in
    rw (get_or-append l (b ∷ []) 0 i inside, stored n (suc i) k l b rest)

-- at the mark too: past the last place nothing is stored
marked : (l : List ℕ) (b : ℕ) (t : Bool) → leb (length l) 33 ≡ t → set (elements 32 0 l) (min (length l) 33) b ≡ elements 32 0 (l ++ b ∷ [])
marked l b true e =
    let within : min (length l) 33 ≡ length l = omega (arith, leb-true (length l) 33 e) in
    rw within (stored 32 0 (length l) l b (omega arith))
marked l b false e =
    let beyond : 33 < length l = leb-false (length l) 33 e in
    let mark : min (length l) 33 ≡ 33 = omega arith in
    let out : (k : ℕ) → 32 < k → set (elements 32 0 l) k b ≡ elements 32 0 l = λ k h. set_out (elements 32 0 l) k b (rw elements-length (omega arith)) in
    rw mark (out 33 (omega arith) ∙ sym (out (length l) (omega arith)) ∙ stored 32 0 (length l) l b (omega arith))

pub longer-text : (l : List ℕ) (b : ℕ) → longer (text_of l) b ≡ text_of (l ++ b ∷ [])
unfolding longer text_of
longer-text l b =
    let counted : min (min (length l) 33 + 1) 33 ≡ min (length (l ++ b ∷ [])) 33 = simp length-append (omega arith) in
    cc (marked l b (leb (length l) 33) refl)

pub longer-by : (l bs : List ℕ) → longer_by bs (text_of l) ≡ text_of (l ++ bs)
longer-by l [] = rw append-nil
longer-by l (b ∷ bs) = rw (longer-text l b, longer-by (l ++ b ∷ []) bs, append_assoc l (b ∷ []) bs)

-- a line of up to 32 bytes is what is held
moved : (n i x : ℕ) (l : List ℕ) → elements n (suc i) (x ∷ l) ≡ elements n i l
moved zero i x l = refl
moved (suc n) i x l = rw (moved n (suc i) x l)

front-back : (n : ℕ) (l : List ℕ) → length l ≤ n → take (length l) (elements n 0 l) ≡ l
front-back n [] h = refl
front-back zero (x ∷ l) h = absurd (omega arith)
front-back (suc n) (x ∷ l) h =
    let fewer : length l ≤ n = omega arith in
    rw (moved n 0 x l, front-back n l fewer)

pub held : (l : List ℕ) → length l ≤ 32 → ((text_of l).length ≡ length l) × (take (text_of l).length (text_of l).bytes ≡ l)
unfolding text_of
held l h =
    let within : min (length l) 33 ≡ length l = omega arith in
    (within, rw within (front-back 32 l h))

-- a longer one has the mark
pub beyond : (l : List ℕ) → 32 < length l → (text_of l).length ≡ 33
unfolding text_of
beyond l h = omega arith

pub longer-append : (front bs : List ℕ) (t : Text) → longer_by (front ++ bs) t ≡ longer_by bs (longer_by front t)
longer-append [] bs t = refl
longer-append (a ∷ front) bs t = longer-append front bs (longer t a)
