-- Locals of any number that stand in a row among a function's others: the compiler makes one for each arm of a match. In the context they are one entry, `Kept`. Here is how they are allocated and
-- freed, where the row's locals and those after it are found, and how the room of one is taken out of the entry and put back. Nothing here depends on the code of a function.
-- Assumes nothing.
use mathlib.Core.Path.{◌≡◌, refl, subst}
use Prim.Native.Nat.{ℕ, zero, suc}
use mathlib.Core.List.{[], ◌∷◌, ◌++◌, List}
use lib.ListN.{get_or}
use seplogic.Ra.Ura.{Ura}
use mir.Syntax.{Ty, place}
use base.Logic.{SProp, ent, sep, emp, via, id⊢, mono_r}
use base.Fml.{froom, fdies}
use prog.Wp.{Env, no_local}
use types.Logic.{Logic}
use types.Kit.{Item, Goal, Sq, Go, allocs, frees, ‵, raw, ⋆, push, pop, ◌⊛◌, ◌$◌, ◌∵◌, !, qed, move, drop, use0, use1, use3, split, split3, done}
use types.Run.{Finds, from, stop, alloc1, free1}
use Rattle.lending.proofs.Lent.{locals_of, cells}

-- the row's types with their blocks, and the number of the n-th local after the row, counted from its first
abbrev pub row_of_blocks : List Ty → (ℕ → ℕ) → List (Ty × ℕ)
row_of_blocks [] l = []
row_of_blocks (τ ∷ τs) l = (τ, l zero) ∷ row_of_blocks τs (λ i. l (suc i))

abbrev pub past : List Ty → ℕ → ℕ
past [] n = n
past (τ ∷ τs) n = suc (past τs n)

abbrev cons : ℕ → (ℕ → ℕ) → ℕ → ℕ
cons b l zero = b
cons b l (suc i) = l i

pub after-row : (τs : List Ty) (l : ℕ → ℕ) (E : List (Ty × ℕ)) (n : ℕ) (d : Ty × ℕ) → get_or (row_of_blocks τs l ++ E) (past τs n) d ≡ get_or E n d
after-row [] l E n d = refl
after-row (τ ∷ τs) l E n d = after-row τs (λ i. l (suc i)) E n d

module _ {M : Type 1} {𝓤 : Ura M} (𝓛 : Logic 𝓤) where
  open 𝓛 use {H}

  -- what the row holds while none of it is in use
  abbrev pub Row-empty : List Ty → (ℕ → ℕ) → SProp 𝓤
  Row-empty τs l = ⋆ 𝓛 (cells (row_of_blocks τs l) [])

  abbrev pub Kept : List Ty → (ℕ → ℕ) → Item 𝓤
  Kept τs l = raw (Row-empty τs l)

  longer : (τ : Ty) (b : ℕ) (Γ : List (Item 𝓤)) → ent 𝓤 (sep 𝓤 (⋆ 𝓛 Γ) (⋆ 𝓛 (‵ (froom τ b zero) ∷ ‵ (fdies τ b) ∷ []))) (⋆ 𝓛 (‵ (froom τ b zero) ∷ ‵ (fdies τ b) ∷ Γ))
  longer τ b Γ = via 𝓤 _ (qed 𝓛 (raw (⋆ 𝓛 Γ) ∷ ‵ (froom τ b zero) ∷ ‵ (fdies τ b) ∷ []) ∵ move ! (1 ∷ 2 ∷ []) $ done !) (mono_r 𝓤 (H.room τ b zero) (push 𝓛 (‵ (fdies τ b)) Γ))

  shorter : (τ : Ty) (b : ℕ) (Γ : List (Item 𝓤)) → ent 𝓤 (⋆ 𝓛 (‵ (froom τ b zero) ∷ ‵ (fdies τ b) ∷ Γ)) (sep 𝓤 (H.room τ b zero) (sep 𝓤 (H.dies τ b) (⋆ 𝓛 Γ)))
  shorter τ b Γ = mono_r 𝓤 (H.room τ b zero) (pop 𝓛 (‵ (fdies τ b)) Γ)

  pub allocs-row : (τs σs : List Ty) (Kt : Env 𝓤 H → Goal 𝓤 H) (Γ : List (Item 𝓤)) → ((l : ℕ → ℕ) → Sq 𝓛 (Kept τs l ∷ Γ) (allocs (locals_of σs) (λ E. Kt (row_of_blocks τs l ++ E)))) → Sq 𝓛 Γ (allocs (locals_of (τs ++ σs)) Kt)
  allocs-row [] σs Kt Γ k = use0 𝓛 (raw (emp 𝓤)) (id⊢ 𝓤 (emp 𝓤)) $ k (λ i. i)
  allocs-row (τ ∷ τs) σs Kt Γ k =
      alloc1 ! (λ b. allocs-row τs σs (λ E. Kt ((τ, b) ∷ E)) (‵ (froom τ b zero) ∷ ‵ (fdies τ b) ∷ Γ) (λ l. use3 𝓛 (Kept (τ ∷ τs) (cons b l)) (longer τ b (cells (row_of_blocks τs l) [])) $ k (cons b l)))

  pub frees-row : (τs : List Ty) (l : ℕ → ℕ) (E : Env 𝓤 H) (Γ : List (Item 𝓤)) (G : Goal 𝓤 H) → Sq 𝓛 Γ (frees E G) → Sq 𝓛 (Kept τs l ∷ Γ) (frees (row_of_blocks τs l ++ E) G)
  frees-row [] l E Γ G s = drop ! $ s
  frees-row (τ ∷ τs) l E Γ G s =
      use1 𝓛 (‵ (froom τ (l zero) zero) ⊛ ‵ (fdies τ (l zero)) ⊛ Kept τs (λ i. l (suc i))) (shorter τ (l zero) (cells (row_of_blocks τs (λ i. l (suc i))) [])) $
      split ! $ move ! (1 ∷ []) $ split ! $ move ! (2 ∷ 0 ∷ []) $ free1 ! $ frees-row τs (λ i. l (suc i)) E Γ G s

  -- a local that is known to be e
  pub found : {Γ : List (Item 𝓤)} {E : Env 𝓤 H} {i : ℕ} {e : Ty × ℕ} → get_or E i (no_local 𝓤 H) ≡ e → Finds (Go {0}) 𝓛 Γ E (place i []) (e.0, e.1, zero)
  found {Γ} {E} {i} p = subst (λ (e : Ty × ℕ). Finds (Go {0}) 𝓛 Γ E (place i []) (e.0, e.1, zero)) p (from ! (stop !))

  -- one local of the row, the one of the number i: where it is among Es, and how its room is taken out of W, which is what the row holds, and put back
  pub record One (Es : List (Ty × ℕ)) (W : SProp 𝓤) (τ : Ty) (i : ℕ) : Type 2 where
    pub block : ℕ
    pub at : get_or Es i (no_local 𝓤 H) ≡ (τ, block)
    pub rest : SProp 𝓤
    pub out : ent 𝓤 W (sep 𝓤 (H.room τ block zero) rest)
    pub back : ent 𝓤 (sep 𝓤 (H.room τ block zero) rest) W

  -- and each of a row whose n-th local has the number f n
  abbrev pub Each : List (Ty × ℕ) → SProp 𝓤 → (ℕ → ℕ) → List Ty → Type 2
  Each Es W f [] = Unit {2}
  Each Es W f (τ ∷ τs) = One Es W τ (f zero) × Each Es W (λ n. f (suc n)) τs

  -- the row is W, but for P
  each-of : (Es : List (Ty × ℕ)) (W : SProp 𝓤) (f : ℕ → ℕ) (τs : List Ty) (l : ℕ → ℕ) (E : List (Ty × ℕ)) → ((n : ℕ) → get_or Es (f n) (no_local 𝓤 H) ≡ get_or (row_of_blocks τs l ++ E) n (no_local 𝓤 H))
      → (P : SProp 𝓤) → ent 𝓤 W (sep 𝓤 (Row-empty τs l) P) → ent 𝓤 (sep 𝓤 (Row-empty τs l) P) W → Each Es W f τs
  each-of Es W f [] l E at P out back = tt
  each-of Es W f (τ ∷ τs) l E at P out back =
      let left : SProp 𝓤 = Row-empty τs (λ n. l (suc n)) in
      let room : Item 𝓤 = ‵ (froom τ (l zero) zero) in
      let dies : Item 𝓤 = ‵ (fdies τ (l zero)) in
      let whole : SProp 𝓤 = Row-empty (τ ∷ τs) l in
      let apart : ent 𝓤 (sep 𝓤 whole P) (⋆ 𝓛 (room ∷ dies ∷ raw left ∷ raw P ∷ [])) = qed 𝓛 (raw whole ∷ raw P ∷ []) ∵ use1 𝓛 (room ⊛ dies ⊛ raw left) (shorter τ (l zero) (cells (row_of_blocks τs (λ n. l (suc n))) [])) $ split3 ! $ done ! in
      let together : ent 𝓤 (⋆ 𝓛 (room ∷ dies ∷ raw left ∷ raw P ∷ [])) (sep 𝓤 whole P) =
      qed 𝓛 (room ∷ dies ∷ raw left ∷ raw P ∷ []) ∵ move ! (2 ∷ 0 ∷ 1 ∷ []) $ use3 𝓛 (raw whole) (longer τ (l zero) (cells (row_of_blocks τs (λ n. l (suc n))) [])) $ done ! in
      let P' : SProp 𝓤 = ⋆ 𝓛 (room ∷ dies ∷ raw P ∷ []) in (
        record { block = l zero; at = at zero; rest = ⋆ 𝓛 (dies ∷ raw left ∷ raw P ∷ []); out = via 𝓤 _ out apart; back = via 𝓤 _ together back },
        each-of Es W (λ n. f (suc n)) τs (λ n. l (suc n)) E (λ n. at (suc n)) P'
            (via 𝓤 _ out (via 𝓤 _ apart (qed 𝓛 (room ∷ dies ∷ raw left ∷ raw P ∷ []) ∵ move ! (2 ∷ []) $ done !)))
            (via 𝓤 _ (qed 𝓛 (raw left ∷ room ∷ dies ∷ raw P ∷ []) ∵ move ! (1 ∷ 2 ∷ 0 ∷ []) $ done !) (via 𝓤 _ together back)),
      )

  pub each-one : (τs : List Ty) (l : ℕ → ℕ) (E : List (Ty × ℕ)) → Each (row_of_blocks τs l ++ E) (Row-empty τs l) (λ n. n) τs
  each-one τs l E = each-of (row_of_blocks τs l ++ E) (Row-empty τs l) (λ n. n) τs l E (λ n. refl) (emp 𝓤)
      (qed 𝓛 (Kept τs l ∷ []) ∵ use0 𝓛 (raw (emp 𝓤)) (id⊢ 𝓤 (emp 𝓤)) $ move ! (1 ∷ []) $ done !) (qed 𝓛 (Kept τs l ∷ raw (emp 𝓤) ∷ []) ∵ move ! (1 ∷ []) $ drop ! $ done !)
