-- A function that takes a record by `&mut`, a lent list of bytes and a third argument by value, has three locals of its own and a row of the compiler's, and may pass the record and the list on to a
-- function of its own kind at the end: how it begins (`starts`), and how it passes on (`passes_on`). What comes between is in the files that cite this one.
-- Assumes nothing.
use mathlib.Core.Path.{◌≡◌, refl}
use Prim.Native.Nat.{ℕ, suc}
use mathlib.Core.List.{[], ◌∷◌, ◌++◌, List}
use lib.ListN.{length, get_or}
use seplogic.Ra.Ura.{Ura}
use mir.Syntax.{Callee, Ty, Fn, Body, ty_ref, ty_int, w8, mut, named, erased, assign, seq, call, return, place, deref, field, copy, addr_of, aggregate}
use mir.Val.{Val}
use base.Logic.{SProp, ent}
use prog.Wp.{Calls, Loops, WpFn, returns as returned, at_return, no_local}
use types.Logic.{Logic}
use sound.WpLaws.{FmC}
use types.Kit.{Item, Goal, Post, Sq, Go, Step, step, at_ret, post, runs, frees, raw, ⋆, ◌$◌, ◌∵◌, !, qed, by, move, use3}
use types.Run.{Opd, look, init, forget, stop, hop, fld, from, load, addr, and_then, no_more, assigns, land, returns_within, enter, alloc1, alloc0, params1, pass1, pass0, free1}
use types.Part.{agg, whole, sub, look_in}
use denote.Laws.{Is}
use denote.Memory.{pointee}
use denote.Builtin.{u8}
use denote.Ref.{mut_vals}
use denote.Slice.{Room, slice_ty, mut_slice_vals}
use denote.Triple.Statement.{Triple}
use denote.Triple.Call.{calls_at}
use Rattle.lending.proofs.Between.{row_of_blocks, past, after-row, Kept, allocs-row, frees-row, found}
use Rattle.lending.proofs.Lent.{Row, row_of, Types, env_of, locals_of, cells, empties, freed, Told, Known, Asked, Promise, Entry, was, held, third, passed, Said, Record, Journal, Tokens, Post as PostOf, Lent, bound, asks, gives, exits}

-- the locals' blocks
pub record Blocks : Type 0 where
  pub l₀ : ℕ
  pub l₁ : ℕ
  pub l₂ : ℕ
  pub l₃ : ℕ
  pub l₄ : ℕ
  pub l₅ : ℕ
  pub l₆ : ℕ
  pub l₇ : ℕ
  pub l₈ : ℕ
  pub l₉ : ℕ
  pub row : ℕ → ℕ

-- the types of the function, of its own locals, and of the row that the compiler makes after them
pub record Shape : Type 2 where
  pub T : Types
  pub Xr : Row
  pub τ₄ : Ty
  pub τ₅ : Ty
  pub τ₆ : Ty
  pub row : List Ty

-- the n-th local after the function's own
abbrev pub after_own : ℕ → ℕ
after_own n = suc (suc (suc (suc (suc (suc (suc n))))))

module _ (F : Shape) where
  abbrev T : Types
  T = F.T

  abbrev Xr : Row
  Xr = F.Xr

  abbrev bytes : Ty
  bytes = ty_int w8

  -- the types of the result, the parameters and the function's own; and of the references that are made anew
  abbrev own_kinds : List Ty → List Ty
  own_kinds τs = T.Nr.mir ∷ ty_ref (named 0) mut (pointee T.Dr.written) ∷ slice_ty (ty_ref (named 1) mut bytes) ∷ Xr.mir ∷ F.τ₄ ∷ F.τ₅ ∷ F.τ₆ ∷ τs

  abbrev anew : List Ty
  anew = ty_ref erased mut (pointee T.Dr.written) ∷ ty_ref erased mut bytes ∷ slice_ty (ty_ref erased mut bytes) ∷ []

  abbrev pub passing : Body → Fn
  passing body = record { lifetimes = 2; outlives = []; ty_params = []; givens = 0; params = 3; locals = locals_of (own_kinds (F.row ++ anew)); body = body }

  -- the end: f is called with the record's and the list's references, made anew, and with the local n
  abbrev anew_at : ℕ → ℕ
  anew_at n = after_own (past F.row n)

  abbrev pub pass_on : Callee → ℕ → Body
  pass_on f n = seq (assign (place (anew_at 0) []) (addr_of (place 1 (deref T.Dr.mir ∷ []))))
      (seq (assign (place (anew_at 1) []) (addr_of (place 2 (field 0 ∷ deref bytes ∷ []))))
      (seq (assign (place (anew_at 2) []) (aggregate (copy (place (anew_at 1) []) ∷ copy (place 2 (field 1 ∷ [])) ∷ [])))
      (seq (call f (copy (place (anew_at 0) []) ∷ copy (place (anew_at 2) []) ∷ copy (place n []) ∷ []) (place 0 []))
      return)))

  -- the locals with their blocks: those of the function's own before τs, those made anew, and those after the function's own
  abbrev own : Blocks → List (Ty × ℕ) → List (Ty × ℕ)
  own b E = (T.Nr.mir, b.l₀) ∷ (ty_ref (named 0) mut (pointee T.Dr.written), b.l₁) ∷ (slice_ty (ty_ref (named 1) mut bytes), b.l₂) ∷ (Xr.mir, b.l₃) ∷ (F.τ₄, b.l₄) ∷ (F.τ₅, b.l₅) ∷ (F.τ₆, b.l₆) ∷ E

  abbrev pub Anew : Blocks → List (Ty × ℕ)
  Anew b = env_of anew (b.l₇ ∷ b.l₈ ∷ b.l₉ ∷ [])

  abbrev pub After : Blocks → List (Ty × ℕ)
  After b = row_of_blocks F.row b.row ++ Anew b

  abbrev pub En : Blocks → List (Ty × ℕ)
  En b = own b (After b)

  module _ {M : Type 1} (𝓤 : Ura M) (e : Entry T Xr) (b : Blocks) where
    -- the locals but the row, with vs₄, vs₅ and vs₆ in the function's own and ws in those made anew
    abbrev Locals : List Val → List Val → List Val → List (List Val) → List (Item 𝓤)
    Locals vs₄ vs₅ vs₆ ws = cells (own b (Anew b)) ([] ∷ mut_vals e.a.0 ∷ mut_slice_vals e.a.1.0 ∷ (Xr.val (third e) ∷ []) ∷ vs₄ ∷ vs₅ ∷ vs₆ ∷ ws)

  module _ {M : Type 1} {𝓤 : Ura M} (𝓛 : Logic 𝓤) (e : Entry T Xr) (b : Blocks) where
    -- what there is on the way; and what there is where f is called, which asks P. The row comes last
    abbrev pub AtHand : List Val → List Val → List Val → List (Item 𝓤)
    AtHand vs₄ vs₅ vs₆ = Record e 𝓤 (was e) ∷ Journal e 𝓤 ∷ Tokens e 𝓤 ∷ (Locals 𝓤 e b vs₄ vs₅ vs₆ [] ++ (Kept 𝓛 F.row b.row ∷ []))

    abbrev pub AtCall : SProp 𝓤 → List Val → List Val → List Val → List (Item 𝓤)
    AtCall P vs₄ vs₅ vs₆ = raw P ∷ (Locals 𝓤 e b vs₄ vs₅ vs₆ (mut_vals e.a.0 ∷ mut_vals e.a.1.0 ∷ mut_slice_vals e.a.1.0 ∷ []) ++ (Kept 𝓛 F.row b.row ∷ []))

    -- the locals are freed, and x, y and z are left
    pub frees_all : {x y z : Item 𝓤} {G : Goal 𝓤 𝓛.H} → Step (Go {0}) 𝓛 (x ∷ y ∷ z ∷ []) G (x ∷ y ∷ z ∷ (cells (own b (Anew b)) [] ++ (Kept 𝓛 F.row b.row ∷ []))) (frees (En b) G)
    frees_all {x} {y} {z} {G} = step (λ s.
        move ! (23 ∷ []) $ move ! (4 ∷ 5 ∷ []) $ free1 ! $ move ! (4 ∷ 5 ∷ []) $ free1 ! $ move ! (4 ∷ 5 ∷ []) $ free1 ! $ move ! (4 ∷ 5 ∷ []) $ free1 ! $ move ! (4 ∷ 5 ∷ []) $ free1 ! $
        move ! (4 ∷ 5 ∷ []) $ free1 ! $ move ! (4 ∷ 5 ∷ []) $ free1 ! $ frees-row 𝓛 F.row b.row (Anew b) (x ∷ y ∷ z ∷ cells (Anew b) []) G (freed (Anew b) $ s))

  module _ {M : Type 1} {𝓤 : Ura M} (𝓛 : Logic 𝓤) (C : Calls 𝓤 𝓛.H) (Λ : Loops 𝓤 𝓛.H) (e : Entry T Xr) (room : Room u8 (length (held e))) where
    -- how it begins
    open 𝓛 use {H}

    pub starts : Told 𝓛 Xr → Is (row_of Xr) (third e) (Xr.val (third e) ∷ []) → (body : Body) (End : Val → SProp 𝓤) → ((b : Blocks) → Sq 𝓛 (AtHand 𝓛 e b [] [] []) (runs C Λ (En b) body (at_ret (En b) End)))
        → ent 𝓤 (⋆ 𝓛 (Record e 𝓤 (was e) ∷ Journal e 𝓤 ∷ Tokens e 𝓤 ∷ [])) (WpFn 𝓤 H C Λ (passing body) (passed e) End)
    starts of-third is body End k =
        qed 𝓛 (Record e 𝓤 (was e) ∷ Journal e 𝓤 ∷ Tokens e 𝓤 ∷ []) ∵ enter ! C Λ (passing body) (passed e) End $
        alloc1 ! (λ l₀. alloc1 ! (λ l₁. alloc1 ! (λ l₂. alloc1 ! (λ l₃. alloc1 ! (λ l₄. alloc1 ! (λ l₅. alloc1 ! (λ l₆. allocs-row 𝓛 F.row anew _ _ (λ row. alloc1 ! (λ l₇. alloc1 ! (λ l₈. alloc1 ! (λ l₉. alloc0 ! $ params1 ! $
        move ! (21 ∷ 22 ∷ 23 ∷ 19 ∷ 20 ∷ 17 ∷ 18 ∷ 15 ∷ 16 ∷ 13 ∷ 14 ∷ 11 ∷ 12 ∷ 9 ∷ 10 ∷ 7 ∷ 8 ∷ 4 ∷ 5 ∷ 2 ∷ 3 ∷ []) $
        pass1 ! (init ! 5 refl (tt, tt)) $ pass1 ! (init ! 7 refl (tt, (tt, (record { fits = room.0 }, tt)))) $ pass1 ! (init ! 9 refl (of-third.typed (third e) _ is)) $ pass0 ! $
        k (record { l₀ = l₀; l₁ = l₁; l₂ = l₂; l₃ = l₃; l₄ = l₄; l₅ = l₅; l₆ = l₆; l₇ = l₇; l₈ = l₈; l₉ = l₉; row = row }))))))))))))

    -- how it passes on: y is in the local n
    module _ {Yr : Row} (p : Promise T Xr) (p' : Promise T Yr) (known : Known 𝓛 T) (fm : FmC 𝓤 H 𝓛.laws C) (f : Callee) (met : Triple 𝓤 (C f) (Lent p' 𝓛)) (y : Yr.D) where
      abbrev pub onward : Entry T Yr
      onward = record { κs = e.κs; qs = e.qs; a = (e.a.0, (e.a.1.0, (y, tt))) }

      pub passes_on : Told 𝓛 Yr → Is (row_of Yr) y (Yr.val y ∷ []) → Asked (p'.asks (was e) (held e) y) → ((r : T.Nr.D) (d : T.Dr.D) (zs : List ℕ) → Said onward p' r d zs → Said e p r d zs)
          → (b : Blocks) (n : ℕ) (vs₄ vs₅ vs₆ : List Val) (q : Post 𝓤 H) → post 𝓤 H q returned ≡ at_return 𝓤 H (En b) (PostOf p 𝓛 e) returned
          → Opd (Go {0}) 𝓛 (AtCall 𝓛 e b ((Lent p' 𝓛).pre (bound p' 𝓛 onward)) vs₄ vs₅ vs₆) (En b) (copy (place n [])) (Yr.val y)
          → Sq 𝓛 (AtHand 𝓛 e b vs₄ vs₅ vs₆) (runs C Λ (En b) (pass_on f n) q)
      passes_on of-y is allowed so b n vs₄ vs₅ vs₆ q back third-read =
          let at : (n : ℕ) → get_or (En b) (anew_at n) (no_local 𝓤 H) ≡ get_or (Anew b) n (no_local 𝓤 H) = λ n. after-row F.row b.row (Anew b) n (no_local 𝓤 H) in
          assigns ! (addr ! (from ! (hop ! (look ! 5 refl) (stop !)))) (found 𝓛 (at 0)) (init ! 17 refl (tt, tt)) $
          assigns ! (addr ! (from ! (fld ! refl (hop ! (look_in ! 7 (sub ! 0 refl (whole !))) (stop !))))) (found 𝓛 (at 1)) (init ! 19 refl (tt, tt)) $
          assigns ! (agg ! (and_then ! (load ! (found 𝓛 (at 1)) (look ! 19 refl)) (and_then ! (load ! (from ! (fld ! refl (stop !))) (look_in ! 7 (sub ! 1 refl (whole !)))) (no_more !)))) (found 𝓛 (at 2)) (init ! 21 refl (tt, (tt, (record { fits = room.0 }, tt)))) $
          use3 𝓛 (raw ((Lent p' 𝓛).pre (bound p' 𝓛 onward))) (asks p' 𝓛 onward of-y is allowed) $
          -- [what is asked; _0; …; _1; …; …; the row]
          calls_at ! fm (Lent p' 𝓛) met (bound p' 𝓛 onward) (and_then ! (load ! (found 𝓛 (at 0)) (look ! 15 refl)) (and_then ! (load ! (found 𝓛 (at 2)) (look ! 19 refl)) (and_then ! third-read (no_more !)))) (λ v.
          gives p' 𝓛 onward tt v (λ r d zs is l said.
          land ! (from ! (stop !)) (init ! 3 refl (known.of_answer.typed r v is)) $ returns_within ! (PostOf p 𝓛 e) back (look ! 3 refl) $
          forget ! 3 refl $ forget ! 5 refl $ forget ! 7 refl $ forget ! 9 refl $ empties 11 (F.τ₄, b.l₄) vs₄ refl $ empties 13 (F.τ₅, b.l₅) vs₅ refl $ empties 15 (F.τ₆, b.l₆) vs₆ refl $ forget ! 17 refl $ forget ! 19 refl $ forget ! 21 refl $ frees_all 𝓛 e b $
          by ! (exits p 𝓛 e known r d zs v is l (so r d zs said))))
