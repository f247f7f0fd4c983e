-- What the walks of functions that take a record by `&mut`, a lent list of bytes and a third argument by value have in common: what is known of the types, the contract of such a function,
-- how the borrow of its record is opened and closed, how it calls another such function, and how it ends. Nothing here depends on the code of one. The walks: `Walk`, `Arms` and `Look`.
-- Assumes nothing.
use mathlib.Core.Path.{◌≡◌, refl, subst}
use Prim.Native.Nat.{ℕ}
use mathlib.Core.List.{[], ◌∷◌, List}
use lib.Dec.{T as Holds}
use lib.ListN.{length}
use seplogic.Ra.Ura.{Ura}
use base.Fraction.{full_share}
use mir.Syntax.{Sym, Callee, Fn, Local, local, value_local, Ty, Written, ty_struct, tcons, tnil, named}
use mir.Val.{Val, vptr, vstruct, vcons, vnil, WT, has_ty}
use base.Logic.{SProp, ent, sep, ex, emp, via, id⊢, mono_l, fst∗, emp∗, comm∗}
use base.Fml.{Fml, Lft, ftrue, fat, froom, fdies, flft, fobs, fauth, fbor, fobor, fres, fsep}
use base.Stored.{Coded}
use prog.Model.{Model}
use prog.Routine.{Env}
use prog.Wp.{WpFn, Tables, Closed}
use types.Logic.{Logic, sem}
use contract.Monad.{fact}
use contract.Lifetimes.{Lfts, Shares}
use contract.Running.{Running, tables, tables_of}
use types.Kit.{Item, Goal, Soaks, Sq, mean, nth, del, put, pull, fill, Step, Go, step, prop, frees, ‵, raw, some, later, ◌⊛◌, ⋆, ◌$◌, ◌∵◌, !, qed, move, keep, drop, use1, split, join, pick, fsplit, fsplit3, fjoin, fjoin3, feq_l, feq_i, suffices, frame, await, done}
use types.Run.{free1, free0}
use types.SemTy.{Body, Arr}
use types.Hole.{Holey}
use sound.WpLaws.{FmC, fm_of, WpFn-mono}
use denote.RattleType.{RattleType, owns}
use denote.Laws.{Is, Tells, Makes, shows}
use denote.Memory.{mem, cell_at}
use denote.Builtin.{u8, RefMutOf, SliceRefMutOf}
use denote.Ref.{MutBor, MutRef, mut_vals, mut_Tells, at_last}
use denote.Slice.{slice_val, mut_slice_vals, MutSlice, finally, res-finally, coded_holeys, heres, mut_slice_Tells, Room}
use denote.Signature.{Signature, Slot, plain}
use denote.Steps.{opens, closes, owned, facts, heard, nothing}
use denote.Struct.Declared.{Declared, fields, shape, row}
use denote.Struct.Laws as laws
use denote.Struct.Steps.{spelt}
use denote.Struct.Struct.{Plains, layout}
use denote.Triple.Entry.{on_entry}
use denote.Triple.Spec.{triple_of}
use denote.Triple.Statement.{Contract, Triple}
use denote.Triple.Table.{entered}
use denote.Triple.Clauses.{Ended, Clauses, closing, ensured, lasts}
use denote.Triple.Walked.{says, needs, Stays, stay_dropped, gave_ref, gave_slice, walk_of, Goes-dropped, Goes-gave_ref, Goes-gave_slice, ends_at, walked, walk_Meets}
use denote.Exit.{unchanged, yes}

-- ---- the types
-- a type that owns facts alone and is seen at exit as it was passed: one machine value, given by `val`
pub record Row : Type 2 where
  pub D : Type 0
  pub mir : Ty
  pub written : Written
  pub reaches : List (Written × List Ty)
  pub lives : Lft
  pub own : D → List Val → Fml
  pub coded : Coded D
  pub shr_at : D → ℕ → ℕ → Lft → Fml
  pub val : D → Val

abbrev pub row_of : Row → RattleType
row_of R = record { Denot = R.D; mir = R.mir ∷ []; written = R.written; reaches = R.reaches; lives = R.lives; own_val = R.own; exit = λ k. unchanged; coded = R.coded; shr_at = R.shr_at }

-- a declared struct's
abbrev pub struct_row : (T : Declared) → laws.Laws T → Row
struct_row T L = record { D = T.D; mir = layout (shape T); written = (row T).written; reaches = (row T).reaches; lives = (row T).lives; own = (row T).own_val; coded = (row T).coded; shr_at = (row T).shr_at; val = laws.val T L }

-- a machine value has a MIR type
abbrev pub Has : Ty → Val → Type 0
Has τ v = Holds (has_ty τ v) × WT v

-- the record, the answer, and the struct of both that a step returns
pub record Types : Type 2 where
  pub Dr : Row
  pub Nr : Row
  pub RS : RattleType
  pub νS : Sym
  pub device : RS.Denot → Dr.D
  pub answer : RS.Denot → Nr.D

module _ (T : Types) where
  abbrev pub RD : RattleType
  RD = row_of T.Dr

  abbrev pub RN : RattleType
  RN = row_of T.Nr

  abbrev pub τS : Ty
  τS = ty_struct T.νS (tcons T.Dr.mir (tcons T.Nr.mir tnil))

  abbrev pub both : T.RS.Denot → Val
  both r = vstruct (vcons (T.Dr.val (T.device r)) (vcons (T.Nr.val (T.answer r)) vnil))

-- what is known of the types: the values are told, typed and made of facts
module _ {M : Type 1} {𝓤 : Ura M} (𝓛 : Logic 𝓤) where
  pub record Told (R : Row) : Type 1 where
    pub tells : Tells (row_of R) (Is (row_of R)) (λ d. R.val d ∷ [])
    pub typed : (d : R.D) (v : Val) → Is (row_of R) d (v ∷ []) → Has R.mir v
    pub makes : Makes 𝓛 (row_of R) (Is (row_of R))

  pub told : (T : Declared) (L : laws.Laws T) → Plains (fields T) → Told (struct_row T L)
  told T L pl = record { tells = laws.tells T L; typed = λ d v is. ((laws.lawful T L 𝓛).typed d _ is).0; makes = laws.makes T pl 𝓛 }

  pub record Known (T : Types) : Type 1 where
    pub of_record : Told T.Dr
    pub of_answer : Told T.Nr
    pub both_tells : (r : T.RS.Denot) (v : Val) → Is T.RS r (v ∷ []) → v ≡ both T r
    pub both_typed : (r : T.RS.Denot) (v : Val) → Is T.RS r (v ∷ []) → Has (τS T) v
    pub device_is : (r : T.RS.Denot) (v : Val) → Is T.RS r (v ∷ []) → Is (RD T) (T.device r) (T.Dr.val (T.device r) ∷ [])
    pub answer_is : (r : T.RS.Denot) (v : Val) → Is T.RS r (v ∷ []) → Is (RN T) (T.answer r) (T.Nr.val (T.answer r) ∷ [])

-- ---- a `requires`: none, or a fact
pub data Ask : Type 1 where
  no_ask : Ask
  ask : Type 0 → Ask

abbrev pub Asked : Ask → Type 0
Asked no_ask = Unit {0}
Asked (ask φ) = φ

abbrev pub asking : {M : Type 1} (𝓤 : Ura M) → Ask → SProp 𝓤
asking 𝓤 no_ask = emp 𝓤
asking 𝓤 (ask φ) = fact 𝓤 φ

hears : {M : Type 1} (𝓤 : Ura M) (p : Ask) (P : SProp 𝓤) {Q : SProp 𝓤} → (Asked p → ent 𝓤 P Q) → ent 𝓤 (sep 𝓤 P (asking 𝓤 p)) Q
hears 𝓤 no_ask P h = via 𝓤 P (fst∗ 𝓤 P (emp 𝓤)) (h tt)
hears 𝓤 (ask φ) P h = needs 𝓤 φ P h

pub answers : {M : Type 1} {𝓤 : Ura M} {𝓛 : Logic 𝓤} {Γ : List (Item 𝓤)} (p : Ask) → Asked p → {P : SProp 𝓤} → Step (Go {0}) 𝓛 Γ (prop P) Γ (prop (sep 𝓤 P (asking 𝓤 p)))
answers {𝓤 = 𝓤} no_ask x {P} = suffices ! P (via 𝓤 (sep 𝓤 (emp 𝓤) P) (emp∗ 𝓤 P) (comm∗ 𝓤 (emp 𝓤) P))
answers (ask φ) x = says ! x

-- ---- the contract
module _ (T : Types) (Xr : Row) where
  -- what is asked and promised
  pub record Promise : Type 1 where
    pub asks : T.Dr.D → List ℕ → Xr.D → Ask
    pub step : T.Dr.D → List ℕ → Xr.D → T.RS.Denot
    pub journal : T.Dr.D → List ℕ → Xr.D → List ℕ

  abbrev pub lent_signature : Signature
  lent_signature = record { lifetimes = 2; outlives = []; params = RefMutOf (0 ∷ []) tt (plain (λ κs. RD T)) (λ κs. tt) ∷ SliceRefMutOf (1 ∷ []) tt (plain (λ κs. u8)) (λ κs. tt) ∷ plain (λ κs. row_of Xr) ∷ []; result = plain (λ κs. RN T) }

  abbrev pub lent_ended : Ended
  lent_ended = record { signature = lent_signature; kept = (yes, (yes, (yes, tt))) }

  -- the lifetimes, the shares of their tokens, and the arguments
  pub record Entry : Type 0 where
    pub κs : Lfts 2
    pub qs : Shares 2
    pub a : MutBor T.Dr.D × (MutBor (List ℕ) × (Xr.D × Unit {0}))

  -- what is had of each parameter at exit: what says the record's and the journal's last values, and nothing of the third
  abbrev RecordS : Slot 2
  RecordS = plain (λ _. RD T)

  abbrev JournalS : Slot 2
  JournalS = plain (λ _. u8)

  abbrev stayed : Stays lent_ended.signature.params lent_ended.kept
  stayed = (gave_ref (0 ∷ []) tt RecordS, (gave_slice (1 ∷ []) tt JournalS, (stay_dropped (plain (λ _. row_of Xr)) yes, tt)))

module _ {T : Types} {Xr : Row} (e : Entry T Xr) where
  -- the record, the journal and the third argument on entry
  abbrev pub was : T.Dr.D
  was = e.a.0.now

  abbrev pub held : List ℕ
  held = e.a.1.0.now

  abbrev pub third : Xr.D
  third = e.a.1.1.0

  -- the machine values passed
  abbrev vals : List Val × (List Val × (List Val × Unit {0}))
  vals = (mut_vals e.a.0, (mut_slice_vals e.a.1.0, (Xr.val third ∷ [], tt)))

  abbrev pub passed : List Val
  passed = vptr e.a.0.ref_ptr.0 e.a.0.ref_ptr.1 ∷ slice_val e.a.1.0.ref_ptr (length held) ∷ Xr.val third ∷ []

  -- what is promised of the answer r, the record d and the journal zs
  abbrev pub Said : Promise T Xr → T.Nr.D → T.Dr.D → List ℕ → Type 0
  Said p r d zs = (r ≡ T.answer (p.step was held third)) × (d ≡ T.device (p.step was held third)) × (zs ≡ p.journal was held third)

  module _ {M : Type 1} (𝓤 : Ura M) where
    -- the tokens
    abbrev pub Token : Item 𝓤
    Token = ‵ (flft e.κs.1.0 e.qs.1.0) ⊛ ‵ ftrue

    abbrev pub Tokens : Item 𝓤
    Tokens = ‵ (flft e.κs.0 e.qs.0) ⊛ Token

    -- the record's reference, at the record d, and the journal's
    abbrev pub Record : T.Dr.D → Item 𝓤
    Record d = ‵ ((MutRef (named 0) e.κs.0 (RD T)).own_val (at_last e.a.0 d) (mut_vals e.a.0))

    abbrev pub Journal : Item 𝓤
    Journal = ‵ ((MutSlice (named 1) e.κs.1.0 u8).own_val e.a.1.0 (mut_slice_vals e.a.1.0))

    -- what says their last values, with their borrows, closed
    abbrev pub RecordThen : T.Dr.D → Item 𝓤
    RecordThen d = ‵ (fsep (fres e.a.0.ghost_name (T.Dr.coded.code d)) (fbor e.κs.0 (Body (mem (RD T)) e.a.0.ref_ptr.0 e.a.0.ref_ptr.1 e.a.0.ghost_name)))

    abbrev pub JournalThen : List ℕ → Item 𝓤
    JournalThen zs = ‵ (fsep (finally u8 e.a.1.0.ghost_name zs) (fbor e.κs.1.0 (Body (Arr (Holey (mem u8)) (length held)) e.a.1.0.ref_ptr.0 e.a.1.0.ref_ptr.1 e.a.1.0.ghost_name)))

    -- the record's cell, and its open borrow
    abbrev pub Cell : T.Dr.D → Item 𝓤
    Cell d = ‵ (cell_at full_share (RD T).mir (T.Dr.val d ∷ []) e.a.0.ref_ptr.0 e.a.0.ref_ptr.1)

    abbrev pub Opened : Item 𝓤
    Opened = (‵ (fobor e.κs.0 e.qs.0 (Body (mem (RD T)) e.a.0.ref_ptr.0 e.a.0.ref_ptr.1 e.a.0.ghost_name))
        ⊛ ‵ (fobs e.a.0.ghost_name (T.Dr.coded.code was)) ⊛ ‵ (fauth e.a.0.ghost_name (T.Dr.coded.code was))) ⊛ Token

module _ {T : Types} {Xr : Row} {M : Type 1} {𝓤 : Ura M} {𝓛 : Logic 𝓤} {Γ : List (Item 𝓤)} {G : Goal 𝓤 𝓛.H} where
  pub spends_record : (e : Entry T Xr) (d : T.Dr.D) → Step (Go {0}) 𝓛 (RecordThen e 𝓤 d ∷ Γ) G (Record e 𝓤 d ∷ Γ) G
  spends_record e d = step (λ s. fsplit3 ! $ drop ! $ use1 𝓛 (‵ (fres e.a.0.ghost_name (T.Dr.coded.code d))) (𝓛.names.obs-res e.a.0.ghost_name (T.Dr.coded.code d)) $ fjoin ! $ s)

  pub spends_journal : (e : Entry T Xr) → Step (Go {0}) 𝓛 (JournalThen e 𝓤 (held e) ∷ Γ) G (Journal e 𝓤 ∷ Γ) G
  spends_journal e = step (λ s.
      fsplit ! $ drop ! $ fsplit ! $
      use1 𝓛 (‵ (fres e.a.1.0.ghost_name ((coded_holeys u8).code (heres u8 (held e))))) (𝓛.names.obs-res e.a.1.0.ghost_name ((coded_holeys u8).code (heres u8 (held e)))) $
      use1 𝓛 (‵ (finally u8 e.a.1.0.ghost_name (held e))) (res-finally 𝓛 (named 1) e.κs.1.0 u8 e.a.1.0.ghost_name (held e)) $ fjoin ! $ s)

  -- the borrow of the record is opened, and closed at the record d
  module _ (known : Known 𝓛 T) (e : Entry T Xr) (soaks : Soaks G) where
    pub opened : (Is (RD T) (was e) (T.Dr.val (was e) ∷ []) → Sq 𝓛 (Cell e 𝓤 (was e) ∷ Opened e 𝓤 ∷ Γ) G) → Sq 𝓛 (Record e 𝓤 (was e) ∷ Tokens e 𝓤 ∷ Γ) G
    opened k =
        fsplit3 ! $ drop ! $ move ! (2 ∷ []) $ split ! $ move ! (2 ∷ 3 ∷ 0 ∷ []) $
        opens ! soaks (RD T) {h = was e} e.a.0.ref_ptr.0 e.a.0.ref_ptr.1 (λ vs.
        spelt ! (RD T) (Is (RD T)) (shows 𝓛 (RD T)) (λ d. T.Dr.val d ∷ []) known.of_record.tells full_share (was e) vs e.a.0.ref_ptr.0 e.a.0.ref_ptr.1 $
        move ! (1 ∷ []) $ facts ! (RD T) (Is (RD T)) (shows 𝓛 (RD T)) (was e) (T.Dr.val (was e) ∷ []) (λ is.
        move ! (2 ∷ 3 ∷ []) $ join ! $ move ! (2 ∷ 0 ∷ []) $ join ! $ move ! (0 ∷ 2 ∷ []) $ join ! $ move ! (1 ∷ 0 ∷ []) $ k is))

    pub closed : (d : T.Dr.D) → Is (RD T) d (T.Dr.val d ∷ []) → Step (Go {0}) 𝓛 (Record e 𝓤 d ∷ Tokens e 𝓤 ∷ Γ) G (Cell e 𝓤 d ∷ Opened e 𝓤 ∷ Γ) G
    closed d is = step (λ s.
        move ! (1 ∷ []) $ split ! $ split ! $ move ! (1 ∷ []) $ split ! $ owned ! (RD T) (Is (RD T)) known.of_record.makes d _ is $ move ! (5 ∷ 0 ∷ 3 ∷ 1 ∷ 2 ∷ []) $
        closes ! soaks (RD T) d (T.Dr.val d ∷ []) e.a.0.ref_ptr.0 e.a.0.ref_ptr.1 $
        feq_i ! (List Val) (mut_vals e.a.0) (mut_vals e.a.0) refl $ fjoin3 ! $ move ! (1 ∷ 2 ∷ []) $ join ! $ move ! (1 ∷ 0 ∷ []) $ s)

-- what a call of a function that is lent nothing gives: a result r, of which F holds. L is what its contract says of last values, of which there are none
pub returned : {M : Type 1} {𝓤 : Ura M} {𝓛 : Logic 𝓤} {Γ : List (Item 𝓤)} {G : Goal 𝓤 𝓛.H} (R : RattleType) (F : R.Denot → Type 0) {Ws : Type 0} (L : Ws → Fml) → Soaks G → (v : Val)
    → ((r : R.Denot) → Is R r (v ∷ []) → F r → Sq 𝓛 Γ G)
    → Sq 𝓛 (raw (𝓛.H.⇛ (ex 𝓤 (λ (r : R.Denot). sep 𝓤 (sep 𝓤 (emp 𝓤) (sem 𝓛 (R.own_val r (v ∷ [])))) (ex 𝓤 (λ (ws : Ws). sep 𝓤 (sem 𝓛 (L ws)) (fact 𝓤 (F r))))))) ∷ Γ) G
returned {𝓤 = 𝓤} {𝓛 = 𝓛} R F {Ws} L soaks v k =
    use1 𝓛 (later (some (λ (r : R.Denot). (‵ ftrue ⊛ ‵ (R.own_val r (v ∷ []))) ⊛ some (λ (ws : Ws). ‵ (L ws) ⊛ raw (fact 𝓤 (F r)))))) (id⊢ 𝓤 _) $ await ! soaks $ pick ! (λ r.
    split ! $ move ! (1 ∷ []) $ pick ! (λ ws. split ! $ drop ! $ heard ! (F r) (λ said. split ! $ drop ! $ facts ! R (Is R) (shows 𝓛 R) r (v ∷ []) (λ is. k r is said))))

-- the locals, at the types τs and the blocks bs, and how they are freed
abbrev pub locals_of : List Ty → List Local
locals_of [] = []
locals_of (τ ∷ τs) = local τ value_local ∷ locals_of τs

abbrev pub env_of : List Ty → List ℕ → List (Ty × ℕ)
env_of [] bs = []
env_of (τ ∷ τs) [] = []
env_of (τ ∷ τs) (b ∷ bs) = (τ, b) ∷ env_of τs bs

-- what they hold: a value, or nothing yet
abbrev contents : {M : Type 1} {𝓤 : Ura M} → Ty × ℕ → List Val → Item 𝓤
contents l [] = ‵ (froom l.0 l.1 0)
contents l (v ∷ vs) = ‵ (fat full_share l.0 l.1 0 v)

abbrev pub cells : {M : Type 1} {𝓤 : Ura M} → List (Ty × ℕ) → List (List Val) → List (Item 𝓤)
cells [] vss = []
cells (l ∷ ls) [] = contents l [] ∷ ‵ (fdies l.0 l.1) ∷ cells ls []
cells (l ∷ ls) (vs ∷ vss) = contents l vs ∷ ‵ (fdies l.0 l.1) ∷ cells ls vss

-- a local is emptied, whatever it holds
emptied : {M : Type 1} {𝓤 : Ura M} → (𝓛 : Logic 𝓤) → (l : Ty × ℕ) (vs : List Val) → ent 𝓤 (mean 𝓛 (contents l vs)) (mean 𝓛 (contents l []))
emptied {𝓤 = 𝓤} 𝓛 l [] = id⊢ 𝓤 _
emptied 𝓛 l (v ∷ vs) = 𝓛.laws.at_room l.0 l.1 0 v

pub empties : {M : Type 1} {𝓤 : Ura M} {𝓛 : Logic 𝓤} {Γ : List (Item 𝓤)} {G : Goal 𝓤 𝓛.H} (n : ℕ) (l : Ty × ℕ) (vs : List Val) → nth 𝓛 n Γ ≡ contents l vs → Step (Go {0}) 𝓛 (put 𝓛 n (contents l []) Γ) G Γ G
empties {𝓤 = 𝓤} {𝓛 = 𝓛} {Γ = Γ} n l vs e = step (λ s. record {
  prf = via 𝓤 _ (subst (λ (i : Item 𝓤). ent 𝓤 (⋆ 𝓛 Γ) (sep 𝓤 (mean 𝓛 i) (⋆ 𝓛 (del 𝓛 n Γ)))) e (pull 𝓛 n Γ))
      (via 𝓤 _ (mono_l 𝓤 (⋆ 𝓛 (del 𝓛 n Γ)) (emptied 𝓛 l vs)) (via 𝓤 (⋆ 𝓛 (put 𝓛 n (contents l []) Γ)) (fill 𝓛 n (contents l []) Γ) s.prf));
})

pub freed : {M : Type 1} {𝓤 : Ura M} {𝓛 : Logic 𝓤} {x y z : Item 𝓤} {G : Goal 𝓤 𝓛.H} (ls : List (Ty × ℕ)) → Step (Go {0}) 𝓛 (x ∷ y ∷ z ∷ []) G (x ∷ y ∷ z ∷ cells ls []) (frees ls G)
freed [] = free0 !
freed (l ∷ ls) = step (λ s. move ! (3 ∷ 4 ∷ []) $ free1 ! $ freed ls $ s)

module _ {T : Types} {Xr : Row} (p : Promise T Xr) where
  abbrev pub lent_clauses : {M : Type 1} (𝓤 : Ura M) → Clauses 𝓤 (lent_ended T Xr)
  lent_clauses 𝓤 = λ κs a. record {
    ghost = Unit {0};
    requires = λ g. asking 𝓤 (p.asks a.0.now a.1.0.now a.1.1.0);
    ensures = λ g r e. fact 𝓤 ((r ≡ T.answer (p.step a.0.now a.1.0.now a.1.1.0)) × (e.0.now ≡ T.device (p.step a.0.now a.1.0.now a.1.1.0)) × (e.1.0.now ≡ p.journal a.0.now a.1.0.now a.1.1.0));
  }

  module _ {M : Type 1} {𝓤 : Ura M} (𝓛 : Logic 𝓤) where
    abbrev pub Lent : Contract 𝓤
    Lent = triple_of 𝓛 (lent_signature T Xr) (closing 𝓛 (lent_ended T Xr) (lent_clauses 𝓤))

    -- what is bound outside
    abbrev pub bound : Entry T Xr → Lent.Ghost
    bound e = ((e.κs, e.qs, tt, e.a, vals e), tt)

    abbrev pub Post : Entry T Xr → Val → SProp 𝓤
    Post e = (walk_of 𝓛 (lent_ended T Xr) (stayed T Xr) (lent_clauses 𝓤)).post (bound e)

  module _ {M : Type 1} {𝓤 : Ura M} (𝓛 : Logic 𝓤) where
    -- what a call of such a function asks, and what it gives
    open 𝓛 use {H}

    pub asks : (e : Entry T Xr) → Told 𝓛 Xr → Is (row_of Xr) (third e) (Xr.val (third e) ∷ []) → Asked (p.asks (was e) (held e) (third e))
        → ent 𝓤 (⋆ 𝓛 (Record e 𝓤 (was e) ∷ Journal e 𝓤 ∷ Tokens e 𝓤 ∷ [])) ((Lent 𝓛).pre (bound 𝓛 e))
    asks e of-third is pre =
        qed 𝓛 (Record e 𝓤 (was e) ∷ Journal e 𝓤 ∷ Tokens e 𝓤 ∷ []) ∵ answers (p.asks (was e) (held e) (third e)) pre $ move ! (2 ∷ []) $ frame ! $
        nothing ! $ owned ! (row_of Xr) (Is (row_of Xr)) of-third.makes (third e) _ is $ fjoin ! $ move ! (2 ∷ 0 ∷ []) $ fjoin ! $ move ! (1 ∷ 0 ∷ []) $ fjoin ! $ done !

    pub gives : (e : Entry T Xr) {Γ : List (Item 𝓤)} {G : Goal 𝓤 H} → Soaks G → (v : Val)
        → ((r : T.Nr.D) (d : T.Dr.D) (zs : List ℕ) → Is (RN T) r (v ∷ []) → length zs ≡ length (held e) → Said e p r d zs → Sq 𝓛 (RecordThen e 𝓤 d ∷ JournalThen e 𝓤 zs ∷ Tokens e 𝓤 ∷ Γ) G)
        → Sq 𝓛 (raw ((Lent 𝓛).post (bound 𝓛 e) v) ∷ Γ) G
    gives e soaks v k =
        use1 𝓛 (later (some (λ (r : T.Nr.D). (Tokens e 𝓤 ⊛ ‵ ((RN T).own_val r (v ∷ []))) ⊛ raw (ensured 𝓛 (lent_ended T Xr) (lent_clauses 𝓤) e.κs e.a tt r)))) (id⊢ 𝓤 _) $ await ! soaks $ pick ! (λ r.
        split ! $ move ! (1 ∷ []) $ use1 𝓛 (some (λ (zs : T.Dr.D × (List ℕ × (Unit {0} × Unit {0}))). ‵ (lasts (lent_ended T Xr) e.κs e.a zs) ⊛ raw (fact 𝓤 (Said e p r zs.0 zs.1.0)))) (id⊢ 𝓤 _) $ pick ! (λ zs.
        split ! $ move ! (1 ∷ []) $ heard ! (Said e p r zs.0 zs.1.0) (λ said. fsplit ! $ move ! (1 ∷ []) $ fsplit ! $ fsplit ! $ fsplit ! $ move ! (1 ∷ []) $ feq_l ! (λ l. fjoin ! $
        move ! (3 ∷ []) $ split ! $ move ! (1 ∷ []) $ facts ! (RN T) (Is (RN T)) (shows 𝓛 (RN T)) r (v ∷ []) (λ is.
        move ! (2 ∷ []) $ drop ! $ move ! (2 ∷ 1 ∷ 0 ∷ []) $ k r zs.0 zs.1.0 is l said)))))

    -- how such a function ends
    pub exits : (e : Entry T Xr) → Known 𝓛 T → (r : T.Nr.D) (d : T.Dr.D) (zs : List ℕ) (v : Val) → Is (RN T) r (v ∷ []) → length zs ≡ length (held e) → Said e p r d zs
        → ent 𝓤 (⋆ 𝓛 (RecordThen e 𝓤 d ∷ JournalThen e 𝓤 zs ∷ Tokens e 𝓤 ∷ [])) (Post 𝓛 e v)
    exits e known r d zs v is l said =
        qed 𝓛 (RecordThen e 𝓤 d ∷ JournalThen e 𝓤 zs ∷ Tokens e 𝓤 ∷ []) ∵
        suffices ! _ (ends_at 𝓛 (lent_ended T Xr) (stayed T Xr) (lent_clauses 𝓤) (bound 𝓛 e) v r (d, (zs, (tt, tt))) (tt, (l, (tt, tt)))) $
        says ! said $ move ! (2 ∷ []) $ frame ! $ nothing ! $ nothing ! $ fjoin ! $ move ! (2 ∷ 0 ∷ []) $ fjoin ! $ move ! (1 ∷ 0 ∷ []) $ fjoin ! $
        owned ! (RN T) (Is (RN T)) known.of_answer.makes r _ is $ move ! (1 ∷ 0 ∷ []) $ done !

    -- it meets the contract, where from each entry its code ends so
    enters : (e : Entry T Xr) → ent 𝓤 (on_entry 𝓛 (lent_signature T Xr) e.κs e.qs e.a (vals e)) (⋆ 𝓛 (Record e 𝓤 (was e) ∷ Journal e 𝓤 ∷ Tokens e 𝓤 ∷ []))
    enters e =
        qed 𝓛 (Tokens e 𝓤 ∷ ‵ (owns (MutRef (named 0) e.κs.0 (RD T) ∷ MutSlice (named 1) e.κs.1.0 u8 ∷ row_of Xr ∷ []) e.a (vals e)) ∷ []) ∵
        move ! (1 ∷ []) $ fsplit ! $ move ! (1 ∷ []) $ fsplit ! $ keep ! (2 ∷ 0 ∷ 3 ∷ []) $ done !

    walks : Told 𝓛 Xr → (𝓣 : Tables 𝓤 H) (f : Fn)
        → ((e : Entry T Xr) → Room u8 (length (held e)) → Is (row_of Xr) (third e) (Xr.val (third e) ∷ []) → Asked (p.asks (was e) (held e) (third e))
        → ent 𝓤 (⋆ 𝓛 (Record e 𝓤 (was e) ∷ Journal e 𝓤 ∷ Tokens e 𝓤 ∷ [])) (WpFn 𝓤 H 𝓣.C 𝓣.Λ f (passed e) (Post 𝓛 e)))
        → Triple 𝓤 (WpFn 𝓤 H 𝓣.C 𝓣.Λ f) (Lent 𝓛)
    walks of-third 𝓣 f walk =
        walk_Meets 𝓛 (lent_ended T Xr) (stayed T Xr)
        (Goes-gave_ref 𝓛 2 0 tt (RecordS T Xr), (Goes-gave_slice 𝓛 2 1 tt (JournalS T Xr), (Goes-dropped 𝓛 2 (plain (λ _. row_of Xr)) yes (λ κs x f. refl), tt)))
        (lent_clauses 𝓤) (WpFn 𝓤 H 𝓣.C 𝓣.Λ f) (WpFn-mono 𝓤 H 𝓛.laws 𝓣 f)
        (walked 𝓛 (lent_ended T Xr) (stayed T Xr) (lent_clauses 𝓤) (WpFn 𝓤 H 𝓣.C 𝓣.Λ f)
        (λ κs. (mut_vals, (mut_slice_vals, ((λ x. Xr.val x ∷ []), tt))))
        (λ κs. (mut_Tells (named 0) κs.0 (RD T), (mut_slice_Tells (named 1) κs.1.0 u8, (of-third.tells, tt))))
        (λ κs qs bounds a _ are. let e : Entry T Xr = record { κs = κs; qs = qs; a = a } in hears 𝓤 (p.asks (was e) (held e) (third e)) _ (λ pre. via 𝓤 _ (enters e) (walk e are.1.0.0.1 are.1.1.0 pre))))

  -- its name does, where its calls mean env
  module _ {M : Type 1} {𝓤 : Ura M} (𝓛 : Logic 𝓤) (𝓜 : Model 𝓤 𝓛.H) (𝓡 : Running 𝓤 𝓛.H 𝓜) (env : Env) where
    open 𝓛 use {H}

    pub meets : Told 𝓛 Xr → (k : Callee) (f : Fn) → Closed 𝓤 H (tables 𝓤 H 𝓜 𝓡 env).C (tables 𝓤 H 𝓜 𝓡 env).Λ k f
        → (FmC 𝓤 H 𝓛.laws (tables 𝓤 H 𝓜 𝓡 env).C → (e : Entry T Xr) → Room u8 (length (held e)) → Is (row_of Xr) (third e) (Xr.val (third e) ∷ []) → Asked (p.asks (was e) (held e) (third e))
        → ent 𝓤 (⋆ 𝓛 (Record e 𝓤 (was e) ∷ Journal e 𝓤 ∷ Tokens e 𝓤 ∷ [])) (WpFn 𝓤 H (tables 𝓤 H 𝓜 𝓡 env).C (tables 𝓤 H 𝓜 𝓡 env).Λ f (passed e) (Post 𝓛 e)))
        → Triple 𝓤 (𝓡.run (env k)) (Lent 𝓛)
    unfolding tables_of
    meets of-third k f closed walk =
        let 𝓣 : Tables 𝓤 H = tables_of 𝓤 H 𝓜 (tables 𝓤 H 𝓜 𝓡 env) in
        entered 𝓤 H (Lent 𝓛) (tables 𝓤 H 𝓜 𝓡 env).C (tables 𝓤 H 𝓜 𝓡 env).Λ k f closed (walks 𝓛 of-third 𝓣 f (walk (fm_of 𝓤 H 𝓛.laws 𝓣)))
