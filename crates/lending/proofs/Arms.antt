-- A function that takes a record by `&mut`, a lent list of bytes and an act by value, and goes by the act's first field, a number: in each arm of a match it copies the record out, calls the arm's
-- step by value and stores what comes back; where no arm has the number it passes all on to a function of its own kind. It meets its contract, whatever the types are and whatever arms there are.
-- Of each step it takes that it meets its contract and does at its number what the function promises; of the other function, that it meets its own, which promises the same.
-- Assumes nothing.
use mathlib.Core.Path.{◌≡◌, refl, ◌∙◌, ap}
use Prim.Native.Nat.{ℕ, zero, suc}
use mathlib.Core.List.{[], ◌∷◌, List}
use lib.ListN.{length}
use seplogic.Ra.Ura.{Ura}
use base.Fraction.{full_share}
use mir.Syntax.{Sym, Callee, Ty, Tys, Written, Fn, Body, Arms, ty_struct, ty_int, tcons, tnil, w8, assign, seq, call, switch, arm, default, return, place, deref, field, copy, rv_opd}
use mir.Val.{Val, Vals, of_list, vint, vstruct, vcons, vnil}
use base.Logic.{SProp, ent, emp}
use base.Fml.{Fml, Lft, fat, froom}
use base.Stored.{Coded}
use prog.Model.{Model}
use prog.Routine.{Routine, Env}
use prog.Wp.{Calls, Loops, Wp, WpFn, Closed, after_seq}
use types.Logic.{Logic}
use contract.Running.{Running, tables}
use sound.WpLaws.{FmC}
use contract.Monad.{fact}
use types.Kit.{Item, Post, Sq, Go, any_q, at_ret, post, runs, ‵, raw, ⋆, ◌⊛◌, ◌$◌, ◌∵◌, !, qed, by, move, use0, use1, use2, split, rewrite, fjoin, frame, done}
use types.Run.{Cases, look, look_raw, init, store_raw, forget, stop, hop, fld, from, load, of_opd, and_then, no_more, assigns, land, first, switches, returns_within}
use types.Part.{whole, sub, look_in}
use denote.RattleType.{RattleType, mirs, flat}
use denote.Laws.{Is, valss}
use denote.Builtin.{u8}
use denote.Slice.{Room}
use denote.Signature.{Signature, plain}
use denote.Steps.{owned, nothing}
use denote.Struct.Declared.{Declared, fields, row}
use denote.Struct.Laws as laws
use denote.Struct.Struct.{to_tys}
use denote.Triple.Spec.{triple_of}
use denote.Triple.Statement.{Contract, Triple}
use denote.Triple.Call.{calls_at}
use denote.Triple.Table.{cited}
use denote.Triple.Clauses.{Ended, Clauses, closing, lasts}
use denote.Exit.{yes}
use Rattle.lending.proofs.Lent as lent
use Rattle.lending.proofs.Between.{Row-empty, found, One, Each, each-one}
use Rattle.lending.proofs.PassOn.{Shape, Blocks, En as EnOf, After, Anew, AtHand, after_own, frees_all, passing, pass_on, starts, passes_on}
use Rattle.lending.proofs.Lent.{Row, row_of, Types, RD, τS, Told, Known, Ask, Asked, asking, answers, Promise, Entry, was, held, third, passed, Said, Record, Journal, Tokens, Post as PostOf, Lent, opened, closed, spends_record, spends_journal, returned, exits}

-- a struct whose first field is a number of eight bits
pub record Begun : Type 2 where
  pub D : Type 0
  pub name : Sym
  pub τs : Tys
  pub written : Written
  pub reaches : List (Written × List Ty)
  pub lives : Lft
  pub own : D → List Val → Fml
  pub coded : Coded D
  pub shr_at : D → ℕ → ℕ → Lft → Fml
  pub number : D → ℕ
  pub rest : D → Vals

abbrev pub begun_row : Begun → Row
begun_row B = record {
  D = B.D;
  mir = ty_struct B.name (tcons (ty_int w8) B.τs);
  written = B.written;
  reaches = B.reaches;
  lives = B.lives;
  own = B.own;
  coded = B.coded;
  shr_at = B.shr_at;
  val = λ x. vstruct (vcons (vint w8 (B.number x)) (B.rest x));
}

-- a declared struct's, with its first field
abbrev rest-types : Tys → Tys
rest-types tnil = tnil
rest-types (tcons τ τs) = τs

abbrev rest-vals : Vals → Vals
rest-vals vnil = vnil
rest-vals (vcons v vs) = vs

abbrev pub struct_begun : (T : Declared) → laws.Laws T → (T.D → ℕ) → Begun
struct_begun T L number = record {
  D = T.D;
  name = T.name;
  τs = rest-types (to_tys (mirs (fields T)));
  written = (row T).written;
  reaches = (row T).reaches;
  lives = (row T).lives;
  own = (row T).own_val;
  coded = (row T).coded;
  shr_at = (row T).shr_at;
  number = number;
  rest = λ x. rest-vals (of_list (flat (fields T) (valss (fields T) (laws.spells T.parts L) (T.to x))));
}

module _ (T : Types) (B : Begun) where
  abbrev X : Type 0
  X = B.D

  abbrev RX : RattleType
  RX = row_of (begun_row B)

  -- an arm: its number, its step's name, what the step asks and what it returns
  pub record Arm : Type 1 where
    pub key : ℕ
    pub callee : Callee
    pub ready : T.Dr.D → X → Ask
    pub alone : T.Dr.D → X → T.RS.Denot

  -- ---- the code: the record and what the step returns are in _4 and _5, and the number in _6. Each arm has a local more, for the record that is to be stored
  abbrev for_each : List Arm → List Ty
  for_each [] = []
  for_each (k ∷ ks) = T.Dr.mir ∷ for_each ks

  abbrev shape : List Arm → Shape
  shape ks = record { T = T; Xr = begun_row B; τ₄ = T.Dr.mir; τ₅ = τS T; τ₆ = ty_int w8; row = for_each ks }

  abbrev arm_body : ℕ → Callee → Body
  arm_body i step = seq (assign (place 4 []) (rv_opd (copy (place 1 (deref T.Dr.mir ∷ [])))))
      (seq (call step (copy (place 4 []) ∷ copy (place 3 []) ∷ []) (place 5 []))
      (seq (assign (place i []) (rv_opd (copy (place 5 (field 0 ∷ [])))))
      (seq (assign (place 1 (deref T.Dr.mir ∷ [])) (rv_opd (copy (place i []))))
      (seq (assign (place 0 []) (rv_opd (copy (place 5 (field 1 ∷ [])))))
      return))))

  -- the n-th of the arms ks has the n-th local after the function's own, counted by f, and what is left is other's
  abbrev arms_of : (ℕ → ℕ) → List Arm → Body → Arms
  arms_of f [] other = default other
  arms_of f (k ∷ ks) other = arm (k.key ∷ []) (arm_body (after_own (f zero)) k.callee) (arms_of (λ n. f (suc n)) ks other)

  abbrev other_body : List Arm → Callee → Body
  other_body ks other = pass_on (shape ks) other 3

  abbrev body_of : List Arm → Callee → Body
  body_of ks other = seq (assign (place 6 []) (rv_opd (copy (place 3 (field 0 ∷ []))))) (seq (switch (copy (place 6 [])) (arms_of (λ n. n) ks (other_body ks other))) return)

  abbrev pub function : List Arm → Callee → Fn
  function ks other = passing (shape ks) (body_of ks other)

  -- ---- the contract of a step
  abbrev alone_signature : Signature
  alone_signature = record { lifetimes = 0; outlives = []; params = plain (λ κs. RD T) ∷ plain (λ κs. RX) ∷ []; result = plain (λ κs. T.RS) }

  abbrev alone_ended : Ended
  alone_ended = record { signature = alone_signature; kept = (yes, (yes, tt)) }

  abbrev alone_clauses : Arm → {M : Type 1} (𝓤 : Ura M) → Clauses 𝓤 alone_ended
  alone_clauses k 𝓤 = λ κs a. record { ghost = Unit {0}; requires = λ g. asking 𝓤 (k.ready a.0 a.1.0); ensures = λ g r e. fact 𝓤 (r ≡ k.alone a.0 a.1.0) }

  abbrev pub Alone : Arm → {M : Type 1} {𝓤 : Ura M} (𝓛 : Logic 𝓤) → Contract 𝓤
  Alone k {𝓤 = 𝓤} 𝓛 = triple_of 𝓛 alone_signature (closing 𝓛 alone_ended (alone_clauses k 𝓤))

  -- no arm has the number n
  abbrev pub Differs : List Arm → ℕ → Type 0
  Differs [] n = Unit {0}
  Differs (k ∷ ks) n = (n ≡ k.key → ⊥) × Differs ks n

  module _ (p : Promise T (begun_row B)) where
    -- an arm's step meets its contract, may be called where the act has the arm's number, and returns there what is promised, the journal being as it was
    pub record Serves {M : Type 1} {𝓤 : Ura M} (𝓛 : Logic 𝓤) (C : Calls 𝓤 𝓛.H) (k : Arm) : Type 1 where
      pub met : Triple 𝓤 (C k.callee) (Alone k 𝓛)
      pub readies : (d : T.Dr.D) (j : List ℕ) (x : X) → Asked (p.asks d j x) → B.number x ≡ k.key → Asked (k.ready d x)
      pub agrees : (d : T.Dr.D) (j : List ℕ) (x : X) → Asked (p.asks d j x) → B.number x ≡ k.key → (k.alone d x ≡ p.step d j x) × (j ≡ p.journal d j x)

    abbrev pub AllServe : {M : Type 1} {𝓤 : Ura M} (𝓛 : Logic 𝓤) → Calls 𝓤 𝓛.H → List Arm → Type 1
    AllServe 𝓛 C [] = Unit {1}
    AllServe 𝓛 C (k ∷ ks) = Serves 𝓛 C k × AllServe 𝓛 C ks

    -- the same promise, with what the other function asks
    abbrev pub elsewhere : (T.Dr.D → List ℕ → X → Ask) → Promise T (begun_row B)
    elsewhere asked = record { asks = asked; step = p.step; journal = p.journal }

    module _ {M : Type 1} {𝓤 : Ura M} (𝓛 : Logic 𝓤) (known : Known 𝓛 T) (of_act : Told 𝓛 (begun_row B)) (C : Calls 𝓤 𝓛.H) (Λ : Loops 𝓤 𝓛.H) (fm : FmC 𝓤 𝓛.H 𝓛.laws C)
        (e : Entry T (begun_row B)) (room : Room u8 (length (held e))) (is-act : Is RX (third e) ((begun_row B).val (third e) ∷ [])) (pre : Asked (p.asks (was e) (held e) (third e))) where
      open 𝓛 use {H}

      abbrev mach : T.Dr.D → Val
      mach = T.Dr.val

      abbrev out : T.Nr.D → Val
      out = T.Nr.val

      abbrev End : Val → SProp 𝓤
      End = PostOf p 𝓛 e

      -- what a step's triple binds outside, and what it asks
      abbrev to-alone : (k : Arm) → (Alone k 𝓛).Ghost
      to-alone k = ((tt, tt, tt, (was e, (third e, tt)), (mach (was e) ∷ [], ((begun_row B).val (third e) ∷ [], tt))), tt)

      asks-alone : (k : Arm) → Is (RD T) (was e) (mach (was e) ∷ []) → Asked (k.ready (was e) (third e)) → ent 𝓤 (emp 𝓤) ((Alone k 𝓛).pre (to-alone k))
      asks-alone k is ready =
          qed 𝓛 [] ∵ answers (k.ready (was e) (third e)) ready $ nothing ! $ frame ! $ nothing ! $ owned ! RX (Is RX) of_act.makes (third e) _ is-act $ fjoin ! $
          owned ! (RD T) (Is (RD T)) known.of_record.makes (was e) _ is $ fjoin ! $ done !

      so : {r s : T.RS.Denot} → r ≡ s → (s ≡ p.step (was e) (held e) (third e)) × (held e ≡ p.journal (was e) (held e) (third e)) → Said e p (T.answer r) (T.device r) (held e)
      so said agree = (ap T.answer (said ∙ agree.0), ap T.device (said ∙ agree.0), agree.1)

      module _ (all : List Arm) (b : Blocks) where
        abbrev En : List (Ty × ℕ)
        En = EnOf (shape all) b

        abbrev Spare : SProp 𝓤
        Spare = Row-empty 𝓛 (for_each all) b.row

        -- what would run after the match, and what there is before it
        abbrev then : Post 𝓤 H
        then = any_q (after_seq 𝓤 H (Wp 𝓤 H C Λ En return (post 𝓤 H (at_ret En End))) (post 𝓤 H (at_ret En End)))

        abbrev Before : List (Item 𝓤)
        Before = AtHand (shape all) 𝓛 e b [] [] (vint w8 (B.number (third e)) ∷ [])

        in_arm : (i : ℕ) → One 𝓛 (After (shape all) b) Spare T.Dr.mir i → (k : Arm) → Serves 𝓛 C k → B.number (third e) ≡ k.key → Sq 𝓛 Before (runs C Λ En (arm_body (after_own i) k.callee) then)
        in_arm i own k serves at =
            move ! (0 ∷ 2 ∷ []) $ opened known e tt (λ is.
            -- [the record's cell; the open borrow; the journal's reference; _0; …; _1; …; …; the arms' own]
            assigns ! (of_opd ! (load ! (from ! (hop ! (look ! 5 refl) (stop !))) (look_raw ! 0 refl))) (from ! (stop !)) (init ! 11 refl (known.of_record.typed (was e) _ is)) $
            use0 𝓛 (raw ((Alone k 𝓛).pre (to-alone k))) (asks-alone k is (serves.readies (was e) (held e) (third e) pre at)) $
            calls_at ! fm (Alone k 𝓛) serves.met (to-alone k) (and_then ! (load ! (from ! (stop !)) (look ! 12 refl)) (and_then ! (load ! (from ! (stop !)) (look ! 10 refl)) (no_more !))) (λ v.
            returned T.RS (λ r. r ≡ k.alone (was e) (third e)) (lasts alone_ended tt (was e, (third e, tt))) tt v (λ r is' said.
            land ! (from ! (stop !)) (init ! 13 refl (known.both_typed r v is')) $ rewrite ! 13 (λ (u : Val). ‵ (fat full_share (τS T) b.l₅ 0 u)) (known.both_tells r v is') refl $
            move ! (23 ∷ []) $ use1 𝓛 (‵ (froom T.Dr.mir own.block zero) ⊛ raw own.rest) own.out $ split ! $
            -- [the arm's own; what is left of them; the record's cell; …]
            assigns ! (of_opd ! (load ! (from ! (fld ! refl (stop !))) (look_in ! 15 (sub ! 0 refl (whole !))))) (found 𝓛 own.at) (init ! 0 refl (known.of_record.typed (T.device r) _ (known.device_is r v is'))) $
            assigns ! (of_opd ! (load ! (found 𝓛 own.at) (look ! 0 refl))) (from ! (hop ! (look ! 7 refl) (stop !))) (store_raw ! 2 refl (known.of_record.typed (T.device r) _ (known.device_is r v is'))) $
            forget ! 0 refl $ use2 𝓛 (raw Spare) own.back $ move ! (1 ∷ 2 ∷ 3 ∷ 4 ∷ 5 ∷ 6 ∷ 7 ∷ 8 ∷ 9 ∷ 10 ∷ 11 ∷ 12 ∷ 13 ∷ 14 ∷ 15 ∷ 16 ∷ 17 ∷ 18 ∷ 19 ∷ 20 ∷ 21 ∷ 22 ∷ 23 ∷ []) $
            closed known e tt (T.device r) (known.device_is r v is') $
            assigns ! (of_opd ! (load ! (from ! (fld ! refl (stop !))) (look_in ! 13 (sub ! 1 refl (whole !))))) (from ! (stop !)) (init ! 3 refl (known.of_answer.typed (T.answer r) _ (known.answer_is r v is'))) $
            returns_within ! End refl (look ! 3 refl) $ spends_record e (T.device r) $ move ! (2 ∷ []) $ spends_journal e $ move ! (1 ∷ []) $
            forget ! 3 refl $ forget ! 5 refl $ forget ! 7 refl $ forget ! 9 refl $ forget ! 11 refl $ forget ! 13 refl $ forget ! 15 refl $ frees_all (shape all) 𝓛 e b $
            by ! (exits p 𝓛 e known (T.answer r) (T.device r) (held e) (out (T.answer r)) (known.answer_is r v is') refl (so said (serves.agrees (was e) (held e) (third e) pre at))))))

        module _ (asked : T.Dr.D → List ℕ → X → Ask) (other : Callee) (met : Triple 𝓤 (C other) (Lent (elsewhere asked) 𝓛)) where
          in_other : Asked (asked (was e) (held e) (third e)) → Sq 𝓛 Before (runs C Λ En (other_body all other) then)
          in_other allowed = passes_on (shape all) 𝓛 C Λ e room p (elsewhere asked) known fm other met (third e) of_act is-act allowed (λ r d zs said. said)
              b 3 [] [] (vint w8 (B.number (third e)) ∷ []) then refl (load ! (from ! (stop !)) (look ! 7 refl))

          by_arms : (f : ℕ → ℕ) (ks : List Arm) (N : Type 0) → Each 𝓛 (After (shape all) b) Spare f (for_each ks) → AllServe 𝓛 C ks → (N → Differs ks (B.number (third e)) → Asked (asked (was e) (held e) (third e)))
              → Cases (Go {0}) 𝓛 Before C Λ En then N (arms_of f ks (other_body all other)) (B.number (third e))
          by_arms f [] N owns serve allows = λ n. in_other (allows n tt)
          by_arms f (k ∷ ks) N owns serve allows = (λ at. in_arm (f zero) owns.0 k serve.0 at, by_arms (λ n. f (suc n)) ks (N × (B.number (third e) ≡ k.key → ⊥)) owns.1 serve.1 (λ n differs. allows n.0 (n.1, differs)))

      walk : (ks : List Arm) → AllServe 𝓛 C ks → (asked : T.Dr.D → List ℕ → X → Ask) (other : Callee) → Triple 𝓤 (C other) (Lent (elsewhere asked) 𝓛)
          → (Differs ks (B.number (third e)) → Asked (asked (was e) (held e) (third e)))
          → ent 𝓤 (⋆ 𝓛 (Record e 𝓤 (was e) ∷ Journal e 𝓤 ∷ Tokens e 𝓤 ∷ [])) (WpFn 𝓤 H C Λ (function ks other) (passed e) End)
      walk ks serve asked other met allows =
          starts (shape ks) 𝓛 C Λ e room of_act is-act (body_of ks other) End (λ b.
          assigns ! (of_opd ! (load ! (from ! (fld ! refl (stop !))) (look_in ! 9 (sub ! 0 refl (whole !))))) (from ! (stop !)) (init ! 15 refl (tt, (of_act.typed (third e) _ is-act).1.0)) $
          first ! $ switches ! (load ! (from ! (stop !)) (look ! 15 refl)) (by_arms ks b asked other met (λ n. n) ks (Unit {0}) (each-one 𝓛 (for_each ks) b.row (Anew (shape ks) b)) serve (λ _. allows)))

    -- the function named n meets its contract
    pub meets : {M : Type 1} {𝓤 : Ura M} (𝓛 : Logic 𝓤) (𝓜 : Model 𝓤 𝓛.H) (𝓡 : Running 𝓤 𝓛.H 𝓜) (env : Env) → Known 𝓛 T → Told 𝓛 (begun_row B)
        → (asked : T.Dr.D → List ℕ → X → Ask) (ks : List Arm) → ((d : T.Dr.D) (j : List ℕ) (x : X) → Asked (p.asks d j x) → Differs ks (B.number x) → Asked (asked d j x))
        → (n other : Callee) → Closed 𝓤 𝓛.H (tables 𝓤 𝓛.H 𝓜 𝓡 env).C (tables 𝓤 𝓛.H 𝓜 𝓡 env).Λ n (function ks other) → AllServe 𝓛 (tables 𝓤 𝓛.H 𝓜 𝓡 env).C ks
        → {r : Routine} → env other ≡ r → Triple 𝓤 (𝓡.run r) (Lent (elsewhere asked) 𝓛) → Triple 𝓤 (𝓡.run (env n)) (Lent p 𝓛)
    meets {𝓤 = 𝓤} 𝓛 𝓜 𝓡 env known of_act asked ks allows n other closed serve at met = lent.meets p 𝓛 𝓜 𝓡 env of_act n (function ks other) closed
        (λ fm e room is pre. walk 𝓛 known of_act (tables 𝓤 𝓛.H 𝓜 𝓡 env).C (tables 𝓤 𝓛.H 𝓜 𝓡 env).Λ fm e room is pre ks serve asked other
        (cited 𝓤 𝓛.H (Lent (elsewhere asked) 𝓛) 𝓜 𝓡 env other _ at met) (λ differs. allows (was e) (held e) (third e) pre differs))
