-- A function that takes a record by `&mut`, a lent list of bytes and a happening by value, looks at a copy of the record and at the list's length to decide by value on an act, and passes the record and
-- the list on with the act. It meets its contract, whatever the types are. Of what decides it takes that it meets its contract; of the function that is called then, that it meets its own, which promises
-- for an act that can be decided on what this one promises for the happening.
-- Assumes nothing.
use mathlib.Core.Path.{◌≡◌, refl, ◌∙◌, ap, subst}
use Prim.Native.Nat.{ℕ}
use mathlib.Core.List.{[], ◌∷◌, List}
use lib.ListN.{length}
use seplogic.Ra.Ura.{Ura}
use base.Fraction.{full_share}
use mir.Syntax.{Callee, Fn, Body, ty_int, w64, assign, seq, call, place, deref, field, copy, rv_opd}
use mir.Val.{Val, vint}
use base.Logic.{ent, emp}
use base.Fml.{fat}
use prog.Model.{Model}
use prog.Routine.{Routine, Env}
use prog.Wp.{Calls, Loops, WpFn, Closed}
use types.Logic.{Logic}
use contract.Running.{Running, tables}
use sound.WpLaws.{FmC}
use contract.Monad.{fact}
use types.Kit.{at_ret, ‵, raw, ⋆, ◌$◌, ◌∵◌, !, qed, move, use0, rewrite, fjoin, frame, done}
use types.Run.{look, look_raw, init, stop, hop, fld, from, load, of_opd, and_then, no_more, assigns, land}
use types.Part.{whole, sub, look_in}
use denote.Laws.{Is}
use denote.Builtin.{u8, usize}
use denote.Plain.{uint_Makes}
use denote.Slice.{Room}
use denote.Signature.{Signature, plain}
use denote.Steps.{only, owned, nothing}
use denote.Triple.Spec.{triple_of}
use denote.Triple.Statement.{Contract, Triple}
use denote.Triple.Call.{calls_at}
use denote.Triple.Table.{cited}
use denote.Triple.Clauses.{Ended, Clauses, closing, lasts}
use denote.Exit.{yes}
use Rattle.lending.proofs.Lent as lent
use Rattle.lending.proofs.Lent.{Row, row_of, Types, RD, Told, Known, Ask, Asked, asking, answers, Promise, Entry, was, held, third, passed, Record, Journal, Tokens, Post, Lent, opened, closed, returned}
use Rattle.lending.proofs.PassOn.{Shape, En, passing, pass_on, starts, passes_on}

module _ {T : Types} {Hr Xr : Row} (p : Promise T Hr) (p' : Promise T Xr) (Needs : T.Dr.D → ℕ → Hr.D → Ask) (Decided : T.Dr.D → ℕ → Hr.D → Xr.D → Type 0) where
  -- ---- the code: the record is in _4, the act in _5, and the length in _6
  abbrev shape : Shape
  shape = record { T = T; Xr = Hr; τ₄ = T.Dr.mir; τ₅ = Xr.mir; τ₆ = ty_int w64; row = [] }

  abbrev body_of : Callee → Callee → Body
  body_of decide perform = seq (assign (place 4 []) (rv_opd (copy (place 1 (deref T.Dr.mir ∷ [])))))
      (seq (assign (place 6 []) (rv_opd (copy (place 2 (field 1 ∷ [])))))
      (seq (call decide (copy (place 4 []) ∷ copy (place 6 []) ∷ copy (place 3 []) ∷ []) (place 5 []))
      (pass_on shape perform 5)))

  abbrev pub function : Callee → Callee → Fn
  function decide perform = passing shape (body_of decide perform)

  -- ---- the contract of what decides
  abbrev decide_signature : Signature
  decide_signature = record { lifetimes = 0; outlives = []; params = plain (λ κs. RD T) ∷ plain (λ κs. usize) ∷ plain (λ κs. row_of Hr) ∷ []; result = plain (λ κs. row_of Xr) }

  abbrev decide_ended : Ended
  decide_ended = record { signature = decide_signature; kept = (yes, (yes, (yes, tt))) }

  abbrev decide_clauses : {M : Type 1} (𝓤 : Ura M) → Clauses 𝓤 decide_ended
  decide_clauses 𝓤 = λ κs a. record { ghost = Unit {0}; requires = λ g. asking 𝓤 (Needs a.0 a.1.0 a.1.1.0); ensures = λ g r e. fact 𝓤 (Decided a.0 a.1.0 a.1.1.0 r) }

  abbrev pub Decides : {M : Type 1} {𝓤 : Ura M} (𝓛 : Logic 𝓤) → Contract 𝓤
  Decides {𝓤 = 𝓤} 𝓛 = triple_of 𝓛 decide_signature (closing 𝓛 decide_ended (decide_clauses 𝓤))

  module _ {M : Type 1} {𝓤 : Ura M} (𝓛 : Logic 𝓤) (known : Known 𝓛 T) (of_happening : Told 𝓛 Hr) (of_act : Told 𝓛 Xr)
      (readies : (d : T.Dr.D) (j : List ℕ) (h : Hr.D) → Asked (p.asks d j h) → Asked (Needs d (length j) h))
      (allows : (d : T.Dr.D) (j : List ℕ) (h : Hr.D) (x : Xr.D) → Asked (p.asks d j h) → Decided d (length j) h x → Asked (p'.asks d j x))
      (agrees : (d : T.Dr.D) (j : List ℕ) (h : Hr.D) (x : Xr.D) → Asked (p.asks d j h) → Decided d (length j) h x → (p'.step d j x ≡ p.step d j h) × (p'.journal d j x ≡ p.journal d j h)) where
    open 𝓛 use {H}

    module _ (e : Entry T Hr) (room : Room u8 (length (held e))) (is-happening : Is (row_of Hr) (third e) (Hr.val (third e) ∷ [])) (pre : Asked (p.asks (was e) (held e) (third e))) where
      abbrev args : T.Dr.D × (ℕ × (Hr.D × Unit {0}))
      args = (was e, (length (held e), (third e, tt)))

      -- what the triple of what decides binds outside, and what it asks
      abbrev to_decide : (Decides 𝓛).Ghost
      to_decide = ((tt, tt, tt, args, (T.Dr.val (was e) ∷ [], (vint w64 (length (held e)) ∷ [], (Hr.val (third e) ∷ [], tt)))), tt)

      asks_decide : Is (RD T) (was e) (T.Dr.val (was e) ∷ []) → ent 𝓤 (emp 𝓤) ((Decides 𝓛).pre to_decide)
      asks_decide is =
          qed 𝓛 [] ∵ answers (Needs (was e) (length (held e)) (third e)) (readies (was e) (held e) (third e) pre) $ nothing ! $ frame ! $ nothing ! $ owned ! (row_of Hr) (Is (row_of Hr)) of_happening.makes (third e) _ is-happening $ fjoin ! $
          owned ! usize (Is usize) (uint_Makes 𝓛 w64) (length (held e)) _ (refl, room.0) $ fjoin ! $ owned ! (RD T) (Is (RD T)) known.of_record.makes (was e) _ is $ fjoin ! $ done !

      walk : (C : Calls 𝓤 H) (Λ : Loops 𝓤 H) → FmC 𝓤 H 𝓛.laws C → (decide perform : Callee) → Triple 𝓤 (C decide) (Decides 𝓛) → Triple 𝓤 (C perform) (Lent p' 𝓛)
          → ent 𝓤 (⋆ 𝓛 (Record e 𝓤 (was e) ∷ Journal e 𝓤 ∷ Tokens e 𝓤 ∷ [])) (WpFn 𝓤 H C Λ (function decide perform) (passed e) (Post p 𝓛 e))
      walk C Λ fm decide perform met met' =
          starts shape 𝓛 C Λ e room of_happening is-happening (body_of decide perform) (Post p 𝓛 e) (λ b. move ! (0 ∷ 2 ∷ []) $ opened known e tt (λ is.
          -- [the record's cell; the open borrow; the journal's reference; _0; …; _1; …; …]
          assigns ! (of_opd ! (load ! (from ! (hop ! (look ! 5 refl) (stop !))) (look_raw ! 0 refl))) (from ! (stop !)) (init ! 11 refl (known.of_record.typed (was e) _ is)) $
          assigns ! (of_opd ! (load ! (from ! (fld ! refl (stop !))) (look_in ! 7 (sub ! 1 refl (whole !))))) (from ! (stop !)) (init ! 15 refl (tt, record { fits = room.0 })) $
          use0 𝓛 (raw ((Decides 𝓛).pre to_decide)) (asks_decide is) $
          calls_at ! fm (Decides 𝓛) met to_decide (and_then ! (load ! (from ! (stop !)) (look ! 12 refl)) (and_then ! (load ! (from ! (stop !)) (look ! 16 refl)) (and_then ! (load ! (from ! (stop !)) (look ! 10 refl)) (no_more !)))) (λ v.
          returned (row_of Xr) (Decided (was e) (length (held e)) (third e)) (lasts decide_ended tt args) tt v (λ x is-act said.
          land ! (from ! (stop !)) (init ! 13 refl (of_act.typed x v is-act)) $ rewrite ! 13 (λ (u : Val). ‵ (fat full_share Xr.mir b.l₅ 0 u)) (ap only (of_act.tells x _ is-act)) refl $
          closed known e tt (was e) is $ move ! (0 ∷ 2 ∷ []) $
          passes_on shape 𝓛 C Λ e room p p' known fm perform met' x of_act (subst (Is (row_of Xr) x) (of_act.tells x _ is-act) is-act) (allows (was e) (held e) (third e) x pre said)
          (λ r d zs told. (told.0 ∙ ap T.answer (agrees (was e) (held e) (third e) x pre said).0, told.1 ∙ ap T.device (agrees (was e) (held e) (third e) x pre said).0, told.2 ∙ (agrees (was e) (held e) (third e) x pre said).1))
          b 5 (T.Dr.val (was e) ∷ []) (Xr.val x ∷ []) (vint w64 (length (held e)) ∷ []) (at_ret (En shape b) (Post p 𝓛 e)) refl (load ! (from ! (stop !)) (look ! 11 refl))))))

  -- the function named k meets its contract
  pub meets : {M : Type 1} {𝓤 : Ura M} (𝓛 : Logic 𝓤) (𝓜 : Model 𝓤 𝓛.H) (𝓡 : Running 𝓤 𝓛.H 𝓜) (env : Env) → Known 𝓛 T → Told 𝓛 Hr → Told 𝓛 Xr
      → ((d : T.Dr.D) (j : List ℕ) (h : Hr.D) → Asked (p.asks d j h) → Asked (Needs d (length j) h))
      → ((d : T.Dr.D) (j : List ℕ) (h : Hr.D) (x : Xr.D) → Asked (p.asks d j h) → Decided d (length j) h x → Asked (p'.asks d j x))
      → ((d : T.Dr.D) (j : List ℕ) (h : Hr.D) (x : Xr.D) → Asked (p.asks d j h) → Decided d (length j) h x → (p'.step d j x ≡ p.step d j h) × (p'.journal d j x ≡ p.journal d j h))
      → (k decide perform : Callee) → Closed 𝓤 𝓛.H (tables 𝓤 𝓛.H 𝓜 𝓡 env).C (tables 𝓤 𝓛.H 𝓜 𝓡 env).Λ k (function decide perform)
      → {r : Routine} → env decide ≡ r → Triple 𝓤 (𝓡.run r) (Decides 𝓛) → {r' : Routine} → env perform ≡ r' → Triple 𝓤 (𝓡.run r') (Lent p' 𝓛) → Triple 𝓤 (𝓡.run (env k)) (Lent p 𝓛)
  meets {𝓤 = 𝓤} 𝓛 𝓜 𝓡 env known of_happening of_act readies allows agrees k decide perform closed at met at' met' = lent.meets p 𝓛 𝓜 𝓡 env of_happening k (function decide perform) closed
      (λ fm e room is pre. walk 𝓛 known of_happening of_act readies allows agrees e room is pre (tables 𝓤 𝓛.H 𝓜 𝓡 env).C (tables 𝓤 𝓛.H 𝓜 𝓡 env).Λ fm decide perform
      (cited 𝓤 𝓛.H (Decides 𝓛) 𝓜 𝓡 env decide _ at met) (cited 𝓤 𝓛.H (Lent p' 𝓛) 𝓜 𝓡 env perform _ at' met'))
