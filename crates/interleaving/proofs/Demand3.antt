-- Demand 3, proved: a frame of a run is not refused with 3 or 1, and runs that are not refused come to the same.
use mathlib.Core.Path.{◌≡◌, refl, ap, sym, ◌∙◌, subst}
use mathlib.Core.Bool.{Bool, true, false, cond, not, ◌&&◌}
use mathlib.Core.List.{List, [], ◌∷◌}
use Prim.Native.Nat.{ℕ}
use lib.Dec.{eqb, leb}
use borrow.Author.Tests.{eqb-true}
use Rattle.laws.proofs.Bools.{no}
use Rattle.rules.proofs.Frames.{request-received}
use Rattle.rules.proofs.Stays.{event-stays}
use Rattle.rules.specs.declared.objects.Channel.{Channel}
use Rattle.rules.specs.declared.objects.Channel.TheVariants.{One, Two}
use Rattle.rules.specs.declared.requests.Caller.TheVariants.{Client}
use Rattle.rules.specs.Events.{on_request, NotRefused, event}
use Rattle.rules.specs.Results.{Result, ignored, refused}
use Rattle.rules.specs.State.{State}
use Rattle.interleaving.proofs.Sorted.{does, next, answer, end_in, answers_in, any_order}
use Rattle.interleaving.specs.Demand3.{is_request, Demand3}
use Rattle.interleaving.specs.Runs.{RunFrame, Turn, turn, add, result, end_of, answers}

-- by the remote mark and the length
served : (c : Channel) (remote : Bool) (bytes : List ℕ) (n : ℕ) (u : State) (short whole : Bool) → leb n 8 ≡ short → eqb n 8 ≡ whole →
    cond short (cond remote (ignored u) (on_request (Client c) bytes n u)) (refused 2 u) ≡
    does (not remote && whole) c (record { remote = remote; bytes = bytes; length = n }) u
unfolding on_request
served c true bytes n u true whole p q = rw p
served c true bytes n u false whole p q = rw p
served c false bytes n u true true p q = rw q
served c false bytes n u true false p q = rw (p, q)
served c false bytes n u false true p q = no (sym (rw (eqb-true n 8 q) at p))
served c false bytes n u false false p q = rw p

module _ (c : Channel) (f : RunFrame) (u : State) (h : NotRefused u) where
  frame-does : result event u.node c f u ≡ does (is_request f) c f u
  frame-does =
      request-received f.remote f.bytes f.length u h.0 h.1 (Client c)
      ∙ served c f.remote f.bytes f.length u _ _ refl refl

  frame-stays : NotRefused (next c f u)
  frame-stays = subst (λ (r : Result). NotRefused r.state) frame-does (event-stays u h _ f.bytes f.length)

  frame-node : (next c f u).node ≡ u.node
  frame-node = node_by (is_request f)
    where
      node_by : (t : Bool) → (does t c f u).state.node ≡ u.node
      node_by true = refl
      node_by false = refl

-- so the frames in turns do what `does` says
pub runs : (node : ℕ) (turns : List Turn) (u : State) → node ≡ u.node → NotRefused u →
    (end_of event node turns u ≡ end_in turns u) × ((c : Channel) → answers event node c turns u ≡ answers_in c turns u)
unfolding end_of answers end_in answers_in
runs node [] u p h = (refl, λ c. refl)
runs node (turn d f ∷ turns) u p h =
    let e : result event node d f u ≡ does (is_request f) d f u = rw p (frame-does d f u h) in
    let r = runs node turns (next d f u) (p ∙ sym (frame-node d f u h)) (frame-stays d f u h) in
    rw e (r.0, λ c. ap (add c d (answer d f u)) (r.1 c))

pub demand3 : Demand3
demand3 u h ones twos apart turns others a b =
    let e = any_order ones twos apart turns others a b u in
    let r = runs u.node turns u refl h in
    let s = runs u.node others u refl h in
    (r.0 ∙ e.0 ∙ sym s.0, r.1 One ∙ e.1 ∙ sym (s.1 One), r.1 Two ∙ e.2 ∙ sym (s.1 Two))
