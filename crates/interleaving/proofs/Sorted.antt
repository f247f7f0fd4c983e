-- Every interleaving of two runs that are apart comes to channel 1's run, then channel 2's, and each channel gets what it gets alone.
use mathlib.Core.Path.{◌≡◌, refl, ap, ap₂, ◌∙◌}
use mathlib.Core.Bool.{Bool, true, false, cond}
use mathlib.Core.List.{List, [], ◌∷◌}
use lib.Dec.{T, leb}
use Rattle.rules.specs.declared.objects.Channel.{Channel}
use Rattle.rules.specs.declared.objects.Channel.TheVariants.{One, Two}
use Rattle.rules.specs.declared.requests.Caller.TheVariants.{Client}
use Rattle.rules.specs.declared.requests.Outcome.{Outcome}
use Rattle.rules.specs.Events.{answered}
use Rattle.rules.specs.Frames.{reply_frames}
use Rattle.rules.specs.Results.{Result}
use Rattle.rules.specs.Service.{outcome}
use Rattle.rules.specs.State.{State}
use Rattle.interleaving.proofs.Diamond.{outcome_past, diamond}
use Rattle.interleaving.proofs.Uses.{same_channel}
use Rattle.interleaving.specs.Demand3.{is_request, FramesApart, Each, RunsApart}
use Rattle.interleaving.specs.ReadsWrites.{Apart}
use Rattle.interleaving.specs.Runs.{RunFrame, Turn, turn, add, only, Interleaves, Answer}

-- what a frame does where nothing is refused with 3 or 1, by whether it is a request
abbrev pub does : Bool → Channel → RunFrame → State → Result
does true c f u = answered (Client c) (outcome c f.bytes u) u
does false c f u = record { refusal = cond (leb f.length 8) 0 2; state = u; sent = [] }

abbrev pub next : Channel → RunFrame → State → State
next c f u = (does (is_request f) c f u).state

abbrev pub answer : Channel → RunFrame → State → Answer
answer c f u = ((does (is_request f) c f u).refusal, (does (is_request f) c f u).sent)

module _ (c d : Channel) (two : T (same_channel c d) → ⊥) (back : T (same_channel d c) → ⊥) where
  -- two frames that are apart: the second's answer is as without the first, and the order is free
  past_by : (p q : Bool) (f g : RunFrame) → (T p → T q → Apart f.bytes g.bytes) → (u : State) →
      ◌≡◌ {A = Answer} ((does q d g (does p c f u).state).refusal, (does q d g (does p c f u).state).sent) ((does q d g u).refusal, (does q d g u).sent)
  past_by true true f g h u =
      ap (λ (o : Outcome). (0, reply_frames (Client d) u.node o.reply)) (outcome_past c d two f.bytes g.bytes (h tt tt).0 u)
  past_by true false f g h u = refl
  past_by false true f g h u = refl
  past_by false false f g h u = refl

  swap_by : (p q : Bool) (f g : RunFrame) → (T p → T q → Apart f.bytes g.bytes) → (u : State) →
      (does q d g (does p c f u).state).state ≡ (does p c f (does q d g u).state).state
  swap_by true true f g h u = diamond c d two back f.bytes g.bytes (h tt tt) u
  swap_by true false f g h u = refl
  swap_by false true f g h u = refl
  swap_by false false f g h u = refl

-- a channel's run by itself
end_alone : Channel → List RunFrame → State → State
end_alone c [] u = u
end_alone c (f ∷ run) u = end_alone c run (next c f u)

answers_alone : Channel → List RunFrame → State → List Answer
answers_alone c [] u = []
answers_alone c (f ∷ run) u = answer c f u ∷ answers_alone c run (next c f u)

-- one frame moves past the other channel's run
module _ (c d : Channel) (two : T (same_channel c d) → ⊥) (back : T (same_channel d c) → ⊥) (f : RunFrame) where
  end_past : (run : List RunFrame) → Each (FramesApart f) run → (u : State) → end_alone d run (next c f u) ≡ next c f (end_alone d run u)
  unfolding end_alone
  end_past [] h u = refl
  end_past (g ∷ run) h u = ap (end_alone d run) (swap_by c d two back (is_request f) (is_request g) f g h.0 u) ∙ end_past run h.1 (next d g u)

  answers_past : (run : List RunFrame) → Each (FramesApart f) run → (u : State) → answers_alone d run (next c f u) ≡ answers_alone d run u
  unfolding answers_alone
  answers_past [] h u = refl
  answers_past (g ∷ run) h u =
      ap₂ ◌∷◌ (past_by c d two back (is_request f) (is_request g) f g h.0 u)
      (ap (answers_alone d run) (swap_by c d two back (is_request f) (is_request g) f g h.0 u) ∙ answers_past run h.1 (next d g u))

-- the runs in turns, without the refusals 3 and 1
unfoldable pub end_in : List Turn → State → State
end_in [] u = u
end_in (turn d f ∷ turns) u = end_in turns (next d f u)

unfoldable pub answers_in : Channel → List Turn → State → List Answer
answers_in c [] u = []
answers_in c (turn d f ∷ turns) u = add c d (answer d f u) (answers_in c turns (next d f u))

-- runs that are apart, without channel 2's first frame, and that frame from channel 1's run
later-apart : (ones : List RunFrame) (g : RunFrame) (twos : List RunFrame) → RunsApart ones (g ∷ twos) → RunsApart ones twos × Each (FramesApart g) ones
later-apart [] g twos h = (tt, tt)
later-apart (f ∷ ones) g twos h =
    let r = later-apart ones g twos h.1 in
    ((h.0.1, r.0), (λ p q. let e = h.0.0 q p in (e.1, e.0), r.1))

sorted : (turns : List Turn) (u : State) → RunsApart (only One turns) (only Two turns) →
    (end_in turns u ≡ end_alone Two (only Two turns) (end_alone One (only One turns) u)) ×
    (answers_in One turns u ≡ answers_alone One (only One turns) u) ×
    (answers_in Two turns u ≡ answers_alone Two (only Two turns) u)
unfolding end_in answers_in only end_alone answers_alone
sorted [] u h = (refl, refl, refl)
sorted (turn One f ∷ turns) u h =
    let r = sorted turns (next One f u) h.1 in
    (r.0, ap (◌∷◌ (answer One f u)) r.1, r.2 ∙ answers_past One Two (λ x. x) (λ x. x) f (only Two turns) h.0 u)
sorted (turn Two g ∷ turns) u h =
    let a = later-apart (only One turns) g (only Two turns) h in
    let r = sorted turns (next Two g u) a.0 in (
      r.0 ∙ ap (end_alone Two (only Two turns)) (end_past Two One (λ x. x) (λ x. x) g (only One turns) a.1 u),
      r.1 ∙ answers_past Two One (λ x. x) (λ x. x) g (only One turns) a.1 u,
      ap (◌∷◌ (answer Two g u)) r.2,
    )

pub any_order : (ones twos : List RunFrame) → RunsApart ones twos → (turns others : List Turn) →
    Interleaves turns ones twos → Interleaves others ones twos → (u : State) →
    (end_in turns u ≡ end_in others u) × (answers_in One turns u ≡ answers_in One others u) × (answers_in Two turns u ≡ answers_in Two others u)
any_order ones twos apart turns others a b u =
    let e = sorted turns u (rw (a.0, a.1) apart) in
    let f = sorted others u (rw (b.0, b.1) apart) in
    rw (e.0, e.1, e.2, f.0, f.1, f.2, a.0, a.1, b.0, b.1) (refl, refl, refl)
