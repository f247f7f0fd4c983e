-- The constant sensor is independent too: it ends as it began, and answers a run by its number of frames.
use mathlib.Core.Path.{◌≡◌, refl, ap, sym, ◌∙◌}
use mathlib.Core.List.{List, [], ◌∷◌, map}
use Prim.Native.Nat.{ℕ}
use Rattle.rules.specs.declared.events.Frame.{Frame}
use Rattle.rules.specs.declared.objects.Channel.{Channel}
use Rattle.rules.specs.declared.objects.Channel.TheVariants.{One, Two}
use Rattle.rules.specs.State.{State}
use Rattle.interleaving.specs.Demand3.{constant, AdmitsConstant}
use Rattle.interleaving.specs.Runs.{RunFrame, Turn, turn, Answer, only, end_of, answers}

module _ (number : ℕ) (frames : List Frame) (node : ℕ) (u : State) where
  end_constant : (turns : List Turn) → end_of (constant number frames) node turns u ≡ u
  unfolding end_of
  end_constant [] = refl
  end_constant (turn d f ∷ turns) = end_constant turns

  abbrev one : RunFrame → Answer
  one f = (number, frames)

  answers-constant : (c : Channel) (turns : List Turn) → answers (constant number frames) node c turns u ≡ map one (only c turns)
  unfolding answers only
  answers-constant c [] = refl
  answers-constant One (turn One f ∷ turns) = ap (◌∷◌ (number, frames)) (answers-constant One turns)
  answers-constant One (turn Two f ∷ turns) = answers-constant One turns
  answers-constant Two (turn One f ∷ turns) = answers-constant Two turns
  answers-constant Two (turn Two f ∷ turns) = ap (◌∷◌ (number, frames)) (answers-constant Two turns)

  alike : (c : Channel) (run : List RunFrame) (turns others : List Turn) → only c turns ≡ run → only c others ≡ run →
      answers (constant number frames) node c turns u ≡ answers (constant number frames) node c others u
  alike c run turns others a b = answers-constant c turns ∙ ap (map one) (a ∙ sym b) ∙ sym (answers-constant c others)

pub constant_independent : AdmitsConstant
constant_independent number frames u h ones twos apart turns others a b = (
  end_constant number frames u.node u turns ∙ sym (end_constant number frames u.node u others),
  alike number frames u.node u One ones turns others a.0 b.0,
  alike number frames u.node u Two twos turns others a.1 b.1,
)
