-- For each pair both orders are computed, and what is seen then differs.
use mathlib.Core.Path.{◌≡◌, refl, sym, ◌∙◌}
use mathlib.Core.Bool.{Bool, true, false, not, ◌&&◌}
use mathlib.Core.List.{List, [], ◌∷◌, ◌++◌, map}
use Prim.Native.Nat.{ℕ}
use lib.Dec.{eqb}
use borrow.Author.Tests.{eq-eqb}
use Rattle.laws.proofs.Bools.{no, both}
use Rattle.rules.specs.declared.events.Frame.{Frame}
use Rattle.rules.specs.declared.objects.Channel.TheVariants.{One, Two}
use Rattle.rules.specs.declared.settings.Settings.{Settings}
use Rattle.rules.specs.Angle.{steps, q, sum, turned, angle, offset, zeroed}
use Rattle.rules.specs.Events.{NotRefused, event}
use Rattle.rules.specs.Numbers.{two_at, four_at}
use Rattle.rules.specs.Objects.{find}
use Rattle.rules.specs.Ranges.{errors_ok, axis_ok, in_range}
use Rattle.rules.specs.Reads.{angle_read, entry_read, setting_value}
use Rattle.rules.specs.Replies.{reply}
use Rattle.rules.specs.Requests.{command_of}
use Rattle.rules.specs.Settings.{in_table, setting, settings}
use Rattle.rules.specs.State.{State}
use Rattle.rules.specs.Writes.{length_check, room_check}
use Rattle.interleaving.proofs.Demand3.{runs, demand3}
use Rattle.interleaving.proofs.Each.{each}
use Rattle.interleaving.proofs.Sorted.{end_in, answers_in}
use Rattle.interleaving.specs.Demand3.{Alike}
use Rattle.interleaving.specs.Device.{device}
use Rattle.interleaving.specs.Order.{Pair, pair, OrderMatters, NotApart, all_pairs, NoLineIdle}
use Rattle.interleaving.specs.Runs.{Turn, turn, Answer, only}

-- numbers in a row are the same
abbrev alike : List ℕ → List ℕ → Bool
alike [] [] = true
alike [] (n ∷ ns) = false
alike (m ∷ ms) [] = false
alike (m ∷ ms) (n ∷ ns) = eqb m n && alike ms ns

alike_self : (l : List ℕ) → alike l l ≡ true
alike_self [] = refl
alike_self (n ∷ l) = both (eq-eqb n n refl) (alike_self l)

-- the bytes of the answers, and the settings as they are read
abbrev sent : List Frame → List ℕ
sent [] = []
sent (f ∷ fs) = f.bytes ++ sent fs

abbrev heard : List Answer → List ℕ
heard [] = []
heard ((n, fs) ∷ l) = sent fs ++ heard l

abbrev numbers : Settings → List ℕ
numbers t = map (λ s. setting_value s 1 (setting s t)) settings

-- what is seen of the turns, without the refusals 3 and 1
abbrev seen : List Turn → State → List ℕ
seen turns u =
    heard (answers_in One turns u) ++ heard (answers_in Two turns u) ++ numbers (end_in turns u).running ++ numbers (end_in turns u).saves.stored

abbrev differs : State → Pair → Bool
differs u (pair f g) = not (alike (seen (turn One f ∷ turn Two g ∷ []) u) (seen (turn Two g ∷ turn One f ∷ []) u))

module _ (u : State) (h : NotRefused u) where
  seen_alike : (turns others : List Turn) → Alike event turns others u → seen turns u ≡ seen others u
  seen_alike turns others a =
      let r = runs u.node turns u refl h in
      let s = runs u.node others u refl h in
      let end : end_in turns u ≡ end_in others u = sym r.0 ∙ a.0 ∙ s.0 in
      let ones : answers_in One turns u ≡ answers_in One others u = sym (r.1 One) ∙ a.1 ∙ s.1 One in
      let twos : answers_in Two turns u ≡ answers_in Two others u = sym (r.1 Two) ∙ a.2 ∙ s.1 Two in
      rw (end, ones, twos)

  order_matters : (p : Pair) → differs u p ≡ true → OrderMatters u p
  order_matters (pair f g) e = (
    h,
    λ a.
        let first = seen (turn One f ∷ turn Two g ∷ []) u in
        let second = seen (turn Two g ∷ turn One f ∷ []) u in
        let same : alike first second ≡ true = rw (seen_alike _ _ a) (alike_self second) in
        no (rw same at e),
  )

pub not-apart : NotApart
unfolding only
not-apart u f g m apart = m.1 (demand3 u m.0 (f ∷ []) (g ∷ []) ((apart, tt), tt) _ _ (refl, refl) (refl, refl))

fine : NotRefused device
unfolding device in_range in_table errors_ok axis_ok
fine = (refl, refl)

pub no_line_idle : NoLineIdle
unfolding end_in answers_in device command_of two_at four_at find length_check room_check reply angle_read entry_read setting_value angle turned sum q steps zeroed offset
no_line_idle = each (differs device) (OrderMatters device) (order_matters device fine) all_pairs refl
