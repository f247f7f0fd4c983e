-- The refusal table for an event: 3, then 1, then 2.
use mathlib.Core.Path.{◌≡◌, refl, sym, ◌∙◌}
use mathlib.Core.Bool.{Bool, true, false, cond, ◌&&◌}
use mathlib.Core.List.{List}
use mathlib.Core.Logic.{◌⊎◌, inl, inr, ⊎_elim}
use Prim.Native.Nat.{ℕ, ◌*◌, ◌<◌}
use native.Mathlib.Omega.{arith}
use borrow.Author.Tests.{leb-true, leb-false, eqb-true, eqb-false}
use lib.Dec.{leb}
use lib.ListN.{length}
use Rattle.laws.proofs.Bools.{no, left, right}
use Rattle.rules.proofs.Accepted.{frame-accepted, tick_accepted, reading-accepted}
use Rattle.rules.proofs.InRange.{parts, saves-parts}
use Rattle.rules.proofs.Numbers.{from_least, to-most}
use Rattle.rules.proofs.Refusals.{range-first, length-second, then-its-kind}
use Rattle.rules.specs.declared.events.Event.{Event}
use Rattle.rules.specs.declared.events.Event.TheVariants.{Received, Tick, Measured}
use Rattle.rules.specs.declared.events.FrameHead.{FrameHead}
use Rattle.rules.specs.Events.{frame_ok, on_frame, on_event, journal_fits, event}
use Rattle.rules.specs.Numbers.{between}
use Rattle.rules.specs.Ranges.{in_range}
use Rattle.rules.specs.Results.{Result, refused}
use Rattle.rules.specs.State.{State}
use Rattle.refusals.specs.Rows.{WrongRecord, WrongJournal, WrongFrame, EventRows}
use Rattle.refusals.proofs.Sorted.{Sorted, by_first, by_second, by_third, by_none, row_first, row_second, row_third, row_none, no_more}

-- both tests hold, or one of them fails
one-fails : (a b : Bool) → a && b ≡ false → (a ≡ false) ⊎ (b ≡ false)
one-fails true b e = inr e
one-fails false b e = inl refl

-- a frame, out of its bounds and in them
module _ (f : FrameHead) (n : ℕ) where
  wrong_frame : frame_ok f n ≡ false → WrongFrame (Received f) n
  wrong_frame e =
      ⊎_elim (λ x. inl (leb-false f.identifier 0x7FF x)) (λ x. inr (leb-false n 8 x))
      (one-fails (leb f.identifier 0x7FF) (leb n 8) e)

  right-frame : frame_ok f n ≡ true → ¬ WrongFrame (Received f) n
  right-frame e =
      let identifier = leb-true f.identifier 0x7FF (left _ (leb n 8) e) in
      let bytes = leb-true n 8 (right (leb f.identifier 0x7FF) _ e) in
      ⊎_elim (λ x. omega arith) (λ x. omega arith)

-- a record in range has 1 to 128 blocks
blocks_in_lem : (u : State) → in_range u ≡ true → between 1 128 u.saves.blocks ≡ true
blocks_in_lem u range = (saves-parts u.saves (parts u range).saves).blocks

-- a record in range, beside a journal of its length
module _ (u : State) (range : in_range u ≡ true) where
  pub right_record : ¬ WrongRecord u
  right_record out = no (sym out ∙ range)

  pub right-journal : journal_fits u ≡ true → ¬ WrongJournal u
  right-journal fits =
      let blocks = u.saves.blocks in
      let some = blocks_in_lem u range in
      let same = eqb-true (length u.journal) (512 * blocks) fits in
      ⊎_elim (λ x. x blocks (from_least 1 128 blocks some) (to-most 1 128 blocks some) same) (λ x. x same)

module _ (bytes : List ℕ) (n : ℕ) (u : State) where
  abbrev EventSorted : Event → Result → Type 0
  EventSorted e r = Sorted 3 (WrongRecord u) (WrongJournal u) (WrongFrame e n) r.refusal

  module _ (range : in_range u ≡ true) (fits : journal_fits u ≡ true) where
    frame-sorted : (f : FrameHead) (t : Bool) → frame_ok f n ≡ t → EventSorted (Received f) (cond t (on_frame f bytes n u) (refused 2 u))
    frame-sorted f true e = by_none (frame-accepted u f bytes n).0 (right_record u range) (right-journal u range fits) (right-frame f n e)
    frame-sorted f false e = by_third refl (right_record u range) (right-journal u range fits) (wrong_frame f n e)

    kind-sorted : (e : Event) → EventSorted e (on_event e bytes n u)
    kind-sorted (Received f) = frame-sorted f (frame_ok f n) refl
    kind-sorted (Tick ms) = by_none (tick_accepted u ms).0 (right_record u range) (right-journal u range fits) (λ x. x)
    kind-sorted (Measured a m) = by_none (reading-accepted u a m).0 (right_record u range) (right-journal u range fits) (λ x. x)

  event-sorted : (e : Event) (a b : Bool) → in_range u ≡ a → journal_fits u ≡ b → EventSorted e (event e bytes n u)
  event-sorted e false b out other = rw (range-first e bytes n u out) (by_first refl out)
  event-sorted e true false range other =
      rw (length-second e bytes n u range other)
      (by_second refl (right_record u range) (inr (eqb-false (length u.journal) (512 * u.saves.blocks) other)))
  event-sorted e true true range fits = rw (then-its-kind e bytes n u range fits) (kind-sorted range fits e)

pub event-rows : EventRows
event-rows e bytes n u =
    let sorted = event-sorted bytes n u e (in_range u) (journal_fits u) refl refl in
    let high : 2 < 3 = omega arith in
    (row_first high sorted, row_second high sorted, row_third high sorted, row_none high sorted, no_more high sorted)
