-- A sensor that works once works on: range and length hold after every event.
use mathlib.Core.Path.{◌≡◌, refl, ap, sym, ◌∙◌}
use mathlib.Core.Bool.{true}
use mathlib.Core.List.{List, [], ◌∷◌}
use mathlib.Core.Logic.{◌↔◌, inr}
use Prim.Native.Nat.{ℕ, ◌*◌}
use borrow.Author.Tests.{eqb-true, eqb-false, eq-eqb}
use lib.ListN.{length}
use Rattle.laws.proofs.Bools.{not-false}
use Rattle.rules.proofs.Refusals.{event-left, power_on_journal}
use Rattle.rules.proofs.Stays.{event-stays, start-stays}
use Rattle.rules.specs.declared.events.Event.{Event}
use Rattle.rules.specs.Events.{journal_fits, NotRefused, event}
use Rattle.rules.specs.PowerOn.{power_on}
use Rattle.rules.specs.Ranges.{in_range}
use Rattle.rules.specs.State.{State}
use Rattle.refusals.specs.WorksOn.{Given, after_events, lent, StaysInRange, WorksOn}
use Rattle.refusals.proofs.EventRows.{event-rows, right_record, right-journal}

-- the same number of blocks is the same length
length-kept : (u v : State) → NotRefused u → NotRefused v → v.saves.blocks ≡ u.saves.blocks → length v.journal ≡ length u.journal
length-kept u v was is same =
    let before = eqb-true (length u.journal) (512 * u.saves.blocks) was.1 in
    let now = eqb-true (length v.journal) (512 * v.saves.blocks) is.1 in
    now ∙ ap (λ (k : ℕ). 512 * k) same ∙ sym before

after-fine : (gs : List Given) (u : State) → NotRefused u → NotRefused (after_events gs u) × ((after_events gs u).saves.blocks ≡ u.saves.blocks)
after-fine [] u fine = (fine, refl)
after-fine (g ∷ gs) u fine =
    let next = (event g.event g.bytes g.length u).state in
    let rest = after-fine gs next (event-stays u fine g.event g.bytes g.length) in
    (rest.0, rest.1 ∙ (event-left g.bytes g.length u g.event).1)

-- what is accepted is fine
accepted-fine : (e : Event) (bytes : List ℕ) (n : ℕ) (u : State) → (event e bytes n u).refusal ≡ 0 → NotRefused u
accepted-fine e bytes n u accepted =
    let right = (event-rows e bytes n u).3.0 accepted in
    (not-false (in_range u) right.0, not-false (journal_fits u) (λ other. right.1 (inr (eqb-false (length u.journal) (512 * u.saves.blocks) other))))

pub stays_in_range : StaysInRange
stays_in_range e bytes n u accepted =
    let fine = accepted-fine e bytes n u accepted in
    let v = (event e bytes n u).state in
    let on = event-stays u fine e bytes n in
    (on.0, length-kept u v fine on (event-left bytes n u e).1)

-- the journal is no part of the range
range-lent : (u : State) (k : List ℕ) → in_range u ≡ true → in_range (lent k u) ≡ true
unfolding in_range
range-lent u k range = range

-- a journal of another length than the record's is refused with 1, and no other one
other_length : (e : Event) (bytes : List ℕ) (n : ℕ) (k : List ℕ) (u : State) → NotRefused u → (event e bytes n (lent k u)).refusal ≡ 1 ↔ ¬ (length k ≡ length u.journal)
other_length e bytes n k u fine =
    let range = range-lent u k fine.0 in
    let own = eqb-true (length u.journal) (512 * u.saves.blocks) fine.1 in
    let row = (event-rows e bytes n (lent k u)).1 in (
      λ given same. right-journal (lent k u) range (eq-eqb (length k) (512 * u.saves.blocks) (same ∙ own)) (row.0 given).1,
      λ other. row.1 (right_record (lent k u) range, inr (λ fits. other (fits ∙ sym own))),
    )

pub works_on : WorksOn
works_on node identity j accepted gs =
    let start = (power_on node identity j).state in
    let started = start-stays node identity j accepted in
    let rest = after-fine gs start started in
    let u = after_events gs start in
    let same : length u.journal ≡ length j = length-kept start u started rest.0 rest.1 ∙ ap length (power_on_journal node identity j) in (
      rest.0.0,
      same,
      λ e bytes n. (
        λ accepted. ((event-rows e bytes n u).3.0 accepted).2,
        λ right. (event-rows e bytes n u).3.1 (right_record u rest.0.0, right-journal u rest.0.0 rest.0.1, right),
      ),
      λ e bytes n k. rw same at (other_length e bytes n k u rest.0),
    )
