-- Laws of the refusals: their order, and that what is refused is left as given and sends nothing.
use mathlib.Core.Path.{◌≡◌, refl}
use mathlib.Core.Bool.{true, false}
use mathlib.Core.List.{List, []}
use Prim.Native.Nat.{ℕ}
use Rattle.laws.proofs.Bools.{cond_both}
use Rattle.rules.specs.declared.events.Event.{Event}
use Rattle.rules.specs.declared.events.Event.TheVariants.{Received, Tick, Measured}
use Rattle.rules.specs.declared.parts.Identity.{Identity}
use Rattle.rules.specs.Events.{frame_ok, on_event, journal_fits, event}
use Rattle.rules.specs.Journal.{length_ok}
use Rattle.rules.specs.Network.{start}
use Rattle.rules.specs.PowerOn.{saves_in, zero_state, power_on}
use Rattle.rules.specs.Ranges.{in_range, node_ok}
use Rattle.rules.specs.Results.{Result, refused}
use Rattle.rules.specs.State.{State, node_else}
use Rattle.rules.proofs.EachEvent.{power-each}
use Rattle.rules.proofs.Accepted.{Accepted, frame-accepted, tick_accepted, reading-accepted}

-- where it is refused, the state is the given one and nothing is sent
abbrev pub Untouched : State → Result → Type 0
Untouched u r = ¬ (r.refusal ≡ 0) → (r.state ≡ u) × (r.sent ≡ [])

-- an event: 3 first, 1 second, and then by its kind
module _ (e : Event) (bytes : List ℕ) (length : ℕ) (u : State) where
  pub range-first : in_range u ≡ false → event e bytes length u ≡ refused 3 u
  unfolding event
  range-first out = rw out

  module _ (range : in_range u ≡ true) where
    pub length-second : journal_fits u ≡ false → event e bytes length u ≡ refused 1 u
    unfolding event
    length-second other = rw (range, other)

    pub then-its-kind : journal_fits u ≡ true → event e bytes length u ≡ on_event e bytes length u
    unfolding event
    then-its-kind fits = rw (range, fits)

-- refused or accepted, an event leaves the number of blocks
module _ (bytes : List ℕ) (length : ℕ) (u : State) where
  abbrev Left : Result → Type 0
  Left r = Untouched u r × (r.state.saves.blocks ≡ u.saves.blocks)

  refused-left : (number : ℕ) → Left (refused number u)
  refused-left number = (λ h. (refl, refl), refl)

  accepted-left : {r : Result} → Accepted u r → Left r
  accepted-left a = (λ h. absurd (h a.0), a.1)

  kind-left : (e : Event) → Left (on_event e bytes length u)
  kind-left (Received f) = cond_both Left (frame_ok f length) (accepted-left (frame-accepted u f bytes length)) (refused-left 2)
  kind-left (Tick ms) = accepted-left (tick_accepted u ms)
  kind-left (Measured a m) = accepted-left (reading-accepted u a m)

  pub event-left : (e : Event) → Left (event e bytes length u)
  unfolding event
  event-left e = cond_both Left (in_range u) (cond_both Left (journal_fits u) (kind-left e) (refused-left 1)) (refused-left 3)

-- power-on: 4 first, 1 second
module _ (node : ℕ) (identity : Identity) (j : List ℕ) where
  pub node-first : node_ok node ≡ false → power_on node identity j ≡ refused 4 (zero_state j)
  unfolding power_on
  node-first other = rw other

  module _ (ok : node_ok node ≡ true) where
    pub journal-second : length_ok j ≡ false → power_on node identity j ≡ refused 1 (zero_state j)
    unfolding power_on
    journal-second other = rw (ok, other)

    pub then-starts : length_ok j ≡ true → power_on node identity j ≡ start (node_else (saves_in j).node node) identity (saves_in j) 0 j
    unfolding power_on
    then-starts whole = rw (ok, whole)

  pub power_on_untouched : Untouched (zero_state j) (power_on node identity j)
  unfolding start
  power_on_untouched = power-each (Untouched (zero_state j)) node identity j (λ n l h. absurd (h refl)) (λ number h. (refl, refl))

  -- refused or accepted, power-on leaves the journal
  pub power_on_journal : (power_on node identity j).state.journal ≡ j
  unfolding start
  power_on_journal = power-each (λ (r : Result). r.state.journal ≡ j) node identity j (λ n l. refl) (λ number. refl)

-- "the all-zero record, which every event refuses with 3"
pub zero-out : (j : List ℕ) → in_range (zero_state j) ≡ false
unfolding in_range
zero-out j = refl
