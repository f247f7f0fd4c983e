-- LSS by its numbers: which requests that select count, what is told in configuration, where nothing is done, and what ends configuration.
use mathlib.Core.Path.{◌≡◌, refl, ap, sym, ◌∙◌}
use mathlib.Core.Bool.{Bool, true, false, cond, ◌&&◌, ◌||◌}
use mathlib.Core.List.{List, [], ◌∷◌, ◌++◌, map}
use mathlib.Core.Logic.{◌⊎◌, inl, inr}
use Prim.Native.Nat.{ℕ, zero, suc, ◌+◌, ◌/◌, ◌%◌, ◌≤◌}
use native.Mathlib.Omega.{arith}
use borrow.Author.Tests.{eqb-true, eqb-false, eq-eqb}
use lib.Dec.{eqb}
use lib.IntN.{ℤ}
use Rattle.std.specs.Prelude.{Result, Ok, Err}
use lib.ListN.{length, get_or, replicate}
use Rattle.laws.proofs.Bools.{no, left, right, either, cond-each}
use Rattle.rules.specs.declared.objects.Axis.{Axis}
use Rattle.rules.specs.declared.objects.Channel.{Channel}
use Rattle.rules.specs.declared.objects.Object.{Object}
use Rattle.rules.specs.declared.objects.Object.TheVariants.{Const, ErrorCount, ErrorEntry, Name, Save, Load, Filled, Angle, Of}
use Rattle.rules.specs.declared.objects.Setting.{Setting}
use Rattle.rules.specs.declared.objects.Setting.TheVariants.{Heartbeat, Pdo, Resolution, Operating, Preset, Offset, Differential}
use Rattle.rules.specs.declared.parts.Identity.{Identity}
use Rattle.rules.specs.declared.parts.Lss.{Lss}
use Rattle.rules.specs.declared.parts.Saves.{Saves}
use Rattle.rules.specs.declared.parts.Transfer.{Transfer}
use Rattle.rules.specs.declared.requests.Caller.TheVariants.{Master}
use Rattle.rules.specs.declared.requests.Change.{Change}
use Rattle.rules.specs.declared.requests.Change.TheVariants.{Keep, Configure}
use Rattle.rules.specs.declared.requests.Outcome.{Outcome}
use Rattle.rules.specs.declared.aborts.Abort.{Abort}
use Rattle.rules.specs.Lss.{lss_command_of, lss_replied, lss_silent, on_select, lss_outcome}
use Rattle.rules.specs.Network.{started, communicating}
use Rattle.rules.specs.Numbers.{four, four_at}
use Rattle.rules.specs.Ranges.{in_range, node_ok, network_ok, transfers_ok}
use Rattle.rules.specs.Requests.{value_for}
use Rattle.rules.specs.Service.{replied, outcome, on_lss, state_after}
use Rattle.rules.specs.State.{State, absent, transferring}
use Rattle.rules.specs.Writes.{zeroed_by, zero_change, setting_write, change}
use Rattle.rules.proofs.EachOutcome.{each_outcome}
use Rattle.rules.proofs.InRange.{parts}
use Rattle.rules.proofs.Numbers.{to-most}

-- the matches after a request that selects, by its part, whether its value is the record's own, and the matches before; 4 is configuration
abbrev matches_after : ℕ → Bool → ℕ → ℕ
matches_after part same before =
    let l : Lss = record { mode = 0; matches = before; node = 0 } in
    let then = on_lss (on_select part same l).change l in
    cond (eqb then.mode 1) 4 then.matches

-- "four matches in that order": a row for 40h, 41h, 42h and 43h, by 0 to 3 matches before; a wrong value leaves none
abbrev rows : Bool → List (List ℕ)
rows same = map (λ part. map (matches_after part same) (0 ∷ 1 ∷ 2 ∷ 3 ∷ [])) (0 ∷ 1 ∷ 2 ∷ 3 ∷ [])

pub right_values : rows true ≡ (1 ∷ 1 ∷ 1 ∷ 1 ∷ []) ∷ (0 ∷ 2 ∷ 0 ∷ 0 ∷ []) ∷ (0 ∷ 0 ∷ 3 ∷ 0 ∷ []) ∷ (0 ∷ 0 ∷ 0 ∷ 4 ∷ []) ∷ []
unfolding on_select
right_values = refl

pub wrong_values : rows false ≡ replicate 4 (replicate 4 0)
unfolding on_select
wrong_values = refl

module _ (part : ℕ) (same : Bool) (l : Lss) where
  -- "four matches in that order": the first whatever was matched before, each other one directly behind the one before it
  abbrev pub IsMatch : Type 0
  IsMatch = (same ≡ true) × ((part ≡ 0) ⊎ (l.matches ≡ part))

  -- the number set stays
  abbrev pub selecting : ℕ → ℕ → Change
  selecting mode matches = Configure (record { mode = mode; matches = matches; node = l.node })

  -- the same as a test
  abbrev test : Bool
  test = same && (eqb part 0 || eqb l.matches part)

  matches : test ≡ true → IsMatch
  matches t = (
    left same _ t,
    either {P = (part ≡ 0) ⊎ (l.matches ≡ part)} (eqb part 0) (eqb l.matches part) (λ e. inl (eqb-true part 0 e)) (λ e. inr (eqb-true l.matches part e)) (right same _ t),
  )

  tested : IsMatch → test ≡ true
  tested (s, inl e) = rw (s, e)
  tested (s, inr e) = rw (s, eq-eqb l.matches part e) (or-true (eqb part 0))
    where
      or-true : (a : Bool) → a || true ≡ true
      or-true true = refl
      or-true false = refl

  -- what holds of the fourth match, of one before it, and of what is no match, holds of a request that selects
  pub each_select : (P : Outcome → Type 0)
      → (IsMatch → part ≡ 3 → P (lss_replied 0x44 0 (selecting 1 0)))
      → (IsMatch → ¬ (part ≡ 3) → P (lss_silent (selecting 0 (part + 1))))
      → (¬ IsMatch → P (lss_silent (selecting 0 0)))
      → P (on_select part same l)
  unfolding on_select
  each_select P fourth counts none =
      cond-each P test
      (λ t. cond-each P (eqb part 3) (λ e. fourth (matches t) (eqb-true part 3 e)) (λ e. counts (matches t) (eqb-false part 3 e)))
      (λ f. none (λ m. no (sym f ∙ tested m)))

-- a request that changes nothing leaves record and journal
two-transfers : (l : List Transfer) → transfers_ok l ≡ true → get_or l 0 (transferring absent) ∷ get_or l 1 (transferring absent) ∷ [] ≡ l
two-transfers [] e = no e
two-transfers (a ∷ []) e = no e
two-transfers (a ∷ b ∷ []) e = refl
two-transfers (a ∷ b ∷ c ∷ l) e = absurd (omega (arith, eqb-true (length (a ∷ b ∷ c ∷ l)) 2 (left _ _ e)))

pub unchanged : (u : State) (o : Outcome) → in_range u ≡ true → o.change ≡ Keep → state_after Master o u ≡ u
unchanged u o range e = rw (e, two-transfers u.transfers (parts u range).transfers)

-- a node number has one byte
one_byte : (n : ℕ) → n ≤ 47 → four n ≡ n ∷ 0 ∷ 0 ∷ 0 ∷ []
one_byte n small =
    let low : n % 256 ≡ n = omega arith in
    let second : n / 256 % 256 ≡ 0 = omega arith in
    let third : n / 65536 % 256 ≡ 0 = omega arith in
    let fourth : n / 16777216 % 256 ≡ 0 = omega arith in
    rw (low, second, third, fourth)

module _ (u : State) (request : List ℕ) where
  -- "vendor, product, revision, serial": the record's own numbers, 0 to 3
  abbrev own : ℕ → ℕ
  own part = get_or (u.identity.vendor ∷ u.identity.product ∷ u.identity.revision ∷ u.identity.serial ∷ []) part 0

  -- "in Stopped only"
  pub unserved : network_ok u.network ≡ true → ¬ (u.network ≡ 4) → lss_outcome request u ≡ lss_silent Keep
  unserved ok moving =
      let n = u.network in
      either (eqb n 4 || eqb n 5) (eqb n 127)
      (λ e. either (eqb n 4) (eqb n 5) (λ f. absurd (moving (eqb-true n 4 f))) (λ f. rw (eqb-true n 5 f)) e) (λ e. rw (eqb-true n 127 e)) ok

  module _ (still : u.network ≡ 4) where
    -- "40h to 43h selective by vendor, product, revision, serial": waiting
    pub selects : (part : ℕ) → part ≤ 3 → u.lss.mode ≡ 0 → get_or request 0 0 ≡ 0x40 + part
        → lss_outcome request u ≡ on_select part (eqb (four_at request 1) (own part)) u.lss
    unfolding lss_command_of
    selects zero most waits first = rw (still, first, waits)
    selects (suc zero) most waits first = rw (still, first, waits)
    selects (suc (suc zero)) most waits first = rw (still, first, waits)
    selects (suc (suc (suc zero))) most waits first = rw (still, first, waits)
    selects (suc (suc (suc (suc part)))) most waits first = absurd (omega arith)

    -- "in configuration: … 5Ah to 5Dh identity"
    pub tells-identity : (part : ℕ) → part ≤ 3 → u.lss.mode ≡ 1 → get_or request 0 0 ≡ 0x5A + part → lss_outcome request u ≡ lss_replied (0x5A + part) (own part) Keep
    unfolding lss_command_of
    tells-identity zero most in-mode first = rw (still, first, in-mode)
    tells-identity (suc zero) most in-mode first = rw (still, first, in-mode)
    tells-identity (suc (suc zero)) most in-mode first = rw (still, first, in-mode)
    tells-identity (suc (suc (suc zero))) most in-mode first = rw (still, first, in-mode)
    tells-identity (suc (suc (suc (suc part)))) most in-mode first = absurd (omega arith)

    -- "5Eh node number": the running one
    pub tells-node : node_ok u.node ≡ true → u.lss.mode ≡ 1 → get_or request 0 0 ≡ 0x5E
        → lss_outcome request u ≡ replied (0x5E ∷ u.node ∷ 0 ∷ 0 ∷ 0 ∷ 0 ∷ 0 ∷ 0 ∷ []) absent Keep
    unfolding lss_command_of
    tells-node ok in-mode first =
        rw (still, first, in-mode) (ap (λ (bytes : List ℕ). replied (0x5E ∷ bytes ++ 0 ∷ 0 ∷ 0 ∷ []) absent Keep) (one_byte u.node (to-most 1 47 u.node ok)))

-- what is written on a channel is no part of LSS
module _ (c : Channel) (u : State) (l : Lss) where
  preset-apart : (a : Axis) (v : ℕ) (z : Result ℤ Abort) → on_lss (zero_change a v z) l ≡ l
  preset-apart a v (Ok offset) = refl
  preset-apart a v (Err why) = refl

  setting-apart : (s : Setting) (v : ℕ) → on_lss ((setting_write s v u).change c) l ≡ l
  setting-apart Heartbeat v = refl
  setting-apart (Pdo n p) v = refl
  setting-apart Resolution v = refl
  setting-apart (Operating a) v = refl
  setting-apart (Preset a) v = preset-apart a v (zeroed_by a v u)
  setting-apart (Offset a) v = refl
  setting-apart (Differential a) v = refl

  object-apart : (o : Object) (v : ℕ) → on_lss (change c o v u) l ≡ l
  object-apart (Const f) v = refl
  object-apart ErrorCount v = refl
  object-apart (ErrorEntry n) v = refl
  object-apart Name v = refl
  object-apart Save v = refl
  object-apart Load v = refl
  object-apart Filled v = refl
  object-apart (Angle a) v = refl
  object-apart (Of s) v = setting-apart s v

  pub service-apart : (request : List ℕ) → on_lss (outcome c request u).change l ≡ l
  service-apart request =
      each_outcome c request u (λ (o : Outcome). on_lss o.change l ≡ l)
      (record {
        aborted = λ code. refl;
        wrote = λ given o p q e. object-apart o (value_for o request);
        number = λ size n. refl;
        text = refl;
        first = refl;
        last = refl;
        toggle = refl;
        missing = refl;
        ended = refl;
        unserved = refl;
      })

-- 81h, 82h and power-on end configuration and matches, and keep the number set
pub started-waits : (node : ℕ) (identity : Identity) (saves : Saves) (set : ℕ) (j : List ℕ)
    → (started node identity saves set j).lss ≡ record { mode = 0; matches = 0; node = set }
started-waits node identity saves set j = refl

pub communicating-waits : (u : State) → (communicating u).lss ≡ record { mode = 0; matches = 0; node = u.lss.node }
communicating-waits u = refl
