-- What is found of a setting is what the rules say of it, and an accepted power-on has a node and a length that are accepted.
use mathlib.Core.Path.{◌≡◌, refl, ap, sym, ◌∙◌, subst}
use mathlib.Core.Bool.{true}
use mathlib.Core.List.{List}
use mathlib.Core.Logic.{inl, inr, ⊎_elim}
use Prim.Native.Nat.{ℕ, ◌+◌}
use native.Mathlib.Omega.{arith}
use Rattle.basintilt.specs.declared.origin.Finding.{Finding}
use Rattle.answers.specs.declared.Answer.{Answer}
use Rattle.basintilt.specs.declared.Happening.{Happening}
use Rattle.basintilt.specs.Lent.{Lent, happened, journal_of}
use Rattle.basintilt.specs.Traced.{finding_of}
use Rattle.device.specs.declared.Device.{Device}
use Rattle.device.specs.declared.Stepped.{Stepped}
use Rattle.device.specs.Seen.{seen}
use Rattle.laws.proofs.Bools.{cond-each}
use Rattle.rules.specs.declared.events.Frame.{Frame}
use Rattle.rules.specs.declared.journal.Origin.{Origin}
use Rattle.rules.specs.declared.journal.Origin.TheVariants.{Saved, Loaded, Stored}
use Rattle.rules.specs.declared.objects.Channel.{Channel}
use Rattle.rules.specs.declared.parts.Identity.{Identity}
use Rattle.rules.specs.declared.settings.Settings.{Settings}
use Rattle.rules.specs.Acknowledged.{saves_acknowledged, loads_acknowledged, stores_acknowledged}
use Rattle.rules.specs.Brings.{Brings}
use Rattle.rules.specs.Frames.{requests_at}
use Rattle.rules.specs.Journal.{length_ok}
use Rattle.rules.specs.Origins.{value_in, value_told, bringer_told}
use Rattle.rules.specs.PowerOn.{saves_in, power_on}
use Rattle.rules.specs.Ranges.{node_ok}
use Rattle.rules.specs.Results.{Result}
use Rattle.rules.specs.Settings.{factory}
use Rattle.rules.specs.State.{State, node_else}
use Rattle.saves.specs.Counted.{requested_of, lss_requested}
use Rattle.rules.proofs.Resets.{power_on_saves}
use Rattle.saves.specs.Origins.{origin_in, SetBy}
use Rattle.saves.proofs.Origins.{in_force, earliest-block, from_factory, save_sets, load_sets, store_sets}
use Rattle.promises.specs.Origins.{asked, FindsInForce, FoundSet, CallsSet}
use Rattle.promises.specs.TwoFrames.{frames_in}
use Rattle.promises.proofs.Calls.{history_step}
use Rattle.promises.proofs.TwoFrames.{lent-frames}

accepted : (node : ℕ) (identity : Identity) (j : List ℕ) → (power_on node identity j).refusal ≡ 0 → (node_ok node ≡ true) × (length_ok j ≡ true)
unfolding power_on
accepted node identity j =
    let P : Result → Type 0 = λ r. r.refusal ≡ 0 → (node_ok node ≡ true) × (length_ok j ≡ true) in
    cond-each P (node_ok node) (λ n. cond-each P (length_ok j) (λ l e. (n, l)) (λ l e. absurd (omega (arith, e)))) (λ n e. absurd (omega (arith, e)))

pub finds_in_force : FindsInForce
unfolding finding_of
finds_in_force node identity j p s r on ok is =
    let good = accepted node identity j (ap (λ (x : Stepped). x.answer.refusal) (sym on) ∙ ok) in
    let whole = good.1 in
    let count : p.device.saves.filled ≡ (saves_in j).filled = ap (λ (x : Stepped). x.device.saves.filled) on ∙ power_on_saves node identity j good.0 whole in
    let value = in_force j s node identity whole good.0 in
    rw is (
      value.0,
      value.1 ∙ ap (λ (x : Stepped). value_in s x.device.running) (sym on),
      λ none. let f = from_factory j s whole (sym count ∙ none) in rw f (refl, refl, refl),
      λ some. let e = earliest-block j s whole (omega (arith, count)) in (subst (λ (n : ℕ). Brings s (value_told (origin_in j s)) n j (bringer_told (origin_in j s)).number) (sym count) e.0, e.2, e.3),
    )

-- what the rules tell, in C's numbers
found-set : (o : Origin) (t : Settings) (d : Device) (j k : List ℕ) (v : State) → SetBy o t (seen d j) v → k ≡ v.journal → FoundSet o t d j k
unfolding finding_of
found-set o t d j k v sets e s was found p q =
    let set = sets s in
    let now = q ∙ ap (λ (l : List ℕ). finding_of (origin_in l s)) e in
    let value = ap (λ (f : Finding). f.value) p in (
      λ which. now ∙ ap finding_of (set.0 (⊎_elim inl (λ other. inr (λ same. other (value ∙ same))) which)),
      λ some same. now ∙ ap finding_of (set.1 some (sym value ∙ same)) ∙ sym p,
    )

-- the frames of a call are those of its event, so what they acknowledge is
module _ (d a : Device) (j k : List ℕ) (r : Answer) where
  counted : (count : List Frame → ℕ) (h : Happening) → Lent d j h r a k → count (frames_in r) ≡ 1 → count (happened d j h).sent ≡ 1
  counted count h lent e = ap count (sym (lent-frames d j h r a k lent)) ∙ e

pub calls_set : CallsSet
unfolding journal_of
calls_set i j k before q r d a bytes history =
    let u = seen d j in
    let holds = (history_step history).holds in
    let on : Channel → Happening = λ c. asked (requests_at c + d.node) bytes in (
      λ c lent e. found-set (Saved c) d.running d j k (requested_of c bytes u).state
          (save_sets u holds bytes c (counted d a j k r saves_acknowledged (on c) lent e)) lent.2,
      λ c lent e. found-set (Loaded c) factory d j k (requested_of c bytes u).state
          (load_sets u holds bytes c (counted d a j k r loads_acknowledged (on c) lent e)) lent.2,
      λ lent e. found-set (Stored (node_else d.lss.node d.node)) d.saves.stored d j k (lss_requested bytes u).state
          (store_sets u holds bytes (counted d a j k r stores_acknowledged (asked 0x7E5 bytes) lent e)) lent.2,
    )
