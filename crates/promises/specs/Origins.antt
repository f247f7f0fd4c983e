-- Who set a setting, over what C calls: the finding is what an accepted power-on runs with, and the block that brought it.
use Rattle.std.specs.Prelude.{◌≡◌, List, ◌⊎◌, ℕ, ◌+◌, ◌≤◌, pos}
use Rattle.answers.specs.declared.Answer.{Answer}
use Rattle.basintilt.specs.declared.Happening.{Happening}
use Rattle.basintilt.specs.declared.origin.Finding.{Finding}
use Rattle.basintilt.specs.Lent.{Lent}
use Rattle.basintilt.specs.Traced.{Traced}
use Rattle.device.specs.declared.Device.{Device}
use Rattle.device.specs.declared.Stepped.{Stepped}
use Rattle.device.specs.Promise.{PoweredOn}
use Rattle.rules.specs.declared.events.Frame.{Frame}
use Rattle.rules.specs.declared.journal.Origin.{Origin}
use Rattle.rules.specs.declared.journal.Origin.TheVariants.{Saved, Loaded, Stored}
use Rattle.rules.specs.declared.objects.Channel.{Channel}
use Rattle.rules.specs.declared.objects.Setting.{Setting}
use Rattle.rules.specs.declared.parts.Identity.{Identity}
use Rattle.rules.specs.declared.settings.Settings.{Settings}
use Rattle.rules.specs.Acknowledged.{saves_acknowledged, loads_acknowledged, stores_acknowledged}
use Rattle.rules.specs.Block.{channel_in, kind_in, origin_channel, origin_kind}
use Rattle.rules.specs.Brings.{Brings}
use Rattle.rules.specs.Frames.{requests_at}
use Rattle.rules.specs.Journal.{block_at}
use Rattle.rules.specs.Objects.{setting_row}
use Rattle.rules.specs.Origins.{value_in}
use Rattle.rules.specs.Settings.{factory}
use Rattle.rules.specs.State.{node_else}
use Rattle.promises.specs.Calls.{History}
use Rattle.promises.specs.TwoFrames.{frames_in}

-- what is found of a setting
abbrev pub TracedSetting : List ℕ → Setting → Finding → Type 0
TracedSetting j s r = Traced j (setting_row s).index (setting_row s).subindex r

-- "the value in force after power-on", with the run that power-on counted
abbrev pub FindsInForce : Type 0
FindsInForce =
    (node : ℕ) (identity : Identity) (j : List ℕ) (p : Stepped) (s : Setting) (r : Finding) →
    PoweredOn node identity j p → p.answer.refusal ≡ 0 → TracedSetting j s r →
    (r.refusal ≡ 0) × (r.value ≡ value_in s p.device.running)
    × (p.device.saves.filled ≡ 0 → (r.block ≡ 0) × (r.channel ≡ 0) × (r.kind ≡ 0))
    × (1 ≤ p.device.saves.filled → Brings s r.value p.device.saves.filled j r.block × (r.channel ≡ channel_in (block_at r.block j)) × (r.kind ≡ kind_in (block_at r.block j)))

-- a request of eight bytes on a channel, and one by LSS, as C names them
abbrev pub asked : ℕ → List ℕ → Happening
asked identifier bytes = record { kind = 0; length = 8; ms = 0; identifier = identifier; m = pos 0; bytes = bytes }

-- a call filled a block that comes from o, with the settings t, and the journal j became k: where the value found was another before, or no block was filled,
-- that block is found; where it was the same, what was found before
abbrev pub FoundSet : Origin → Settings → Device → List ℕ → List ℕ → Type 0
FoundSet o t d j k =
    (s : Setting) (was found : Finding) → TracedSetting j s was → TracedSetting k s found →
    let n = d.saves.filled in
    ((n ≡ 0) ⊎ (¬ (was.value ≡ value_in s t)) → found ≡ record { refusal = 0; value = value_in s t; block = n + 1; channel = origin_channel o; kind = origin_kind o })
    × (1 ≤ n → was.value ≡ value_in s t → found ≡ was)

-- in a history of calls, from any journal: what is found behind a call whose answer acknowledges a save or a load of a channel, or a store of LSS
abbrev pub CallsSet : Type 0
CallsSet =
    (i j k : List ℕ) (before : List Frame) (q r : Answer) (d a : Device) (bytes : List ℕ) → History i before q d j →
    ((c : Channel) → Lent d j (asked (requests_at c + d.node) bytes) r a k → saves_acknowledged (frames_in r) ≡ 1 → FoundSet (Saved c) d.running d j k)
    × ((c : Channel) → Lent d j (asked (requests_at c + d.node) bytes) r a k → loads_acknowledged (frames_in r) ≡ 1 → FoundSet (Loaded c) factory d j k)
    × (Lent d j (asked 0x7E5 bytes) r a k → stores_acknowledged (frames_in r) ≡ 1 → FoundSet (Stored (node_else d.lss.node d.node)) d.saves.stored d j k)
