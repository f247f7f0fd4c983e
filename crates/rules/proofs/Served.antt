-- A request leaves the record in range and the journal at its length.
use mathlib.Core.Path.{◌≡◌, refl, ap, sym, subst, ◌∙◌}
use mathlib.Core.Bool.{true}
use Prim.Native.Nat.{ℕ, ◌+◌, ◌*◌, ◌≤◌}
use native.Mathlib.Omega.{arith}
use lib.Dec.{eqb}
use lib.IntN.{ℤ}
use lib.ListN.{length}
use borrow.Author.Tests.{eqb-true, le-leb}
use Rattle.laws.proofs.Bools.{both, right, cond-each, cond_both}
use mathlib.Core.List.{List}
use Rattle.rules.specs.declared.journal.Origin.{Origin}
use Rattle.rules.specs.declared.journal.Origin.TheVariants.{Saved, Loaded, Stored}
use Rattle.rules.specs.declared.objects.Axis.{Axis}
use Rattle.rules.specs.declared.objects.Axis.TheVariants.{X, Y}
use Rattle.rules.specs.declared.objects.Channel.{Channel}
use Rattle.rules.specs.declared.objects.Channel.TheVariants.{One, Two}
use Rattle.rules.specs.declared.objects.PdoNumber.TheVariants.{First}
use Rattle.rules.specs.declared.objects.PdoSetting.TheVariants.{On, Transmission, Timer}
use Rattle.rules.specs.declared.objects.Setting.{Setting}
use Rattle.rules.specs.declared.objects.Setting.TheVariants.{Heartbeat, Pdo, Resolution, Operating, Preset, Offset, Differential}
use Rattle.rules.specs.declared.parts.Transfer.{Transfer}
use Rattle.rules.specs.declared.requests.Caller.{Caller}
use Rattle.rules.specs.declared.requests.Caller.TheVariants.{Client, Master}
use Rattle.rules.specs.declared.requests.Change.{Change}
use Rattle.rules.specs.declared.requests.Change.TheVariants.{Keep, Put, Zero, Empty, Configure, Fill}
use Rattle.rules.specs.declared.requests.Outcome.{Outcome}
use Rattle.rules.specs.Block.{block_from, origin_channel, origin_kind}
use Rattle.rules.specs.Events.{journal_fits, outcome_for}
use Rattle.rules.specs.Numbers.{fits}
use Rattle.rules.specs.Objects.{same_setting}
use Rattle.rules.specs.Ranges.{in_range, saves_ok, errors_ok, elapsed_ok, counts_ok, transfer_ok, lss_ok}
use Rattle.rules.specs.Service.{Kept, state_after, put_pdo, running_after, on_errors, kept_in, on_kept, stores, storing, on_heartbeat, on_counts, on_transfer, on_lss, carrying}
use Rattle.rules.specs.Settings.{Held, every, in_table, setting, within}
use Rattle.rules.specs.State.{State, absent, transferring, place, transfer_of}
use Rattle.rules.proofs.Block.{block-length}
use Rattle.rules.proofs.InRange.{InRange, parts, together, SavesInRange, saves-parts, saves-together}
use Rattle.rules.proofs.BySetting.{valued, same_axis, zeroed_at, on_setting, by-setting}
use Rattle.rules.proofs.Kept.{put-length}
use Rattle.rules.proofs.Outcomes.{Allowed, allowed, transfer_in, carrying_in}
use Rattle.rules.proofs.Ranges.{factory_in, no-errors_in, no_elapsed_in, no-counts_in}
use Rattle.rules.proofs.Rows.{one-setting}
use Rattle.rules.proofs.Table.{every_get, setting_in, table_of}

module _ (u : State) (r : InRange u) where
  abbrev was : (s : Setting) → Held s
  was s = setting s u.running

  -- each setting after a change
  put_in : (t s : Setting) (v : ℕ) → within t (valued t v) ≡ true → within s (on_setting (Put t v) s (was s)) ≡ true
  put_in t s v h =
      cond-each (λ (x : Held s). within s x ≡ true) (same_setting s t)
      (λ e. subst (λ (z : Setting). within z (valued z v) ≡ true) (sym (one-setting s t e)) h)
      (λ e. setting_in u.running r.running s)

  zeroed_in : (a : Axis) (preset offset : ℤ) → fits 16 preset ≡ true → fits 16 offset ≡ true → (s : Setting) → within s (zeroed_at a preset offset s (was s)) ≡ true
  zeroed_in a preset offset p o Heartbeat = setting_in u.running r.running Heartbeat
  zeroed_in a preset offset p o (Pdo n q) = setting_in u.running r.running (Pdo n q)
  zeroed_in a preset offset p o Resolution = setting_in u.running r.running Resolution
  zeroed_in a preset offset p o (Operating b) = setting_in u.running r.running (Operating b)
  zeroed_in a preset offset p o (Preset b) = cond_both (λ (z : ℤ). fits 16 z ≡ true) (same_axis a b) p (setting_in u.running r.running (Preset b))
  zeroed_in a preset offset p o (Offset b) = cond_both (λ (z : ℤ). fits 16 z ≡ true) (same_axis a b) o (setting_in u.running r.running (Offset b))
  zeroed_in a preset offset p o (Differential b) = setting_in u.running r.running (Differential b)

  settings_in_lem : (e : Change) → Allowed u e → (s : Setting) → within s (on_setting e s (was s)) ≡ true
  settings_in_lem Keep a s = setting_in u.running r.running s
  settings_in_lem (Put t v) a s = put_in t s v a.1
  settings_in_lem (Zero b preset offset) a s = zeroed_in b preset offset a.0 a.1 s
  settings_in_lem Empty a s = setting_in u.running r.running s
  settings_in_lem (Configure l) a s = setting_in u.running r.running s
  settings_in_lem (Fill o) a s = setting_in u.running r.running s

  errors_in : (e : Change) → errors_ok (on_errors e u.errors) ≡ true
  errors_in Keep = r.errors
  errors_in (Put s v) = r.errors
  errors_in (Zero a preset offset) = r.errors
  errors_in Empty = no-errors_in
  errors_in (Configure l) = r.errors
  errors_in (Fill o) = r.errors

  -- the counts: a write that moves a period or a type zeroes what is counted against it
  abbrev Counts : Change → Type 0
  Counts e =
      let t = running_after e u.running in
      (elapsed_ok t.heartbeat (on_heartbeat e u.heartbeat) ≡ true) × (counts_ok t.pdo (on_counts First e u.pdo) ≡ true)

  same : (elapsed_ok u.running.heartbeat u.heartbeat ≡ true) × (counts_ok u.running.pdo u.pdo ≡ true)
  same = (r.heartbeat, r.pdo)

  put-counts : (t : Setting) (v : ℕ) → Counts (Put t v)
  put-counts Heartbeat v = (no_elapsed_in v, r.pdo)
  put-counts (Pdo First On) v = (r.heartbeat, no-counts_in (put_pdo On v u.running.pdo))
  put-counts (Pdo First Transmission) v = (r.heartbeat, no-counts_in (put_pdo Transmission v u.running.pdo))
  put-counts (Pdo First Timer) v = (r.heartbeat, no-counts_in (put_pdo Timer v u.running.pdo))
  put-counts Resolution v = same
  put-counts (Operating X) v = same
  put-counts (Operating Y) v = same
  put-counts (Preset X) v = same
  put-counts (Preset Y) v = same
  put-counts (Offset X) v = same
  put-counts (Offset Y) v = same
  put-counts (Differential X) v = same
  put-counts (Differential Y) v = same

  counts_in : (e : Change) → Counts e
  counts_in Keep = same
  counts_in (Put t v) = put-counts t v
  counts_in (Zero X preset offset) = same
  counts_in (Zero Y preset offset) = same
  counts_in Empty = same
  counts_in (Configure l) = same
  counts_in (Fill o) = same

  lss-after : (e : Change) → Allowed u e → lss_ok (on_lss e u.lss) ≡ true
  lss-after Keep a = r.lss
  lss-after (Put t v) a = r.lss
  lss-after (Zero b preset offset) a = r.lss
  lss-after Empty a = r.lss
  lss-after (Configure l) a = a
  lss-after (Fill o) a = r.lss

  -- what only a save, a load or a store changes
  module _ (fit : journal_fits u ≡ true) where
    record Fits (k : Kept) : Type 0 where
      saves : saves_ok (record { blocks = u.saves.blocks; filled = k.filled; spoiled = u.saves.spoiled; node = k.node; stored = k.stored }) ≡ true
      journal : eqb (length k.journal) (512 * u.saves.blocks) ≡ true

    was-kept : SavesInRange u.saves
    was-kept = saves-parts u.saves r.saves

    -- what is stored is within the object table, as the running settings, factory and what was stored are
    pub stored_in : (o : Origin) → in_table (storing o u.running u.saves.stored) ≡ true
    stored_in (Saved c) = r.running
    stored_in (Loaded c) = factory_in
    stored_in (Stored node) = was-kept.stored

    fill_in : (o : Origin) → Allowed u (Fill o) → Fits (on_kept (Fill o) (storing o u.running u.saves.stored) (kept_in u))
    fill_in o a =
        let t = storing o u.running u.saves.stored in
        let node = carrying o u.saves.node in
        let long = eqb-true (length u.journal) (512 * u.saves.blocks) fit in
        let room = a.0 in
        let b = block_from o (u.saves.filled + 1) t node in
        let enough : 512 * (u.saves.filled + 1) ≤ length u.journal = omega (arith, long, room) in
        record {
          saves = saves-together (record { blocks = u.saves.blocks; filled = u.saves.filled + 1; spoiled = u.saves.spoiled; node = node; stored = t })
              (record {
                blocks = was-kept.blocks;
                filled = le-leb (u.saves.filled + 1) u.saves.blocks (omega (arith, room));
                spoiled = was-kept.spoiled;
                node = carrying_in o u.saves.node a.2 was-kept.node;
                stored = stored_in o;
              });
          journal = simp (put-length u.saves.filled b u.journal enough (block-length (u.saves.filled + 1) (origin_channel o) (origin_kind o) t node)) fit;
        }

    kept_in_lem : (e : Change) → Allowed u e → Fits (on_kept e (stores e u.running u.saves.stored) (kept_in u))
    kept_in_lem Keep a = record { saves = r.saves; journal = fit }
    kept_in_lem (Put s v) a = record { saves = r.saves; journal = fit }
    kept_in_lem (Zero b preset offset) a = record { saves = r.saves; journal = fit }
    kept_in_lem Empty a = record { saves = r.saves; journal = fit }
    kept_in_lem (Configure l) a = record { saves = r.saves; journal = fit }
    kept_in_lem (Fill o) a = fill_in o a

    -- the transfers: absent, at the start or after seven bytes
    transfers_in : (c : Caller) (b : Channel) (next t : Transfer) → transfer_ok next ≡ true → transfer_ok t ≡ true → transfer_ok (on_transfer c b next t) ≡ true
    transfers_in (Client One) One next t p q = p
    transfers_in (Client One) Two next t p q = q
    transfers_in (Client Two) One next t p q = q
    transfers_in (Client Two) Two next t p q = p
    transfers_in Master b next t p q = q

    -- each channel's is one of the two
    own : (c : Channel) → transfer_ok (transfer_of c u) ≡ true
    own c = every_get transfer_ok (transferring absent) refl u.transfers (right (eqb (length u.transfers) 2) (every transfer_ok u.transfers) r.transfers) (place c)

    pub after_in : (c : Caller) (o : Outcome) → transfer_ok o.transfer ≡ true → Allowed u o.change → (in_range (state_after c o u) ≡ true) × (journal_fits (state_after c o u) ≡ true)
    after_in c o t a =
        let e = o.change in
        let k = kept_in_lem e a in (
          together (state_after c o u)
              (record {
                node = r.node;
                network = r.network;
                saves = k.saves;
                running = ap in_table (by-setting e u.running) ∙ table_of (λ s. on_setting e s (was s)) (settings_in_lem e a);
                errors = errors_in e;
                heartbeat = (counts_in e).0;
                pdo = (counts_in e).1;
                transfers = both (transfers_in c One o.transfer (transfer_of One u) t (own One)) (both (transfers_in c Two o.transfer (transfer_of Two u) t (own Two)) refl);
                x = r.x;
                y = r.y;
                lss = lss-after e a;
              }),
          k.journal,
        )

-- a request's outcome
pub served_in : (c : Caller) (request : List ℕ) (u : State) → in_range u ≡ true → journal_fits u ≡ true
    → (in_range (state_after c (outcome_for c request u) u) ≡ true) × (journal_fits (state_after c (outcome_for c request u) u) ≡ true)
served_in c request u e fit =
    let r = parts u e in
    after_in u r fit c (outcome_for c request u) (transfer_in u c request (own u r fit)) (allowed u c request r)
