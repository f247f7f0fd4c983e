-- `Device::check` meets its contract: a part out of its range puts the record out, and where all are in the length decides.
use Rattle.std.proofs.Common.{◌≡◌, ◌&&◌, ℕ, Bool, true, false, Err, sym, ◌∙◌, eq-eqb}
use borrow.Author.Tests.{ne_eqb}
use Rattle.laws.proofs.Bools.{no, both, left, right, not-true}
use Rattle.answers.specs.declared.refusal.Refusal.TheVariants.{OutOfRange}
use Rattle.rules.specs.Ranges.{in_range}
use Rattle.rules.specs.State.{State}
use Rattle.rules.proofs.InRange.{InRange, parts, together}
use Rattle.device.specs.Decided.{checked}
use Rattle.device.specs.Seen.{alone}
use Rattle.device.proofs.Device.check.Goals as goal
use Rattle.device.proofs.Device.check.Goals.{After-counts_ok}

out : (n : ℕ) (u : State) {b : Bool} → b ≡ false → (InRange u → b ≡ true) → Err OutOfRange ≡ checked n u
out n u f t = rw (not-true (in_range u) (λ e. no (sym f ∙ t (parts u e))))

-- behind the last test of a part
inside : (c : After-counts_ok) → c.elapsed_ok.result && c.counts_ok.result ≡ true → in_range (alone c.args.self.now) ≡ true
inside c counted =
    let x = c.axis_ok in
    let y = c.axis_ok-2 in
    let own = c.node_ok in
    let own-is = simp c.from.ensures at own.ensures in
    let network = c.network_ok in
    let elapsed = c.elapsed_ok in
    let counts = c.counts_ok in
    let axes = c.if-not-axis_ok.false in
    let nodes = c.if-not-node_ok-network_ok.false in
    together _ (record {
      node = sym own-is ∙ left own.result network.result nodes;
      network = sym network.ensures ∙ right own.result network.result nodes;
      saves = sym c.if-not-saves_ok.ensures;
      running = sym c.if-not-in_table.ensures;
      errors = sym c.if-not-errors_ok.ensures;
      heartbeat = sym elapsed.ensures ∙ left elapsed.result counts.result counted;
      pdo = sym counts.ensures ∙ right elapsed.result counts.result counted;
      transfers = sym c.if-not-transfers_ok.ensures;
      x = sym x.ensures ∙ left x.result y.result axes;
      y = sym y.ensures ∙ right x.result y.result axes;
      lss = sym c.if-not-lss_ok.ensures;
    })

pub returns-then-not-lss_ok : goal.returns-then-not-lss_ok
returns-then-not-lss_ok c = out _ _ (sym c.if-not-lss_ok.ensures) (λ p. p.lss)

pub returns-then-not-saves_ok : goal.returns-then-not-saves_ok
returns-then-not-saves_ok c = out _ _ (sym c.if-not-saves_ok.ensures) (λ p. p.saves)

pub returns-then-not-transfers_ok : goal.returns-then-not-transfers_ok
returns-then-not-transfers_ok c = out _ _ (sym c.if-not-transfers_ok.ensures) (λ p. p.transfers)

pub returns-then-not-in_table : goal.returns-then-not-in_table
returns-then-not-in_table c = out _ _ (sym c.if-not-in_table.ensures) (λ p. p.running)

pub returns-then-not-axis_ok : goal.returns-then-not-axis_ok
returns-then-not-axis_ok c = out _ _ c.if-not-axis_ok.true (λ p. both (c.axis_ok.ensures ∙ p.x) (c.axis_ok-2.ensures ∙ p.y))

pub returns-then-not-errors_ok : goal.returns-then-not-errors_ok
returns-then-not-errors_ok c = out _ _ (sym c.if-not-errors_ok.ensures) (λ p. p.errors)

pub returns-then-not-node_ok-network_ok : goal.returns-then-not-node_ok-network_ok
returns-then-not-node_ok-network_ok c =
    let own-is = simp c.from.ensures at c.node_ok.ensures in
    out _ _ c.if-not-node_ok-network_ok.true (λ p. both (own-is ∙ p.node) (c.network_ok.ensures ∙ p.network))

pub returns-then-not-elapsed_ok-counts_ok : goal.returns-then-not-elapsed_ok-counts_ok
returns-then-not-elapsed_ok-counts_ok c =
    out _ _ c.if-not-elapsed_ok-counts_ok.true (λ p. both (c.elapsed_ok.ensures ∙ p.heartbeat) (c.counts_ok.ensures ∙ p.pdo))

pub returns-then-journal_length-self : goal.returns-then-journal_length-self
returns-then-journal_length-self c = simp (inside (goal.at.returns-then-journal_length-self c).After-counts_ok c.if-not-elapsed_ok-counts_ok.false, ne_eqb _ _ c.if-journal_length-self.true)

pub returns : goal.returns
returns c = simp (inside (goal.at.returns c).After-counts_ok c.if-not-elapsed_ok-counts_ok.false, eq-eqb _ _ c.if-journal_length-self.false)
