-- What a request comes to: a possible change, and a reply; together they do what the rules say of the request.
use mathlib.Core.Path.{◌≡◌, ap, sym, ◌∙◌, subst}
use mathlib.Core.List.{List, []}
use Prim.Native.Nat.{ℕ}
use lib.ListN.{length}
use Rattle.acts.specs.Acts.{requested}
use Rattle.answers.specs.Answers.{answering}
use Rattle.answers.specs.declared.Answer.{Answer}
use Rattle.changes.proofs.Outcomes.{possible}
use Rattle.changes.specs.After.{Possible}
use Rattle.rules.proofs.InRange.{parts}
use Rattle.rules.specs.declared.requests.Caller.{Caller}
use Rattle.rules.specs.declared.requests.Caller.TheVariants.{Client, Master}
use Rattle.rules.specs.declared.requests.Outcome.{Outcome}
use Rattle.rules.specs.Events.{answered, outcome_for}
use Rattle.rules.specs.Frames.{reply_frames}
use Rattle.device.proofs.Acted.{acted-on}
use Rattle.device.proofs.Beside.{range-beside}
use Rattle.device.proofs.Views.{outcome-alike, lss-alike}
use Rattle.device.specs.declared.Device.{Device}
use Rattle.device.specs.Answers.{DoneBeside}
use Rattle.device.specs.Replied.{changed_by, journal_by, with_transfer}
use Rattle.device.specs.Seen.{seen, alone, Fit}

module _ (d : Device) (j : List ℕ) where
  -- the outcome has nothing to do with the journal
  pub outcome-beside : (c : Caller) (request : List ℕ) → outcome_for c request (alone d) ≡ outcome_for c request (seen d j)
  outcome-beside (Client c) request = sym (outcome-alike c request d []) ∙ outcome-alike c request d j
  outcome-beside Master request = sym (lss-alike request d []) ∙ lss-alike request d j

  module _ (c : Caller) (request : List ℕ) (o : Outcome) (e : o ≡ outcome_for c request (alone d)) where
    pub can : Fit d (length j) → Possible (seen d j) o.change
    can fit = rw (e, outcome-beside c request) (possible (seen d j) (parts (seen d j) (range-beside d j ∙ fit.0)) fit.1 c request)

    -- changed first, and then replied
    pub served : (d₁ d₂ : Device) (j₁ : List ℕ) (a : Answer)
        → (d₁ ≡ changed_by o.change d) × (j₁ ≡ journal_by o.change d j)
        → (a ≡ answering 0 (reply_frames c d₁.node o.reply)) × (d₂ ≡ with_transfer c o.transfer d₁)
        → DoneBeside (requested c request (seen d j)) a d₂ j₁
    served d₁ d₂ j₁ a p q =
        let on = acted-on c o.reply o.transfer d j o.change in
        subst (λ (x : Outcome). DoneBeside (answered c x (seen d j)) a d₂ j₁) (e ∙ outcome-beside c request) (
          (
            q.0 ∙ ap (λ (x : Device). answering 0 (reply_frames c x.node o.reply)) p.0,
            q.1 ∙ ap (λ (x : Device). with_transfer c o.transfer x) p.0 ∙ on.0,
          ),
          p.1 ∙ on.1,
        )
