-- What was stored is in order.
use Rattle.std.proofs.Common.{◌≡◌, ◌≤◌, ℕ, List, Some, sym, subst, ◌∙◌}
use Rattle.std.specs.Prelude.{unwrap_or}
use Rattle.cmc_objects.specs.declared.certificate.Certificate.{Certificate}
use Rattle.cmc_objects.specs.declared.entry.Entry.{Entry}
use Rattle.cmc_model.specs.Histories.{Setting}
use Rattle.cmc_model.specs.Writes.{writes}
use Rattle.cmc_model.proofs.Writes.{writes_count}
use Rattle.cmc_rules.specs.declared.progress.Stage.{Stage}
use Rattle.cmc_rules.specs.declared.progress.Stage.TheVariants.{Read, Saved}
use Rattle.cmc_rules.specs.Legality.{IsLegal}
use Rattle.cmc_rules.specs.Causes.{IsCaused}
use Rattle.cmc_rules.specs.UserSteps.{Follows}
use Rattle.cmc_rules.specs.Passes.{open_pass}
use Rattle.cmc_rules.specs.Revisions.{revision, revision_of_uid, stated_revision}
use Rattle.cmc_safety.specs.Formed.{IsFormed}
use Rattle.cmc_safety.specs.Invariants.{IsWriting, KeepsInvariants}
use Rattle.cmc_safety.proofs.Course.{AreSound, of_open}
use Rattle.cmc_safety.proofs.InProgress.{HoldsWhileIssuing, IsInProgress, IsUnmoved, IsPlayed, in_progress}
use Rattle.cmc_safety.proofs.Creations.{made_versions}
use Rattle.cmc_safety.proofs.Dated.{dated_versions}
use Rattle.cmc_safety.proofs.Forms.{formed_versions}
use Rattle.cmc_safety.proofs.LowRevisions.{revisions_low}
use Rattle.cmc_safety.proofs.Moments.{moment_in_run}

while_writing : (stage : Stage) (P : Type 0) → IsWriting stage → HoldsWhileIssuing stage P → P
while_writing Read P writing holds = holds
while_writing Saved P writing holds = holds
while_writing other P writing holds = absurd writing

pub in_order : AreSound → (s : Setting) (h : List Entry) → IsFormed s → IsLegal s h → IsCaused s h → Follows s h → KeepsInvariants s h
in_order sound s h formed legal caused follows =
    let o : IsPlayed s h = record { legal = legal; caused = caused; follows = follows } in record {
      forms = λ key object has. formed_versions sound s h formed o key object has;
      revisions = λ key object has. subst (λ (n : ℕ). unwrap_or (stated_revision object) 0 ≤ n) (writes_count s h) (revisions_low sound s h formed o key object has);
      moments = λ key object has. record { created = made_versions sound s h formed o key object has; status = dated_versions sound s h formed o key object has };
      time = moment_in_run s h formed follows;
      in_progress = λ n p c opened writing sees.
          let going : IsInProgress (writes s h) p.role p.key p.seen = while_writing p.stage (IsInProgress (writes s h) p.role p.key p.seen) writing (of_open (IsUnmoved (writes s h)) (open_pass s h n) p opened (in_progress sound s h n o)) in
          let same : going.certificate ≡ c = (let one : Some going.certificate ≡ Some c = sym going.sees ∙ sees in cc one) in
          subst (λ (d : Certificate). revision_of_uid d.meta.uid (writes s h) ≡ revision d) same going.present;
    }
