use Rattle.std.proofs.Common.{List, ap, ◌∙◌}
use Rattle.cmc_model.specs.declared.write.Write.{Write}
use Rattle.cmc_model.specs.Objects.{object_at}
use Rattle.cmc_model.specs.Writes.{contents, oldest}
use Rattle.cmc_model.proofs.Writes.{oldest-all}
use Rattle.cmc_audit_state.proofs.journal.Journal.standing.Goals as goal

pub returns : goal.returns
returns c =
    c.latest.ensures ∙ ap (λ n. object_at (contents (oldest n c.args.self.now)) c.args.key.now) c.accepted.ensures
    ∙ ap (λ (ws : List Write). object_at (contents ws) c.args.key.now) (oldest-all c.args.self.now)
