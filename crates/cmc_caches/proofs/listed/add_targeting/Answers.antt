use Rattle.std.proofs.Common.{◌∙◌, ap, sym}
use Rattle.std.specs.Prelude.{is_some}
use Rattle.cmc_meta.specs.declared.key.Key.{Key}
use Rattle.cmc_model.specs.Objects.{object_at}
use Rattle.cmc_informer.specs.Caches.{is_targeting}
use Rattle.cmc_caches.specs.Board.{shown_by}
use Rattle.cmc_caches.proofs.Gathering.{among_last}
use Rattle.cmc_caches.proofs.Naming.{adds_last, stands_targeting}
use Rattle.cmc_caches.proofs.listed.add_targeting.Goals as goal

pub returns-in_ok-push-clause-listed : goal.returns-in_ok-push-clause-listed
returns-in_ok-push-clause-listed c on = among_last c.args.keys.now.items c.push.new.self.items c.in_ok-copy.field-0 c.args.key.now c.in_ok-push.ensures.items c.in_ok-copy.ensures

pub returns-in_ok-push-clause-adds : goal.returns-in_ok-push-clause-adds
returns-in_ok-push-clause-adds c =
    adds_last (shown_by c.args.certificates.now) c.args.keys.now.items c.push.new.self.items c.in_ok-copy.field-0 c.in_ok-push.ensures.items
    (ap (λ (k : Key). is_some (object_at (shown_by c.args.certificates.now) k)) c.in_ok-copy.ensures
    ∙ stands_targeting c.args.secret.now.namespace c.args.secret.now.name (object_at (shown_by c.args.certificates.now) c.args.key.now)
    (ap (is_targeting c.args.secret.now.namespace c.args.secret.now.name) (sym c.get.ensures) ∙ sym c.targets.ensures ∙ c.if-targets.true))
