use Rattle.std.proofs.Common.{◌∙◌, ap}
use Rattle.std.specs.Prelude.{is_some}
use Rattle.cmc_meta.specs.declared.key.Key.{Key}
use Rattle.cmc_model.specs.Objects.{object_at}
use Rattle.cmc_caches.proofs.BornKeys.{each_of_one_key}
use Rattle.cmc_caches.proofs.Gathering.{among_last}
use Rattle.cmc_caches.proofs.Naming.{adds_last, stands_with_uid}
use Rattle.cmc_caches.specs.Board.{shown_by}
use Rattle.cmc_caches.proofs.listed.add_with_uid.Goals as goal

pub returns-in_ok-push-clause-listed : goal.returns-in_ok-push-clause-listed
returns-in_ok-push-clause-listed c k at =
    among_last c.args.keys.now.items c.push.new.self.items c.in_ok-copy.field-0 k c.in_ok-push.ensures.items (c.in_ok-copy.ensures ∙ each_of_one_key c.args.certificates.now.kind c.args.certificates.now.position c.args.certificates.now.writes c.requires c.args.uid c.in-Some.key.now k c.in-Some.ensures at)

pub returns-in_ok-push-clause-adds : goal.returns-in_ok-push-clause-adds
returns-in_ok-push-clause-adds c =
    adds_last (shown_by c.args.certificates.now) c.args.keys.now.items c.push.new.self.items c.in_ok-copy.field-0 c.in_ok-push.ensures.items
    (ap (λ (k : Key). is_some (object_at (shown_by c.args.certificates.now) k)) c.in_ok-copy.ensures ∙ stands_with_uid c.args.uid (object_at (shown_by c.args.certificates.now) c.in-Some.key.now) c.in-Some.ensures)
