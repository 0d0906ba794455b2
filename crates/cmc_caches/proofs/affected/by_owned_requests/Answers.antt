use Rattle.std.proofs.Common.{List, ℕ, subst, sym, ◌∙◌, reverse}
use Rattle.cmc_meta.specs.declared.key.Kind.TheVariants as kinds
use Rattle.cmc_objects.specs.Informers.{kind_of_work}
use Rattle.cmc_caches.specs.Affected.{AreListedByUid, left_by}
use Rattle.cmc_caches.proofs.Naming.{named_with, none_named, work_by_requests}
use Rattle.cmc_caches.proofs.Seeing.{sees_requests}
use Rattle.cmc_caches.specs.Board.{shown_by}
use Rattle.cmc_caches.proofs.affected.by_owned_requests.Goals as goal

pub returns-clause-work : goal.returns-clause-work
returns-clause-work c =
    named_with (kind_of_work c.args.role) (reverse c.args.writes.now) (shown_by c.args.certificates.now) c.new-keys.result.items c.add_with_uids.new.keys.items (work_by_requests c.args.role (sym c.looks_at_requests.ensures ∙ c.if-not-looks_at_requests.false))
    c.requires.named c.in_ok-add_with_uids.ensures.adds (none_named (kind_of_work c.args.role) (reverse c.args.writes.now) c.new-keys.result.items c.new-keys.ensures.items)

pub returns-clause-sees : goal.returns-clause-sees
returns-clause-sees c =
    sees_requests c.args.role (shown_by c.args.certificates.now) (left_by c.args.writes.now kinds.CertificateRequest c.args.from) (left_by c.args.writes.now kinds.CertificateRequest c.args.to) c.add_with_uids.new.keys.items
    c.in_ok-owners.owners c.in_ok-owners.ensures (subst (λ (us : List ℕ). AreListedByUid (shown_by c.args.certificates.now) us c.add_with_uids.new.keys.items) c.as_slice.ensures c.in_ok-add_with_uids.ensures.listed)
