use Rattle.std.proofs.Common.{List, subst, sym, ◌∙◌, reverse}
use Rattle.cmc_meta.specs.declared.key.Key.{Key}
use Rattle.cmc_meta.specs.declared.key.Kind.TheVariants as kinds
use Rattle.cmc_objects.specs.Informers.{kind_of_work}
use Rattle.cmc_caches.specs.Affected.{AreListedBySecret, left_by}
use Rattle.cmc_caches.proofs.Naming.{named_with, work_by_target}
use Rattle.cmc_caches.proofs.Seeing.{sees_target}
use Rattle.cmc_caches.specs.Board.{shown_by}
use Rattle.cmc_caches.proofs.affected.add_by_targets.Goals as goal

pub returns-clause-sees : goal.returns-clause-sees
returns-clause-sees c =
    sees_target c.args.role (shown_by c.args.certificates.now) (left_by c.args.writes.now kinds.Secret c.args.from) (left_by c.args.writes.now kinds.Secret c.args.to) c.add_naming_all.new.keys.items
    c.in_ok-written.written.items c.in_ok-written.ensures.same (subst (λ (ks : List Key). AreListedBySecret (shown_by c.args.certificates.now) ks c.add_naming_all.new.keys.items) c.deref.ensures.value c.in_ok-add_naming_all.ensures.listed)

pub returns-clause-work : goal.returns-clause-work
returns-clause-work c =
    named_with (kind_of_work c.args.role) (reverse c.args.writes.now) (shown_by c.args.certificates.now) c.args.keys.now.items c.add_naming_all.new.keys.items (work_by_target c.args.role (sym c.looks_at_secret.ensures ∙ c.if-not-looks_at_secret.false))
    c.requires.named c.in_ok-add_naming_all.ensures.adds
