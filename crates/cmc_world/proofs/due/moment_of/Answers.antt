use Rattle.std.proofs.Common.{◌≡◌, ℤ, Option, Some, sym, subst, rules, w64}
use Rattle.std.proofs.lemmas.Int.{to_z-of_z}
use Rattle.cmc_objects.specs.declared.certificate.CertStatus.{CertStatus}
use Rattle.cmc_policies.specs.declared.renewal.Renew.{Renew}
use Rattle.cmc_match.specs.Facts.{pair_at}
use Rattle.cmc_rules.specs.Sound.{IsEndOfBackoff, IsRenewal, IsTriggerMoment}
use Rattle.cmc_rules.specs.Trigger.{frame_of}
use Rattle.cmc_world.specs.DueMoments.{IsFirstAfter}
use Rattle.cmc_world.proofs.Undue.{sooner_first}
use Rattle.cmc_world.proofs.due.moment_of.Goals as goal

pub returns : goal.returns
returns c =
    let now = c.args.now in
    let certificate = c.args.certificate.now in
    let secret = c.args.secret.now in
    let same = to_z-of_z w64 now (search rules) in
    let one : IsFirstAfter now (IsEndOfBackoff certificate.status.last_failure certificate.status) c.end_of_backoff.result =
    subst (λ (status : CertStatus). IsFirstAfter now (IsEndOfBackoff status.last_failure status) c.end_of_backoff.result) c.deref-3.ensures (rw same at c.end_of_backoff.ensures) in
    let renew : c.by-renew.result ≡ (frame_of now certificate).renew = rw (c.deref.ensures, c.deref-2.ensures) at c.by-renew.ensures in
    let other : IsFirstAfter now (IsRenewal (frame_of now certificate).renew (pair_at secret)) c.renewal.result =
    subst (λ (renew : Renew). IsFirstAfter now (IsRenewal renew (pair_at secret)) c.renewal.result) renew (rw same at c.renewal.ensures) in
    subst (λ (o : Option ℤ). IsFirstAfter now (IsTriggerMoment (Some certificate) secret) o) (sym c.sooner.ensures)
    (sooner_first now (IsEndOfBackoff certificate.status.last_failure certificate.status) (IsRenewal (frame_of now certificate).renew (pair_at secret)) c.end_of_backoff.result c.renewal.result one other)
