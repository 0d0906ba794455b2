-- On keys of another kind than its work a role has nothing to do, and so it rests there.
use Rattle.std.proofs.Common.{◌≡◌, List, Option, None, Bool, true, false, cond, refl, ap, ◌∙◌, option_and_then}
use Rattle.std.specs.Prelude.{if◌then◌else◌, ◌||◌}
use Rattle.std.proofs.lemmas.Bool.{or_parts}
use Rattle.cmc_meta.specs.declared.key.Key.{Key}
use Rattle.cmc_meta.specs.declared.key.Kind.{Kind}
use Rattle.cmc_meta.specs.declared.key.Kind.TheVariants as kinds
use Rattle.cmc_objects.specs.declared.certificate.Certificate.{Certificate}
use Rattle.cmc_objects.specs.declared.request.CertificateRequest.{CertificateRequest}
use Rattle.cmc_objects.specs.declared.object.Object.{Object}
use Rattle.cmc_objects.specs.declared.role.Role.{Role}
use Rattle.cmc_objects.specs.declared.entry.Entry.{Entry}
use Rattle.cmc_objects.specs.Informers.{works_on_requests, kind_of_work}
use Rattle.cmc_model.specs.declared.write.Write.{Write}
use Rattle.cmc_model.specs.Objects.{object_at}
use Rattle.cmc_model.specs.Histories.{Setting, moment}
use Rattle.cmc_model.specs.Writes.{writes, contents, oldest, kind_eq}
use Rattle.cmc_rules.specs.Positions.{position, cache}
use Rattle.cmc_rules.specs.Views.{certificate_in, request_in, certificate_at, request_at, views_of, views_in, views}
use Rattle.cmc_rules.specs.Desks.{desk}
use Rattle.cmc_rules.specs.Rest.{IsIdle}
use Rattle.cmc_rules.specs.Scripts.{held, has_held}
use Rattle.cmc_moves.proofs.Sounds.{each_sound}
use Rattle.cmc_kernel.proofs.OneKind.{object_at-of_kind}

-- ---- what is seen of such a key

not_cached : {A : Type 0} (s : Setting) (h : List Entry) (role : Role) (kind : Kind) (f : Object → Option A) (key : Key) → kind_eq key.kind kind ≡ false
    → option_and_then f (object_at (cache s h role kind) key) ≡ None
not_cached s h role kind f key other =
    let ws : List Write = oldest (position h role kind) (writes s h) in
    ap (option_and_then f) (object_at-of_kind kind ws key ∙ ap (λ (b : Bool). cond b (object_at (contents ws) key) None) other)

unseen_by : (requests : Bool) (key : Key) (c : Option Certificate) (r : Option CertificateRequest) → kind_eq key.kind (if requests then kinds.CertificateRequest else kinds.Certificate) ≡ false
    → (kind_eq key.kind kinds.Certificate ≡ false → c ≡ None) → (kind_eq key.kind kinds.CertificateRequest ≡ false → r ≡ None)
    → ((if requests then None else c) ≡ None) × ((if requests then r else None) ≡ None)
unseen_by true key c r other certificate request = (refl, request other)
unseen_by false key c r other certificate request = (certificate other, refl)

-- of a key of another kind than its work a role sees or_parts
unseen : (s : Setting) (h : List Entry) (role : Role) (key : Key) → kind_eq key.kind (kind_of_work role) ≡ false
    → ((views s h role key).certificate ≡ None) × ((views s h role key).request ≡ None)
unfolding views_in views_of
unseen s h role key other =
    unseen_by (works_on_requests role) key (certificate_at (cache s h role kinds.Certificate) key) (request_at (cache s h role kinds.CertificateRequest) key) other
    (not_cached s h role kinds.Certificate certificate_in key) (not_cached s h role kinds.CertificateRequest request_in key)

-- on such a key it has nothing to do
pub idle_elsewhere : (s : Setting) (h : List Entry) (role : Role) (key : Key) → kind_eq key.kind (kind_of_work role) ≡ false → IsIdle s h role (views s h role key)
idle_elsewhere s h role key is =
    let none = unseen s h role key is in
    (each_sound role).absent (views s h role key) (moment s h) (desk s h role (views s h role key)) (record { certificate = none.0; request = none.1 })

-- ---- so the role rests there

pub none_held : (s : Setting) (h : List Entry) (role : Role) → has_held s h role ≡ false → (kind : Kind) → held s h role kind ≡ false
none_held s h role none kinds.Certificate = (or_parts (held s h role kinds.Certificate) (held s h role kinds.CertificateRequest || held s h role kinds.Secret) none).0
none_held s h role none kinds.CertificateRequest =
    (or_parts (held s h role kinds.CertificateRequest) (held s h role kinds.Secret) (or_parts (held s h role kinds.Certificate) (held s h role kinds.CertificateRequest || held s h role kinds.Secret) none).1).0
none_held s h role none kinds.Secret =
    (or_parts (held s h role kinds.CertificateRequest) (held s h role kinds.Secret) (or_parts (held s h role kinds.Certificate) (held s h role kinds.CertificateRequest || held s h role kinds.Secret) none).1).1
