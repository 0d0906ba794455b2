-- A good issue of the whole history is one of the history up to its entry, and rights say that what is left is a Secret.
use Rattle.std.proofs.Common.{◌≡◌, ◌⊎◌, ℕ, ◌+◌, List, [], ◌∷◌, Option, Some, None, Bool, true, false, MatchBool, refl, sym, ap, subst, ◌∙◌, inl, inr}
use Rattle.std.specs.Prelude.{if◌then◌else◌}
use Rattle.cmc_meta.specs.declared.key.Key.{Key}
use Rattle.cmc_meta.specs.declared.key.Kind.TheVariants as kinds
use Rattle.cmc_objects.specs.declared.object.Object.{Object}
use Rattle.cmc_objects.specs.declared.object.Object.TheVariants.{Cert, Request, Secret}
use Rattle.cmc_objects.specs.declared.request.CertificateRequest.{CertificateRequest}
use Rattle.cmc_objects.specs.declared.secret.Secret.{Secret as SecretObject}
use Rattle.cmc_objects.specs.declared.role.Role.TheVariants as roles
use Rattle.cmc_objects.specs.declared.call.Call.{Call}
use Rattle.cmc_objects.specs.declared.orders.Order.{Order}
use Rattle.cmc_objects.specs.declared.orders.Order.TheVariants as orders
use Rattle.cmc_objects.specs.declared.entry.Entry.{Entry}
use Rattle.cmc_objects.specs.declared.entry.Entry.TheVariants.{Call as Called}
use Rattle.cmc_objects.specs.Objects.{key_of}
use Rattle.cmc_match.specs.Marks.{is_temporary}
use Rattle.cmc_model.specs.declared.write.Write.{Write}
use Rattle.cmc_model.specs.Replies.{is_accepted, key_of_call, settled}
use Rattle.cmc_model.specs.Histories.{Setting, moment, state}
use Rattle.cmc_model.specs.Versions.{HasVersion, IsVersion}
use Rattle.cmc_model.specs.Writes.{writes, write_of}
use Rattle.cmc_rules.specs.declared.progress.OpenPass.{OpenPass}
use Rattle.cmc_rules.specs.Rights.{MayChange}
use Rattle.cmc_rules.specs.Safety.{IsNeverDenied, IsGoodIssue, IsTemporaryCertificate, IsOfIssuer, AsksWell, WritesWell}
use Rattle.cmc_audit_clauses.specs.Clauses.{IsIssue}

-- ---- what is denied in no version is denied in none up to here

-- each version of the part is one of the whole
abbrev pub Earlier : Setting → List Entry → List Entry → Type 0
Earlier s whole part = (key : Key) (o : Object) → HasVersion s part key o → HasVersion s whole key o

undenied : (s : Setting) (whole part : List Entry) (r : CertificateRequest) → Earlier s whole part → IsNeverDenied s whole r → IsNeverDenied s part r
undenied s whole part r earlier never key o has same = never key o (earlier key (Request o) has) same

version_kept : (b : Bool) (w : Write) (ws : List Write) (key : Key) (o : Object) → IsVersion key o ws → IsVersion key o (if b then w ∷ ws else ws)
version_kept true w ws key o has = inr has
version_kept false w ws key o has = has

pub below : (s : Setting) (whole : List Entry) (e : Entry) (h : List Entry) → Earlier s whole (e ∷ h) → Earlier s whole h
below s whole (Called who call reply) h earlier key o has = earlier key o (version_kept (is_accepted reply) (write_of (moment s h) (state s h) (settled call reply)) (writes s h) key o has)
below s whole other h earlier key o has = earlier key o has

-- ---- a good issue, read up to its entry

of_issuer : (b : Bool) (A B C : Type 0) → (B → C) → MatchBool b A B → MatchBool b A C
of_issuer true A B C f is = is
of_issuer false A B C f is = f is

issue_here : (s : Setting) (whole part h : List Entry) (pass : ℕ) (p : OpenPass) (written : SecretObject) → Earlier s whole part → IsGoodIssue s whole h pass p written → IsGoodIssue s part h pass p written
issue_here s whole part h pass p written earlier g = record {
  certificate = g.certificate;
  sees = g.sees;
  read = g.read;
  request = g.request;
  next = g.next;
  owned = g.owned;
  matches = g.matches;
  key = g.key;
  named = g.named;
  among = g.among;
  labelled = g.labelled;
  key_owned = g.key_owned;
  file = g.file;
  is_key = g.is_key;
  namespace = g.namespace;
  name = g.name;
  unlabelled = g.unlabelled;
  has_key = g.has_key;
  fields = g.fields;
  pair = g.pair;
  requested = g.requested;
  signed = of_issuer (is_temporary written) (IsTemporaryCertificate g.certificate g.request g.file p.since written) (IsOfIssuer s whole g.request written) (IsOfIssuer s part g.request written)
      (λ i. record { approved = i.approved; never_denied = undenied s whole part g.request earlier i.never_denied; issued = i.issued; certificate = i.certificate }) g.signed;
}

-- ---- issuing leaves a Secret where it writes under the key of one

not_both : (key : Key) (o : Object) → key_of o ≡ key → key.kind ≡ kinds.Secret → (key_of o).kind ≡ kinds.Secret
not_both key o same kind = ap (λ (k : Key). k.kind) same ∙ kind

secret_left : (key : Key) (before after : Option Object) → ((o : Object) → before ≡ Some o → key_of o ≡ key) → key.kind ≡ kinds.Secret → MayChange roles.Issuing before after
    → (written : SecretObject) × (after ≡ Some (Secret written))
secret_left key None None keyed kind (inl is) = absurd is
secret_left key None None keyed kind (inr (inl is)) = absurd is
secret_left key None None keyed kind (inr (inr is)) = absurd is
secret_left key None (Some (Secret k)) keyed kind may = (k, refl)
secret_left key None (Some (Cert c)) keyed kind (inl is) = absurd is
secret_left key None (Some (Cert c)) keyed kind (inr (inl is)) = absurd is
secret_left key None (Some (Cert c)) keyed kind (inr (inr is)) = absurd is
secret_left key None (Some (Request r)) keyed kind (inl is) = absurd is
secret_left key None (Some (Request r)) keyed kind (inr (inl is)) = absurd is
secret_left key None (Some (Request r)) keyed kind (inr (inr is)) = absurd is
secret_left key (Some old) None keyed kind (inl is) = absurd is
secret_left key (Some old) None keyed kind (inr (inl is)) = absurd is
secret_left key (Some old) None keyed kind (inr (inr is)) = absurd is
secret_left key (Some old) (Some (Secret k)) keyed kind may = (k, refl)
secret_left key (Some old) (Some (Cert c)) keyed kind (inl is) = absurd is
secret_left key (Some old) (Some (Cert c)) keyed kind (inr (inl is)) = absurd is.1
secret_left key (Some (Cert old)) (Some (Cert c)) keyed kind (inr (inr is)) = absurd (let k = not_both key (Cert old) (keyed (Cert old) refl) kind in cc k)
secret_left key (Some (Request old)) (Some (Cert c)) keyed kind (inr (inr is)) = absurd is
secret_left key (Some (Secret old)) (Some (Cert c)) keyed kind (inr (inr is)) = absurd is
secret_left key (Some old) (Some (Request r)) keyed kind (inl is) = absurd is
secret_left key (Some old) (Some (Request r)) keyed kind (inr (inl is)) = absurd is.1
secret_left key (Some (Cert old)) (Some (Request r)) keyed kind (inr (inr is)) = absurd is
secret_left key (Some (Request old)) (Some (Request r)) keyed kind (inr (inr is)) = absurd is
secret_left key (Some (Secret old)) (Some (Request r)) keyed kind (inr (inr is)) = absurd is

pub good_issue : (s : Setting) (whole part h : List Entry) (pass : ℕ) (p : OpenPass) (call : Call) (before after : Option Object) → Earlier s whole part
    → ((o : Object) → before ≡ Some o → key_of o ≡ key_of_call call) → WritesWell s whole h pass p after → MayChange p.role before after → IsIssue s part h pass p call before after
good_issue s whole part h pass p call before after earlier keyed well may issuing kind =
    let left = secret_left (key_of_call call) before after keyed kind (subst (λ r. MayChange r before after) issuing may) in
    (left.0, left.1, issue_here s whole part h pass p left.0 earlier (well left.0 issuing left.1))

-- ---- a good question, read up to its entry

pub good_question : (s : Setting) (whole part : List Entry) (x : Option OpenPass) (order : Order) → Earlier s whole part → AsksWell s whole x order → AsksWell s part x order
good_question s whole part None order earlier is = absurd is
good_question s whole part (Some p) (orders.Sign o) earlier is = record { sees = is.sees; approved = is.approved; never_denied = undenied s whole part o.request earlier is.never_denied }
good_question s whole part (Some p) (orders.Key o) earlier is = tt
good_question s whole part (Some p) (orders.Csr o) earlier is = tt
good_question s whole part (Some p) (orders.Judge o) earlier is = tt
