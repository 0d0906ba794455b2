-- What is true of each Certificate and each request that it owns, over one write.
use Rattle.std.proofs.Common.{◌≡◌, Bool, true, false, cond, Option, Some, refl, sym, ap, ◌∙◌}
use Rattle.std.specs.BTreeMap.{is_at}
use Rattle.cmc_meta.specs.declared.key.Key.{Key}
use Rattle.cmc_meta.specs.Keys.{key_cmp}
use Rattle.cmc_objects.specs.declared.certificate.Certificate.{Certificate}
use Rattle.cmc_objects.specs.declared.request.CertificateRequest.{CertificateRequest}
use Rattle.cmc_objects.specs.declared.object.Object.{Object}
use Rattle.cmc_objects.specs.declared.object.Object.TheVariants.{Cert, Request}
use Rattle.cmc_model.specs.Objects.{Objects, object_at}
use Rattle.cmc_model.specs.Replies.{put_at}
use Rattle.cmc_model.proofs.Versions.{object_at-put}
use Rattle.cmc_rules.specs.Views.{is_owned}

abbrev pub HavePairs : (Certificate → CertificateRequest → Type 0) → Objects → Type 0
HavePairs Q m = (kc kq : Key) (c : Certificate) (r : CertificateRequest) → object_at m kc ≡ Some (Cert c) → object_at m kq ≡ Some (Request r) → is_owned c r.meta ≡ true → Q c r

put_found : (m : Objects) (key q : Key) (new : Option Object) (b : Bool) → is_at (key_cmp q) key ≡ b → object_at (put_at m key new) q ≡ cond b new (object_at m q)
put_found m key q new b is = object_at-put m key new q ∙ ap (λ (x : Bool). cond x new (object_at m q)) is

-- one write keeps it, where it does so for what it writes
pub over_put : (Q : Certificate → CertificateRequest → Type 0) (m : Objects) (key : Key) (new : Option Object) → HavePairs Q m
    → ((kq : Key) (c : Certificate) (r : CertificateRequest) → new ≡ Some (Cert c) → object_at m kq ≡ Some (Request r) → is_owned c r.meta ≡ true → Q c r)
    → ((kc : Key) (c : Certificate) (r : CertificateRequest) → object_at m kc ≡ Some (Cert c) → new ≡ Some (Request r) → is_owned c r.meta ≡ true → Q c r) → HavePairs Q (put_at m key new)
over_put Q m key new pairs certificate request kc kq c r at there owned = by (is_at (key_cmp kc) key) (is_at (key_cmp kq) key) refl refl where
  by : (a b : Bool) → is_at (key_cmp kc) key ≡ a → is_at (key_cmp kq) key ≡ b → Q c r
  by true true one other =
      let both : Some (Cert c) ≡ Some (Request r) = sym at ∙ put_found m key kc new true one ∙ sym (put_found m key kq new true other) ∙ there in
      absurd (cc both)
  by true false one other = certificate kq c r (sym (put_found m key kc new true one) ∙ at) (sym (put_found m key kq new false other) ∙ there) owned
  by false true one other = request kc c r (sym (put_found m key kc new false one) ∙ at) (sym (put_found m key kq new true other) ∙ there) owned
  by false false one other = pairs kc kq c r (sym (put_found m key kc new false one) ∙ at) (sym (put_found m key kq new false other) ∙ there) owned
