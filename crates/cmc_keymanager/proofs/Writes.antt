-- Each call of the key manager keeps to its rights, and no rule refuses it.
use Rattle.std.proofs.Common.{◌≡◌, ℕ, ℤ, List, Option, Some, true, refl, inl, inr}
use Rattle.cmc_objects.specs.declared.certificate.Certificate.{Certificate}
use Rattle.cmc_objects.specs.declared.secret.Secret.{Secret as SecretObject}
use Rattle.cmc_objects.specs.declared.object.Object.TheVariants.{Cert, Secret}
use Rattle.cmc_objects.specs.declared.role.Role.TheVariants.{KeyManager}
use Rattle.cmc_pass.specs.declared.pass.Views.{Views}
use Rattle.cmc_pass.specs.declared.value.Value.{Value}
use Rattle.cmc_model.specs.Admission.{refusing_rule}
use Rattle.cmc_model.specs.Generated.{named}
use Rattle.cmc_objects.specs.Objects.{numbered}
use Rattle.cmc_model.specs.Stored.{created, with_status}
use Rattle.cmc_model.proofs.Admission.{certificate_status_passes}
use Rattle.cmc_rules.specs.Views.{has_next_label}
use Rattle.cmc_rules.specs.KeyManager.{name_call, drop_call, key_secret, make_call, key_after}
use Rattle.cmc_rules.specs.Owners.{owned_meta}
use Rattle.cmc_rules.specs.SeenObjects.{IsAmong, OnSeen}
use Rattle.cmc_rules.specs.Sound.{IsOrdinary, IsWriteAfterValue, IsWithin}
use Rattle.cmc_rules.proofs.Sights.{seen_certificate, seen_next}

-- the name of the next key
pub naming : (seen : Views) (now : ℤ) (name : Option (List ℕ)) (c : Certificate) → seen.certificate ≡ Some c → IsWithin KeyManager (key_after seen now) seen now (name_call name c)
unfolding name_call OnSeen numbered with_status
naming seen now name c sees = record {
  old = Cert c;
  sees = seen_certificate seen c sees;
  key = refl;
  version = refl;
  changes = λ next. record {
    rights = inr (inr (refl, refl, record { rest = refl }));
    dated = λ timed dated. record { conditions = dated.conditions; last_failure = dated.last_failure; not_before = dated.not_before; not_after = dated.not_after; renewal = dated.renewal };
    revision = refl;
    no_secret = λ written issuing is. absurd (cc issuing);
    no_approval = λ o n approver b a x y. absurd (cc approver);
    no_request = λ made before after. absurd (cc before);
  };
  passes = λ taken. certificate_status_passes (Some (Cert c)) _ taken;
}

-- the deletion of a key
pub dropping : (seen : Views) (now : ℤ) (k : SecretObject) → IsAmong k seen.next → has_next_label k.meta ≡ true → IsWithin KeyManager (key_after seen now) seen now (drop_call k)
unfolding drop_call OnSeen
dropping seen now k among label = record {
  old = Secret k;
  sees = seen_next seen k among;
  key = refl;
  version = refl;
  changes = λ next. record {
    rights = inr (inl label);
    dated = λ timed dated. tt;
    revision = tt;
    no_secret = λ written issuing is. absurd (cc issuing);
    no_approval = λ o n approver b a x y. absurd (cc approver);
    no_request = λ made before after. absurd (cc before);
  };
  passes = λ taken. refl;
}

-- the create of a key, of the target's or of one that was made
pub making : (seen : Views) (now : ℤ) (c : Certificate) (file : List ℕ) → OnSeen (IsOrdinary KeyManager now) seen (make_call c file)
unfolding make_call key_secret owned_meta created named refusing_rule OnSeen
making seen now c file = λ name. record {
  makes = λ next at. record {
    rights = inl refl;
    dated = λ timed dated. tt;
    revision = refl;
    no_secret = λ written issuing is. absurd (cc issuing);
    no_approval = λ o n approver b a x y. absurd (cc approver);
    no_request = λ made before after. absurd (cc after);
  };
  passes = λ taken. refl;
}

pub making_given : (seen : Views) (now : ℤ) (value : Value) (c : Certificate) (file : List ℕ) → OnSeen (IsWriteAfterValue KeyManager seen now value) seen (make_call c file)
unfolding make_call key_secret owned_meta created named refusing_rule OnSeen
making_given seen now value c file = λ name. record {
  makes = λ next at. record {
    rights = inl refl;
    dated = λ timed dated. tt;
    revision = refl;
    no_secret = λ written issuing is. absurd (cc issuing);
    approval = λ o n approver b a x y. absurd (cc approver);
    made = λ made before after. absurd (cc after);
  };
  passes = λ taken. refl;
}
