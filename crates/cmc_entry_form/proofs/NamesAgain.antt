-- A key is read again of its text.
use Rattle.std.proofs.Common.{◌≡◌, true, Ok, refl}
use Rattle.std.specs.Prelude.{not}
use Rattle.std.specs.List.{list_all}
use Rattle.serde_json.specs.Data.{string}
use Rattle.cmc_meta.specs.declared.key.Key.{Key}
use Rattle.cmc_meta.specs.declared.key.Kind.{Kind}
use Rattle.cmc_meta.specs.declared.key.Kind.TheVariants.{Certificate, CertificateRequest, Secret}
use Rattle.cmc_print.specs.Words.{kind_name, name_text, key_text}
use Rattle.cmc_material.specs.Keys.{is_slash, kind_in, key_of_text, key_at}
use Rattle.cmc_summary_form.specs.SummaryForm.{HasNames, IsKeyOfKind}
use Rattle.cmc_summary_form.proofs.NamesAgain.{split_is, key_again as text_again}
use Rattle.cmc_entry_form.specs.LineForm.{named_at}

-- a key of this kind, written without it
pub named_again : (kind : Kind) (key : Key) → IsKeyOfKind kind key → named_at kind (string (name_text key)) ≡ Ok key
named_again kind key is = text_again kind key is

kind_others : (kind : Kind) → list_all (λ c. not (is_slash c)) (kind_name kind) ≡ true
kind_others Certificate = refl
kind_others CertificateRequest = refl
kind_others Secret = refl

kind_again : (kind : Kind) → kind_in (kind_name kind) ≡ Ok kind
kind_again Certificate = refl
kind_again CertificateRequest = refl
kind_again Secret = refl

-- a key, written with its kind
pub key_again : (key : Key) → HasNames key → key_at (string (key_text key)) ≡ Ok key
unfolding key_of_text
key_again key is = rw (split_is (kind_name key.kind) (name_text key) (kind_others key.kind), kind_again key.kind) (text_again key.kind key (refl, is))
