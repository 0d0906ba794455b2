-- What a scenario may say of its approver, of keys and issuers, and in a step.
use Rattle.std.specs.Prelude.{ℕ, Bool, true, false, ◌&&◌, ◌||◌, ◌==◌, nat_le, codes, List, length, Option, Some, None}
use Rattle.std.specs.List.{list_all}
use Rattle.std.specs.Str.{bytes_eq}
use Rattle.cmc_meta.specs.declared.key.Key.{Key}
use Rattle.cmc_meta.specs.declared.key.Kind.{Kind}
use Rattle.cmc_meta.specs.declared.key.Kind.TheVariants.{Certificate, CertificateRequest, Secret}
use Rattle.cmc_policy_rules.specs.declared.policy.Policy.{Policy}
use Rattle.cmc_objects.specs.declared.entry.Step.{Step}
use Rattle.cmc_objects.specs.declared.entry.Step.TheVariants as steps
use Rattle.cmc_objects.specs.declared.orders.Rules.{Rules}
use Rattle.cmc_objects.specs.declared.rows.Rows.{Rows}
use Rattle.cmc_objects.specs.declared.rows.KeyRow.{KeyRow}
use Rattle.cmc_objects.specs.declared.rows.KeyRow.TheVariants as key_rows
use Rattle.cmc_objects.specs.declared.rows.SignRow.{SignRow}
use Rattle.cmc_objects.specs.declared.rows.SignRow.TheVariants as sign_rows
use Rattle.cmc_objects.specs.Requests.{is_duration_form, is_row_form}
use Rattle.cmc_setup.specs.ObjectForms.{is_object_form}

-- ---- the approver

-- 1 to 253 bytes
abbrev pub is_pattern_form : List ℕ → Bool
is_pattern_form pattern = nat_le 1 (length pattern) && nat_le (length pattern) 253

-- the pattern for all addresses
abbrev pub is_any_address : List ℕ → Bool
is_any_address pattern = bytes_eq pattern (codes "*")

-- the four or sixteen octets of an address, or the pattern for all
abbrev pub is_address_form : List ℕ → Bool
is_address_form pattern = (length pattern == 4) || ((length pattern == 16) || is_any_address pattern)

-- at most 100, each of the form
abbrev pub is_short_list : (List ℕ → Bool) → List (List ℕ) → Bool
is_short_list is_form patterns = nat_le (length patterns) 100 && list_all is_form patterns

abbrev pub is_short_option : (List ℕ → Bool) → Option (List (List ℕ)) → Bool
is_short_option is_form None = true
is_short_option is_form (Some patterns) = is_short_list is_form patterns

-- the names that a policy lets pass
abbrev pub are_names_formed : Policy → Bool
are_names_formed policy =
    is_short_option is_pattern_form policy.common
    && (is_short_option is_pattern_form policy.dns
    && (is_short_option is_address_form policy.ips
    && (is_short_option is_pattern_form policy.uris
    && is_short_option is_pattern_form policy.emails)))

abbrev pub is_policy_form : Policy → Bool
is_policy_form policy =
    are_names_formed policy
    && (is_short_list is_pattern_form policy.issuers
    && (is_short_list is_pattern_form policy.usages
    && (is_duration_form policy.min
    && is_duration_form policy.max)))

-- at most 100 policies
abbrev pub is_approver_form : Rules → Bool
is_approver_form rules = nat_le (length rules.policies) 100 && list_all is_policy_form rules.policies

-- ---- keys and issuers

-- the key of a Certificate
abbrev pub is_certificate_kind : Kind → Bool
is_certificate_kind Certificate = true
is_certificate_kind CertificateRequest = false
is_certificate_kind Secret = false

abbrev pub is_certificate : Key → Bool
is_certificate key = is_certificate_kind key.kind

-- a row says which key it is, or that it may be any
abbrev pub is_key_row_form : KeyRow → Bool
is_key_row_form key_rows.Default = false
is_key_row_form (key_rows.Synthetic number) = true
is_key_row_form (key_rows.Der bytes) = true
is_key_row_form key_rows.Free = true

abbrev pub is_rows_form : Rows → Bool
is_rows_form rows = list_all is_key_row_form rows.keys && list_all is_row_form rows.replies

abbrev pub is_entry_form : Key × Rows → Bool
is_entry_form entry = is_certificate entry.0 && is_rows_form entry.1

-- rows of Certificates
abbrev pub is_material_form : List (Key × Rows) → Bool
is_material_form material = list_all is_entry_form material

-- ---- steps

-- the row says which answer it is
abbrev pub is_said : SignRow → Bool
is_said (sign_rows.Issue seconds before serial key ca) = true
is_said sign_rows.Pending = true
is_said (sign_rows.Fail message) = true
is_said (sign_rows.Raw der) = true
is_said sign_rows.Free = false

-- an applied object is one that reading gives; approvals, denials, answers and renewals are those of Certificates, and an answer
-- is one that a row can say
abbrev pub is_step_form : Step → Bool
is_step_form (steps.Apply object version) = is_object_form object
is_step_form (steps.Approve certificate revision) = is_certificate certificate
is_step_form (steps.Deny certificate revision) = is_certificate certificate
is_step_form (steps.Answer certificate revision row) = is_certificate certificate && (is_said row && is_row_form row)
is_step_form (steps.Renew certificate) = is_certificate certificate
is_step_form other = true

-- ---- rows that leave nothing open

-- the row says which key it is
abbrev pub is_bound_key : KeyRow → Bool
is_bound_key key_rows.Free = false
is_bound_key other = true

-- each row of the Certificate says which key, or which answer it is
abbrev pub is_bound_entry : Key × Rows → Bool
is_bound_entry entry = list_all is_bound_key entry.1.keys && list_all is_said entry.1.replies

abbrev pub is_bound_step : Step → Bool
is_bound_step (steps.Answer certificate revision row) = is_said row
is_bound_step other = true
