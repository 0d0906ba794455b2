-- The call that a line of a printed history shows.
use Rattle.std.specs.Prelude.{◌≡◌, ℕ, ◌==◌, true, false, List, codes, length, Bool, Option, Some, None, option_and_then, option_map, if◌then◌else◌}
use Rattle.std.specs.List.{position_or_len, before_first, after_first}
use Rattle.std.specs.Str.{bytes_eq}
use Rattle.cmc_meta.specs.Names.{is_subdomain}
use Rattle.cmc_meta.specs.declared.key.Key.{Key}
use Rattle.cmc_meta.specs.declared.key.Kind.{Kind}
use Rattle.cmc_meta.specs.declared.key.Kind.TheVariants as kinds
use Rattle.cmc_objects.specs.declared.object.Object.{Object}
use Rattle.cmc_objects.specs.declared.call.Call.{Call}
use Rattle.cmc_objects.specs.declared.call.Call.TheVariants.{Create, Update, UpdateStatus, Delete, Get}
use Rattle.cmc_report.specs.Trees.{call_key}
use Rattle.cmc_lines.specs.declared.line.CallName.{CallName}
use Rattle.cmc_lines.specs.declared.line.CallName.TheVariants as names
use Rattle.cmc_lines.specs.Shown.{shown_given, shown_name, shown_object, shown_version}

-- the call with its object as it is shown
abbrev pub bare_call : Call → Call
bare_call (Create object generate) = Create (shown_object object) generate
bare_call (Update object named) = Update (shown_object object) named
bare_call (UpdateStatus object named) = UpdateStatus (shown_object object) named
bare_call (Delete key named) = Delete key named
bare_call (Get key) = Get key

-- ---- keys

abbrev pub is_slash : ℕ → Bool
is_slash c = c == 47

-- the parts before and after the first slash, where there is one
abbrev pub split : List ℕ → Option (List ℕ × List ℕ)
split t = if position_or_len is_slash t == length t then None else Some (before_first is_slash t, after_first is_slash t)

abbrev pub name_read : List ℕ → Option (List ℕ)
name_read t = if is_subdomain t then Some t else None

abbrev pub kind_read : List ℕ → Option Kind
kind_read t = if bytes_eq t (codes "Certificate") then Some kinds.Certificate
    else (if bytes_eq t (codes "CertificateRequest") then Some kinds.CertificateRequest
    else (if bytes_eq t (codes "Secret") then Some kinds.Secret else None))

abbrev pub key_of_names : Kind → Option (List ℕ) → Option (List ℕ) → Option Key
key_of_names kind (Some namespace) (Some name) = Some (record { kind = kind; namespace = namespace; name = name })
key_of_names kind namespace name = None

abbrev pub key_under : Kind → List ℕ → Option Key
key_under kind t = option_and_then (λ p. key_of_names kind (name_read p.0) (name_read p.1)) (split t)

-- the key that is written `Kind/namespace/name`
abbrev pub key_of_printed : List ℕ → Option Key
key_of_printed t = option_and_then (λ p. option_and_then (λ kind. key_under kind p.1) (kind_read p.0)) (split t)

-- ---- calls

-- the call of these parts, where they are those of one
abbrev pub call_of_parts : CallName → List ℕ → Option Object → Option ℕ → Option Call
call_of_parts names.Create key (Some object) None = Some (Create object false)
call_of_parts names.Generate key (Some object) None = Some (Create object true)
call_of_parts names.Update key (Some object) (Some version) = Some (Update object version)
call_of_parts names.UpdateStatus key (Some object) (Some version) = Some (UpdateStatus object version)
call_of_parts names.Delete key None version = option_map (λ k. Delete k version) (key_of_printed key)
call_of_parts names.Get key None None = option_map (λ k. Get k) (key_of_printed key)
call_of_parts name key object version = None

-- it has nothing of what the store owns, and this is its key's text
abbrev pub IsShown : List ℕ → Call → Type 0
IsShown key call = (bare_call call ≡ call) × (call_key call ≡ key)

-- of this call, if it is one, this is what is shown
abbrev pub IsShownCall : List ℕ → Option Call → Option Call → Type 0
IsShownCall key None None = Unit {0}
IsShownCall key None (Some call) = ⊥
IsShownCall key (Some call) None = IsShown key call → ⊥
IsShownCall key (Some call) (Some shown) = (shown ≡ call) × IsShown key call

-- what is read of the parts of a line is the call that they show, and where there is none, they show none
abbrev pub IsRead : CallName → List ℕ → Option Object → Option ℕ → Option Call → Type 0
IsRead name key object version read = IsShownCall key (call_of_parts name key object version) read

-- what no line says otherwise: the key that a call deletes or gets has a namespace and a name
abbrev pub IsOfNames : Key → Type 0
IsOfNames key = (is_subdomain key.namespace ≡ true) × (is_subdomain key.name ≡ true)

abbrev pub HasCallNames : Call → Type 0
HasCallNames (Create object generate) = Unit {0}
HasCallNames (Update object named) = Unit {0}
HasCallNames (UpdateStatus object named) = Unit {0}
HasCallNames (Delete key named) = IsOfNames key
HasCallNames (Get key) = IsOfNames key

-- the parts of a line are those that the call shows
pub record Shows (call : Call) (name : CallName) (key : List ℕ) (object : Option Object) (version : Option ℕ) : Type 0 where
  pub name_is : shown_name call ≡ name
  pub key_is : call_key call ≡ key
  pub object_is : shown_given call ≡ object
  pub version_is : shown_version call ≡ version
