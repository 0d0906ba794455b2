-- The names of roles and kinds, as steps and the member `roles` have them.
use Rattle.std.specs.Prelude.{ℕ, List, [], ◌∷◌, ◌+◌, decimal, codes, if◌then◌else◌, Ok, Err, Some, None}
use Rattle.std.specs.declared.option.Option.{Option}
use Rattle.std.specs.Str.{bytes_eq}
use Rattle.serde_json.specs.Data.{Data, null, boolean, number, string, array, object, Items, no_items, item}
use Rattle.cmc_meta.specs.declared.key.Kind.{Kind}
use Rattle.cmc_objects.specs.declared.role.Role.{Role}
use Rattle.cmc_objects.specs.declared.role.Role.TheVariants.{Trigger, KeyManager, RequestManager, Approver, Issuer, Issuing, Readiness, Revision}
use Rattle.cmc_print.specs.Words.{role_name}
use Rattle.cmc_cursor.specs.Members.{Read, ◌>>=◌, under}
use Rattle.cmc_cursor.specs.Readers.{text_at}
use Rattle.cmc_setup.specs.Setups.{with_role}
use Rattle.cmc_material.specs.Keys.{kind_in}
use Rattle.cmc_scenario_print.specs.Defaults.{all_roles}

-- The role of that name.
abbrev pub role_in : List ℕ → Read Role
role_in t = if bytes_eq t (role_name Trigger) then Ok Trigger
    else (if bytes_eq t (role_name KeyManager) then Ok KeyManager
    else (if bytes_eq t (role_name RequestManager) then Ok RequestManager
    else (if bytes_eq t (role_name Approver) then Ok Approver
    else (if bytes_eq t (role_name Issuer) then Ok Issuer
    else (if bytes_eq t (role_name Issuing) then Ok Issuing
    else (if bytes_eq t (role_name Readiness) then Ok Readiness
    else (if bytes_eq t (role_name Revision) then Ok Revision else Err [])))))))

abbrev pub role_at : Data → Read Role
role_at d = text_at d >>= role_in

abbrev pub kind_at : Data → Read Kind
kind_at d = text_at d >>= kind_in

-- The roles, and those of a list whose places count from n. One that is named again counts once.
abbrev pub roles_with : ℕ → List Role → Items → Read (List Role)
roles_with n roles no_items = Ok roles
roles_with n roles (item d ds) = under (decimal n) (role_at d) >>= (λ role. roles_with (n + 1) (with_role roles role) ds)

abbrev pub named_roles_at : Data → Read (List Role)
named_roles_at (array ds) = roles_with 0 [] ds
named_roles_at null = Err []
named_roles_at (boolean b) = Err []
named_roles_at (number n) = Err []
named_roles_at (string s) = Err []
named_roles_at (object ms) = Err []

-- The roles that run from the beginning on: all, where none are named.
abbrev pub roles_at : Option Data → Read (List Role)
roles_at None = Ok all_roles
roles_at (Some d) = under (codes "roles") (named_roles_at d)
