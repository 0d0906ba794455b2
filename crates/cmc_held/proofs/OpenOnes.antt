-- The open passes of a role, on a key, and of all roles, by the entries of a map.
use Rattle.std.proofs.Common.{◌≡◌, ℕ, suc, List, [], ◌∷◌, length, Option, Some, None, Bool, true, false, cond, refl, sym, ap, ◌∙◌}
use Rattle.std.proofs.lemmas.Map.Entries.{lookup-filter-values, option_filter, btree_map_get_place}
use Rattle.std.proofs.lemmas.Map.Keys.{IsDistinct-from_sorted}
use Rattle.std.specs.BTreeMap.{BTreeMap, IsOrdered, is_at}
use Rattle.std.specs.Cmp.{nat_cmp_total, eq_by_cmp_equiv}
use Rattle.std.specs.List.{filter, list_any}
use Rattle.std.specs.List.Sorted.{IsStrictlySortedBy}
use Rattle.std.specs.Map.{keys_of, lookup, values_of}
use Rattle.std.specs.Ordering.{nat_cmp}
use Rattle.std.specs.Prelude.{if◌then◌else◌, slice_get, ◌||◌, ◌↔◌, IsTrue}
use Rattle.std.proofs.lemmas.Bool.{or_parts}
use Rattle.cmc_meta.specs.declared.key.Key.{Key}
use Rattle.cmc_objects.specs.declared.role.Role.{Role}
use Rattle.cmc_rules.specs.declared.progress.OpenPass.{OpenPass}
use Rattle.cmc_model.specs.Histories.{role_eq}
use Rattle.cmc_rules.specs.Passes.{unless_of, is_pass_of}
use Rattle.cmc_held.specs.Open.{pass_at, IsWorkedOn}

abbrev pub is_of_other : Role → OpenPass → Bool
is_of_other role p = if role_eq role p.role then false else true

filtered : (b : Bool) (p : OpenPass) → cond (if b then false else true) (Some p) None ≡ (if b then None else Some p)
filtered true p = refl
filtered false p = refl

unless_filtered : (role : Role) (o : Option OpenPass) → option_filter (is_of_other role) o ≡ unless_of role o
unless_filtered role None = refl
unless_filtered role (Some p) = filtered (role_eq role p.role) p

-- the passes of all other roles are left
pub others_left : (role : Role) (es : List (ℕ × OpenPass)) → IsStrictlySortedBy nat_cmp (keys_of es) → (n : ℕ) → pass_at (filter (λ e. is_of_other role e.1) es) n ≡ unless_of role (pass_at es n)
unfolding pass_at
others_left role es ordered n =
    lookup-filter-values (eq_by_cmp_equiv nat_cmp_total) (is_of_other role) n es (IsDistinct-from_sorted nat_cmp (keys_of es) ordered) ∙ unless_filtered role (lookup (is_at (nat_cmp n)) es)

-- where no number has a pass there is no entry
pub none_from_all : (es : List (ℕ × OpenPass)) → ((n : ℕ) → pass_at es n ≡ None) → length es ≡ 0
unfolding pass_at
none_from_all [] all = refl
none_from_all (e ∷ es) all = absurd (let h : cond (is_at (nat_cmp e.0) e.0) (Some e.1) (lookup (is_at (nat_cmp e.0)) es) ≡ None = all e.0 in let here : is_at (nat_cmp e.0) e.0 ≡ true = (eq_by_cmp_equiv nat_cmp_total).refl e.0 in cc)

pub all_from_none : (es : List (ℕ × OpenPass)) → length es ≡ 0 → (n : ℕ) → pass_at es n ≡ None
unfolding pass_at
all_from_none [] none n = refl
all_from_none (e ∷ es) none n = absurd (cc)

-- an entry whose pass is one of the role on the key, by its place
record Found (role : Role) (key : Key) (es : List (ℕ × OpenPass)) : Type 0 where
  place : ℕ
  number : ℕ
  pass : OpenPass
  stands : slice_get es place ≡ Some (number, pass)
  is : is_pass_of role key (Some pass) ≡ true

further : (role : Role) (key : Key) (e : ℕ × OpenPass) (es : List (ℕ × OpenPass)) → Found role key es → Found role key (e ∷ es)
further role key e es f = record { place = suc f.place; number = f.number; pass = f.pass; stands = f.stands; is = f.is }

found_or_further : (b : Bool) (role : Role) (key : Key) (e : ℕ × OpenPass) (es : List (ℕ × OpenPass)) → is_pass_of role key (Some e.1) ≡ b
    → (list_any (λ p. is_pass_of role key (Some p)) (values_of es) ≡ true → Found role key es) → (b || list_any (λ p. is_pass_of role key (Some p)) (values_of es)) ≡ true → Found role key (e ∷ es)
found_or_further true role key e es is rest any = record { place = 0; number = e.0; pass = e.1; stands = refl; is = is }
found_or_further false role key e es is rest any = further role key e es (rest any)

found : (role : Role) (key : Key) (es : List (ℕ × OpenPass)) → list_any (λ p. is_pass_of role key (Some p)) (values_of es) ≡ true → Found role key es
found role key [] any = absurd (cc)
found role key (e ∷ es) any = found_or_further (is_pass_of role key (Some e.1)) role key e es refl (found role key es) any

abbrev pub has_pass_of : Role → Key → List (ℕ × OpenPass) → Bool
has_pass_of role key es = list_any (λ p. is_pass_of role key (Some p)) (values_of es)

-- some entry's pass has its number
pub some_on : (role : Role) (key : Key) (m : BTreeMap ℕ OpenPass) → IsOrdered nat_cmp m → list_any (λ p. is_pass_of role key (Some p)) (values_of m.entries) ≡ true
    → (n : ℕ) × (is_pass_of role key (pass_at m.entries n) ≡ true)
unfolding pass_at
some_on role key m ordered any =
    let f = found role key m.entries any in
    (f.number, ap (is_pass_of role key) (btree_map_get_place nat_cmp_total m f.place f.number f.pass ordered f.stands) ∙ f.is)

chosen : (b : Bool) (role : Role) (key : Key) (p : OpenPass) (o : Option OpenPass) → is_pass_of role key (Some p) ≡ false → is_pass_of role key o ≡ false → is_pass_of role key (cond b (Some p) o) ≡ false
chosen true role key p o first rest = first
chosen false role key p o first rest = rest

-- where no entry's pass is one of them, none is open
pub none_on : (role : Role) (key : Key) (es : List (ℕ × OpenPass)) → list_any (λ p. is_pass_of role key (Some p)) (values_of es) ≡ false → (n : ℕ) → is_pass_of role key (pass_at es n) ≡ false
unfolding pass_at
none_on role key [] none n = refl
none_on role key (e ∷ es) none n =
    chosen (is_at (nat_cmp n) e.0) role key e.1 (lookup (is_at (nat_cmp n)) es) (or_parts _ _ none).0 (none_on role key es (or_parts _ _ none).1 n)

-- a test of the entries tells whether one is open
pub on_from_test : (b : Bool) (role : Role) (key : Key) (m : BTreeMap ℕ OpenPass) → IsOrdered nat_cmp m → b ≡ has_pass_of role key m.entries → IsTrue b ↔ IsWorkedOn m.entries role key
on_from_test true role key m ordered is = (λ h. some_on role key m ordered (sym is), λ h. refl)
on_from_test false role key m ordered is = (λ h. absurd (cc), λ h. absurd (let none = none_on role key m.entries (sym is) h.0 in let some = h.1 in cc))
