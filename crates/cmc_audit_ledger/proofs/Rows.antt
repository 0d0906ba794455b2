-- What is kept of an open pass, over the entries that change it.
use Rattle.std.proofs.Common.{◌≡◌, ℕ, ◌≤◌, List, ◌∷◌, length, Bool, true, false, Option, Some, None, refl, sym, ap, subst, ◌∙◌, arith}
use Rattle.std.specs.Prelude.{if◌then◌else◌, option_map, ◌||◌, ◌&&◌}
use Rattle.cmc_meta.specs.declared.key.Kind.{Kind}
use Rattle.cmc_meta.specs.declared.key.Kind.TheVariants as kinds
use Rattle.cmc_objects.specs.declared.certificate.Certificate.{Certificate}
use Rattle.cmc_objects.specs.declared.role.Role.{Role}
use Rattle.cmc_model.specs.declared.write.Write.{Write}
use Rattle.cmc_model.specs.Objects.{Objects}
use Rattle.cmc_model.specs.Histories.{role_eq}
use Rattle.cmc_model.specs.Writes.{contents, of_kind}
use Rattle.cmc_model.proofs.Writes.{oldest-older}
use Rattle.cmc_rules.specs.declared.progress.OpenPass.{OpenPass}
use Rattle.cmc_rules.specs.declared.progress.Stage.{Stage}
use Rattle.cmc_rules.specs.Views.{Caches, certificate_at, views_in}
use Rattle.cmc_rules.specs.Passes.{with_stage, unless_of}
use Rattle.cmc_audit_state.specs.declared.row.Row.{Row}
use Rattle.cmc_audit_state.specs.declared.row.Version.{Version}
use Rattle.cmc_audit_state.specs.Heard.{has_yes_on, is_about}
use Rattle.cmc_audit_state.specs.Journaled.{cached}
use Rattle.cmc_audit_state.specs.OpenRows.{unless_role, with_asked, with_read, with_saved, IsToldRow, IsToldAt}
use Rattle.cmc_audit_ledger.specs.CallRows.{read_if}
use Rattle.cmc_audit_ledger.specs.Ledgers.{IsRow, IsRowOf}

-- what is said of one pass, and its row
abbrev pub IsKept : List Write → (ℕ → Bool) → Bool → Option Version → (Version → Bool) → Row → OpenPass → Type 0
IsKept ws found saved asked approved row p = IsRow ws found saved asked approved row p

-- ---- stages change nothing

staged : (ws : List Write) (f : ℕ → Bool) (s : Bool) (a : Option Version) (y : Version → Bool) (stage : OpenPass → Stage) (x : Option Row) (p : Option OpenPass) → IsRowOf ws f s a y x p
    → IsRowOf ws f s a y x (option_map (λ (q : OpenPass). with_stage (stage q) q) p)
staged ws f s a y stage None None is = is
staged ws f s a y stage None (Some p) is = is
staged ws f s a y stage (Some row) None is = is
staged ws f s a y stage (Some row) (Some p) is = record {
  role = is.role;
  key = is.key;
  since = is.since;
  in_run = is.in_run;
  certificates_low = is.certificates_low;
  requests_low = is.requests_low;
  secrets_low = is.secrets_low;
  seen = is.seen;
  read = is.read;
  saved_is = is.saved_is;
  asked_is = is.asked_is;
  approved_is = is.approved_is;
}

pub gone_on : (b : Bool) (ws : List Write) (f : ℕ → Bool) (s : Bool) (a : Option Version) (y : Version → Bool) (stage : OpenPass → Stage) (x : Option Row) (p : Option OpenPass) → IsRowOf ws f s a y x p
    → IsRowOf ws f s a y x (if b then option_map (λ (q : OpenPass). with_stage (stage q) q) p else p)
gone_on true ws f s a y stage x p is = staged ws f s a y stage x p is
gone_on false ws f s a y stage x p is = is

-- ---- closed, and stopped

pub closed : (b : Bool) (ws : List Write) (f : ℕ → Bool) (s : Bool) (a : Option Version) (y : Version → Bool) (x : Option Row) (p : Option OpenPass) → IsRowOf ws f s a y x p
    → IsRowOf ws f s a y (if b then None else x) (if b then None else p)
closed true ws f s a y x p is = tt
closed false ws f s a y x p is = is

pub stopped : (role : Role) (ws : List Write) (f : ℕ → Bool) (s : Bool) (a : Option Version) (y : Version → Bool) (x : Option Row) (p : Option OpenPass) → IsRowOf ws f s a y x p
    → IsRowOf ws f s a y (unless_role role x) (unless_of role p)
stopped role ws f s a y None None is = is
stopped role ws f s a y None (Some p) is = absurd is
stopped role ws f s a y (Some row) None is = absurd is
stopped role ws f s a y (Some row) (Some p) is =
    subst (λ (r : Role). IsRowOf ws f s a y (unless_role role (Some row)) (if role_eq role r then None else Some p)) is.role (closed (role_eq role row.role) ws f s a y (Some row) (Some p) is)

-- ---- a question

asked_row : (ws : List Write) (f : ℕ → Bool) (s : Bool) (a b : Option Version) (y : Version → Bool) (x : Option Row) (p : Option OpenPass) → IsRowOf ws f s a y x p
    → IsRowOf ws f s b y (option_map (with_asked b) x) p
asked_row ws f s a b y None None is = is
asked_row ws f s a b y None (Some p) is = is
asked_row ws f s a b y (Some row) None is = is
asked_row ws f s a b y (Some row) (Some p) is = record {
  role = is.role;
  key = is.key;
  since = is.since;
  in_run = is.in_run;
  certificates_low = is.certificates_low;
  requests_low = is.requests_low;
  secrets_low = is.secrets_low;
  seen = is.seen;
  read = is.read;
  saved_is = is.saved_is;
  asked_is = refl;
  approved_is = is.approved_is;
}

pub asked_at : (own : Bool) (ws : List Write) (f : ℕ → Bool) (s : Bool) (a b : Option Version) (y : Version → Bool) (x : Option Row) (p : Option OpenPass) → IsRowOf ws f s a y x p
    → IsRowOf ws f s (if own then b else a) y (if own then option_map (with_asked b) x else x) p
asked_at true ws f s a b y x p is = asked_row ws f s a b y x p is
asked_at false ws f s a b y x p is = is

-- ---- a yes

told_row : (ws : List Write) (f : ℕ → Bool) (s : Bool) (a : Option Version) (y : Version → Bool) (x z : Option Row) (p : Option OpenPass) → IsToldRow x z → IsRowOf ws f s a y x p
    → IsRowOf ws f s a (λ v. is_about v a || y v) z p
told_row ws f s a y None None None told is = is
told_row ws f s a y None None (Some p) told is = is
told_row ws f s a y None (Some z) p told is = absurd told
told_row ws f s a y (Some row) None p told is = absurd told
told_row ws f s a y (Some row) (Some z) None told is = is
told_row ws f s a y (Some row) (Some z) (Some p) told is =
    subst (λ (r : Row). IsRow ws f s a (λ v. is_about v a || y v) r p) (sym told.rest) (record {
      role = is.role;
      key = is.key;
      since = is.since;
      in_run = is.in_run;
      certificates_low = is.certificates_low;
      requests_low = is.requests_low;
      secrets_low = is.secrets_low;
      seen = is.seen;
      read = is.read;
      saved_is = is.saved_is;
      asked_is = is.asked_is;
      approved_is = λ v. told.more v ∙ ap (λ q. is_about v q || has_yes_on row.yeses v) is.asked_is ∙ ap (λ b. is_about v a || b) (is.approved_is v);
    })

-- own: it is the pass that is told; yes: it is told yes
pub told_at : (own : Bool) (ws : List Write) (f : ℕ → Bool) (s : Bool) (a : Option Version) (y : Version → Bool) (x z : Option Row) (p : Option OpenPass) → IsToldAt own x z → IsRowOf ws f s a y x p
    → IsRowOf ws f s a (λ v. (own && is_about v a) || y v) z p
told_at true ws f s a y x z p told is = told_row ws f s a y x z p told is
told_at false ws f s a y x z p told is = subst (λ (r : Option Row). IsRowOf ws f s a y r p) (sym told) is

-- ---- a write more

cached_older : (kind : Kind) (w : Write) (ws : List Write) (p : ℕ) → p ≤ length ws → cached kind ws p ≡ cached kind (w ∷ ws) p
cached_older kind w ws p low = ap (λ (l : List Write). contents (of_kind kind l)) (sym (oldest-older p w ws low))

abbrev caches_with : Objects → Objects → Objects → Caches
caches_with a b c = record { certificates = a; requests = b; secrets = c }

caches_by : (a b c x y z : Objects) → a ≡ x → b ≡ y → c ≡ z → caches_with a b c ≡ caches_with x y z
caches_by a b c x y z e f g = λ i. caches_with (e i) (f i) (g i)

grown_row : (w : Write) (ws : List Write) (f : ℕ → Bool) (s : Bool) (a : Option Version) (y : Version → Bool) (row : Row) (p : OpenPass) → IsRow ws f s a y row p → IsRow (w ∷ ws) f s a y row p
grown_row w ws f s a y row p is = record {
  role = is.role;
  key = is.key;
  since = is.since;
  in_run = is.in_run;
  certificates_low = omega (arith, is.certificates_low);
  requests_low = omega (arith, is.requests_low);
  secrets_low = omega (arith, is.secrets_low);
  seen = is.seen ∙ ap (λ (c : Caches). views_in row.role c row.key)
      (caches_by _ _ _ _ _ _ (cached_older kinds.Certificate w ws row.reach.certificates is.certificates_low) (cached_older kinds.CertificateRequest w ws row.reach.requests is.requests_low) (cached_older kinds.Secret w ws row.reach.secrets is.secrets_low));
  read = λ c at. is.read c (ap (λ m. certificate_at m row.key) (cached_older kinds.Certificate w ws row.reach.certificates is.certificates_low) ∙ at);
  saved_is = is.saved_is;
  asked_is = is.asked_is;
  approved_is = is.approved_is;
}

grown_of : (w : Write) (ws : List Write) (f : ℕ → Bool) (s : Bool) (a : Option Version) (y : Version → Bool) (x : Option Row) (p : Option OpenPass) → IsRowOf ws f s a y x p → IsRowOf (w ∷ ws) f s a y x p
grown_of w ws f s a y None None is = is
grown_of w ws f s a y None (Some p) is = is
grown_of w ws f s a y (Some row) None is = is
grown_of w ws f s a y (Some row) (Some p) is = grown_row w ws f s a y row p is

pub grown : (b : Bool) (w : Write) (ws : List Write) (f : ℕ → Bool) (s : Bool) (a : Option Version) (y : Version → Bool) (x : Option Row) (p : Option OpenPass) → IsRowOf ws f s a y x p
    → IsRowOf (if b then w ∷ ws else ws) f s a y x p
grown true w ws f s a y x p is = grown_of w ws f s a y x p is
grown false w ws f s a y x p is = is

-- ---- a call

saved_row : (ws : List Write) (f : ℕ → Bool) (s : Bool) (a : Option Version) (y : Version → Bool) (x : Option Row) (p : Option OpenPass) → IsRowOf ws f s a y x p
    → IsRowOf ws f true a y (option_map with_saved x) p
saved_row ws f s a y None None is = is
saved_row ws f s a y None (Some p) is = is
saved_row ws f s a y (Some row) None is = is
saved_row ws f s a y (Some row) (Some p) is = record {
  role = is.role;
  key = is.key;
  since = is.since;
  in_run = is.in_run;
  certificates_low = is.certificates_low;
  requests_low = is.requests_low;
  secrets_low = is.secrets_low;
  seen = is.seen;
  read = is.read;
  saved_is = refl;
  asked_is = is.asked_is;
  approved_is = is.approved_is;
}

-- own: it is the pass that calls; saves: the call saves a Secret
pub saved_at : (own saves : Bool) (ws : List Write) (f : ℕ → Bool) (s : Bool) (a : Option Version) (y : Version → Bool) (x : Option Row) (p : Option OpenPass) → IsRowOf ws f s a y x p
    → IsRowOf ws f ((own && saves) || s) a y (if own && saves then option_map with_saved x else x) p
saved_at true true ws f s a y x p is = saved_row ws f s a y x p is
saved_at true false ws f s a y x p is = is
saved_at false true ws f s a y x p is = is
saved_at false false ws f s a y x p is = is

-- the pass has read the Certificate that it saw, where its version is that of what was found
read_row : (ws : List Write) (f g : ℕ → Bool) (b : Bool) (s : Bool) (a : Option Version) (y : Version → Bool) (row : Row) (p : OpenPass)
    → ((c : Certificate) → certificate_at (cached kinds.Certificate ws row.reach.certificates) row.key ≡ Some c → (b || f c.meta.version) ≡ g c.meta.version)
    → IsRow ws f s a y row p → IsRow ws g s a y (if b then with_read row else row) p
read_row ws f g true s a y row p finds is = record {
  role = is.role;
  key = is.key;
  since = is.since;
  in_run = is.in_run;
  certificates_low = is.certificates_low;
  requests_low = is.requests_low;
  secrets_low = is.secrets_low;
  seen = is.seen;
  read = λ c at. finds c at;
  saved_is = is.saved_is;
  asked_is = is.asked_is;
  approved_is = is.approved_is;
}
read_row ws f g false s a y row p finds is = record {
  role = is.role;
  key = is.key;
  since = is.since;
  in_run = is.in_run;
  certificates_low = is.certificates_low;
  requests_low = is.requests_low;
  secrets_low = is.secrets_low;
  seen = is.seen;
  read = λ c at. is.read c at ∙ finds c at;
  saved_is = is.saved_is;
  asked_is = is.asked_is;
  approved_is = is.approved_is;
}

-- what a row would be after this was found by its pass
abbrev pub FindsWhat : List Write → (ℕ → Bool) → (ℕ → Bool) → Bool → Option Row → Type 0
FindsWhat ws f g b None = Unit {0}
FindsWhat ws f g b (Some row) = (c : Certificate) → certificate_at (cached kinds.Certificate ws row.reach.certificates) row.key ≡ Some c → (b || f c.meta.version) ≡ g c.meta.version

pub read_at : (b : Bool) (ws : List Write) (f g : ℕ → Bool) (s : Bool) (a : Option Version) (y : Version → Bool) (x : Option Row) (p : Option OpenPass) → FindsWhat ws f g b x → IsRowOf ws f s a y x p
    → IsRowOf ws g s a y (read_if b x) p
read_at true ws f g s a y None None finds is = is
read_at true ws f g s a y None (Some p) finds is = is
read_at true ws f g s a y (Some row) None finds is = is
read_at true ws f g s a y (Some row) (Some p) finds is = read_row ws f g true s a y row p finds is
read_at false ws f g s a y None None finds is = is
read_at false ws f g s a y None (Some p) finds is = is
read_at false ws f g s a y (Some row) None finds is = is
read_at false ws f g s a y (Some row) (Some p) finds is = read_row ws f g false s a y row p finds is
