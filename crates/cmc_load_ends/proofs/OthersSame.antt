-- What a write of a load leaves of the Certificates that it is not for.
use Rattle.std.proofs.Common.{◌≡◌, ◌+◌, ℕ, List, [], ◌∷◌, Bool, true, false, Option, refl, sym, ap, subst, ◌∙◌, inl, inr}
use Rattle.std.specs.BTreeMap.{is_at}
use Rattle.std.specs.Prelude.{◌||◌}
use Rattle.cmc_meta.specs.declared.key.Key.{Key}
use Rattle.cmc_meta.specs.declared.key.Kind.TheVariants as kinds
use Rattle.cmc_meta.specs.Keys.{key_cmp, key_eq}
use Rattle.cmc_objects.specs.declared.object.Object.{Object}
use Rattle.cmc_objects.specs.declared.object.Object.TheVariants.{Cert}
use Rattle.cmc_objects.specs.declared.call.Call.{Call}
use Rattle.cmc_objects.specs.declared.call.Reply.{Reply}
use Rattle.cmc_objects.specs.declared.entry.Entry.{Entry}
use Rattle.cmc_objects.specs.declared.entry.Entry.TheVariants.{Call as Called}
use Rattle.cmc_objects.specs.declared.entry.Who.TheVariants.{User, Pass}
use Rattle.cmc_objects.specs.declared.role.Role.TheVariants.{Issuing}
use Rattle.cmc_model.specs.Histories.{Setting, accepted, moment, objects}
use Rattle.cmc_model.specs.Objects.{Objects, object_at}
use Rattle.cmc_model.specs.Replies.{is_accepted, key_of_call, put_at, settled, stored}
use Rattle.cmc_kernel.proofs.SameKeys.{same_key}
use Rattle.cmc_pass.specs.declared.pass.Views.{Views}
use Rattle.cmc_rules.specs.Views.{certificate_at}
use Rattle.cmc_load_laws.specs.Belonging.{IsParted}
use Rattle.cmc_load_laws.specs.Frame.{seen_of}
use Rattle.cmc_load_laws.specs.LoadRuns.{IsForOneCertificate}
use Rattle.cmc_load_laws.specs.Totals.{HasCertificate}
use Rattle.cmc_load_laws.proofs.Belonging.{certificate_of, itself}
use Rattle.cmc_load_laws.proofs.Elsewhere.{elsewhere_at, seen_is}
use Rattle.cmc_load_laws.proofs.LoadHistories.{after_accepted, put_there}
use Rattle.cmc_load_ends.proofs.PlainEntries.{IsApply, writes_certificate}
use Rattle.cmc_load_ends.proofs.Touched.{IsTouchedOr, applied_or, touched, touched_or, with_certificate}

-- the same is seen of each other Certificate
abbrev pub LeavesOthers : Key → Objects → Objects → Type 0
LeavesOthers own m n = (key : Key) → key.kind ≡ kinds.Certificate → is_at (key_cmp own) key ≡ false → seen_of n key ≡ seen_of m key

only_own : (b : Bool) → (b || false) ≡ true → b ≡ true
only_own true is = refl
only_own false is = is

not_own : (own key : Key) → key_eq own key ≡ true → is_at (key_cmp own) key ≡ false → ⊥
not_own own key same off = let on : is_at (key_cmp own) key ≡ true = subst (λ (k : Key). is_at (key_cmp own) k ≡ true) (same_key own key same) (itself own) in cc (on, off)

by_place : (own under key : Key) (m n : Objects) → is_at (key_cmp own) key ≡ false → IsTouchedOr (touched own under []) m n Issuing key → seen_of n key ≡ seen_of m key
by_place own under key m n off (inl there) = absurd (not_own own key (only_own (key_eq own key) there) off)
by_place own under key m n off (inr same) = same

by_own : (own key : Key) (m n : Objects) → is_at (key_cmp own) key ≡ false → IsTouchedOr (with_certificate own []) m n Issuing key → seen_of n key ≡ seen_of m key
by_own own key m n off (inl there) = absurd (not_own own key (only_own (key_eq own key) there) off)
by_own own key m n off (inr same) = same

pub role_leaves : (s : Setting) (h : List Entry) (n : ℕ) (call : Call) (reply : Reply) → is_accepted reply ≡ true → IsParted (objects s (Called (Pass n) call reply ∷ h))
    → (one : IsForOneCertificate s h (Called (Pass n) call reply) call reply) → LeavesOthers one.own (objects s h) (objects s (Called (Pass n) call reply ∷ h))
role_leaves s h n call reply ok later one key kind off =
    let under : Key = key_of_call (settled call reply) in
    let new : Option Object = stored (accepted s h + 1) (moment s h) (objects s h) (settled call reply) in
    by_place one.own under key (objects s h) (objects s (Called (Pass n) call reply ∷ h)) off
    (touched_or (objects s h) (objects s (Called (Pass n) call reply ∷ h)) one.own under [] later one.write
    (λ q apart. ap (λ (m : Objects). object_at m q) (after_accepted s h (Pass n) call reply ok) ∙ elsewhere_at (objects s h) under new q apart) one.others Issuing key kind)

pub user_leaves : (s : Setting) (h : List Entry) (call : Call) (reply : Reply) → is_accepted reply ≡ true → IsParted (objects s h) → IsParted (objects s (Called User call reply ∷ h)) → IsApply s h call
    → LeavesOthers (key_of_call (settled call reply)) (objects s h) (objects s (Called User call reply ∷ h))
user_leaves s h call reply ok parted later apply key kind off =
    let under : Key = key_of_call (settled call reply) in
    let new : Option Object = stored (accepted s h + 1) (moment s h) (objects s h) (settled call reply) in
    let same : objects s (Called User call reply ∷ h) ≡ put_at (objects s h) under new = after_accepted s h User call reply ok in
    by_own under key (objects s h) (objects s (Called User call reply ∷ h)) off
    (subst (λ (m : Objects). IsTouchedOr (with_certificate under []) (objects s h) m Issuing key) (sym same)
    (applied_or (objects s h) under new [] parted (subst IsParted same later) (put_there (objects s h) under new) (writes_certificate s h call reply apply) Issuing key kind))

-- ---- which Certificates there are

pub certificate_seen : (m : Objects) (key : Key) → (seen_of m key).certificate ≡ certificate_at m key
certificate_seen m key = ap (λ (v : Views). v.certificate) (seen_is m key)

-- a key of a Certificate is one
pub kind_of_certificate : (m : Objects) (key : Key) → IsParted m → HasCertificate m key → key.kind ≡ kinds.Certificate
kind_of_certificate m key parted (c, at) = sym (ap (λ (k : Key). k.kind) (parted.keyed key (Cert c) (certificate_of (object_at m key) c at)))

pub same_certificate : (m n : Objects) (key : Key) → seen_of n key ≡ seen_of m key → certificate_at n key ≡ certificate_at m key
same_certificate m n key same = sym (certificate_seen n key) ∙ ap (λ (v : Views). v.certificate) same ∙ certificate_seen m key
