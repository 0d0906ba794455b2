-- The keys of the Certificates of a load: each that exists was applied, and is there once.
use Rattle.std.proofs.Common.{◌≡◌, List, [], ◌∷◌, Bool, true, false, refl, sym, subst, ◌∙◌}
use Rattle.std.proofs.lemmas.Bool.{or_left, or_right}
use Rattle.std.specs.BTreeMap.{is_at}
use Rattle.std.specs.List.{list_any}
use Rattle.std.specs.Prelude.{if◌then◌else◌}
use Rattle.cmc_meta.specs.declared.key.Key.{Key}
use Rattle.cmc_meta.specs.declared.key.Kind.TheVariants as kinds
use Rattle.cmc_meta.specs.Keys.{key_cmp}
use Rattle.cmc_model.specs.Objects.{Objects}
use Rattle.cmc_run_laws.specs.Lengths.{Each}
use Rattle.cmc_load_laws.specs.Belonging.{IsParted}
use Rattle.cmc_load_laws.specs.Totals.{HasCertificate}
use Rattle.cmc_load_laws.proofs.Belonging.{itself}
use Rattle.cmc_load_laws.proofs.Totals.{one_key}
use Rattle.cmc_load_ends.specs.LoadWrites.{keys_with}
use Rattle.cmc_load_ends.proofs.KeyTotals.{AreDistinct}
use Rattle.cmc_load_ends.proofs.OthersSame.{LeavesOthers, kind_of_certificate, same_certificate}

abbrev pub IsOfCertificate : Key → Type 0
IsOfCertificate key = key.kind ≡ kinds.Certificate

-- the keys are those of the Certificates that exist, each once
pub record AreAllKeys (m : Objects) (keys : List Key) : Type 0 where
  pub distinct : AreDistinct keys
  pub of_certificates : Each IsOfCertificate keys
  pub each : Each (HasCertificate m) keys
  pub all : (key : Key) → HasCertificate m key → list_any (is_at (key_cmp key)) keys ≡ true

pub no_keys : (m : Objects) → ((key : Key) → HasCertificate m key → ⊥) → AreAllKeys m []
no_keys m none = record { distinct = tt; of_certificates = tt; each = tt; all = λ key has. absurd (none key has) }

module _ (own : Key) (m n : Objects) (leaves : LeavesOthers own m n) (later : IsParted n) (there : HasCertificate n own) where
  has_later : (b : Bool) (key : Key) → is_at (key_cmp own) key ≡ b → IsOfCertificate key → HasCertificate m key → HasCertificate n key
  has_later true key is kind has = subst (HasCertificate n) (one_key own key is) there
  has_later false key off kind (c, at) = (c, same_certificate m n key (leaves key kind off) ∙ at)

  each_later : (keys : List Key) → Each IsOfCertificate keys → Each (HasCertificate m) keys → Each (HasCertificate n) keys
  each_later [] kind each = tt
  each_later (key ∷ keys) kind each = (has_later (is_at (key_cmp own) key) key refl kind.0 each.0, each_later keys kind.1 each.1)

  had_before : (key : Key) → is_at (key_cmp own) key ≡ false → HasCertificate n key → HasCertificate m key
  had_before key off (c, at) = (c, sym (same_certificate m n key (leaves key (kind_of_certificate n key later (c, at)) off)) ∙ at)

  all_by : (b : Bool) (keys : List Key) (key : Key) → is_at (key_cmp own) key ≡ b → list_any (is_at (key_cmp own)) keys ≡ true → ((k : Key) → HasCertificate m k → list_any (is_at (key_cmp k)) keys ≡ true) → HasCertificate n key
      → list_any (is_at (key_cmp key)) keys ≡ true
  all_by true keys key is among all has = subst (λ (k : Key). list_any (is_at (key_cmp k)) keys ≡ true) (one_key own key is) among
  all_by false keys key off among all has = all key (had_before key off has)

  -- where it is there already
  pub keys_kept : (keys : List Key) → list_any (is_at (key_cmp own)) keys ≡ true → AreAllKeys m keys → AreAllKeys n keys
  keys_kept keys among a = record {
    distinct = a.distinct;
    of_certificates = a.of_certificates;
    each = each_later keys a.of_certificates a.each;
    all = λ key has. all_by (is_at (key_cmp own) key) keys key refl among a.all has;
  }

  all_more : (b : Bool) (keys : List Key) (key : Key) → is_at (key_cmp own) key ≡ b → ((k : Key) → HasCertificate m k → list_any (is_at (key_cmp k)) keys ≡ true) → HasCertificate n key → list_any (is_at (key_cmp key)) (own ∷ keys) ≡ true
  all_more true keys key is all has =
      or_left (is_at (key_cmp key) own) (list_any (is_at (key_cmp key)) keys) (subst (λ (k : Key). is_at (key_cmp k) own ≡ true) (one_key own key is) (itself own))
  all_more false keys key off all has = or_right (is_at (key_cmp key) own) (list_any (is_at (key_cmp key)) keys) (all key (had_before key off has))

  pub keys_more : (keys : List Key) → list_any (is_at (key_cmp own)) keys ≡ false → AreAllKeys m keys → AreAllKeys n (own ∷ keys)
  keys_more keys none a = record {
    distinct = (none, a.distinct);
    of_certificates = (kind_of_certificate n own later there, a.of_certificates);
    each = (there, each_later keys a.of_certificates a.each);
    all = λ key has. all_more (is_at (key_cmp own) key) keys key refl a.all has;
  }

  by_key : (b : Bool) (keys : List Key) → list_any (is_at (key_cmp own)) keys ≡ b → AreAllKeys m keys → AreAllKeys n (if b then keys else own ∷ keys)
  by_key true keys is a = keys_kept keys is a
  by_key false keys is a = keys_more keys is a

  pub keys_later : (keys : List Key) → AreAllKeys m keys → AreAllKeys n (keys_with own keys)
  keys_later keys a = by_key (list_any (is_at (key_cmp own)) keys) keys refl a
