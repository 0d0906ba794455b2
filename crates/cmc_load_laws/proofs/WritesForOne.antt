-- In a run of a load each accepted write of a role is for one Certificate.
use Rattle.std.proofs.Common.{◌≡◌, ◌⊎◌, ◌∷◌, ℕ, ℤ, List, [], Bool, true, false, Option, Some, None, refl, sym, ap, subst, ◌∙◌, inl, inr}
use Rattle.std.proofs.lemmas.Bool.{eq-eqb, or_left, or_right}
use Rattle.std.specs.BTreeMap.{is_at}
use Rattle.std.specs.Prelude.{IfSome, ◌||◌, option_and_then}
use Rattle.cmc_meta.specs.declared.key.Key.{Key}
use Rattle.cmc_meta.specs.declared.key.Kind.TheVariants as kinds
use Rattle.cmc_meta.specs.declared.object_meta.ObjectMeta.{ObjectMeta}
use Rattle.cmc_meta.specs.Keys.{key_cmp}
use Rattle.cmc_objects.specs.declared.certificate.Certificate.{Certificate}
use Rattle.cmc_objects.specs.declared.request.CertificateRequest.{CertificateRequest}
use Rattle.cmc_objects.specs.declared.secret.Secret.{Secret as SecretObject}
use Rattle.cmc_objects.specs.declared.object.Object.{Object}
use Rattle.cmc_objects.specs.declared.object.Object.TheVariants.{Cert, Request, Secret}
use Rattle.cmc_objects.specs.declared.call.Call.{Call}
use Rattle.cmc_objects.specs.declared.call.Call.TheVariants.{Create, Update, UpdateStatus, Delete, Get}
use Rattle.cmc_objects.specs.declared.role.Role.{Role}
use Rattle.cmc_objects.specs.declared.role.Role.TheVariants.{Issuing, KeyManager, RequestManager}
use Rattle.cmc_objects.specs.Objects.{key_of, meta_of}
use Rattle.cmc_model.specs.declared.write.Write.{Write}
use Rattle.cmc_model.specs.Acceptance.{IsFounded}
use Rattle.cmc_model.specs.Objects.{Objects, object_at}
use Rattle.cmc_model.specs.Replies.{key_of_call, stored}
use Rattle.cmc_model.specs.Histories.{Setting}
use Rattle.cmc_informer.specs.Caches.{is_owned_by, names}
use Rattle.cmc_rules.specs.Owners.{owner_of}
use Rattle.cmc_rules.specs.Rights.{MayChange}
use Rattle.cmc_rules.specs.Views.{certificate_at, certificate_in, has_next_label}
use Rattle.cmc_load_laws.specs.Belonging.{IsOfOrNone}
use Rattle.cmc_load_laws.specs.Frame.{IsSameOwner, is_of, key_of_target}
use Rattle.cmc_load_laws.specs.LoadRuns.{IsStanding}
use Rattle.cmc_load_laws.proofs.Belonging.{itself}
use Rattle.cmc_load_laws.proofs.BelongingVersions.{IsCertificateIn, IsMadeFor, IsOf, OfSecret}
use Rattle.cmc_load_laws.proofs.RoleWrites.{WasRequest, was_certificate, was_request, who_writes_secret}
use Rattle.cmc_load_laws.proofs.RolesKeep.{certificate_later}

-- ---- whose an object is

pub or_there : (a b x : Bool) → x ≡ true → (a || (b || x)) ≡ true
or_there a b x is = or_right a (b || x) (or_right b x is)

of_own_key : (own : Key) (c : Certificate) (key : Key) (o : Option Object) → own ≡ key → is_of own c key o ≡ true
of_own_key own c key o same =
    or_left (is_at (key_cmp own) key) (is_at (key_cmp (key_of_target c)) key || is_owned_by c.meta.uid o) (subst (λ (k : Key). is_at (key_cmp own) k ≡ true) same (itself own))

pub of_target_key : (own : Key) (c : Certificate) (key : Key) (o : Option Object) → key_of_target c ≡ key → is_of own c key o ≡ true
of_target_key own c key o same =
    or_right (is_at (key_cmp own) key) (is_at (key_cmp (key_of_target c)) key || is_owned_by c.meta.uid o)
    (or_left (is_at (key_cmp (key_of_target c)) key) (is_owned_by c.meta.uid o) (subst (λ (k : Key). is_at (key_cmp (key_of_target c)) k ≡ true) same (itself (key_of_target c))))

pub own_uid : (c d : Certificate) → IsSameOwner c d → names d.meta.uid (owner_of c ∷ []) ≡ true
unfolding owner_of
own_uid c d same = ap (λ (b : Bool). b || false) (eq-eqb c.meta.uid d.meta.uid same.uid)

pub owned_by : (own key : Key) (c d : Certificate) (o : Object) → IsSameOwner c d → (meta_of o).owners ≡ owner_of c ∷ [] → is_of own d key (Some o) ≡ true
owned_by own key c d o same owners =
    or_there (is_at (key_cmp own) key) (is_at (key_cmp (key_of_target d)) key) (names d.meta.uid (meta_of o).owners) (ap (names d.meta.uid) owners ∙ own_uid c d same)

same_target : (c d : Certificate) (key : Key) → IsSameOwner c d → key.kind ≡ kinds.Secret → key.namespace ≡ c.meta.namespace → key.name ≡ c.spec.secret_name → key_of_target d ≡ key
same_target c d key same kind namespace name = λ i. record { kind = sym kind i; namespace = (sym same.namespace ∙ sym namespace) i; name = (sym same.secret_name ∙ sym name) i }

-- ---- a write that finds or leaves something

pub some_stored : (v : ℕ) (now : ℤ) (m : Objects) (call : Call) → IsFounded m call → object_at m (key_of_call call) ≡ None → stored v now m call ≡ None → ⊥
unfolding IsFounded
some_stored v now m (Create object generate) on none gone = absurd (cc gone)
some_stored v now m (Update object named) on none gone = absurd (let e : None ≡ Some on.0 = sym none ∙ on.1 in cc e)
some_stored v now m (UpdateStatus object named) on none gone = absurd (let e : None ≡ Some on.0 = sym none ∙ on.1 in cc e)
some_stored v now m (Delete key named) on none gone = absurd (let e : None ≡ Some on.0 = sym none ∙ on.1 in cc e)
some_stored v now m (Get key) on none gone = absurd on

-- a Secret that a role changes bears no label of a next key
unlabelled : (role : Role) (j k : SecretObject) → MayChange role (Some (Secret j)) (Some (Secret k)) → has_next_label j.meta ≡ false
unlabelled role j k may = by (who_writes_secret role (Some (Secret j)) k may) where
  of_issuing : MayChange Issuing (Some (Secret j)) (Some (Secret k)) → has_next_label j.meta ≡ false
  of_issuing (inl is) = absurd is
  of_issuing (inr (inl is)) = is.0
  of_issuing (inr (inr is)) = absurd is

  by : ((role ≡ KeyManager) × (Some (Secret j) ≡ None)) ⊎ (role ≡ Issuing) → has_next_label j.meta ≡ false
  by (inl is) = absurd (cc is.1)
  by (inr issuing) = of_issuing (subst (λ (r : Role). MayChange r (Some (Secret j)) (Some (Secret k))) issuing may)

secret_was_secret : (role : Role) (r : CertificateRequest) (k : SecretObject) → MayChange role (Some (Request r)) (Some (Secret k)) → ⊥
secret_was_secret role r k may = by (who_writes_secret role (Some (Request r)) k may) where
  of_issuing : MayChange Issuing (Some (Request r)) (Some (Secret k)) → ⊥
  of_issuing (inl is) = is
  of_issuing (inr (inl is)) = is.0
  of_issuing (inr (inr is)) = is

  by : ((role ≡ KeyManager) × (Some (Request r) ≡ None)) ⊎ (role ≡ Issuing) → ⊥
  by (inl is) = absurd (cc is.1)
  by (inr issuing) = of_issuing (subst (λ (x : Role). MayChange x (Some (Request r)) (Some (Secret k))) issuing may)

-- what the write needs to be for the Certificate: its versions before and after, what is found and what is left
pub record IsForVersion (own key : Key) (m : Objects) (old new : Option Object) (n : Objects) : Type 0 where
  pub before : Certificate
  pub after : Certificate
  pub was : certificate_at m own ≡ Some before
  pub is : certificate_at n own ≡ Some after
  pub finds : IsOfOrNone own before key old
  pub leaves : IsOfOrNone own after key new

pub record IsForOne (key : Key) (m : Objects) (old new : Option Object) (n : Objects) : Type 0 where
  pub own : Key
  pub write : IsForVersion own key m old new n

-- the write of a role under the key, by what was there and what it stores
module _ (s : Setting) (ws : List Write) (role : Role) (key : Key) (m n : Objects) (before : (c : Certificate) → IsCertificateIn ws c → IsStanding m c) (after : (c : Certificate) → IsCertificateIn ws c → IsStanding n c) where
  for_made : (c : Certificate) (old new : Option Object) → IsCertificateIn ws c → ((d : Certificate) → IsSameOwner c d → IsOfOrNone (key_of (Cert c)) d key old) → ((d : Certificate) → IsSameOwner c d → IsOfOrNone (key_of (Cert c)) d key new)
      → IsForOne key m old new n
  for_made c old new known finds leaves =
      let was = before c known in
      let is = after c known in
      record { own = key_of (Cert c); write = record { before = was.present; after = is.present; was = was.at; is = is.at; finds = finds was.present was.same; leaves = leaves is.present is.same } }

  owned_part : (c d : Certificate) (o : Object) → (meta_of o).owners ≡ owner_of c ∷ [] → IsSameOwner c d → IsOfOrNone (key_of (Cert c)) d key (Some o)
  owned_part c d o owners same = inr (owned_by (key_of (Cert c)) key c d o same owners)

  target_part : (c d : Certificate) (meta : ObjectMeta) (o : Option Object) → IsSameOwner c d → key ≡ record { kind = kinds.Secret; namespace = meta.namespace; name = meta.name } → meta.namespace ≡ c.meta.namespace → meta.name ≡ c.spec.secret_name
      → IsOfOrNone (key_of (Cert c)) d key o
  target_part c d meta o same is namespace name =
      inr (of_target_key (key_of (Cert c)) d key o
      (same_target c d key same (ap (λ (k : Key). k.kind) is) (ap (λ (k : Key). k.namespace) is ∙ namespace) (ap (λ (k : Key). k.name) is ∙ name)))

  -- of a Certificate
  for_certificate_write : (c : Certificate) (old new : Option Object) → object_at m key ≡ old → object_at n key ≡ new → old ≡ Some (Cert c) → MayChange role old new → IsForOne key m old new n
  for_certificate_write c old new was is there may =
      let later = certificate_later role c new (subst (λ (o : Option Object). MayChange role o new) there may) in
      record {
        own = key;
        write = record {
          before = c;
          after = later.later;
          was = ap (option_and_then certificate_in) (was ∙ there);
          is = ap (option_and_then certificate_in) (is ∙ later.is);
          finds = inr (of_own_key key c key old refl);
          leaves = inr (of_own_key key later.later key new refl);
        };
      }

  -- of a request that was there
  for_request_write : (r : CertificateRequest) (new : Option Object) → IsMadeFor ws r.meta → MayChange role (Some (Request r)) new → IsForOne key m (Some (Request r)) new n
  for_request_write r None made may = for_made made.certificate (Some (Request r)) None made.known (λ d same. owned_part made.certificate d (Request r) made.owners same) (λ d same. inl refl)
  for_request_write r (Some (Cert d)) made may = let w = was_certificate role (Some (Request r)) d may in absurd (cc w.was)
  for_request_write r (Some (Request q)) made may = by (was_request role (Some (Request r)) q may) where
    by : ((role ≡ RequestManager) × (Some (Request r) ≡ None)) ⊎ WasRequest (Some (Request r)) q → IsForOne key m (Some (Request r)) (Some (Request q)) n
    by (inl is) = absurd (cc is.1)
    by (inr w) =
        let one : r ≡ w.before = (let some : Some (Request r) ≡ Some (Request w.before) = w.was in cc some) in
        let owners : q.meta.owners ≡ r.meta.owners = ap (λ (x : ObjectMeta). x.owners) w.kept ∙ ap (λ (x : CertificateRequest). x.meta.owners) (sym one) in
        for_made made.certificate (Some (Request r)) (Some (Request q)) made.known (λ d same. owned_part made.certificate d (Request r) made.owners same)
        (λ d same. owned_part made.certificate d (Request q) (owners ∙ made.owners) same)
  for_request_write r (Some (Secret k)) made may = absurd (secret_was_secret role r k may)

  -- of a Secret that was there
  for_secret_write : (j : SecretObject) (new : Option Object) → OfSecret ws j.meta → key ≡ key_of (Secret j) → MayChange role (Some (Secret j)) new → IsForOne key m (Some (Secret j)) new n
  for_secret_write j new (inr of) is may =
      for_made of.1.certificate (Some (Secret j)) new of.1.known (λ d same. target_part of.1.certificate d j.meta (Some (Secret j)) same is of.1.namespace of.1.name) (λ d same. target_part of.1.certificate d j.meta new same is of.1.namespace of.1.name)
  for_secret_write j None (inl of) is may = for_made of.1.certificate (Some (Secret j)) None of.1.known (λ d same. owned_part of.1.certificate d (Secret j) of.1.owners same) (λ d same. inl refl)
  for_secret_write j (Some (Cert d)) (inl of) is may = let w = was_certificate role (Some (Secret j)) d may in absurd (cc w.was)
  for_secret_write j (Some (Request q)) (inl of) is may = by (was_request role (Some (Secret j)) q may) where
    by : ((role ≡ RequestManager) × (Some (Secret j) ≡ None)) ⊎ WasRequest (Some (Secret j)) q → IsForOne key m (Some (Secret j)) (Some (Request q)) n
    by (inl none) = absurd (cc none.1)
    by (inr w) = absurd (cc w.was)
  for_secret_write j (Some (Secret k)) (inl of) is may = let off = unlabelled role j k may in absurd (let e : true ≡ false = sym of.0 ∙ off in cc e)

  -- of what is made
  for_made_secret : (k : SecretObject) → OfSecret ws k.meta → key ≡ key_of (Secret k) → IsForOne key m None (Some (Secret k)) n
  for_made_secret k (inl of) is = for_made of.1.certificate None (Some (Secret k)) of.1.known (λ d same. inl refl) (λ d same. owned_part of.1.certificate d (Secret k) of.1.owners same)
  for_made_secret k (inr of) is =
      for_made of.1.certificate None (Some (Secret k)) of.1.known (λ d same. inl refl) (λ d same. target_part of.1.certificate d k.meta (Some (Secret k)) same is of.1.namespace of.1.name)

  for_new : (o : Object) → IsOf s ws o → key ≡ key_of o → MayChange role None (Some o) → IsForOne key m None (Some o) n
  for_new (Cert d) of is may = let w = was_certificate role None d may in absurd (cc w.was)
  for_new (Request r) of is may = for_made of.certificate None (Some (Request r)) of.known (λ d same. inl refl) (λ d same. owned_part of.certificate d (Request r) of.owners same)
  for_new (Secret k) of is may = for_made_secret k of is

  pub for_one : (old new : Option Object) → object_at m key ≡ old → object_at n key ≡ new → IfSome old (IsOf s ws) → IfSome new (IsOf s ws) → ((o : Object) → old ≡ Some o → key ≡ key_of o) → ((o : Object) → new ≡ Some o → key ≡ key_of o)
      → (old ≡ None → new ≡ None → ⊥) → MayChange role old new → IsForOne key m old new n
  for_one None None was is of_old of_new key_old key_new some may = absurd (some refl refl)
  for_one None (Some o) was is of_old of_new key_old key_new some may = for_new o of_new (key_new o refl) may
  for_one (Some (Cert c)) new was is of_old of_new key_old key_new some may = for_certificate_write c (Some (Cert c)) new was is refl may
  for_one (Some (Request r)) new was is of_old of_new key_old key_new some may = for_request_write r new of_old may
  for_one (Some (Secret j)) new was is of_old of_new key_old key_new some may = for_secret_write j new of_old (key_old (Secret j) refl) may
