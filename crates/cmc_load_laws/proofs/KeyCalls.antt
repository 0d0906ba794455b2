-- What the key manager calls, line by line of its table.
use Rattle.std.proofs.Common.{◌≡◌, ◌≤◌, ◌⊎◌, ℕ, List, [], ◌∷◌, length, Option, Some, None, true, false, refl, sym, ap, subst, inl, inr, arith}
use Rattle.std.specs.Prelude.{if◌then◌else◌, is_some, find, not}
use Rattle.cmc_x509.specs.ReadKeys.{key_file_at}
use Rattle.cmc_objects.specs.declared.certificate.Certificate.{Certificate}
use Rattle.cmc_objects.specs.declared.secret.Secret.{Secret as SecretObject}
use Rattle.cmc_objects.specs.declared.object.Object.TheVariants.{Cert, Secret}
use Rattle.cmc_objects.specs.declared.key_spec.Rotation.{Rotation}
use Rattle.cmc_objects.specs.declared.key_spec.Rotation.TheVariants.{Always, Never}
use Rattle.cmc_objects.specs.declared.orders.Order.{Order}
use Rattle.cmc_objects.specs.declared.call.Call.{Call}
use Rattle.cmc_objects.specs.declared.call.Call.TheVariants.{UpdateStatus, Delete}
use Rattle.cmc_objects.specs.Objects.{key_of}
use Rattle.cmc_objects.specs.Defaults.{key_rotation}
use Rattle.cmc_match.specs.Facts.{fits}
use Rattle.cmc_pass.specs.declared.pass.Views.{Views}
use Rattle.cmc_pass.specs.declared.pass.Desk.{Desk}
use Rattle.cmc_pass.specs.declared.pass.Act.{Act}
use Rattle.cmc_pass.specs.declared.pass.Act.TheVariants.{Nothing, Call as Calls, Ask as Asks, Issue, Temporary}
use Rattle.cmc_rules.specs.Causes.{IsFirstCall}
use Rattle.cmc_rules.specs.KeyManager as keys
use Rattle.cmc_rules.specs.KeyManager.{key_manager, name_call, drop_call, ask_key, make_call}
use Rattle.cmc_rules.specs.NextKeys.{is_named, has_fitting_key}
use Rattle.cmc_rules.specs.Trigger.{is_issuing}
use Rattle.cmc_rules.proofs.Lines.{by_test}
use Rattle.cmc_load_laws.proofs.Keyed.{named_status}

-- the only key fits, and the status gets its name
pub record IsNaming (seen : Views) (c : Certificate) (call : Call) : Type 0 where
  pub key : SecretObject
  pub next : seen.next ≡ key ∷ []
  pub issuing : is_issuing c ≡ true
  pub fitting : has_fitting_key c.spec.key key ≡ true
  pub other : is_named c.status.next_key key ≡ false
  pub is : call ≡ UpdateStatus (Cert (record c { status = named_status (Some key.meta.name) c.status })) c.meta.version

-- nothing is issued, no key is left, and the name goes
pub record IsUnnaming (seen : Views) (c : Certificate) (call : Call) : Type 0 where
  pub name : List ℕ
  pub next : seen.next ≡ []
  pub idle : is_issuing c ≡ false
  pub named : c.status.next_key ≡ Some name
  pub is : call ≡ UpdateStatus (Cert (record c { status = named_status None c.status })) c.meta.version

-- the only key goes, as it does not fit
pub record IsUnfitDrop (seen : Views) (c : Certificate) (call : Call) : Type 0 where
  pub key : SecretObject
  pub next : seen.next ≡ key ∷ []
  pub issuing : is_issuing c ≡ true
  pub unfit : has_fitting_key c.spec.key key ≡ false
  pub is : call ≡ Delete (key_of (Secret key)) (Some key.meta.version)

-- nothing is issued, and a key goes
pub record IsIdleDrop (seen : Views) (c : Certificate) (call : Call) : Type 0 where
  pub key : SecretObject
  pub others : List SecretObject
  pub next : seen.next ≡ key ∷ others
  pub idle : is_issuing c ≡ false
  pub is : call ≡ Delete (key_of (Secret key)) (Some key.meta.version)

-- there is none, and one that fits is made
pub record IsMaking (seen : Views) (c : Certificate) (call : Call) : Type 0 where
  pub file : List ℕ
  pub next : seen.next ≡ []
  pub issuing : is_issuing c ≡ true
  pub fitting : fits c.spec.key file ≡ true
  pub is : call ≡ make_call c file

-- where there are two or more, one goes
abbrev pub IsKeyCall : Views → Certificate → Call → Type 0
IsKeyCall seen c call = IsNaming seen c call ⊎ (IsUnnaming seen c call ⊎ (IsUnfitDrop seen c call ⊎ (IsIdleDrop seen c call ⊎ (IsMaking seen c call ⊎ (2 ≤ length seen.next)))))

abbrev OfKeys : Views → Certificate → Act → Type 0
OfKeys seen c Nothing = Unit {0}
OfKeys seen c (Calls call) = IsKeyCall seen c call
OfKeys seen c (Asks order) = (is_issuing c ≡ true) × (seen.next ≡ [])
OfKeys seen c (Issue plan) = ⊥
OfKeys seen c (Temporary plan) = ⊥

-- ---- line by line

of_ask : (seen : Views) (c : Certificate) (desk : Desk) → is_issuing c ≡ true → seen.next ≡ [] → OfKeys seen c (ask_key c desk)
unfolding ask_key
of_ask seen c desk on none = (on, none)

of_reused : (seen : Views) (c : Certificate) (desk : Desk) (file : Option (List ℕ)) → is_issuing c ≡ true → seen.next ≡ [] → OfKeys seen c (keys.reused c desk file)
of_reused seen c desk None on none = of_ask seen c desk on none
of_reused seen c desk (Some file) on none =
    by_test (OfKeys seen c) (is_some (key_file_at file)) (if fits c.spec.key file then Calls (make_call c file) else Nothing) (ask_key c desk)
    (λ readable. by_test (OfKeys seen c) (fits c.spec.key file) (Calls (make_call c file)) Nothing (λ fit. inr (inr (inr (inr (inl (record { file = file; next = none; issuing = on; fitting = fit; is = refl })))))) (λ off. tt))
    (λ unread. of_ask seen c desk on none)

of_rotated : (seen : Views) (c : Certificate) (desk : Desk) (file : Option (List ℕ)) (rotation : Rotation) → is_issuing c ≡ true → seen.next ≡ [] → OfKeys seen c (keys.rotated c desk file rotation)
of_rotated seen c desk file Always on none = of_ask seen c desk on none
of_rotated seen c desk file Never on none = of_reused seen c desk file on none

of_only : (seen : Views) (c : Certificate) (k : SecretObject) → is_issuing c ≡ true → seen.next ≡ k ∷ [] → OfKeys seen c (keys.only_key c k)
unfolding name_call drop_call
of_only seen c k on one =
    by_test (OfKeys seen c) (has_fitting_key c.spec.key k) (if is_named c.status.next_key k then Nothing else name_call (Some k.meta.name) c) (drop_call k)
    (λ fit. by_test (OfKeys seen c) (is_named c.status.next_key k) Nothing (name_call (Some k.meta.name) c) (λ named. tt) (λ off. inl (record { key = k; next = one; issuing = on; fitting = fit; other = off; is = refl })))
    (λ off. inr (inr (inl (record { key = k; next = one; issuing = on; unfit = off; is = refl }))))

of_dropped : (seen : Views) (c : Certificate) (k : Option SecretObject) → 2 ≤ length seen.next → OfKeys seen c (keys.dropped k)
unfolding drop_call
of_dropped seen c None many = tt
of_dropped seen c (Some k) many = inr (inr (inr (inr (inr many))))

of_issued : (seen : Views) (c : Certificate) (desk : Desk) (next : List SecretObject) → is_issuing c ≡ true → seen.next ≡ next → OfKeys seen c (keys.while_issuing c desk seen.secret next)
of_issued seen c desk [] on are = of_rotated seen c desk (keys.target_key seen.secret) (key_rotation c.spec.key) on are
of_issued seen c desk (k ∷ []) on are = of_only seen c k on are
of_issued seen c desk (k ∷ j ∷ ks) on are = of_dropped seen c (find (λ o. not (is_named c.status.next_key o)) (k ∷ j ∷ ks)) (omega (arith, ap length are))

of_unnamed : (seen : Views) (c : Certificate) (name : Option (List ℕ)) → is_issuing c ≡ false → seen.next ≡ [] → c.status.next_key ≡ name → OfKeys seen c (keys.unnamed c name)
unfolding name_call
of_unnamed seen c None off none named = tt
of_unnamed seen c (Some name) off none named = inr (inl (record { name = name; next = none; idle = off; named = named; is = refl }))

of_idle : (seen : Views) (c : Certificate) (next : List SecretObject) → is_issuing c ≡ false → seen.next ≡ next → OfKeys seen c (keys.while_idle c next)
unfolding drop_call
of_idle seen c [] off are = of_unnamed seen c c.status.next_key off are refl
of_idle seen c (k ∷ ks) off are = inr (inr (inr (inl (record { key = k; others = ks; next = are; idle = off; is = refl }))))

of_keys : (seen : Views) (desk : Desk) (c : Certificate) → OfKeys seen c (keys.keys_for c desk seen.secret seen.next)
of_keys seen desk c =
    by_test (OfKeys seen c) (is_issuing c) (keys.while_issuing c desk seen.secret seen.next) (keys.while_idle c seen.next) (λ on. of_issued seen c desk seen.next on refl) (λ off. of_idle seen c seen.next off refl)

-- ---- the first call, and the question

first_by : (seen : Views) (c : Certificate) (does : Act) (call : Call) → OfKeys seen c does → IsFirstCall does call → IsKeyCall seen c call
first_by seen c Nothing call of first = absurd first
first_by seen c (Calls made) call of first = subst (IsKeyCall seen c) (sym first) of
first_by seen c (Asks order) call of first = absurd first
first_by seen c (Issue plan) call of first = absurd of
first_by seen c (Temporary plan) call of first = absurd of

pub record IsKeyManaging (seen : Views) (P : Certificate → Type 0) : Type 0 where
  pub certificate : Certificate
  pub sees : seen.certificate ≡ Some certificate
  pub so : P certificate

first_of : (seen : Views) (desk : Desk) (o : Option Certificate) (call : Call) → seen.certificate ≡ o → IsFirstCall (keys.keys_of o desk seen.secret seen.next) call → IsKeyManaging seen (λ c. IsKeyCall seen c call)
first_of seen desk None call sees first = absurd first
first_of seen desk (Some c) call sees first = record { certificate = c; sees = sees; so = first_by seen c (keys.keys_for c desk seen.secret seen.next) call (of_keys seen desk c) first }

pub first_key : (seen : Views) (desk : Desk) (call : Call) → IsFirstCall (key_manager seen desk) call → IsKeyManaging seen (λ c. IsKeyCall seen c call)
unfolding key_manager
first_key seen desk call first = first_of seen desk seen.certificate call refl first

asked_of : (seen : Views) (desk : Desk) (o : Option Certificate) (order : Order) → seen.certificate ≡ o → keys.keys_of o desk seen.secret seen.next ≡ Asks order → IsKeyManaging seen (λ c. (is_issuing c ≡ true) × (seen.next ≡ []))
asked_of seen desk None order sees asks = absurd (cc asks)
asked_of seen desk (Some c) order sees asks = record { certificate = c; sees = sees; so = subst (OfKeys seen c) asks (of_keys seen desk c) }

pub key_asked : (seen : Views) (desk : Desk) (order : Order) → key_manager seen desk ≡ Asks order → IsKeyManaging seen (λ c. (is_issuing c ≡ true) × (seen.next ≡ []))
unfolding key_manager
key_asked seen desk order asks = asked_of seen desk seen.certificate order refl asks
