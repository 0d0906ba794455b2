-- The table of the key manager, line by line.
use Rattle.std.proofs.Common.{◌≡◌, ℕ, ℤ, List, [], ◌∷◌, Option, Some, None, Bool, true, false, not, refl, ap, inl}
use Rattle.std.specs.Prelude.{find, is_some}
use Rattle.cmc_x509.specs.ReadKeys.{key_file_at}
use Rattle.cmc_objects.specs.declared.certificate.Certificate.{Certificate}
use Rattle.cmc_objects.specs.declared.secret.Secret.{Secret as SecretObject}
use Rattle.cmc_objects.specs.declared.key_spec.Algorithm.{Algorithm}
use Rattle.cmc_objects.specs.declared.key_spec.Algorithm.TheVariants.{Rsa, Ecdsa}
use Rattle.cmc_objects.specs.declared.key_spec.Rotation.{Rotation}
use Rattle.cmc_objects.specs.declared.key_spec.Rotation.TheVariants.{Always, Never}
use Rattle.cmc_objects.specs.declared.object.Object.TheVariants.{Cert}
use Rattle.cmc_objects.specs.declared.orders.Order.TheVariants as orders
use Rattle.cmc_objects.specs.declared.role.Role.TheVariants.{KeyManager}
use Rattle.cmc_objects.specs.Defaults.{key_algorithm, key_size, key_rotation}
use Rattle.cmc_keys.specs.Kinds.{allows_size}
use Rattle.cmc_match.specs.Facts.{fits}
use Rattle.cmc_model.specs.Admission.{is_size_of, certificate_rules}
use Rattle.cmc_model.proofs.Admission.{all_pass}
use Rattle.cmc_pass.specs.declared.pass.Views.{Views}
use Rattle.cmc_pass.specs.declared.pass.Desk.{Desk}
use Rattle.cmc_pass.specs.declared.pass.Act.{Act}
use Rattle.cmc_pass.specs.declared.pass.Act.TheVariants.{Nothing}
use Rattle.cmc_pass.specs.declared.value.Value.{Value}
use Rattle.cmc_pass.specs.declared.value.Value.TheVariants.{Made, Signed, Answered, Judged}
use Rattle.cmc_pass.specs.Values.{IsValue}
use Rattle.cmc_rules.specs.Admitted.{MeetsRules}
use Rattle.cmc_rules.specs.Trigger.{is_issuing}
use Rattle.cmc_rules.specs.NextKeys.{is_named, has_fitting_key}
use Rattle.cmc_rules.specs.KeyManager.{drop_call, make_call, key_order, ask_key, target_key, reused, rotated, only_key, dropped, while_issuing, unnamed, while_idle, keys_of, key_manager, kept_for, key_after}
use Rattle.cmc_rules.specs.SeenObjects.{IsAmong, IsWellSeen}
use Rattle.cmc_rules.specs.Sound.{IsFollowed, IsWithin}
use Rattle.cmc_rules.proofs.Sights.{seen_certificate, found_among}
use Rattle.cmc_rules.proofs.Lines.{by_test, by_both}
use Rattle.cmc_keymanager.proofs.Writes.{naming, dropping, making, making_given}

-- the lines that are reached with a Certificate
record IsReached (seen : Views) (c : Certificate) : Type 0 where
  well : IsWellSeen seen
  sees : seen.certificate ≡ Some c

abbrev Is : Views → ℤ → Act → Type 0
Is seen now a = IsWithin KeyManager (key_after seen now) seen now a

-- ---- the question: a key of a size that there is

not_false : (b : Bool) → not b ≡ false → b ≡ true
not_false true is = refl
not_false false is = absurd (cc is)

same_sizes : (algorithm : Algorithm) (size : ℕ) → is_size_of algorithm size ≡ true → allows_size algorithm size ≡ true
same_sizes Rsa size is = is
same_sizes Ecdsa size is = is

allowed : (c : Certificate) → MeetsRules (Cert c) → allows_size (key_algorithm c.spec.key) (key_size c.spec.key) ≡ true
allowed c meets =
    let size = (all_pass (certificate_rules c false) meets).1.1.1.1.1.0 in
    same_sizes (key_algorithm c.spec.key) (key_size c.spec.key) (not_false (is_size_of (key_algorithm c.spec.key) (key_size c.spec.key)) size)

followed : (seen : Views) (now : ℤ) (c : Certificate) (desk : Desk) → seen.certificate ≡ Some c → (value : Value) → IsValue (orders.Key (key_order c desk)) value
    → IsFollowed KeyManager (key_after seen now) seen now (orders.Key (key_order c desk)) value
unfolding key_after
followed seen now c desk sees (Made file) right =
    record { call = make_call c file; follows = ap (λ (o : Option Certificate). kept_for o (Made file)) sees; on = making_given seen now (Made file) c file }
followed seen now c desk sees (Signed signature) right = absurd right
followed seen now c desk sees (Answered answer) right = absurd right
followed seen now c desk sees (Judged approved) right = absurd right

size_of : (c : Certificate) (desk : Desk) → MeetsRules (Cert c) → allows_size (key_order c desk).algorithm (key_order c desk).size ≡ true
unfolding key_order
size_of c desk meets = allowed c meets

asked : (seen : Views) (now : ℤ) (c : Certificate) (desk : Desk) → IsReached seen c → Is seen now (ask_key c desk)
unfolding ask_key
asked seen now c desk r = ((refl, size_of c desk (r.well.admitted (Cert c) (seen_certificate seen c r.sees))), followed seen now c desk r.sees)

-- ---- each act is within

reused_is : (seen : Views) (now : ℤ) (c : Certificate) (desk : Desk) (file : Option (List ℕ)) → IsReached seen c → Is seen now (reused c desk file)
reused_is seen now c desk None r = asked seen now c desk r
reused_is seen now c desk (Some file) r =
    by_test (Is seen now) (is_some (key_file_at file)) _ _
    (λ on. by_test (Is seen now) (fits c.spec.key file) _ _ (λ fit. making seen now c file) (λ off. tt))
    (λ off. asked seen now c desk r)

rotated_is : (seen : Views) (now : ℤ) (c : Certificate) (desk : Desk) (file : Option (List ℕ)) (rotation : Rotation) → IsReached seen c → Is seen now (rotated c desk file rotation)
rotated_is seen now c desk file Always r = asked seen now c desk r
rotated_is seen now c desk file Never r = reused_is seen now c desk file r

drop_is : (seen : Views) (now : ℤ) (c : Certificate) (k : SecretObject) → IsReached seen c → IsAmong k seen.next → Is seen now (drop_call k)
drop_is seen now c k r among = dropping seen now k among (r.well.labelled k among)

only_is : (seen : Views) (now : ℤ) (c : Certificate) (k : SecretObject) → IsReached seen c → IsAmong k seen.next → Is seen now (only_key c k)
only_is seen now c k r among =
    by_test (Is seen now) (has_fitting_key c.spec.key k) _ _
    (λ fit. by_test (Is seen now) (is_named c.status.next_key k) _ _ (λ on. tt) (λ off. naming seen now (Some k.meta.name) c r.sees))
    (λ off. drop_is seen now c k r among)

dropped_is : (seen : Views) (now : ℤ) (c : Certificate) (o : Option SecretObject) → IsReached seen c → ((k : SecretObject) → o ≡ Some k → IsAmong k seen.next) → Is seen now (dropped o)
dropped_is seen now c None r among = tt
dropped_is seen now c (Some k) r among = drop_is seen now c k r (among k refl)

issuing_is : (seen : Views) (now : ℤ) (c : Certificate) (desk : Desk) (target : Option SecretObject) (next : List SecretObject) → IsReached seen c
    → ((k : SecretObject) → IsAmong k next → IsAmong k seen.next) → Is seen now (while_issuing c desk target next)
issuing_is seen now c desk target [] r there = rotated_is seen now c desk (target_key target) (key_rotation c.spec.key) r
issuing_is seen now c desk target (k ∷ []) r there = only_is seen now c k r (there k (inl refl))
issuing_is seen now c desk target (k ∷ j ∷ ks) r there =
    let other : SecretObject → Bool = λ o. not (is_named c.status.next_key o) in
    dropped_is seen now c (find other (k ∷ j ∷ ks)) r (λ o is. there o (found_among other (k ∷ j ∷ ks) o is))

unnamed_is : (seen : Views) (now : ℤ) (c : Certificate) (name : Option (List ℕ)) → IsReached seen c → Is seen now (unnamed c name)
unnamed_is seen now c None r = tt
unnamed_is seen now c (Some name) r = naming seen now None c r.sees

idle_is : (seen : Views) (now : ℤ) (c : Certificate) (next : List SecretObject) → IsReached seen c → ((k : SecretObject) → IsAmong k next → IsAmong k seen.next)
    → Is seen now (while_idle c next)
idle_is seen now c [] r there = unnamed_is seen now c c.status.next_key r
idle_is seen now c (k ∷ ks) r there = drop_is seen now c k r (there k (inl refl))

of_is : (seen : Views) (now : ℤ) (o : Option Certificate) (desk : Desk) → IsWellSeen seen → seen.certificate ≡ o → Is seen now (keys_of o desk seen.secret seen.next)
of_is seen now None desk well sees = tt
of_is seen now (Some c) desk well sees =
    let r : IsReached seen c = record { well = well; sees = sees } in
    by_test (Is seen now) (is_issuing c) _ _ (λ on. issuing_is seen now c desk seen.secret seen.next r (λ k among. among)) (λ off. idle_is seen now c seen.next r (λ k among. among))

pub within : (seen : Views) (now : ℤ) (desk : Desk) → IsWellSeen seen → Is seen now (key_manager seen desk)
unfolding key_manager
within seen now desk well = of_is seen now seen.certificate desk well refl

-- ---- whether there is something to do does not hang on the desk

abbrev Stays : Act → Act → Type 0
Stays a b = a ≡ Nothing → b ≡ Nothing

asks : (c : Certificate) (d e : Desk) → Stays (ask_key c d) (ask_key c e)
unfolding ask_key
asks c d e is = absurd (cc is)

reused_stays : (c : Certificate) (d e : Desk) (file : Option (List ℕ)) → Stays (reused c d file) (reused c e file)
reused_stays c d e None = asks c d e
reused_stays c d e (Some file) = by_both Stays (is_some (key_file_at file)) _ _ _ _ (λ on is. is) (λ off. asks c d e)

rotated_stays : (c : Certificate) (d e : Desk) (file : Option (List ℕ)) (rotation : Rotation) → Stays (rotated c d file rotation) (rotated c e file rotation)
rotated_stays c d e file Always = asks c d e
rotated_stays c d e file Never = reused_stays c d e file

issuing_stays : (c : Certificate) (d e : Desk) (target : Option SecretObject) (next : List SecretObject) → Stays (while_issuing c d target next) (while_issuing c e target next)
issuing_stays c d e target [] = rotated_stays c d e (target_key target) (key_rotation c.spec.key)
issuing_stays c d e target (k ∷ []) = λ is. is
issuing_stays c d e target (k ∷ j ∷ ks) = λ is. is

of_stays : (o : Option Certificate) (d e : Desk) (target : Option SecretObject) (next : List SecretObject) → Stays (keys_of o d target next) (keys_of o e target next)
of_stays None d e target next = λ is. is
of_stays (Some c) d e target next = by_both Stays (is_issuing c) _ _ _ _ (λ on. issuing_stays c d e target next) (λ off is. is)

pub stays : (seen : Views) (d e : Desk) → key_manager seen d ≡ Nothing → key_manager seen e ≡ Nothing
unfolding key_manager
stays seen d e is = of_stays seen.certificate d e seen.secret seen.next is

-- ---- nothing without a Certificate

pub none : (seen : Views) (desk : Desk) → seen.certificate ≡ None → key_manager seen desk ≡ Nothing
unfolding key_manager
none seen desk is = ap (λ (o : Option Certificate). keys_of o desk seen.secret seen.next) is
