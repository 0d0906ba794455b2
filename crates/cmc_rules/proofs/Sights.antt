-- Parts of the views are seen.
use Rattle.std.proofs.Common.{◌≡◌, ◌⊎◌, Bool, true, false, cond, List, [], ◌∷◌, Option, Some, None, refl, sym, ap, subst, inl, inr}
use Rattle.std.specs.Prelude.{filter, find, if◌then◌else◌}
use Rattle.std.specs.List.{last_or}
use Rattle.cmc_objects.specs.declared.object.Object.{Object}
use Rattle.cmc_objects.specs.declared.certificate.Certificate.{Certificate}
use Rattle.cmc_objects.specs.declared.request.CertificateRequest.{CertificateRequest}
use Rattle.cmc_objects.specs.declared.secret.Secret.{Secret as SecretObject}
use Rattle.cmc_objects.specs.declared.object.Object.TheVariants.{Cert, Request, Secret}
use Rattle.cmc_pass.specs.declared.pass.Views.{Views}
use Rattle.cmc_rules.specs.SeenObjects.{IsAmong, IsPart, IsPartOf, IsSeen}

pub seen_certificate : (seen : Views) (c : Certificate) → seen.certificate ≡ Some c → IsSeen seen (Cert c)
seen_certificate seen c sees = inl (subst (λ (x : Option Certificate). IsPart Cert x (Cert c)) (sym sees) refl)

pub seen_secret : (seen : Views) (k : SecretObject) → seen.secret ≡ Some k → IsSeen seen (Secret k)
seen_secret seen k sees = inr (inl (subst (λ (x : Option SecretObject). IsPart Secret x (Secret k)) (sym sees) refl))

pub seen_request : (seen : Views) (r : CertificateRequest) → seen.request ≡ Some r → IsSeen seen (Request r)
seen_request seen r sees = inr (inr (inl (subst (λ (x : Option CertificateRequest). IsPart Request x (Request r)) (sym sees) refl)))

-- ---- one of a list

part_among : {A : Type 0} (kind : A → Object) (xs : List A) (a : A) → IsAmong a xs → IsPartOf kind xs (kind a)
part_among kind [] a among = absurd among
part_among kind (x ∷ xs) a (inl is) = inl (ap kind (sym is))
part_among kind (x ∷ xs) a (inr later) = inr (part_among kind xs a later)

pub seen_next : (seen : Views) (k : SecretObject) → IsAmong k seen.next → IsSeen seen (Secret k)
seen_next seen k among = inr (inr (inr (inl (part_among Secret seen.next k among))))

pub seen_owned : (seen : Views) (r : CertificateRequest) → IsAmong r seen.requests → IsSeen seen (Request r)
seen_owned seen r among = inr (inr (inr (inr (part_among Request seen.requests r among))))

-- what a search finds stands in the list
found_by : {A : Type 0} (b : Bool) (f : A → Bool) (x : A) (xs : List A) (a : A) → (if b then Some x else find f xs) ≡ Some a → (find f xs ≡ Some a → IsAmong a xs) → IsAmong a (x ∷ xs)
found_by true f x xs a is later = inl (cc is)
found_by false f x xs a is later = inr (later is)

pub found_among : {A : Type 0} (f : A → Bool) (xs : List A) (a : A) → find f xs ≡ Some a → IsAmong a xs
found_among f [] a is = absurd (cc is)
found_among f (x ∷ xs) a is = found_by (f x) f x xs a is (found_among f xs a)

-- and so does what a filter leaves
left_by : {A : Type 0} (b : Bool) (x : A) (some rest : List A) (a : A) → IsAmong a (cond b (x ∷ some) some) → (IsAmong a some → IsAmong a rest) → IsAmong a (x ∷ rest)
left_by true x some rest a (inl is) later = inl is
left_by true x some rest a (inr there) later = inr (later there)
left_by false x some rest a there later = inr (later there)

pub left_among : {A : Type 0} (f : A → Bool) (xs : List A) (a : A) → IsAmong a (filter f xs) → IsAmong a xs
left_among f [] a there = there
left_among f (x ∷ xs) a there = left_by (f x) x (filter f xs) xs a there (left_among f xs a)

-- and the last one
last_from : {A : Type 0} (o : Option A) (xs : List A) (a : A) → last_or o xs ≡ Some a → (o ≡ Some a) ⊎ IsAmong a xs
last_from o [] a is = inl is
last_from o (x ∷ xs) a is = or_later (last_from (Some x) xs a is) where
  or_later : (Some x ≡ Some a) ⊎ IsAmong a xs → (o ≡ Some a) ⊎ IsAmong a (x ∷ xs)
  or_later (inl here) = inr (inl (cc here))
  or_later (inr there) = inr (inr there)

pub last_among : {A : Type 0} (xs : List A) (a : A) → last_or None xs ≡ Some a → IsAmong a xs
last_among xs a is = of (last_from None xs a is) where
  of : (None ≡ Some a) ⊎ IsAmong a xs → IsAmong a xs
  of (inl none) = absurd (cc none)
  of (inr there) = there
