-- Steps of reading.
use Rattle.std.proofs.Common.{◌≡◌, Bool, true, false, cond, Result, Ok, Err, refl, inl, inr, ◌⊎◌}
use Rattle.cmc_der.specs.declared.reading.DerFault.{DerFault}
use Rattle.cmc_der.specs.declared.reading.DerFault.TheVariants.{Cut, NotDer}
use Rattle.cmc_der.specs.Elements.{◌>>=◌}

-- which way a test went
pub chosen : {A : Type 0} (b : Bool) (x y z : A) → cond b x y ≡ z → ((b ≡ true) × (x ≡ z)) ⊎ ((b ≡ false) × (y ≡ z))
chosen true x y z e = inl (refl, e)
chosen false x y z e = inr (refl, e)

pub bind_ok : {A B : Type 0} (r : Result A DerFault) (f : A → Result B DerFault) (y : B) → (r >>= f) ≡ Ok y → (x : A) × (r ≡ Ok x) × (f x ≡ Ok y)
bind_ok (Ok x) f y e = (x, refl, e)
bind_ok (Err d) f y e = absurd cc

abbrev failed : {B : Type 0} → DerFault → Result B DerFault
failed d = Err d

pub bind_err : {A B : Type 0} (r : Result A DerFault) (f : A → Result B DerFault) (d : DerFault) → (r >>= f) ≡ Err d → (r ≡ Err d) ⊎ ((x : A) × (r ≡ Ok x) × (f x ≡ Err d))
bind_err (Ok x) f d e = inr (x, refl, e)
bind_err (Err c) f d e = inl (cc)

-- what reading gives of an input, and of that input with more octets behind it
abbrev pub Goes : {A : Type 0} → (A → A) → Result A DerFault → Result A DerFault → Type 0
Goes f (Ok x) r = r ≡ Ok (f x)
Goes f (Err Cut) r = Unit {0}
Goes f (Err (NotDer p)) r = r ≡ Err (NotDer p)

pub Goes-bind : {A B : Type 0} (f : A → A) (g : B → B) (r s : Result A DerFault) (h : A → Result B DerFault) → Goes f r s → ((x : A) → Goes g (h x) (h (f x))) → Goes g (r >>= h) (s >>= h)
Goes-bind f g (Ok x) s h e k = rw e (k x)
Goes-bind f g (Err Cut) s h e k = tt
Goes-bind f g (Err (NotDer p)) s h e k = rw e refl

pub Goes-cond : {A : Type 0} (f : A → A) (b : Bool) (x y s t : Result A DerFault) → Goes f x s → Goes f y t → Goes f (cond b x y) (cond b s t)
Goes-cond f true x y s t p q = p
Goes-cond f false x y s t p q = q
