-- The last write of each kind, as writes are added.
use Rattle.std.proofs.Common.{◌≡◌, ℕ, ◌+◌, List, [], ◌∷◌, ◌++◌, length, refl, sym, ap, ◌∙◌, arith}
use Rattle.std.proofs.lemmas.List.{length-reverse, reverse-append}
use Rattle.std.specs.Prelude.{if◌then◌else◌, reverse, Result, Ok, Err, IsOk, is_ok}
use Rattle.cmc_meta.specs.declared.key.Kind.{Kind}
use Rattle.cmc_meta.specs.declared.key.Kind.TheVariants.{Certificate, CertificateRequest, Secret}
use Rattle.cmc_objects.specs.declared.entry.Positions.{Positions}
use Rattle.cmc_model.specs.declared.write.Write.{Write}
use Rattle.cmc_model.specs.Writes.{kind_eq, last_of_kind}
use Rattle.cmc_rules.specs.Memory.{with_position}
use Rattle.cmc_rules.specs.Positions.{position_of}

-- for each kind the version of its last write stands
abbrev pub AreLast : Positions → List Write → Type 0
AreLast last ws = (kind : Kind) → position_of kind last ≡ last_of_kind kind ws

pub none_last : AreLast (record { certificates = 0; requests = 0; secrets = 0 }) []
unfolding last_of_kind
none_last Certificate = refl
none_last CertificateRequest = refl
none_last Secret = refl

placed : (written kind : Kind) (n : ℕ) (last : Positions) → position_of kind (with_position written n last) ≡ (if kind_eq written kind then n else position_of kind last)
placed Certificate Certificate n last = refl
placed Certificate CertificateRequest n last = refl
placed Certificate Secret n last = refl
placed CertificateRequest Certificate n last = refl
placed CertificateRequest CertificateRequest n last = refl
placed CertificateRequest Secret n last = refl
placed Secret Certificate n last = refl
placed Secret CertificateRequest n last = refl
placed Secret Secret n last = refl

one_more : (kind : Kind) (w : Write) (ws : List Write) → (if kind_eq w.key.kind kind then length ws + 1 else last_of_kind kind ws) ≡ last_of_kind kind (w ∷ ws)
unfolding last_of_kind
one_more kind w ws =
    let count : length ws + 1 ≡ length (w ∷ ws) = omega arith in
    ap (λ (m : ℕ). if kind_eq w.key.kind kind then m else last_of_kind kind ws) count

-- one write more, the newest
pub last_pushed : (last new : Positions) (items more : List Write) (w : Write) (n : ℕ) → more ≡ items ++ w ∷ [] → n ≡ length items + 1 → new ≡ with_position w.key.kind n last
    → AreLast last (reverse items) → AreLast new (reverse more)
last_pushed last new items more w n is count set before kind =
    ap (position_of kind) set
    ∙ placed w.key.kind kind n last
    ∙ ap (λ (m : ℕ). if kind_eq w.key.kind kind then n else m) (before kind)
    ∙ ap (λ (m : ℕ). if kind_eq w.key.kind kind then m else last_of_kind kind (reverse items)) (count ∙ ap (λ (m : ℕ). m + 1) (sym (length-reverse items)))
    ∙ one_more kind w (reverse items)
    ∙ ap (last_of_kind kind) (sym (ap reverse is ∙ reverse-append items (w ∷ [])))

-- what stands where a push was made
pub if_ok : {A E X : Type 0} (r : Result A E) (x y : X) → IsOk r → (if is_ok r then x else y) ≡ x
if_ok (Ok a) x y done = refl
if_ok (Err e) x y done = absurd (cc done)
