-- What a role saw last and what it sees are of one run.
use Rattle.std.proofs.Common.{◌≡◌, ◌∙◌, ◌&&◌, ◌+◌, ℕ, ℤ, inr, ◌<◌, suc, zero, inl, List, [], ◌∷◌, length, get_or, slice_index_or, take, Option, Some, None, Bool, true, false, nat_eq, sym, ap, subst, arith}
use Rattle.std.proofs.lemmas.List.{take_more_same}
use Rattle.std.proofs.lemmas.Bool.Decides.{nat_tests}
use Rattle.std.specs.Prelude.{◌↔◌, IsTrue, IfSome, option_map, if◌then◌else◌}
use Rattle.cmc_meta.specs.declared.key.Key.{Key}
use Rattle.cmc_meta.specs.declared.key.Kind.{Kind}
use Rattle.cmc_meta.specs.Keys.{key_eq}
use Rattle.cmc_objects.specs.declared.certificate.Certificate.{Certificate}
use Rattle.cmc_objects.specs.declared.request.CertificateRequest.{CertificateRequest}
use Rattle.cmc_objects.specs.declared.secret.Secret.{Secret as SecretObject}
use Rattle.cmc_objects.specs.declared.object.Object.TheVariants.{Cert, Request, Secret}
use Rattle.cmc_objects.specs.declared.role.Role.{Role}
use Rattle.cmc_objects.specs.declared.entry.Who.{Who}
use Rattle.cmc_objects.specs.declared.entry.Who.TheVariants.{User, Pass}
use Rattle.cmc_objects.specs.declared.entry.Entry.{Entry}
use Rattle.cmc_objects.specs.declared.entry.Entry.TheVariants.{Call as Called, Begin, End, Start}
use Rattle.cmc_pass.specs.declared.pass.Views.{Views}
use Rattle.cmc_model.specs.declared.write.Write.{Write}
use Rattle.cmc_model.specs.Replies.{is_accepted, key_of_call, settled}
use Rattle.cmc_model.specs.Histories.{Setting, moment, state, accepted, role_eq}
use Rattle.cmc_model.specs.Writes.{writes, write_of}
use Rattle.cmc_rules.specs.declared.progress.Ending.{Ending}
use Rattle.cmc_rules.specs.declared.progress.LastPass.{LastPass}
use Rattle.cmc_rules.specs.declared.progress.Past.{Past}
use Rattle.cmc_rules.specs.Legality.{IsLegal}
use Rattle.cmc_rules.specs.Memory.{ending_of, no_past, past, past_called, with_begin, with_ending, with_own}
use Rattle.cmc_rules.specs.Passes.{is_pass_of, open_pass}
use Rattle.cmc_rules.specs.SeenObjects.{IsAmong}
use Rattle.cmc_rules.specs.Views.{views}
use Rattle.cmc_rules.proofs.Sighted.{AreKnown, version_has_one_object, views_known}
use Rattle.cmc_rules.proofs.Sights.{seen_certificate, seen_secret, seen_request, seen_next, seen_owned}
use Rattle.cmc_held.specs.OneRun.{AreOfOneRun, IsOfOneRun, VersionsTell, VersionsTellAll}

-- ---- what the last pass on a key saw is known

abbrev IsLastKnown : List Write → Past → Type 0
IsLastKnown ws past = IfSome past.last (λ (l : LastPass). AreKnown ws l.seen)

more_writes : (b : Bool) (w : Write) (ws : List Write) (last : Option LastPass) → IfSome last (λ (l : LastPass). AreKnown ws l.seen) → IfSome last (λ (l : LastPass). AreKnown (if b then w ∷ ws else ws) l.seen)
more_writes b w ws None known = tt
more_writes true w ws (Some l) known = λ o is. let there = known o is in (there.0, inr there.1)
more_writes false w ws (Some l) known = known

own_or_not : (b : Bool) (kind : Kind) (version : ℕ) (ws : List Write) (p : Past) → IsLastKnown ws p → IsLastKnown ws (if b then with_own kind version p else p)
own_or_not true kind version ws p known = known
own_or_not false kind version ws p known = known

after_call : (s : Setting) (h : List Entry) (r : Role) (k : Key) (p : Past) (who : Who) (kind : Kind) (written : Bool) (ws : List Write) → IsLastKnown ws p → IsLastKnown ws (past_called s h r k p who kind written)
after_call s h r k p User kind written ws known = known
after_call s h r k p (Pass pass) kind written ws known = own_or_not (written && is_pass_of r k (open_pass s h pass)) kind (accepted s h + 1) ws p known

after_begin : (b : Bool) (seen : Views) (now : ℤ) (ws : List Write) (p : Past) → AreKnown ws seen → IsLastKnown ws p → IsLastKnown ws (if b then with_begin seen now p else p)
after_begin true seen now ws p sees known = sees
after_begin false seen now ws p sees known = known

ended : (ending : Ending) (ws : List Write) (last : Option LastPass) → IfSome last (λ (l : LastPass). AreKnown ws l.seen)
    → IfSome (option_map (λ (l : LastPass). record l { ending = ending }) last) (λ (l : LastPass). AreKnown ws l.seen)
ended ending ws None known = tt
ended ending ws (Some l) known = known

after_end : (b : Bool) (ending : Ending) (ws : List Write) (p : Past) → IsLastKnown ws p → IsLastKnown ws (if b then with_ending ending p else p)
after_end true ending ws p known = ended ending ws p.last known
after_end false ending ws p known = known

after_start : (b : Bool) (ws : List Write) (p : Past) → IsLastKnown ws p → IsLastKnown ws (if b then no_past else p)
after_start true ws p known = tt
after_start false ws p known = known

last_known : (s : Setting) (h : List Entry) (r : Role) (k : Key) → IsLastKnown (writes s h) (past s h r k)
last_known s [] r k = tt
last_known s (Called who call reply ∷ h) r k =
    let p : Past = past_called s h r k (past s h r k) who (key_of_call call).kind (is_accepted reply) in
    more_writes (is_accepted reply) (write_of (moment s h) (state s h) (settled call reply)) (writes s h) p.last
    (after_call s h r k (past s h r k) who (key_of_call call).kind (is_accepted reply) (writes s h) (last_known s h r k))
last_known s (Begin pass role key at now ∷ h) r k =
    after_begin (role_eq role r && key_eq key k) (views s h role key) now (writes s h) (past s h r k) (views_known s h role key) (last_known s h r k)
last_known s (End pass cause ∷ h) r k = after_end (is_pass_of r k (open_pass s h pass)) (ending_of (open_pass s h pass)) (writes s h) (past s h r k) (last_known s h r k)
last_known s (Start role at ∷ h) r k = after_start (role_eq role r) (writes s h) (past s h r k) (last_known s h r k)
last_known s (other ∷ h) r k = last_known s h r k

of_one_run : (s : Setting) (h : List Entry) (r : Role) (k : Key) (last : Option LastPass) → IsLegal s h → IfSome last (λ (l : LastPass). AreKnown (writes s h) l.seen) → IsOfOneRun last (views s h r k)
of_one_run s h r k None legal known = tt
of_one_run s h r k (Some l) legal known = λ o p a b same.
    let x = known o a in
    let y = views_known s h r k p b in
    version_has_one_object s h x.0 y.0 o p legal x.1 y.1 same

pub saw_one_run : (s : Setting) (h : List Entry) (r : Role) (k : Key) → IsLegal s h → IsOfOneRun (past s h r k).last (views s h r k)
saw_one_run s h r k legal = of_one_run s h r k (past s h r k).last legal (last_known s h r k)

-- ---- versions tell the parts apart

pub certificates_tell : (l r : Views) → AreOfOneRun l r → VersionsTell (λ (c : Certificate). c.meta.version) l.certificate r.certificate
certificates_tell l r one = λ a b x y same. let o : Cert a ≡ Cert b = one (Cert a) (Cert b) (seen_certificate l a x) (seen_certificate r b y) same in cc o

pub secrets_tell : (l r : Views) → AreOfOneRun l r → VersionsTell (λ (k : SecretObject). k.meta.version) l.secret r.secret
secrets_tell l r one = λ a b x y same. let o : Secret a ≡ Secret b = one (Secret a) (Secret b) (seen_secret l a x) (seen_secret r b y) same in cc o

pub requests_tell : (l r : Views) → AreOfOneRun l r → VersionsTell (λ (q : CertificateRequest). q.meta.version) l.request r.request
requests_tell l r one = λ a b x y same. let o : Request a ≡ Request b = one (Request a) (Request b) (seen_request l a x) (seen_request r b y) same in cc o

pub next_tell : (l r : Views) → AreOfOneRun l r → VersionsTellAll (λ (k : SecretObject). k.meta.version) l.next r.next
next_tell l r one = λ a b x y same. let o : Secret a ≡ Secret b = one (Secret a) (Secret b) (seen_next l a x) (seen_next r b y) same in cc o

pub owned_tell : (l r : Views) → AreOfOneRun l r → VersionsTellAll (λ (q : CertificateRequest). q.meta.version) l.requests r.requests
owned_tell l r one = λ a b x y same. let o : Request a ≡ Request b = one (Request a) (Request b) (seen_owned l a x) (seen_owned r b y) same in cc o

-- the test of one part
pub by_version : {A : Type 0} (version : A → ℕ) (left right : Option A) (a b x y : A) → VersionsTell version left right → left ≡ Some a → right ≡ Some b → x ≡ a → y ≡ b
    → IsTrue (nat_eq (version x) (version y)) ↔ (left ≡ right)
by_version version left right a b x y tell l r p q = (
  λ on.
      let same : version x ≡ version y = grind (arith, nat_tests, on) in
      l ∙ ap Some (tell a b l r (sym (ap version p) ∙ same ∙ ap version q)) ∙ sym r,
  λ is.
      let one : Some a ≡ Some b = sym l ∙ is ∙ r in
      let both : a ≡ b = cc one in
      let same : version x ≡ version y = ap version (p ∙ both ∙ sym q) in
      grind (arith, nat_tests, same),
)

at_among : {A : Type 0} (xs : List A) (i : ℕ) (a : A) → i < length xs → get_or xs i a ≡ a → IsAmong a xs
at_among [] i a within is = absurd (omega (arith, within))
at_among (x ∷ xs) zero a within is = inl is
at_among (x ∷ xs) (suc i) a within is = inr (at_among xs i a (omega (arith, within)) is)

-- one item more of two lists is the same
pub next_same : {A : Type 0} (version : A → ℕ) (left right : List A) (i : ℕ) (a b x y : A) → VersionsTellAll version left right → i < length left → length left ≡ length right → take i left ≡ take i right
    → a ≡ slice_index_or left i a → b ≡ slice_index_or right i b → x ≡ a → y ≡ b → version x ≡ version y → take (i + 1) left ≡ take (i + 1) right
next_same version left right i a b x y tell within long so_far is_left is_right p q same =
    let l : get_or left i a ≡ a = grind (arith, is_left) in
    let r : get_or right i b ≡ b = grind (arith, is_right) in
    let there : i < length right = omega (arith, within, long) in
    let one : a ≡ b = tell a b (at_among left i a within l) (at_among right i b there r) (sym (ap version p) ∙ same ∙ ap version q) in
    take_more_same left right i a within there so_far (l ∙ sym (subst (λ z. get_or right i z ≡ z) (sym one) r))
