-- No question of a run leaves its value open, where no row of the setting does.
use Rattle.std.proofs.Common.{◌≡◌, ℕ, ℤ, List, [], ◌∷◌, Option, Some, None, Bool, true, false, refl, sym, ap, subst, ◌∙◌}
use Rattle.std.specs.Prelude.{◌≢◌, if◌then◌else◌, not, is_some}
use Rattle.std.specs.List.{list_all, find}
use Rattle.std.proofs.lemmas.Bool.{and_parts}
use Rattle.cmc_x509.specs.ReadKeys.{key_file_at}
use Rattle.cmc_objects.specs.declared.certificate.Certificate.{Certificate}
use Rattle.cmc_objects.specs.declared.key_spec.Rotation.{Rotation}
use Rattle.cmc_objects.specs.declared.key_spec.Rotation.TheVariants.{Always, Never}
use Rattle.cmc_objects.specs.declared.request.CertificateRequest.{CertificateRequest}
use Rattle.cmc_objects.specs.declared.secret.Secret.{Secret as SecretObject}
use Rattle.cmc_objects.specs.declared.object.Object.TheVariants.{Cert}
use Rattle.cmc_objects.specs.declared.orders.Order.{Order}
use Rattle.cmc_objects.specs.declared.orders.Order.TheVariants as orders
use Rattle.cmc_objects.specs.declared.role.Role.{Role}
use Rattle.cmc_objects.specs.declared.role.Role.TheVariants as roles
use Rattle.cmc_objects.specs.declared.rows.KeyRow.{KeyRow}
use Rattle.cmc_objects.specs.declared.rows.KeyRow.TheVariants as rows
use Rattle.cmc_objects.specs.declared.rows.SignRow.{SignRow}
use Rattle.cmc_objects.specs.declared.rows.SignRow.TheVariants as replies
use Rattle.cmc_objects.specs.declared.entry.Entry.{Entry}
use Rattle.cmc_objects.specs.declared.entry.Entry.TheVariants.{Ask}
use Rattle.cmc_objects.specs.Defaults.{key_rotation}
use Rattle.cmc_objects.specs.Objects.{key_of}
use Rattle.cmc_objects.specs.Requests.{is_denied}
use Rattle.cmc_answers.specs.Answers.{is_left_open}
use Rattle.cmc_match.specs.Facts.{fits}
use Rattle.cmc_setup.specs.Forms.{is_said, is_bound_key, is_bound_entry}
use Rattle.cmc_pass.specs.declared.pass.Views.{Views}
use Rattle.cmc_pass.specs.declared.pass.Desk.{Desk}
use Rattle.cmc_pass.specs.declared.pass.Act.{Act}
use Rattle.cmc_pass.specs.declared.pass.Act.TheVariants.{Nothing, Call as Calls, Ask as Asks, Issue, Temporary}
use Rattle.cmc_model.specs.Histories.{Setting}
use Rattle.cmc_model.specs.Writes.{writes}
use Rattle.cmc_rules.specs.declared.progress.OpenPass.{OpenPass}
use Rattle.cmc_rules.specs.declared.progress.Stage.{Stage}
use Rattle.cmc_rules.specs.declared.progress.Stage.TheVariants.{Fresh, Asked, Given, Read, Saved, Wrote, Refused, Barred}
use Rattle.cmc_rules.specs.Acts.{act}
use Rattle.cmc_rules.specs.Desks.{desk}
use Rattle.cmc_rules.specs.Trigger.{is_issuing}
use Rattle.cmc_rules.specs.KeyManager.{key_order, ask_key, make_call, drop_call, name_call, reused, rotated, only_key, dropped, while_issuing, unnamed, while_idle, keys_of, key_manager, target_key}
use Rattle.cmc_rules.specs.NextKeys.{is_named, has_fitting_key}
use Rattle.cmc_rules.specs.Issuer.{certificate_of, has_reason, is_open, is_request_waiting, sign_order, ask_issuer, deny, grant, grant_of, issuer}
use Rattle.cmc_rules.specs.Passes.{open_pass}
use Rattle.cmc_rules.specs.Legality.{IsLegal}
use Rattle.cmc_rules.specs.Causes.{act_of, IsAsked, AsksBy, MayAsk, IsCaused}
use Rattle.cmc_rules.specs.Sound.{IsQuestion}
use Rattle.cmc_rules.proofs.Replies.{key_row_fits, reply_row_fits}
use Rattle.cmc_rules.proofs.WellSeen.{SawAll, saw_all}
use Rattle.cmc_safety.proofs.Course.{of_open, question_of}
use Rattle.cmc_moves.proofs.Sounds.{each_sound}
use Rattle.cmc_world.specs.Histories.{IsBound, HasNoFree}

-- ---- by the rows

abbrev AreRowsBound : Desk → Type 0
AreRowsBound desk = list_all is_bound_entry desk.material ≡ true

says_key : (row : KeyRow) → is_bound_key row ≡ true → row ≢ rows.Free
says_key row is same = let open_row : is_bound_key rows.Free ≡ true = ap is_bound_key (sym same) ∙ is in cc open_row

says_answer : (row : SignRow) → is_said row ≡ true → is_left_open row ≡ false
says_answer replies.Free is = absurd (cc is)
says_answer other is = refl

abbrev BoundAct : Act → Type 0
BoundAct (Asks order) = IsBound order
BoundAct other = Unit {0}

bound_if : (b : Bool) (x y : Act) → BoundAct x → BoundAct y → BoundAct (if b then x else y)
bound_if true x y first second = first
bound_if false x y first second = second

-- ---- the key manager

asks_key : (c : Certificate) (d : Desk) → AreRowsBound d → BoundAct (ask_key c d)
unfolding ask_key key_order
asks_key c d bound =
    says_key _ (key_row_fits is_bound_key is_bound_entry d.material (key_of (Cert c)) d.asked refl (λ e is. (and_parts (list_all is_bound_key e.1.keys) (list_all is_said e.1.replies) is).0) bound)

names : (name : Option (List ℕ)) (c : Certificate) → BoundAct (name_call name c)
unfolding name_call
names name c = tt

drops : (k : SecretObject) → BoundAct (drop_call k)
unfolding drop_call
drops k = tt

reuses : (c : Certificate) (d : Desk) (file : Option (List ℕ)) → AreRowsBound d → BoundAct (reused c d file)
reuses c d None bound = asks_key c d bound
reuses c d (Some file) bound =
    bound_if (is_some (key_file_at file)) _ (ask_key c d) (bound_if (fits c.spec.key file) (Calls (make_call c file)) Nothing tt tt) (asks_key c d bound)

rotates : (c : Certificate) (d : Desk) (file : Option (List ℕ)) (rotation : Rotation) → AreRowsBound d → BoundAct (rotated c d file rotation)
rotates c d file Always bound = asks_key c d bound
rotates c d file Never bound = reuses c d file bound

keeps_one : (c : Certificate) (k : SecretObject) → BoundAct (only_key c k)
keeps_one c k = bound_if (has_fitting_key c.spec.key k) _ (drop_call k) (bound_if (is_named c.status.next_key k) Nothing (name_call (Some k.meta.name) c) tt (names (Some k.meta.name) c)) (drops k)

drops_one : (k : Option SecretObject) → BoundAct (dropped k)
drops_one None = tt
drops_one (Some k) = drops k

issues : (c : Certificate) (d : Desk) (target : Option SecretObject) (next : List SecretObject) → AreRowsBound d → BoundAct (while_issuing c d target next)
issues c d target [] bound = rotates c d (target_key target) (key_rotation c.spec.key) bound
issues c d target (k ∷ []) bound = keeps_one c k
issues c d target (k ∷ j ∷ ks) bound = drops_one (find (λ o. not (is_named c.status.next_key o)) (k ∷ j ∷ ks))

unnames : (c : Certificate) (name : Option (List ℕ)) → BoundAct (unnamed c name)
unnames c None = tt
unnames c (Some name) = names None c

idles : (c : Certificate) (next : List SecretObject) → BoundAct (while_idle c next)
idles c [] = unnames c c.status.next_key
idles c (k ∷ ks) = drops k

of_certificate : (c : Option Certificate) (d : Desk) (target : Option SecretObject) (next : List SecretObject) → AreRowsBound d → BoundAct (keys_of c d target next)
of_certificate None d target next bound = tt
of_certificate (Some c) d target next bound = bound_if (is_issuing c) (while_issuing c d target next) (while_idle c next) (issues c d target next bound) (idles c next)

manages : (views : Views) (d : Desk) → AreRowsBound d → BoundAct (key_manager views d)
unfolding key_manager
manages views d bound = of_certificate views.certificate d views.secret views.next bound

-- ---- the issuer

asks_issuer : (moment : ℤ) (d : Desk) (r : CertificateRequest) → AreRowsBound d → BoundAct (ask_issuer moment d r)
unfolding ask_issuer sign_order
asks_issuer moment d r bound =
    says_answer _ (reply_row_fits is_said is_bound_entry d.material (certificate_of r) d.asked refl (λ e is. (and_parts (list_all is_bound_key e.1.keys) (list_all is_said e.1.replies) is).1) bound)

denies : (moment : ℤ) (r : CertificateRequest) → BoundAct (deny moment r)
denies moment r = bound_if (has_reason _ r) Nothing _ tt tt

of_request : (moment : ℤ) (d : Desk) (r : Option CertificateRequest) → AreRowsBound d → BoundAct (grant_of moment d r)
of_request moment d None bound = tt
of_request moment d (Some r) bound =
    bound_if (is_denied r) (deny moment r) (grant moment d r) (denies moment r)
    (bound_if (is_open r) (if is_request_waiting moment r then Nothing else ask_issuer moment d r) Nothing (bound_if (is_request_waiting moment r) Nothing (ask_issuer moment d r) tt (asks_issuer moment d r bound)) tt)

grants : (views : Views) (moment : ℤ) (d : Desk) → AreRowsBound d → BoundAct (issuer views moment d)
unfolding issuer
grants views moment d bound = of_request moment d views.request bound

-- ---- each question

asked_bound : (does : Act) (order : Order) → BoundAct does → IsAsked does order → IsBound order
asked_bound (Asks asked) order bound is = subst IsBound (sym is) bound
asked_bound Nothing order bound is = absurd is
asked_bound (Calls call) order bound is = absurd is
asked_bound (Issue plan) order bound is = absurd is
asked_bound (Temporary plan) order bound is = absurd is

by_act : (stage : Stage) (does : Act) (order : Order) → BoundAct does → AsksBy stage does order → IsBound order
by_act Fresh does order bound is = asked_bound does order bound is
by_act (Asked asked) does order bound is = absurd is
by_act (Given asked value) does order bound is = absurd is
by_act Read does order bound is = absurd is
by_act Saved does order bound is = absurd is
by_act Wrote does order bound is = absurd is
by_act (Refused entry obstacle) does order bound is = absurd is
by_act Barred does order bound is = absurd is

key_act : (role : Role) (seen : Views) (now : ℤ) (d : Desk) → role ≡ roles.KeyManager → AreRowsBound d → BoundAct (act role seen now d)
unfolding act
key_act role seen now d is bound = subst (λ (r : Role). BoundAct (act r seen now d)) (sym is) (manages seen d bound)

issuer_act : (role : Role) (seen : Views) (now : ℤ) (d : Desk) → role ≡ roles.Issuer → AreRowsBound d → BoundAct (act role seen now d)
unfolding act
issuer_act role seen now d is bound = subst (λ (r : Role). BoundAct (act r seen now d)) (sym is) (grants seen now d bound)

order_bound : (s : Setting) (h : List Entry) (p : OpenPass) (order : Order) → AreRowsBound (desk s h p.role p.seen) → IsQuestion p.role p.seen order → AsksBy p.stage (act_of s h p) order → IsBound order
order_bound s h p (orders.Key order) bound question asks = by_act p.stage (act_of s h p) (orders.Key order) (key_act p.role p.seen p.since (desk s h p.role p.seen) question.0 bound) asks
order_bound s h p (orders.Sign order) bound question asks = by_act p.stage (act_of s h p) (orders.Sign order) (issuer_act p.role p.seen p.since (desk s h p.role p.seen) question.0 bound) asks
order_bound s h p (orders.Csr order) bound question asks = tt
order_bound s h p (orders.Judge order) bound question asks = tt

ask_bound : (s : Setting) (h : List Entry) (n : ℕ) (x : Option OpenPass) (order : Order) → list_all is_bound_entry s.material ≡ true → open_pass s h n ≡ x → IsLegal s h → MayAsk s h x order → IsBound order
ask_bound s h n None order bound opened legal may = absurd may
ask_bound s h n (Some p) order bound opened legal may =
    let saw : SawAll (writes s h) p = of_open (SawAll (writes s h)) (open_pass s h n) p opened (saw_all s h n legal) in
    order_bound s h p order bound (question_of each_sound s h n p order saw may).question may

pub none_free : (s : Setting) (h : List Entry) → list_all is_bound_entry s.material ≡ true → IsLegal s h → IsCaused s h → HasNoFree h
unfolding IsLegal IsCaused
none_free s [] bound legal caused = tt
none_free s (Ask pass order ∷ h) bound legal caused = (ask_bound s h pass (open_pass s h pass) order bound refl legal.1 caused.0, none_free s h bound legal.1 caused.1)
none_free s (other ∷ h) bound legal caused = (tt, none_free s h bound legal.1 caused.1)
