-- In a run nothing fails at any entry, where each entry is read up to itself.
use Rattle.std.proofs.Common.{◌≡◌, ◌⊎◌, ℕ, ◌+◌, List, [], ◌∷◌, Option, Some, None, Bool, true, false, MatchBool, refl, sym, ap, subst, inl, inr}
use Rattle.cmc_meta.specs.declared.key.Key.{Key}
use Rattle.cmc_objects.specs.declared.object.Object.{Object}
use Rattle.cmc_objects.specs.declared.object.Object.TheVariants.{Request}
use Rattle.cmc_objects.specs.declared.request.CertificateRequest.{CertificateRequest}
use Rattle.cmc_objects.specs.declared.call.Call.{Call}
use Rattle.cmc_objects.specs.declared.orders.Order.{Order}
use Rattle.cmc_objects.specs.declared.orders.Order.TheVariants as orders
use Rattle.cmc_objects.specs.declared.entry.Who.TheVariants.{User, Pass}
use Rattle.cmc_objects.specs.declared.entry.Entry.{Entry}
use Rattle.cmc_objects.specs.declared.entry.Entry.TheVariants.{Call as Called, Ask, Judged}
use Rattle.cmc_objects.specs.Objects.{key_of}
use Rattle.cmc_model.specs.Objects.{object_at}
use Rattle.cmc_model.specs.Replies.{is_accepted, key_of_call, settled, stored}
use Rattle.cmc_model.specs.Histories.{Setting, moment, objects, accepted}
use Rattle.cmc_rules.specs.declared.progress.OpenPass.{OpenPass}
use Rattle.cmc_rules.specs.UserSteps.{Follows}
use Rattle.cmc_rules.specs.Legality.{IsLegal, IsLegalEntry}
use Rattle.cmc_rules.specs.Passes.{open_pass}
use Rattle.cmc_rules.specs.Rights.{MayChange, IsRightful, IsRightfulEntry}
use Rattle.cmc_rules.specs.Safety.{AreSafe, IsSafeEntry, LastAsks, AsksToApprove, IsJudgedYes}
use Rattle.cmc_rules.proofs.Versions.{stands_is_version, version_keyed}
use Rattle.cmc_safety.specs.Formed.{IsFormed}
use Rattle.cmc_audit_clauses.specs.declared.clause.Clause.{Clause}
use Rattle.cmc_audit_clauses.specs.declared.clause.Clause.TheVariants as clauses
use Rattle.cmc_audit_clauses.specs.Clauses.{IsRightReply, AsksAbout, IsJudgedOn, IsGoodQuestion, Holds}
use Rattle.cmc_audit_steps.specs.Steps.{IsClean}
use Rattle.cmc_audit_laws.proofs.Issues.{Earlier, below, good_issue, good_question}
use Rattle.cmc_audit_laws.proofs.Placed.{HaveSeconds, placed}

-- ---- reply

replied : (s : Setting) (h : List Entry) (e : Entry) → IsLegalEntry s h e → IsRightReply s h e
replied s h (Called who call reply) legal = legal.0
replied s h other legal = tt

-- ---- issue

changed : (b : Bool) (A : Type 0) → b ≡ true → MatchBool b A (Unit {0}) → A
changed true A e is = is
changed false A e is = absurd (cc e)

-- what stood under a key and what the call makes of it
abbrev Changing : Setting → List Entry → Call → OpenPass → Type 0
Changing s h call p = MayChange p.role (object_at (objects s h) (key_of_call call)) (stored (accepted s h + 1) (moment s h) (objects s h) call)

may_of : (s : Setting) (h : List Entry) (call : Call) (x : Option OpenPass) (q : OpenPass) → x ≡ Some q → IsRightful s h call x → Changing s h call q
may_of s h call None q opened may = absurd may
may_of s h call (Some r) q opened may = let same : r ≡ q = cc opened in subst (Changing s h call) same may

issue : (s : Setting) (whole h : List Entry) (e : Entry) → IsLegal s h → IsSafeEntry s whole h e → IsRightfulEntry s h e → Earlier s whole (e ∷ h) → Holds clauses.Issue s h e
issue s whole h (Called User call reply) legal safe rightful earlier = λ ok. tt
issue s whole h (Called (Pass pass) call reply) legal safe rightful earlier = λ ok p opened.
    good_issue s whole (Called (Pass pass) call reply ∷ h) h pass p (settled call reply) (object_at (objects s h) (key_of_call (settled call reply)))
    (stored (accepted s h + 1) (moment s h) (objects s h) (settled call reply)) earlier
    (λ o is. version_keyed s h (key_of_call (settled call reply)) o legal (stands_is_version s h (key_of_call (settled call reply)) o is))
    (safe ok p opened).issue (may_of s h (settled call reply) (open_pass s h pass) p opened (changed (is_accepted reply) (IsRightful s h (settled call reply) (open_pass s h pass)) ok rightful))
issue s whole h other legal safe rightful earlier = tt

-- ---- questions

question : (s : Setting) (whole h : List Entry) (e : Entry) → IsSafeEntry s whole h e → Earlier s whole (e ∷ h) → IsGoodQuestion s h e
question s whole h (Ask pass order) safe earlier = good_question s whole (Ask pass order ∷ h) (open_pass s h pass) order earlier safe
question s whole h other safe earlier = tt

-- ---- raises

raise : (s : Setting) (whole h : List Entry) (e : Entry) → IsSafeEntry s whole h e → Holds clauses.Raise s h e
raise s whole h (Called User call reply) safe = λ ok. safe ok
raise s whole h (Called (Pass pass) call reply) safe = λ ok p opened. (safe ok p opened).raise
raise s whole h other safe = tt

-- ---- approvals

-- a question about the request is one about its key and version
about : (r : CertificateRequest) (order : Order) → AsksToApprove r order → AsksAbout (key_of (Request r)) r.meta.version order
about r (orders.Judge order) is = (ap (λ (q : CertificateRequest). key_of (Request q)) is, ap (λ (q : CertificateRequest). q.meta.version) is)
about r other is = absurd is

last_about : (r : CertificateRequest) (pass : ℕ) (h : List Entry) → LastAsks pass (AsksToApprove r) h → LastAsks pass (AsksAbout (key_of (Request r)) r.meta.version) h
last_about r pass [] last = absurd last
last_about r pass (Ask m order ∷ h) (inl here) = inl (here.0, about r order here.1)
last_about r pass (Ask m order ∷ h) (inr there) = inr (there.0, last_about r pass h there.1)
last_about r pass (other ∷ h) last = last_about r pass h last

judged_on : (h : List Entry) (pass : ℕ) (r : CertificateRequest) → IsJudgedYes h pass r → IsJudgedOn h pass (key_of (Request r)) r.meta.version
judged_on [] pass r is = absurd is
judged_on (e ∷ h) pass r (inl here) = inl (here.0, last_about r pass h here.1)
judged_on (e ∷ h) pass r (inr there) = inr (judged_on h pass r there)

approval : (s : Setting) (whole h : List Entry) (e : Entry) → IsSafeEntry s whole h e → Holds clauses.Approval s h e
approval s whole h (Called User call reply) safe = λ ok. tt
approval s whole h (Called (Pass pass) call reply) safe = λ ok p opened old new role before after wasnt is. judged_on h pass old ((safe ok p opened).approval old new role before after wasnt is)
approval s whole h other safe = tt

-- ---- the whole

holds : (s : Setting) (whole h : List Entry) (e : Entry) → IsFormed s → HaveSeconds s.script → Follows s (e ∷ h) → IsLegal s h → IsLegalEntry s h e → IsSafeEntry s whole h e → IsRightfulEntry s h e → Earlier s whole (e ∷ h)
    → (clause : Clause) → Holds clause s h e
holds s whole h e formed have follows legal here safe rightful earlier clauses.Place = placed s h e formed have follows here
holds s whole h e formed have follows legal here safe rightful earlier clauses.Reply = replied s h e here
holds s whole h e formed have follows legal here safe rightful earlier clauses.Issue = issue s whole h e legal safe rightful earlier
holds s whole h e formed have follows legal here safe rightful earlier clauses.Ask = question s whole h e safe earlier
holds s whole h e formed have follows legal here safe rightful earlier clauses.Raise = raise s whole h e safe
holds s whole h e formed have follows legal here safe rightful earlier clauses.Rights = rightful
holds s whole h e formed have follows legal here safe rightful earlier clauses.Approval = approval s whole h e safe
holds s whole h e formed have follows legal here safe rightful earlier clauses.Counts = tt

below_follows : (s : Setting) (e : Entry) (h : List Entry) → Follows s (e ∷ h) → Follows s h
unfolding Follows
below_follows s e h follows = follows.1

pub clean : (s : Setting) (whole h : List Entry) → IsFormed s → HaveSeconds s.script → Follows s h → IsLegal s h → AreSafe s whole h → Earlier s whole h → IsClean s h
unfolding IsLegal AreSafe IsClean
clean s whole [] formed have follows legal safe earlier = tt
clean s whole (e ∷ h) formed have follows legal safe earlier = (
  holds s whole h e formed have follows legal.1 legal.0 safe.0 safe.1.0 earlier,
  clean s whole h formed have (below_follows s e h follows) legal.1 safe.1.1 (below s whole e h earlier),
)
