-- Each object that an accepted write stored meets the rules.
use Rattle.std.proofs.Common.{◌≡◌, ◌||◌, ℕ, ℤ, ◌+◌, List, [], ◌∷◌, Option, Some, None, Bool, true, false, not, refl, sym, ap, subst, ◌∙◌}
use Rattle.std.specs.Str.{bytes_eq}
use Rattle.std.proofs.lemmas.Slice.Eq.{bytes_eq-Decides}
use Rattle.std.proofs.lemmas.Bool.{or_parts}
use Rattle.cmc_meta.specs.declared.key.Key.{Key}
use Rattle.cmc_objects.specs.declared.call.Call.{Call}
use Rattle.cmc_objects.specs.declared.call.Call.TheVariants.{Create, Update, UpdateStatus, Delete, Get}
use Rattle.cmc_objects.specs.declared.certificate.Certificate.{Certificate}
use Rattle.cmc_objects.specs.declared.entry.Entry.{Entry}
use Rattle.cmc_objects.specs.declared.object.Object.{Object}
use Rattle.cmc_objects.specs.declared.object.Object.TheVariants.{Cert, Request, Secret}
use Rattle.cmc_objects.specs.Objects.{meta_of, numbered}
use Rattle.cmc_model.specs.Acceptance.{IsFounded}
use Rattle.cmc_model.specs.Admission.{certificate_rules, least_failing, is_secret_refused, changes_type, is_tls_incomplete, verdict_rules, is_name_long, has_many_names, are_usages_wrong, is_outside_limits, refusing_rule, is_taken}
use Rattle.cmc_model.specs.Histories.{Setting, moment, state, objects, accepted}
use Rattle.cmc_model.specs.Objects.{Objects, object_at}
use Rattle.cmc_model.specs.Replies.{key_of_call, settled, stored}
use Rattle.cmc_model.specs.Stored.{created, updated, with_status, generation_after}
use Rattle.cmc_model.specs.Verdicts.{IsAnswered}
use Rattle.cmc_model.specs.Versions.{HasVersion}
use Rattle.cmc_model.specs.Writes.{writes}
use Rattle.cmc_model.proofs.Accepting.{accepted_found}
use Rattle.cmc_model.proofs.Admission.{AllPass, all_pass}
use Rattle.cmc_model.proofs.Writes.{writes_leave}
use Rattle.cmc_model.proofs.Writing.{EachWrite, each_write, standing_is, version_is}
use Rattle.cmc_rules.specs.Admitted.{MeetsRules}
use Rattle.cmc_rules.specs.Legality.{IsLegal}
use Rattle.cmc_rules.proofs.Answered.{answered}

-- where no rule fails, none is the least
pass_all : (rules : List (ℕ × Bool)) → AllPass rules → least_failing rules ≡ None
pass_all [] pass = refl
pass_all (rule ∷ rules) pass = rw pass.0 (pass_all rules pass.1)

-- whatever others have
alone : (c : Certificate) (taken : Bool) → AllPass (certificate_rules c taken) → AllPass (certificate_rules c false)
alone c taken p = (p.0, (p.1.0, (p.1.1.0, (p.1.1.1.0, (p.1.1.1.1.0, (p.1.1.1.1.1.0, (refl, p.1.1.1.1.1.1.1)))))))

-- the rules look at the name and the spec
admitted : (c : Certificate) (taken : Bool) → least_failing (certificate_rules c taken) ≡ None → MeetsRules (Cert c)
admitted c taken is = pass_all (certificate_rules c false) (alone c taken (all_pass (certificate_rules c taken) is))

not_false : (x : Bool) → not x ≡ false → x ≡ true
not_false true is = refl
not_false false is = absurd (cc is)

meets_created : (n : ℕ) (now : ℤ) (o : Object) (taken : Bool) → refusing_rule None o false taken ≡ None → MeetsRules (created n now o)
unfolding created refusing_rule
meets_created n now (Cert c) taken is = admitted c taken is
meets_created n now (Request r) taken is = (refl, refl)
meets_created n now (Secret s) taken is = (all_pass ((14, is_secret_refused None s false) ∷ []) is).0

-- an update keeps the name of a Certificate and the type of a Secret
with_name : (a b : Certificate) → MeetsRules (Cert a) → (taken : Bool) → least_failing (certificate_rules b taken) ≡ None
    → MeetsRules (Cert (record b { meta = a.meta }))
with_name a b old taken is =
    let p = all_pass (certificate_rules a false) old in
    let q = alone b taken (all_pass (certificate_rules b taken) is) in
    let name = or_parts (is_name_long a) (has_many_names a.spec || are_usages_wrong a.spec) p.1.1.1.1.1.1.1.1.0 in
    let rest = or_parts (is_name_long b) (has_many_names b.spec || are_usages_wrong b.spec) q.1.1.1.1.1.1.1.1.0 in
    let limits : is_outside_limits (record b { meta = a.meta }) ≡ false = rw name.0 rest.1 in
    pass_all (certificate_rules (record b { meta = a.meta }) false)
    (q.0, (q.1.0, (q.1.1.0, (q.1.1.1.0, (q.1.1.1.1.0, (q.1.1.1.1.1.0, (refl, (q.1.1.1.1.1.1.1.0, (limits, q.1.1.1.1.1.1.1.1.1)))))))))

meets_updated : (o new : Object) (taken : Bool) → MeetsRules o → refusing_rule (Some o) new false taken ≡ None → MeetsRules (updated o new)
unfolding updated refusing_rule
meets_updated (Cert a) (Cert b) taken old is = with_name a b old taken is
meets_updated (Cert a) (Request b) taken old is = old
meets_updated (Cert a) (Secret b) taken old is = old
meets_updated (Request a) (Cert b) taken old is = old
meets_updated (Request a) (Request b) taken old is = old
meets_updated (Request a) (Secret b) taken old is = old
meets_updated (Secret a) (Cert b) taken old is = old
meets_updated (Secret a) (Request b) taken old is = old
meets_updated (Secret a) (Secret b) taken old is =
    let parts = or_parts (changes_type (Some (Secret a)) b) (is_tls_incomplete b) (all_pass ((14, is_secret_refused (Some (Secret a)) b false) ∷ []) is).0 in
    let same : a.kind_text ≡ b.kind_text = (bytes_eq-Decides a.kind_text b.kind_text).0 (not_false (bytes_eq a.kind_text b.kind_text) parts.0) in
    subst (λ (kind : List ℕ). is_tls_incomplete (record b { kind_text = kind }) ≡ false) (sym same) parts.1

meets_restated : (o new : Object) → MeetsRules o → refusing_rule (Some o) new true false ≡ None → MeetsRules (with_status o new)
unfolding with_status refusing_rule
meets_restated (Cert a) (Cert b) old is = old
meets_restated (Cert a) (Request b) old is = old
meets_restated (Cert a) (Secret b) old is = old
meets_restated (Request a) (Cert b) old is = old
meets_restated (Request a) (Request b) old is =
    let pass = all_pass (verdict_rules a.status.conditions b.status.conditions) is in
    (pass.0, pass.1.0)
meets_restated (Request a) (Secret b) old is = old
meets_restated (Secret a) (Cert b) old is = old
meets_restated (Secret a) (Request b) old is = old
meets_restated (Secret a) (Secret b) old is = old

meets_numbered : (v g : ℕ) (o : Object) → MeetsRules o → MeetsRules (numbered v g o)
unfolding numbered
meets_numbered v g (Cert c) is = is
meets_numbered v g (Request r) is = is
meets_numbered v g (Secret s) is = is

abbrev IsMet : Option Object → Type 0
IsMet None = Unit {0}
IsMet (Some o) = MeetsRules o

abbrev Stores : Option Object → Option Object → Type 0
Stores old new = IsMet new

met_call : (n : ℕ) (now : ℤ) (m : Objects) (call : Call) → IsFounded m call → IsMet (object_at m (key_of_call call)) → IsMet (stored n now m call)
unfolding IsFounded
met_call n now m (Create object generate) is met = meets_created n now object (is_taken m object) is.1
met_call n now m (Update object named) is met =
    let old = is.0 in
    rw is.1 (meets_numbered n (generation_after old (updated old object)) (updated old object) (meets_updated old object (is_taken m object) (subst IsMet is.1 met) is.2.passed))
met_call n now m (UpdateStatus object named) is met =
    let old = is.0 in
    rw is.1 (meets_numbered n (meta_of old).generation (with_status old object) (meets_restated old object (subst IsMet is.1 met) is.2.passed))
met_call n now m (Delete key named) is met = tt
met_call n now m (Get key) is met = absurd is

met_in : (s : Setting) (h : List Entry) (call : Call) → EachWrite Stores (writes s h) → (o : Option Object) → object_at (objects s h) (key_of_call call) ≡ o → IsMet o
met_in s h call each None is = tt
met_in s h call each (Some o) is =
    standing_is Stores MeetsRules (writes s h) (key_of_call call) o (λ old new r. r) each (ap (λ (m : Objects). object_at m (key_of_call call)) (writes_leave s h) ∙ is)

stores : (s : Setting) (h : List Entry) → IsAnswered s h → EachWrite Stores (writes s h)
stores s h right =
    each_write Stores s h
    (λ k call reply served each ok. met_call (accepted s k + 1) (moment s k) (objects s k) (settled call reply) (accepted_found s.faults (state s k) call reply served ok)
    (met_in s k (settled call reply) each (object_at (objects s k) (key_of_call (settled call reply))) refl)) right

pub versions_meet : (s : Setting) (h : List Entry) → IsLegal s h → (key : Key) (o : Object) → HasVersion s h key o → MeetsRules o
versions_meet s h legal key o has = version_is Stores MeetsRules (writes s h) key o (λ old new r. r) (stores s h (answered s h legal)) has
