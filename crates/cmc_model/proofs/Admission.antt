-- What the admission rules say of single calls, and that the test on conditions decides.
use Rattle.std.proofs.Common.{◌≡◌, ◌==◌, ℕ, ℤ, Bool, true, false, List, [], ◌∷◌, Option, Some, None, refl, ap}
use Rattle.std.specs.Prelude.{if◌then◌else◌}
use Rattle.std.specs.FinMap as finite
use Rattle.std.specs.List.{list_any}
use Rattle.std.proofs.lemmas.Bool.Decides.{Decides-int_eq}
use Rattle.std.proofs.lemmas.Slice.Eq.{bytes_eq-Decides}
use Rattle.std.specs.Bool.{Decides}
use Rattle.cmc_meta.specs.declared.conditions.Condition.{Condition}
use Rattle.cmc_meta.specs.declared.conditions.ConditionKind.{ConditionKind}
use Rattle.cmc_meta.specs.declared.conditions.ConditionKind.TheVariants.{Ready, Issuing, Approved, Denied, InvalidRequest}
use Rattle.cmc_meta.specs.declared.conditions.Tri.{Tri}
use Rattle.cmc_meta.specs.declared.conditions.Tri.TheVariants.{True, False, Unknown}
use Rattle.cmc_meta.specs.ConditionLists.{condition_rank, tri_eq}
use Rattle.cmc_objects.specs.declared.object.Object.{Object}
use Rattle.cmc_objects.specs.declared.object.Object.TheVariants.{Cert, Request, Secret}
use Rattle.cmc_objects.specs.declared.certificate.Certificate.{Certificate}
use Rattle.cmc_meta.specs.declared.key.Key.{Key}
use Rattle.cmc_meta.specs.Keys.{kind_rank}
use Rattle.cmc_objects.specs.Objects.{key_of, kind_of, numbered}
use Rattle.cmc_model.specs.Objects.{Objects}
use Rattle.cmc_model.specs.Stored.{created, updated, with_status, revised, restated}
use Rattle.cmc_model.specs.Admission.{condition_eq, certificate_rules, least_failing, shares_secret, is_taken, refusing_rule}
use Rattle.cmc_model.proofs.SameSpecs.{and-Decides}

-- a status update of a Certificate meets no rule
pub certificate_status_passes : (old : Option Object) (c : Certificate) (taken : Bool) → refusing_rule old (Cert c) true taken ≡ None
unfolding refusing_rule
certificate_status_passes old c taken = refl

-- the test on conditions decides whether they are equal

rank_eq-Decides : (a b : ConditionKind) → Decides (condition_rank a == condition_rank b) (a ≡ b)
rank_eq-Decides Ready Ready = (λ h. refl, λ h. refl)
rank_eq-Decides Ready Issuing = (λ h. absurd (cc), λ h. absurd (cc))
rank_eq-Decides Ready Approved = (λ h. absurd (cc), λ h. absurd (cc))
rank_eq-Decides Ready Denied = (λ h. absurd (cc), λ h. absurd (cc))
rank_eq-Decides Ready InvalidRequest = (λ h. absurd (cc), λ h. absurd (cc))
rank_eq-Decides Issuing Ready = (λ h. absurd (cc), λ h. absurd (cc))
rank_eq-Decides Issuing Issuing = (λ h. refl, λ h. refl)
rank_eq-Decides Issuing Approved = (λ h. absurd (cc), λ h. absurd (cc))
rank_eq-Decides Issuing Denied = (λ h. absurd (cc), λ h. absurd (cc))
rank_eq-Decides Issuing InvalidRequest = (λ h. absurd (cc), λ h. absurd (cc))
rank_eq-Decides Approved Ready = (λ h. absurd (cc), λ h. absurd (cc))
rank_eq-Decides Approved Issuing = (λ h. absurd (cc), λ h. absurd (cc))
rank_eq-Decides Approved Approved = (λ h. refl, λ h. refl)
rank_eq-Decides Approved Denied = (λ h. absurd (cc), λ h. absurd (cc))
rank_eq-Decides Approved InvalidRequest = (λ h. absurd (cc), λ h. absurd (cc))
rank_eq-Decides Denied Ready = (λ h. absurd (cc), λ h. absurd (cc))
rank_eq-Decides Denied Issuing = (λ h. absurd (cc), λ h. absurd (cc))
rank_eq-Decides Denied Approved = (λ h. absurd (cc), λ h. absurd (cc))
rank_eq-Decides Denied Denied = (λ h. refl, λ h. refl)
rank_eq-Decides Denied InvalidRequest = (λ h. absurd (cc), λ h. absurd (cc))
rank_eq-Decides InvalidRequest Ready = (λ h. absurd (cc), λ h. absurd (cc))
rank_eq-Decides InvalidRequest Issuing = (λ h. absurd (cc), λ h. absurd (cc))
rank_eq-Decides InvalidRequest Approved = (λ h. absurd (cc), λ h. absurd (cc))
rank_eq-Decides InvalidRequest Denied = (λ h. absurd (cc), λ h. absurd (cc))
rank_eq-Decides InvalidRequest InvalidRequest = (λ h. refl, λ h. refl)

tri_eq-Decides : (a b : Tri) → Decides (tri_eq a b) (a ≡ b)
tri_eq-Decides True True = (λ h. refl, λ h. refl)
tri_eq-Decides True False = (λ h. absurd (cc), λ h. absurd (cc))
tri_eq-Decides True Unknown = (λ h. absurd (cc), λ h. absurd (cc))
tri_eq-Decides False True = (λ h. absurd (cc), λ h. absurd (cc))
tri_eq-Decides False False = (λ h. refl, λ h. refl)
tri_eq-Decides False Unknown = (λ h. absurd (cc), λ h. absurd (cc))
tri_eq-Decides Unknown True = (λ h. absurd (cc), λ h. absurd (cc))
tri_eq-Decides Unknown False = (λ h. absurd (cc), λ h. absurd (cc))
tri_eq-Decides Unknown Unknown = (λ h. refl, λ h. refl)

pub condition_eq-Decides : (a b : Condition) → Decides (condition_eq a b) (a ≡ b)
condition_eq-Decides a b =
    let texts = and-Decides _ _ (bytes_eq-Decides a.reason b.reason) (and-Decides _ _ (bytes_eq-Decides a.message b.message) (Decides-int_eq a.since b.since)) in
    let parts = and-Decides _ _ (rank_eq-Decides a.kind b.kind) (and-Decides _ _ (tri_eq-Decides a.status b.status) texts) in (
      λ h. let p = parts.0 h in λ i. record { kind = p.0 i; status = p.1.0 i; reason = p.1.1.0 i; message = p.1.1.1.0 i; since = p.1.1.1.1 i },
      λ h.
          parts.1 (
            ap (λ (c : Condition). c.kind) h,
            (ap (λ (c : Condition). c.status) h, (ap (λ (c : Condition). c.reason) h, (ap (λ (c : Condition). c.message) h, ap (λ (c : Condition). c.since) h))),
          ),
    )

-- ---- whether a Secret is free

-- none of the rules fails
abbrev pub AllPass : List (ℕ × Bool) → Type 0
AllPass [] = Unit {0}
AllPass (rule ∷ rules) = (rule.1 ≡ false) × AllPass rules

passes_by : (b : Bool) (n : ℕ) (rest : Option ℕ) → (if b then Some n else rest) ≡ None → (b ≡ false) × (rest ≡ None)
passes_by true n rest is = absurd (cc is)
passes_by false n rest is = (refl, is)

pub all_pass : (rules : List (ℕ × Bool)) → least_failing rules ≡ None → AllPass rules
all_pass [] is = tt
all_pass (rule ∷ rules) is = let first = passes_by rule.1 rule.0 (least_failing rules) is in (first.0, all_pass rules first.1)

-- an object that no rule refuses names a Secret that no other Certificate has
pub admitted_free : (objects : Objects) (old : Option Object) (o : Object) → refusing_rule old o false (is_taken objects o) ≡ None → is_taken objects o ≡ false
unfolding refusing_rule
admitted_free objects old (Cert c) passes = (all_pass (certificate_rules c (is_taken objects (Cert c))) passes).1.1.1.1.1.1.0
admitted_free objects old (Request r) passes = refl
admitted_free objects old (Secret s) passes = refl

pub is_taken-created : (objects : Objects) (v : ℕ) (now : ℤ) (o : Object) → is_taken objects (created v now o) ≡ is_taken objects o
unfolding created
is_taken-created objects v now (Cert c) = refl
is_taken-created objects v now (Request r) = refl
is_taken-created objects v now (Secret s) = refl

of_kind : (a b : Object) → key_of a ≡ key_of b → kind_rank (kind_of a) ≡ kind_rank (kind_of b)
of_kind a b same = ap (λ (k : Key). kind_rank k.kind) same

-- an update under the object's key names the Secret of the call
pub is_taken-revised : (objects : Objects) (v : ℕ) (old o : Object) → key_of old ≡ key_of o → is_taken objects (revised v old o) ≡ is_taken objects o
unfolding updated numbered
is_taken-revised objects v (Cert a) (Cert b) same =
    let namespace : a.meta.namespace ≡ b.meta.namespace = ap (λ (k : Key). k.namespace) same in
    let name : a.meta.name ≡ b.meta.name = ap (λ (k : Key). k.name) same in
    ap (λ (test : Object → Bool). list_any (λ e. test e.1) (finite.entries objects)) (λ i other. shares_secret (record { meta = record b.meta { namespace = namespace i; name = name i }; spec = b.spec; status = b.status }) other)
is_taken-revised objects v (Cert a) (Request b) same = absurd (let e = of_kind (Cert a) (Request b) same in cc e)
is_taken-revised objects v (Cert a) (Secret b) same = absurd (let e = of_kind (Cert a) (Secret b) same in cc e)
is_taken-revised objects v (Request a) (Cert b) same = absurd (let e = of_kind (Request a) (Cert b) same in cc e)
is_taken-revised objects v (Request a) (Request b) same = refl
is_taken-revised objects v (Request a) (Secret b) same = refl
is_taken-revised objects v (Secret a) (Cert b) same = absurd (let e = of_kind (Secret a) (Cert b) same in cc e)
is_taken-revised objects v (Secret a) (Request b) same = refl
is_taken-revised objects v (Secret a) (Secret b) same = refl

-- a status update names the Secret of what stands
pub is_taken-restated : (objects : Objects) (v : ℕ) (old o : Object) → is_taken objects (restated v old o) ≡ is_taken objects old
unfolding with_status numbered
is_taken-restated objects v (Cert a) (Cert b) = refl
is_taken-restated objects v (Cert a) (Request b) = refl
is_taken-restated objects v (Cert a) (Secret b) = refl
is_taken-restated objects v (Request a) (Cert b) = refl
is_taken-restated objects v (Request a) (Request b) = refl
is_taken-restated objects v (Request a) (Secret b) = refl
is_taken-restated objects v (Secret a) (Cert b) = refl
is_taken-restated objects v (Secret a) (Request b) = refl
is_taken-restated objects v (Secret a) (Secret b) = refl
