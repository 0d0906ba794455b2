-- Roles may act on what exists, and on each request among it.
use Rattle.std.proofs.Common.{◌≡◌, ◌<◌, ◌^◌, List, [], ◌∷◌, length, Option, Some, None, Ok, Err, refl, sym, subst, inl, inr, arith}
use Rattle.std.specs.Prelude.{IfOk, Result}
use Rattle.std.specs.declared.alloc.AllocError.{AllocError}
use Rattle.cmc_meta.specs.declared.key.Key.{Key}
use Rattle.cmc_objects.specs.declared.object.Object.{Object}
use Rattle.cmc_objects.specs.declared.object.Object.TheVariants.{Request}
use Rattle.cmc_objects.specs.declared.request.CertificateRequest.{CertificateRequest}
use Rattle.cmc_objects.specs.declared.orders.Rules.{Rules}
use Rattle.cmc_objects.specs.declared.role.Role.TheVariants.{Issuing}
use Rattle.cmc_objects.specs.declared.entry.Entry.{Entry}
use Rattle.cmc_objects.specs.Objects.{key_of}
use Rattle.cmc_pass.specs.declared.pass.Views.{Views}
use Rattle.cmc_model.specs.declared.write.Write.{Write}
use Rattle.cmc_model.specs.Histories.{Setting, moment}
use Rattle.cmc_model.specs.Versions.{IsVersion}
use Rattle.cmc_model.specs.Writes.{writes}
use Rattle.cmc_rules.specs.Issuer.{HasReplyRowForm}
use Rattle.cmc_rules.specs.Legality.{IsLegal}
use Rattle.cmc_rules.specs.Orders.{reply_row}
use Rattle.cmc_rules.specs.Runs.{IsRun}
use Rattle.cmc_rules.specs.SeenObjects.{IsAmong, IsPartOf}
use Rattle.cmc_rules.specs.Views.{Caches, present_views, views_in}
use Rattle.cmc_rules.proofs.Sighted.{AreKnown}
use Rattle.cmc_rules.proofs.Versions.{stands_is_version}
use Rattle.cmc_safety.specs.Formed.{IsFormed}
use Rattle.cmc_safety.specs.MayAct.{MayAct}
use Rattle.cmc_safety.proofs.Dated.{dated_seen, dated_versions}
use Rattle.cmc_safety.proofs.Forms.{form_seen, formed_versions}
use Rattle.cmc_safety.proofs.LowRevisions.{next_seen, revisions_low, writes_short}
use Rattle.cmc_safety.proofs.MayAct.{played}
use Rattle.cmc_safety.proofs.Moments.{moment_in_run}
use Rattle.cmc_moves.proofs.Sounds.{each_sound}
use Rattle.cmc_waits.specs.Waits.{IsAllThatExists}
use Rattle.cmc_waits.proofs.AllReady.{seen_of_all}
use Rattle.cmc_run_laws.proofs.CalmViews.{stands_seen}
use Rattle.cmc_load_tests.specs.Left.{desk_with, request_alone}

-- the usual answer has its form
reply_formed : (x : Option CertificateRequest) (rules : Rules) → HasReplyRowForm x (desk_with rules)
unfolding reply_row
reply_formed None rules = tt
reply_formed (Some r) rules = refl

may_on : (s : Setting) (h : List Entry) (seen : Views) → IsFormed s → IsRun s h → AreKnown (writes s h) seen → MayAct seen (moment s h) (desk_with s.rules)
may_on s h seen formed run known =
    let o = played s h run in
    let few : length (writes s h) < 2 ^ 63 = omega (arith, writes_short s h, run.short, formed.short) in
    record {
      dated = dated_seen (writes s h) seen (dated_versions each_sound s h formed o) known;
      revision = next_seen (writes s h) seen few (revisions_low each_sound s h formed o) known;
      time = moment_in_run s h formed run.follows;
      asked = omega arith;
      form = form_seen (writes s h) seen (formed_versions each_sound s h formed o) known;
      reply = reply_formed seen.request s.rules;
    }

present_known : (s : Setting) (h : List Entry) (key : Key) → IsLegal s h → AreKnown (writes s h) (present_views s h Issuing key)
present_known s h key legal o is = (key_of o, stands_is_version s h (key_of o) o (stands_seen s h Issuing key (present_views s h Issuing key) legal refl o is))

-- a request among those that are seen is seen
request_part : (r : CertificateRequest) (rs : List CertificateRequest) → IsAmong r rs → IsPartOf Request rs (Request r)
request_part r [] is = absurd is
request_part r (x ∷ rs) (inl is) = inl (cc is)
request_part r (x ∷ rs) (inr is) = inr (request_part r rs is)

alone_known : (ws : List Write) (seen : Views) (r : CertificateRequest) → AreKnown ws seen → IsAmong r seen.requests → AreKnown ws (request_alone r)
alone_known ws seen r known among o (inl is) = absurd is
alone_known ws seen r known among o (inr (inl is)) = absurd is
alone_known ws seen r known among o (inr (inr (inl is))) =
    subst (λ (x : Object). (key : Key) × IsVersion key x ws) (sym is) (known (Request r) (inr (inr (inr (inr (request_part r seen.requests among))))))
alone_known ws seen r known among o (inr (inr (inr (inl is)))) = absurd is
alone_known ws seen r known among o (inr (inr (inr (inr is)))) = absurd is

-- roles may act on what is seen, and on each request of it
pub record MayActThere (s : Setting) (h : List Entry) (seen : Views) : Type 0 where
  pub may : MayAct seen (moment s h) (desk_with s.rules)
  pub each : (r : CertificateRequest) → IsAmong r seen.requests → MayAct (request_alone r) (moment s h) (desk_with s.rules)

pub may_there : (s : Setting) (h : List Entry) (key : Key) → IsFormed s → IsRun s h → MayActThere s h (present_views s h Issuing key)
may_there s h key formed run =
    let known = present_known s h key run.legal in
    record {
      may = may_on s h (present_views s h Issuing key) formed run known;
      each = λ r among. may_on s h (request_alone r) formed run (alone_known (writes s h) (present_views s h Issuing key) r known among);
    }

pub may_of_all : (s : Setting) (h : List Entry) (key : Key) (all : Caches) (r : Result Views AllocError) → IsFormed s → IsRun s h → IsAllThatExists s h all → IfOk r (λ seen. seen ≡ views_in Issuing all key) → IfOk r (MayActThere s h)
may_of_all s h key all r formed run is seen = by r (seen_of_all s h key all r run.legal is seen) where
  by : (r : Result Views AllocError) → IfOk r (λ x. x ≡ present_views s h Issuing key) → IfOk r (MayActThere s h)
  by (Ok x) same = subst (MayActThere s h) (sym same) (may_there s h key formed run)
  by (Err lack) same = tt
