-- In a run controllers act only on what they may act on.
use Rattle.std.proofs.Common.{◌≡◌, ℕ, ℤ, ◌+◌, ◌≤◌, ◌<◌, ◌^◌, List, [], ◌∷◌, length, Some, Bool, true, false, arith}
use Rattle.std.specs.Prelude.{if◌then◌else◌}
use Rattle.cmc_meta.specs.declared.key.Key.{Key}
use Rattle.cmc_objects.specs.declared.orders.Order.{Order}
use Rattle.cmc_objects.specs.declared.role.Role.{Role}
use Rattle.cmc_objects.specs.declared.role.Role.TheVariants as roles
use Rattle.cmc_objects.specs.declared.entry.Entry.{Entry}
use Rattle.cmc_objects.specs.declared.entry.Entry.TheVariants.{Ask}
use Rattle.cmc_objects.specs.Requests.{is_run_time}
use Rattle.cmc_pass.specs.declared.pass.Views.{Views}
use Rattle.cmc_model.specs.Histories.{Setting, moment}
use Rattle.cmc_model.specs.Writes.{writes}
use Rattle.cmc_rules.specs.declared.progress.OpenPass.{OpenPass}
use Rattle.cmc_rules.specs.Views.{views}
use Rattle.cmc_rules.specs.Desks.{asks_key, asks_issuer, asked, asked_before, desk}
use Rattle.cmc_rules.specs.Passes.{open_pass}
use Rattle.cmc_rules.specs.Runs.{IsRun}
use Rattle.cmc_rules.proofs.Sighted.{AreKnown, SawKnown, saw_known, views_known}
use Rattle.cmc_safety.specs.Formed.{IsFormed}
use Rattle.cmc_safety.specs.MayAct.{MayAct}
use Rattle.cmc_safety.proofs.Course.{AreSound, of_open}
use Rattle.cmc_safety.proofs.InProgress.{IsPlayed}
use Rattle.cmc_safety.proofs.Moments.{moment_in_run, BeganInRun, began_in_run}
use Rattle.cmc_safety.proofs.Dated.{dated_versions, dated_seen}
use Rattle.cmc_safety.proofs.LowRevisions.{revisions_low, writes_short, next_seen}
use Rattle.cmc_safety.proofs.Forms.{formed_versions, form_seen, reply_seen}

-- ---- questions

asked_more : (b : Bool) (m n : ℕ) → m ≤ n → (if b then m + 1 else m) ≤ n + 1
asked_more true m n short = omega (arith, short)
asked_more false m n short = omega (arith, short)

-- each question is an entry
pub asked_short : (counts : Order → Bool) (h : List Entry) → asked counts h ≤ length h
asked_short counts [] = omega arith
asked_short counts (Ask pass order ∷ h) = omega (arith, asked_more (counts order) (asked counts h) (length h) (asked_short counts h))
asked_short counts (other ∷ h) = omega (arith, asked_short counts h)

pub asked_before_short : (h : List Entry) (role : Role) (seen : Views) → asked_before h role seen ≤ length h
asked_before_short h roles.KeyManager seen = asked_short (asks_key seen.certificate) h
asked_before_short h roles.Issuer seen = asked_short (asks_issuer seen.request) h
asked_before_short h other seen = omega arith

-- ---- runs

pub played : (s : Setting) (h : List Entry) → IsRun s h → IsPlayed s h
played s h run = record { legal = run.legal; caused = run.caused; follows = run.follows }

-- on views of what was stored, at a moment of a run
may_act : AreSound → (s : Setting) (h : List Entry) (role : Role) (seen : Views) (now : ℤ) → IsFormed s → IsRun s h → AreKnown (writes s h) seen → is_run_time now ≡ true → MayAct seen now (desk s h role seen)
may_act sound s h role seen now formed run known time =
    let o = played s h run in
    let few : length (writes s h) < 2 ^ 63 = omega (arith, writes_short s h, run.short, formed.short) in
    record {
      dated = dated_seen (writes s h) seen (dated_versions sound s h formed o) known;
      revision = next_seen (writes s h) seen few (revisions_low sound s h formed o) known;
      time = time;
      asked = omega (arith, asked_before_short h role seen, run.short, formed.short);
      form = form_seen (writes s h) seen (formed_versions sound s h formed o) known;
      reply = reply_seen s h role seen formed;
    }

-- an open pass, on what it saw
pub may_act_pass : AreSound → (s : Setting) (h : List Entry) (n : ℕ) (p : OpenPass) → IsFormed s → IsRun s h → open_pass s h n ≡ Some p → MayAct p.seen p.since (desk s h p.role p.seen)
may_act_pass sound s h n p formed run opened =
    may_act sound s h p.role p.seen p.since formed run (of_open (SawKnown (writes s h)) (open_pass s h n) p opened (saw_known s h n))
    (of_open BeganInRun (open_pass s h n) p opened (began_in_run s h n formed run.legal run.follows))

-- a role, on what it sees of a key
pub may_act_views : AreSound → (s : Setting) (h : List Entry) → IsFormed s → IsRun s h → (role : Role) (key : Key) → MayAct (views s h role key) (moment s h) (desk s h role (views s h role key))
may_act_views sound s h formed run role key = may_act sound s h role (views s h role key) (moment s h) formed run (views_known s h role key) (moment_in_run s h formed run.follows)
