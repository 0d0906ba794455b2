use Rattle.std.proofs.Common.{◌≡◌, ◌∙◌, sym, subst, Option, Some}
use Rattle.std.proofs.lemmas.Bool.{and_parts}
use Rattle.std.specs.Option.{option_copied}
use Rattle.std.specs.Prelude.{IfSome}
use Rattle.cmc_meta.specs.declared.key.Key.{Key}
use Rattle.cmc_queue.specs.Queues.{is_above}
use Rattle.cmc_queue.specs.Rows.{is_pending, is_unknown}
use Rattle.cmc_waking.specs.Queues.{row_at}
use Rattle.cmc_kernel.specs.Kept.{setting_of}
use Rattle.cmc_world.specs.declared.openings.Opening.{Opening}
use Rattle.cmc_world.specs.declared.pending.Candidate.{Candidate}
use Rattle.cmc_world.specs.Searches as searches
use Rattle.cmc_world.specs.Searches.{above_looked, HasWorkAbove, IsWork, IsWorkOn}
use Rattle.cmc_world.proofs.Finding.{first_from, none_from, nothing_passed, passed_by, pending_work, work_first, work_none}
use Rattle.cmc_world.proofs.pending.next_pending.Goals as goal

pub loop-looked-init : goal.loop-looked-init
loop-looked-init c = (c.requires.fed, c.requires.kept, nothing_passed (setting_of c.args.kernel.now.scenario) c.args.kernel.now.history c.args.role (option_copied c.args.below))

pub returns-then-not-candidate-clause-finds : goal.returns-then-not-candidate-clause-finds
returns-then-not-candidate-clause-finds c =
    let s = setting_of c.args.kernel.now.scenario in
    let h = c.args.kernel.now.history in
    let role = c.args.role in
    let key = c.in-Some.candidate.key in
    let below = option_copied c.args.below in
    let from = above_looked below c.loop-looked.looked in
    let queues = c.loop-looked.queues in
    let first = first_from from (option_copied c.reached.result) (λ k. is_pending (row_at queues role k)) c.in_ok-candidate.field-0 c.in-Some.candidate c.reached.ensures c.in-Some.is c.in_ok-candidate.ensures.finds in
    let unknown = subst (λ (o : Option Candidate). IfSome o (λ c. c.unknown ≡ is_unknown (row_at queues role c.key).work)) c.in-Some.is c.in_ok-candidate.ensures.unknown in
    let known = sym unknown ∙ c.if-not-candidate.true in
    let pending = (and_parts (is_above from key) (is_pending (row_at queues role key)) first.0).1 in
    work_first s h role below from queues key c.loop-looked.invariant.0 c.loop-looked.invariant.2 first (pending_work s h role key queues c.is_run.ensures.run.legal c.loop-looked.invariant.0 c.requires.running pending known)

pub returns-in-Some-2-clause-finds : goal.returns-in-Some-2-clause-finds
returns-in-Some-2-clause-finds c =
    let s = setting_of c.args.kernel.now.scenario in
    let h = c.args.kernel.now.history in
    let role = c.args.role in
    let key = c.in-Some.candidate.key in
    let below = option_copied c.args.below in
    let from = above_looked below c.loop-looked.looked in
    let queues = c.loop-looked.queues in
    let first = first_from from (option_copied c.reached.result) (λ k. is_pending (row_at queues role k)) c.in_ok-candidate.field-0 c.in-Some.candidate c.reached.ensures c.in-Some.is c.in_ok-candidate.ensures.finds in
    let work = subst (λ (o : Option Opening). IsWorkOn s h role key o) c.in-Some-2.is c.in_ok-opening.ensures.work in
    let found = work_first s h role below from queues key c.loop-looked.invariant.0 c.loop-looked.invariant.2 first work.work in (
      subst (λ (k : Key). searches.FindsFirstKey (HasWorkAbove s h role below) (Some k)) (sym work.known.key) found,
      subst (λ (k : Key). IsWork s h role k c.in-Some-2.opening) (sym work.known.key) work,
    )

pub loop-looked-preserved-then-is_some : goal.loop-looked-preserved-then-is_some
loop-looked-preserved-then-is_some c =
    let s = setting_of c.args.kernel.now.scenario in
    let h = c.args.kernel.now.history in
    let role = c.args.role in
    let key = c.in-Some.candidate.key in
    let below = option_copied c.args.below in
    let from = above_looked below c.loop-looked.looked in
    let queues = c.loop-looked.queues in
    let first = first_from from (option_copied c.reached.result) (λ k. is_pending (row_at queues role k)) c.in_ok-candidate.field-0 c.in-Some.candidate c.reached.ensures c.in-Some.is c.in_ok-candidate.ensures.finds in
    let idle = subst (λ (o : Option Opening). IsWorkOn s h role key o) c.in_default-2.is c.in_ok-opening.ensures.work in
    (c.look_at.ensures.fed, c.look_at.ensures.kept, passed_by s h role below from queues key c.loop-looked.invariant.0 c.loop-looked.invariant.2 first idle)

pub returns-clause-finds : goal.returns-clause-finds
returns-clause-finds c =
    let below = option_copied c.args.below in
    let from = above_looked below c.loop-looked.looked in
    let queues = c.loop-looked.queues in
    work_none (setting_of c.args.kernel.now.scenario) c.args.kernel.now.history c.args.role below from queues c.loop-looked.invariant.0 c.loop-looked.invariant.2
    (none_from from (option_copied c.reached.result) (λ k. is_pending (row_at queues c.args.role k)) c.in_ok-candidate.field-0 c.reached.ensures c.in_default.is c.in_ok-candidate.ensures.finds)
