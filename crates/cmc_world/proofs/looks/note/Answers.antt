use Rattle.std.proofs.Common.{sym, subst, ap, ◌∙◌}
use Rattle.cmc_queue.specs.Rows.{is_fresh}
use Rattle.cmc_kernel.specs.Kept.{setting_of}
use Rattle.cmc_world.specs.Looks.{IsLook}
use Rattle.cmc_world.specs.declared.looks.Look.{Look}
use Rattle.cmc_world.proofs.BeginsFed.{fresh_room, roomed}
use Rattle.cmc_world.proofs.KeptOver.{kept_noted}
use Rattle.cmc_world.proofs.Looking.{fed_busy, fed_held, fed_idle, fed_quiet, held_lacks}
use Rattle.cmc_world.proofs.looks.note.Goals as goal

pub returns-in_err-place_at-in-Idle-clause-fed : goal.returns-in_err-place_at-in-Idle-clause-fed
returns-in_err-place_at-in-Idle-clause-fed c = roomed c.args.kernel.now c.args.queues.now c.place_at.new.queues c.place_at.ensures.rows c.requires.fed

pub returns-in_err-place_at-in-Quiet-clause-fed : goal.returns-in_err-place_at-in-Quiet-clause-fed
returns-in_err-place_at-in-Quiet-clause-fed c = roomed c.args.kernel.now c.args.queues.now c.place_at-in-Quiet.new.queues c.place_at-in-Quiet.ensures.rows c.requires.fed

pub returns-in_err-place_for-in-Held-clause-fed : goal.returns-in_err-place_for-in-Held-clause-fed
returns-in_err-place_for-in-Held-clause-fed c = roomed c.args.kernel.now c.args.queues.now c.place_for.new.self c.place_for.ensures.rows c.requires.fed

pub returns-in-Busy-clause-fed : goal.returns-in-Busy-clause-fed
returns-in-Busy-clause-fed c =
    let s = setting_of c.args.kernel.now.scenario in
    let h = c.args.kernel.now.history in
    fed_busy s h c.args.role c.args.key.now c.args.queues.now c.found_busy.new.self c.requires.fed c.requires.fresh (subst (λ (l : Look). IsLook s h c.args.role c.args.key.now l) c.in-Busy.is c.requires.found).work c.found_busy.ensures.rows c.found_busy.ensures.others

pub returns-in_ok-place_at-in-Idle-clause-fed : goal.returns-in_ok-place_at-in-Idle-clause-fed
returns-in_ok-place_at-in-Idle-clause-fed c =
    let s = setting_of c.args.kernel.now.scenario in
    let h = c.args.kernel.now.history in
    fed_idle s h c.args.role c.args.key.now c.in-Idle.opening c.in-Idle.next c.place_at.new.queues c.found_idle.new.self (roomed c.args.kernel.now c.args.queues.now c.place_at.new.queues c.place_at.ensures.rows c.requires.fed)
    (ap is_fresh (c.place_at.ensures.rows c.args.role c.args.key.now) ∙ c.requires.fresh) (subst (λ (l : Look). IsLook s h c.args.role c.args.key.now l) c.in-Idle.is c.requires.found) c.found_idle.ensures.rows c.found_idle.ensures.others

pub returns-in_ok-place_at-in-Idle-clause-fewer : goal.returns-in_ok-place_at-in-Idle-clause-fewer
returns-in_ok-place_at-in-Idle-clause-fewer c = sym c.place_at.ensures.fresh ∙ c.found_idle.ensures.fewer (ap is_fresh (c.place_at.ensures.rows c.args.role c.args.key.now) ∙ c.requires.fresh)

pub returns-in_ok-place_at-in-Quiet-clause-fed : goal.returns-in_ok-place_at-in-Quiet-clause-fed
returns-in_ok-place_at-in-Quiet-clause-fed c =
    let s = setting_of c.args.kernel.now.scenario in
    let h = c.args.kernel.now.history in
    fed_quiet s h c.args.role c.args.key.now c.in-Quiet.next c.place_at-in-Quiet.new.queues c.found_quiet.new.self (roomed c.args.kernel.now c.args.queues.now c.place_at-in-Quiet.new.queues c.place_at-in-Quiet.ensures.rows c.requires.fed)
    (ap is_fresh (c.place_at-in-Quiet.ensures.rows c.args.role c.args.key.now) ∙ c.requires.fresh) (subst (λ (l : Look). IsLook s h c.args.role c.args.key.now l) c.in-Quiet.is c.requires.found) c.found_quiet.ensures.rows c.found_quiet.ensures.others

pub returns-in_ok-place_at-in-Quiet-clause-fewer : goal.returns-in_ok-place_at-in-Quiet-clause-fewer
returns-in_ok-place_at-in-Quiet-clause-fewer c = sym c.place_at-in-Quiet.ensures.fresh ∙ c.found_quiet.ensures.fewer (ap is_fresh (c.place_at-in-Quiet.ensures.rows c.args.role c.args.key.now) ∙ c.requires.fresh)

pub returns-in_ok-place_for-in-Held-clause-fed : goal.returns-in_ok-place_for-in-Held-clause-fed
returns-in_ok-place_for-in-Held-clause-fed c =
    let s = setting_of c.args.kernel.now.scenario in
    let h = c.args.kernel.now.history in
    fed_held s h c.args.role c.args.key.now c.in-Held.parked c.place_for.new.self c.found_held.new.self (roomed c.args.kernel.now c.args.queues.now c.place_for.new.self c.place_for.ensures.rows c.requires.fed)
    (ap is_fresh (c.place_for.ensures.rows c.args.role c.args.key.now) ∙ c.requires.fresh) (subst (λ (l : Look). IsLook s h c.args.role c.args.key.now l) c.in-Held.is c.requires.found) c.found_held.ensures.rows c.found_held.ensures.others

pub returns-in_ok-place_for-in-Held-clause-work : goal.returns-in_ok-place_for-in-Held-clause-work
returns-in_ok-place_for-in-Held-clause-work c =
    let s = setting_of c.args.kernel.now.scenario in
    let h = c.args.kernel.now.history in
    held_lacks s h c.args.role c.args.key.now c.in-Held.parked (subst (λ (l : Look). IsLook s h c.args.role c.args.key.now l) c.in-Held.is c.requires.found)

pub returns-in_ok-place_for-in-Held-clause-fewer : goal.returns-in_ok-place_for-in-Held-clause-fewer
returns-in_ok-place_for-in-Held-clause-fewer c = sym c.place_for.ensures.fresh ∙ c.found_held.ensures.fewer (ap is_fresh (c.place_for.ensures.rows c.args.role c.args.key.now) ∙ c.requires.fresh)

pub found_busy-requires-clause-row : goal.found_busy-requires-clause-row
found_busy-requires-clause-row c = fresh_room c.args.queues.now c.args.role c.args.key.now c.requires.fresh

pub found_busy-requires-clause-place : goal.found_busy-requires-clause-place
found_busy-requires-clause-place c = fresh_room c.args.queues.now c.args.role c.args.key.now c.requires.fresh

pub place_at-requires : goal.place_at-requires
place_at-requires c = fresh_room c.args.queues.now c.args.role c.args.key.now c.requires.fresh

pub place_at-requires-in-Quiet : goal.place_at-requires-in-Quiet
place_at-requires-in-Quiet c = fresh_room c.args.queues.now c.args.role c.args.key.now c.requires.fresh

pub found_held-requires-clause-row : goal.found_held-requires-clause-row
found_held-requires-clause-row c = (c.place_for.ensures.room c.args.role).rows c.args.key.now (fresh_room c.args.queues.now c.args.role c.args.key.now c.requires.fresh)

pub returns-in_ok-place_at-in-Idle-clause-kept : goal.returns-in_ok-place_at-in-Idle-clause-kept
returns-in_ok-place_at-in-Idle-clause-kept c =
    let s = setting_of c.args.kernel.now.scenario in
    let h = c.args.kernel.now.history in
    kept_noted c.args.kernel.now c.args.kept.now c.note.new.self c.in-Idle.opening c.note.ensures.told c.note.ensures.act c.note.ensures.looked (subst (λ (l : Look). IsLook s h c.args.role c.args.key.now l) c.in-Idle.is c.requires.found).found c.requires.kept
