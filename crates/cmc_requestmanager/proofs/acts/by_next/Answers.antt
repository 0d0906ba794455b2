use Rattle.std.proofs.Common.{sym, ap, ◌∙◌}
use Rattle.std.specs.Option.{option_copied}
use Rattle.cmc_match.proofs.OnlyLaws.{found_none, found_one}
use Rattle.cmc_rules.specs.NextRequests.{is_next}
use Rattle.cmc_rules.specs.RequestManager.{ask_with}
use Rattle.cmc_requestmanager.proofs.OneNext.{none_next, one_next, only_act}
use Rattle.cmc_requestmanager.proofs.acts.by_next.Goals as goal

pub returns-in-None : goal.returns-in-None
returns-in-None c =
    c.ask_with.ensures
    ∙ ap (ask_with c.args.certificate.now c.args.file.now) c.requires.public
    ∙ sym (none_next c.args.certificate.now c.args.file.now c.args.requests.now
    (found_none (is_next c.args.certificate.now) c.args.requests.now (sym c.next_of-has_more.ensures.first ∙ ap option_copied c.in-None.is)))

pub returns-in-Some : goal.returns-in-Some
returns-in-Some c =
    c.by_only.ensures
    ∙ ap (only_act c.args.certificate.now c.args.file.now) c.deref.ensures
    ∙ sym (one_next c.args.certificate.now c.args.file.now c.args.requests.now c.in-Some.request.now
    (found_one (is_next c.args.certificate.now) c.args.requests.now c.in-Some.request.now (sym c.next_of-has_more.ensures.first ∙ ap option_copied c.in-Some.is) (sym c.next_of-has_more.ensures.more ∙ c.if-not-has_more.true)))
