use Rattle.std.proofs.Common.{◌∙◌, ap, sym}
use Rattle.std.specs.Option.{option_copied}
use Rattle.cmc_kernel.specs.Kept.{setting_of}
use Rattle.cmc_world.proofs.Going.{newest_is}
use Rattle.cmc_world.proofs.fed_passes.is_newest.Goals as goal

pub returns-in-Some : goal.returns-in-Some
returns-in-Some c =
    let opened = sym (c.passes.ensures c.args.pass) ∙ sym c.get.ensures ∙ ap option_copied c.in-Some.is in
    λ on. newest_is (setting_of c.args.kernel.now.scenario) c.args.kernel.now.history c.args.pass c.args.incarnation c.incarnation.result c.in-Some.open.now (c.if-pass-passes_begun.false ∙ c.passes_begun.ensures) opened c.incarnation.ensures on
