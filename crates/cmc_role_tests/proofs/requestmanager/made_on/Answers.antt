use Rattle.std.proofs.Common.{◌∙◌, ap, sym}
use Rattle.cmc_objects.specs.declared.orders.CsrOrder.{CsrOrder}
use Rattle.cmc_objects.specs.declared.orders.Order.TheVariants.{Csr}
use Rattle.cmc_pass.specs.declared.pass.Act.TheVariants.{Ask}
use Rattle.cmc_role_tests.proofs.requestmanager.made_on.Goals as goal

pub then-requires-clause-asked : goal.then-requires-clause-asked
then-requires-clause-asked c = (c.args.desk.now, c.requires.asked ∙ ap (λ (o : CsrOrder). Ask (Csr o)) (sym c.in_ok-sign.ensures))
