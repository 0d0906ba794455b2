use Rattle.cmc_objects.proofs.Copies.{one_more_entry}
use Rattle.cmc_objects.proofs.material.copy_entries.Goals as goal

pub loop-certificate-preserved : goal.loop-certificate-preserved
loop-certificate-preserved c =
    one_more_entry c.loop-certificate.material c.next.new.self c.args.entries.now.entries c.set.new.self c.in-Some.certificate.now c.in-Some.rows.now c.iter-certificate-items.ensures.ordered
    (rw c.in-Some.ensures.steps at c.loop-certificate.invariant) (rw (c.in_ok-copy.ensures, c.in_ok-copy-2.ensures) at c.in_ok-set.ensures.ok)
