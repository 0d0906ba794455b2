use Rattle.std.proofs.Common.{sym, ◌∙◌}
use Rattle.cmc_meta.specs.declared.key.Kind.TheVariants.{Certificate}
use Rattle.cmc_issuer.proofs.Rows.{found_here, found_later}
use Rattle.cmc_issuer.proofs.replies.rows_of.Goals as goal

pub returns-then-is_key_of : goal.returns-then-is_key_of
returns-then-is_key_of c =
    found_here (record { kind = Certificate; namespace = c.args.namespace.now; name = c.args.name.now }) c.in-Some.key.now c.in-Some.rows.now c.loop-key.key-iterator c.next.new.self c.args.material.now
    (sym c.is_key_of.ensures ∙ c.if-is_key_of.true) c.in-Some.ensures.steps c.loop-key.invariant

pub loop-key-preserved : goal.loop-key-preserved
loop-key-preserved c =
    found_later (record { kind = Certificate; namespace = c.args.namespace.now; name = c.args.name.now }) c.in-Some.key.now c.in-Some.rows.now c.loop-key.key-iterator c.next.new.self c.args.material.now
    (sym c.is_key_of.ensures ∙ c.if-is_key_of.false) c.in-Some.ensures.steps c.loop-key.invariant
