use Rattle.cmc_audit_clauses.proofs.written.is_keyed.Goals as goal

pub returns-then-not-has_key : goal.returns-then-not-has_key
returns-then-not-has_key c = (λ on. absurd (cc on), λ is. absurd (let on = c.has_key.ensures.1 is.has_key in let off = c.if-not-has_key.true in cc (on, off)))

pub returns-then-not-is_paired : goal.returns-then-not-is_paired
returns-then-not-is_paired c = (λ on. absurd (cc on), λ is. absurd (let on = c.is_paired.ensures.1 is.pair in let off = c.if-not-is_paired.true in cc (on, off)))
