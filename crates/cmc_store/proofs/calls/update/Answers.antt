use Rattle.std.proofs.Common.{◌+◌, sym, ap, ◌∙◌}
use Rattle.cmc_meta.specs.declared.key.Key.{Key}
use Rattle.cmc_objects.specs.Objects.{key_of}
use Rattle.cmc_model.specs.Objects.{object_at}
use Rattle.cmc_model.specs.Admission.{is_taken}
use Rattle.cmc_model.specs.Stored.{revised}
use Rattle.cmc_model.specs.Replies.{IsUpdated, from_old}
use Rattle.cmc_model.proofs.Admission.{admitted_free, is_taken-revised}
use Rattle.cmc_model.proofs.Stored.{key_of-revised}
use Rattle.cmc_store.proofs.Right.{not_refused, refused_answer, updated_reply, reply_of_write}
use Rattle.cmc_store.proofs.calls.update.Goals as goal

pub returns-in_ok-secret-in-Some-2-clause-reply : goal.returns-in_ok-secret-in-Some-2-clause-reply
returns-in_ok-secret-in-Some-2-clause-reply c =
    reply_of_write _ _ (λ reply. IsUpdated c.args.accepted (is_taken c.args.catalogue.now c.args.object.now) c.args.object.now c.args.named (object_at c.args.catalogue.now (key_of c.args.object.now)) reply) c.write.ensures.told
    (updated_reply c.args.accepted (is_taken c.args.catalogue.now c.args.object.now) c.args.object.now c.in-Some.old.now c.args.named (object_at c.args.catalogue.now (key_of c.args.object.now)) c.in_ok-key.key.name
    (ap (object_at c.args.catalogue.now) (sym c.in_ok-key.ensures) ∙ sym c.in-Some.ensures.object) (cc (c.if-named-have.false, c.meta.ensures)) (rw c.in_ok-has_taken.ensures at (not_refused _ c.in-None.ensures)) (rw c.in-Some-2.is at c.in_ok-revise-in-None.ensures).0 (ap (λ (k : Key). k.name) c.in_ok-key.ensures))

pub write-requires-clause-key : goal.write-requires-clause-key
write-requires-clause-key c = rw (rw c.in-Some-2.is at c.in_ok-revise-in-None.ensures).1 (key_of-revised _ c.in-Some.old.now c.args.object.now ∙ c.in-Some.ensures.stands.0)

pub write-requires-clause-free : goal.write-requires-clause-free
write-requires-clause-free c =
    rw (rw c.in-Some-2.is at c.in_ok-revise-in-None.ensures).1
    (is_taken-revised _ _ c.in-Some.old.now c.args.object.now (c.in-Some.ensures.stands.0 ∙ c.in_ok-key.ensures)
    ∙ admitted_free _ _ c.args.object.now (rw c.in_ok-has_taken.ensures at (not_refused _ c.in-None.ensures)))

pub returns-in-Some-refusal-clause-answer : goal.returns-in-Some-refusal-clause-answer
returns-in-Some-refusal-clause-answer c = refused_answer (key_of c.args.object.now) (from_old (λ old. revised (c.args.accepted + 1) old c.args.object.now) (object_at c.args.catalogue.now (key_of c.args.object.now))) c.args.catalogue.now _ c.in-Some-refusal.replied c.in-Some-refusal.ensures
