use Rattle.std.proofs.Common.{Some, ◌+◌, sym, ap, ◌∙◌}
use Rattle.cmc_meta.specs.declared.key.Key.{Key}
use Rattle.cmc_objects.specs.Objects.{key_of}
use Rattle.cmc_model.specs.Objects.{object_at}
use Rattle.cmc_model.specs.Admission.{is_taken}
use Rattle.cmc_model.specs.Stored.{created}
use Rattle.cmc_model.specs.Replies.{IsCreated}
use Rattle.cmc_model.proofs.Admission.{admitted_free, is_taken-created}
use Rattle.cmc_model.proofs.Stored.{key_of-created}
use Rattle.cmc_store.proofs.Right.{not_refused, refused_answer, created_reply, reply_of_write}
use Rattle.cmc_store.proofs.calls.create.Goals as goal

pub returns-in_ok-made-in-None-refusal-clause-reply : goal.returns-in_ok-made-in-None-refusal-clause-reply
returns-in_ok-made-in-None-refusal-clause-reply c =
    reply_of_write _ _ (λ reply. IsCreated c.args.accepted (is_taken c.args.catalogue.now c.args.object.now) c.args.object.now (object_at c.args.catalogue.now (key_of c.args.object.now)) reply) c.write.ensures.told
    (created_reply c.args.accepted (is_taken c.args.catalogue.now c.args.object.now) c.args.object.now (object_at c.args.catalogue.now (key_of c.args.object.now)) c.in_ok-key.key.name
    (ap (object_at c.args.catalogue.now) (sym c.in_ok-key.ensures) ∙ sym c.in-None.ensures.object) (rw c.in_ok-has_taken-in-None.ensures at (not_refused _ c.in-None-refusal.ensures)) (ap (λ (k : Key). k.name) c.in_ok-key.ensures))

pub write-requires-clause-key : goal.write-requires-clause-key
write-requires-clause-key c = rw c.in_ok-made-in-None-refusal.ensures (key_of-created _ _ _ ∙ sym c.in_ok-key.ensures)

pub write-requires-clause-free : goal.write-requires-clause-free
write-requires-clause-free c =
    rw c.in_ok-made-in-None-refusal.ensures (is_taken-created _ _ _ c.args.object.now ∙ admitted_free _ _ c.args.object.now (rw c.in_ok-has_taken-in-None.ensures at (not_refused _ c.in-None-refusal.ensures)))

pub returns-in-Some-refusal-clause-answer : goal.returns-in-Some-refusal-clause-answer
returns-in-Some-refusal-clause-answer c = refused_answer (key_of c.args.object.now) (Some (created (c.args.accepted + 1) c.args.now c.args.object.now)) c.args.catalogue.now _ c.in-Some-refusal.replied c.in-Some-refusal.ensures
