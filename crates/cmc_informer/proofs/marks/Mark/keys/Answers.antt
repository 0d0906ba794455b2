use Rattle.std.proofs.Common.{List, ◌∷◌, [], ◌++◌, ap, ◌∙◌}
use Rattle.cmc_meta.specs.declared.key.Key.{Key}
use Rattle.cmc_informer.proofs.OneKey.{one_key, keys_if_on, keys_if_off}
use Rattle.cmc_informer.proofs.marks.Mark.keys.Goals as goal
use Rattle.cmc_informer.proofs.marks.Mark.keys.Goals.{then-self+in_ok-copy+in_ok-push, else-self}

pub returns : goal.returns
returns c =
    elim c.if-self.branch [
      | then-self+in_ok-copy+in_ok-push w ↦
          let one = w.keys-is ∙ w.in_ok-push.ensures.ok ∙ ap (λ (ks : List Key). ks ++ w.in_ok-copy.field-0 ∷ []) c.new-keys.ensures ∙ ap (λ (k : Key). k ∷ []) w.in_ok-copy.ensures in
          one_key c.args.self.now c.if-self.keys (keys_if_on c.args.self.now c.if-self.keys w.if-self.true one)
      | else-self w ↦ one_key c.args.self.now c.if-self.keys (keys_if_off c.args.self.now c.if-self.keys w.if-self.false (w.keys-is ∙ c.new-keys.ensures))
    ]
