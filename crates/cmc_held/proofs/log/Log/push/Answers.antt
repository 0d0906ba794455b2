use Rattle.std.proofs.Common.{◌<◌, sym, subst, ◌∙◌, arith}
use Rattle.std.specs.Prelude.{vec_len, vec_capacity}
use Rattle.cmc_held.specs.Logs.{Logged}
use Rattle.cmc_held.proofs.Lasts.{last_pushed, if_ok}
use Rattle.cmc_held.proofs.log.Log.push.Goals as goal

pub invariant_of-self : goal.invariant_of-self
invariant_of-self c =
    let spare = subst (λ (v : Logged). 0 < v.spare) (sym c.self.view_is) c.requires in
    let room : vec_len c.self.inside.items < vec_capacity c.self.inside.items = omega (arith, spare) in
    let done = c.push.ensures.succeeds room in
    let count = c.len.ensures ∙ c.push.ensures.len ∙ if_ok c.push.result _ _ done in
    let whole = c.self.inside.items.ok in
    last_pushed c.self.inside.last c.put_at_kind-self-inside.result c.self.inside.items.items c.push.new.self.items c.args.write c.len.result
    (c.push.ensures.items ∙ if_ok c.push.result _ _ done) (omega (arith, count, whole)) c.put_at_kind-self-inside.ensures c.self.invariant
