use Rattle.std.proofs.Common.{◌∙◌, sym, rules, w64}
use Rattle.std.proofs.lemmas.Int.{to_z-of_z}
use Rattle.cmc_match.specs.Facts.{pair_in}
use Rattle.cmc_world.proofs.Pairs.{expiry_none, expiry_some}
use Rattle.cmc_world.proofs.due.expiry_in.Goals as goal

pub returns : goal.returns
returns c = expiry_none c.args.now (pair_in c.args.secret.now) (sym c.known_pairing-known.ensures.pair ∙ c.if-known.false)

pub returns-then-known : goal.returns-then-known
returns-then-known c =
    let last = c.known_pairing-known.result.not_after in
    expiry_some c.args.now (pair_in c.args.secret.now) last c.coming.result (sym c.known_pairing-known.ensures.pair ∙ c.if-known.true) c.known_pairing-known.ensures.ends
    (rw (to_z-of_z w64 c.args.now (search rules), to_z-of_z w64 last (search rules)) at c.coming.ensures)
