use Rattle.std.proofs.Common.{◌≡◌, ◌∙◌, ℤ, ap, sym, rules, w64, to_z, of_z}
use Rattle.std.proofs.lemmas.Int.{to_z-of_z}
use Rattle.cmc_match.specs.Facts.{pair_in}
use Rattle.cmc_policies.specs.Renewal.{renewal}
use Rattle.cmc_world.proofs.Pairs.{renewal_none, renewal_some}
use Rattle.cmc_world.proofs.due.renewal_in.Goals as goal

pub returns : goal.returns
returns c = renewal_none c.args.now c.args.renew (pair_in c.args.secret.now) (sym c.known_pairing-known.ensures.pair ∙ c.if-known.false)

pub returns-then-known : goal.returns-then-known
returns-then-known c =
    let first = c.known_pairing-known.result.not_before in
    let last = c.known_pairing-known.result.not_after in
    let at : c.renewal_time.result ≡ renewal first last c.args.renew =
    c.renewal_time.ensures.value ∙ ap (λ (x : ℤ). renewal x (to_z w64 (of_z w64 last)) c.args.renew) (to_z-of_z w64 first (search rules)) ∙ ap (λ (x : ℤ). renewal first x c.args.renew) (to_z-of_z w64 last (search rules)) in
    renewal_some c.args.now c.args.renew (pair_in c.args.secret.now) first last c.renewal_time.result c.coming.result (sym c.known_pairing-known.ensures.pair ∙ c.if-known.true) c.known_pairing-known.ensures.begins c.known_pairing-known.ensures.ends at
    (rw (to_z-of_z w64 c.args.now (search rules), to_z-of_z w64 c.renewal_time.result (search rules)) at c.coming.ensures)
