use Rattle.std.proofs.Common.{◌≡◌, ◌∙◌, ℕ, ap, sym}
use Rattle.std.specs.Prelude.{nat_lt}
use Rattle.cmc_caches.specs.Posted.{Posted}
use Rattle.cmc_model.specs.Writes.{is_known}
use Rattle.cmc_caches.proofs.LastNumbers.{known_under}
use Rattle.cmc_caches.proofs.caches.Caches.knows.Goals as goal

pub returns : goal.returns
returns c =
    ap (nat_lt 0) c.last_under.ensures ∙ known_under c.args.key.now c.self.inside.board.writes ∙ ap (λ (p : Posted). is_known c.args.key.now p.writes) c.self.view_is
