use Rattle.std.proofs.Common.{◌≡◌, ◌∙◌, ℕ, List, ap, arith, length}
use Rattle.cmc_objects.specs.declared.role.Role.TheVariants.{Issuing}
use Rattle.cmc_model.specs.Writes.{writes}
use Rattle.cmc_model.specs.declared.write.Write.{Write}
use Rattle.cmc_caches.specs.Posted.{told_of}
use Rattle.cmc_caches.specs.Told.{caches_at}
use Rattle.cmc_kernel.specs.Kept.{on}
use Rattle.cmc_waits.proofs.waits.all_that_exists.Goals as goal

pub start-requires-clause-certificates : goal.start-requires-clause-certificates
start-requires-clause-certificates c = let all = c.accepted-newest.ensures ∙ ap (λ (ws : List Write). length ws) c.log.ensures.writes in omega (arith, all)

pub start-requires-clause-requests : goal.start-requires-clause-requests
start-requires-clause-requests c = let all = c.accepted-newest.ensures ∙ ap (λ (ws : List Write). length ws) c.log.ensures.writes in omega (arith, all)

pub start-requires-clause-secrets : goal.start-requires-clause-secrets
start-requires-clause-secrets c = let all = c.accepted-newest.ensures ∙ ap (λ (ws : List Write). length ws) c.log.ensures.writes in omega (arith, all)

pub returns : goal.returns
returns c =
    let same : c.in_ok-all.all.writes ≡ on writes c.args.kernel.now = c.in_ok-all.ensures.writes ∙ c.caches.ensures.writes in
    let newest : c.accepted-newest.result ≡ length (on writes c.args.kernel.now) = c.accepted-newest.ensures ∙ ap (λ (ws : List Write). length ws) (c.log.ensures.writes ∙ same) in
    ap (λ (ws : List Write). caches_at ws (told_of c.start.new.self.told Issuing)) (c.in_ok-start.ensures.writes ∙ same)
    ∙ ap (caches_at (on writes c.args.kernel.now)) (c.in_ok-start.ensures.ok Issuing ∙ ap (λ (n : ℕ). record { certificates = n; requests = n; secrets = n }) newest)
