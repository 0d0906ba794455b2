use Rattle.std.proofs.Common.{List, subst, sym, take, ◌++◌, ◌∷◌, [], ap, ◌∙◌}
use Rattle.std.proofs.lemmas.List.{take_more}
use Rattle.cmc_meta.specs.declared.key.Key.{Key}
use Rattle.cmc_caches.specs.Affected.{AreListedBySecret}
use Rattle.cmc_caches.proofs.Gathering.{secrets_more}
use Rattle.cmc_caches.proofs.Naming.{adds_on}
use Rattle.cmc_caches.specs.Board.{shown_by}
use Rattle.cmc_caches.proofs.listed.add_naming_all.Goals as goal

pub loop-secret-preserved : goal.loop-secret-preserved
loop-secret-preserved c =
    let before : List Key = take c.loop-secret.secret-index c.args.secrets.now in
    let next = take_more c.args.secrets.now c.loop-secret.secret-index c.secret-item.result c.loop-secret-test.true ∙ ap (λ (s : Key). before ++ s ∷ []) (sym c.secret-item.is) in
    record {
      listed = subst (λ (ks : List Key). AreListedBySecret (shown_by c.args.certificates.now) ks c.add_naming.new.keys.items) (sym next)
          (secrets_more (shown_by c.args.certificates.now) before c.secret-item.result c.loop-secret.keys.items c.add_naming.new.keys.items c.loop-secret.invariant.listed c.in_ok-add_naming.ensures.keeps c.in_ok-add_naming.ensures.listed);
      keeps = λ k among. c.in_ok-add_naming.ensures.keeps k (c.loop-secret.invariant.keeps k among);
      adds = adds_on (shown_by c.args.certificates.now) c.args.keys.now.items c.loop-secret.keys.items c.add_naming.new.keys.items c.loop-secret.invariant.adds c.in_ok-add_naming.ensures.adds;
    }
