use Rattle.std.proofs.Common.{◌≤◌, ◌∙◌, [], ap, reverse, subst, sym}
use Rattle.std.proofs.lemmas.Result.{IfOk-weaker}
use Rattle.cmc_model.specs.Objects.{object_at}
use Rattle.cmc_informer.specs.Caches.{is_targeting}
use Rattle.cmc_caches.specs.Board.{Boarded, LeadTo, column_of, objects_by}
use Rattle.cmc_caches.specs.Lines.{numbers_in}
use Rattle.cmc_caches.proofs.Boards.{board_column}
use Rattle.cmc_caches.proofs.LedKeys.{target_falls, target_leads}
use Rattle.cmc_caches.proofs.board.Board.by_secret.Goals as goal

pub joined-requires-clause-falls : goal.joined-requires-clause-falls
joined-requires-clause-falls c =
    target_falls c.args.kind c.self.inside.known c.args.position c.self.inside.log.writes (column_of c.args.kind c.self.inside.certificates c.self.inside.requests c.self.inside.secrets) c.column_for-column.result.now
    c.objects.result.now c.in_ok-now.now [] c.args.namespace.now c.args.name.now (reverse c.left_target.result.now)
    (board_column c.self.inside.lines c.self.inside.certificates c.self.inside.requests c.self.inside.secrets c.args.kind c.self.inside.known c.self.inside.log.writes c.self.invariant) c.column_for-column.ensures
    (c.left_target.ensures ∙ ap (numbers_in c.column_for-column.result.now.targets) c.in_ok-secret.ensures)

pub returns : goal.returns
returns c =
    let low = subst (λ (b : Boarded). c.args.position ≤ b.known) (sym c.self.view_is) c.requires in
    IfOk-weaker c.joined.result _ _
    (λ keys are.
    subst (λ (b : Boarded). LeadTo keys (λ k. is_targeting c.args.namespace.now c.args.name.now (object_at (objects_by c.args.kind c.args.position b.writes) k))) c.self.view_is
    (target_leads c.args.kind c.self.inside.known c.args.position c.self.inside.log.writes (column_of c.args.kind c.self.inside.certificates c.self.inside.requests c.self.inside.secrets) c.column_for-column.result.now
    c.objects.result.now c.in_ok-now.now keys c.args.namespace.now c.args.name.now (reverse c.left_target.result.now) low
    (board_column c.self.inside.lines c.self.inside.certificates c.self.inside.requests c.self.inside.secrets c.args.kind c.self.inside.known c.self.inside.log.writes c.self.invariant) c.column_for-column.ensures c.objects.ensures
    (c.left_target.ensures ∙ ap (numbers_in c.column_for-column.result.now.targets) c.in_ok-secret.ensures) c.in_ok-now.ensures are))
    c.joined.ensures
