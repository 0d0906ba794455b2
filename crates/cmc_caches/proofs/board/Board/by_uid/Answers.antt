use Rattle.std.proofs.Common.{◌∙◌, ap, sym}
use Rattle.std.specs.Option.{option_copied}
use Rattle.cmc_model.specs.Writes.{write_at}
use Rattle.cmc_caches.specs.Board.{Boarded}
use Rattle.cmc_caches.proofs.BornKeys.{finds_born, none_born}
use Rattle.cmc_caches.proofs.board.Board.by_uid.Goals as goal

pub returns-in-Some : goal.returns-in-Some
returns-in-Some c =
    finds_born c.args.kind c.args.position c.args.self.now.writes c.args.uid c.in-Some.write.now (option_copied c.key_with_uid.result) c.requires.born
    (sym (c.in-Some.ensures ∙ ap (λ (b : Boarded). write_at c.args.uid b.writes) c.self.view_is)) c.key_with_uid.ensures

pub returns-in-None : goal.returns-in-None
returns-in-None c = none_born c.args.kind c.args.position c.args.self.now.writes c.args.uid c.requires.born (sym (c.in-None.ensures ∙ ap (λ (b : Boarded). write_at c.args.uid b.writes) c.self.view_is))
