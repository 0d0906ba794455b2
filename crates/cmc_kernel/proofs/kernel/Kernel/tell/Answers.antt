use Rattle.std.proofs.Common.{◌≡◌, ◌∷◌, ◌∙◌, List, ap, length, sym, subst, OnOk}
use Rattle.cmc_objects.specs.declared.entry.Entry.{Entry}
use Rattle.cmc_model.specs.declared.write.Write.{Write}
use Rattle.cmc_model.specs.Histories.{accepted}
use Rattle.cmc_kernel.specs.Kept.{Seen, setting_of, on}
use Rattle.cmc_kernel.proofs.Judging.{listing, delivered_list, newest_is}
use Rattle.cmc_kernel.proofs.kernel.Kernel.tell.Goals as goal

pub list-requires-clause-may : goal.list-requires-clause-may
list-requires-clause-may c =
    listing _ _ c.args.role c.args.kind c.args.to c.accepted-newest.result c.reaches_back.result c.requires c.reaches_back.ensures c.if-reaches_back.false
    (subst (λ (v : Seen). c.accepted-newest.result ≡ on accepted v) c.self.view_is (newest_is _ _ _ c.accepted-newest.result c.self.invariant (c.accepted-newest.ensures ∙ ap (λ (ws : List Write). length ws) c.log.ensures.writes)))

pub returns-clause-ok : goal.returns-clause-ok
returns-clause-ok c =
    subst (λ (e : Entry). OnOk c.list.result (c.list.new.self ≡ record { scenario = c.args.self.now.scenario; history = e ∷ c.args.self.now.history }))
    (sym
    (delivered_list (setting_of c.args.self.now.scenario) c.args.self.now.history c.args.role c.args.kind c.args.to c.accepted-newest.result c.reaches_back.result c.reaches_back.ensures c.if-reaches_back.false
    (subst (λ (v : Seen). c.accepted-newest.result ≡ on accepted v) c.self.view_is (newest_is _ _ _ c.accepted-newest.result c.self.invariant (c.accepted-newest.ensures ∙ ap (λ (ws : List Write). length ws) c.log.ensures.writes)))))
    c.list.ensures.ok
