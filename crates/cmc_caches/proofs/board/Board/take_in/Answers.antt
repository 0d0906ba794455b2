use Rattle.std.proofs.Common.{◌<◌, ◌+◌, ◌∷◌, ◌∙◌, ℕ, List, length, ap, subst, sym}
use Rattle.std.specs.Prelude.{if◌then◌else◌}
use Rattle.cmc_meta.specs.Keys.{key_eq}
use Rattle.cmc_caches.specs.Board.{Boarded}
use Rattle.cmc_caches.proofs.Boards.{board_kept, board_more, board_roomed}
use Rattle.cmc_caches.proofs.NextWrites.{next_in_place}
use Rattle.cmc_caches.proofs.board.Board.take_in.Goals as goal

pub invariant_of-self : goal.invariant_of-self
invariant_of-self c =
    board_roomed c.self.inside.lines c.room.new.self c.self.inside.certificates c.self.inside.requests c.self.inside.secrets c.self.inside.known c.self.inside.log.writes c.self.invariant c.room.ensures.same

pub invariant_of-self-in_err-apply_to : goal.invariant_of-self-in_err-apply_to
invariant_of-self-in_err-apply_to c =
    let low = subst (λ (b : Boarded). b.known < length b.writes) (sym c.self.view_is) c.requires in
    board_kept c.self.inside.lines c.room.new.self c.self.inside.certificates c.self.inside.requests c.self.inside.secrets c.apply_to.new.certificates c.apply_to.new.requests c.apply_to.new.secrets
    c.index-as_slice-self.result.key.kind c.self.inside.known c.self.inside.log.writes low c.self.invariant c.room.ensures.same c.in_err-apply_to.ensures.no_certificates c.in_err-apply_to.ensures.no_requests
    c.in_err-apply_to.ensures.no_secrets

pub invariant_of-self-2 : goal.invariant_of-self-2
invariant_of-self-2 c =
    let low = subst (λ (b : Boarded). b.known < length b.writes) (sym c.self.view_is) c.requires in
    let next = next_in_place c.as_slice.result.now c.self.inside.log.writes c.self.inside.known c.index-as_slice-self.result c.as_slice.ensures low c.index-as_slice-self.is in
    board_more c.self.inside.lines c.push.new.self c.self.inside.certificates c.self.inside.requests c.self.inside.secrets c.apply_to.new.certificates c.apply_to.new.requests c.apply_to.new.secrets c.self.inside.known
    c.index-as_slice-self.result c.self.inside.log.writes low next c.self.invariant
    (λ k. c.push.ensures k ∙ ap (λ (l : List ℕ). if key_eq c.index-as_slice-self.result.key k then (c.self.inside.known + 1) ∷ l else l) (c.room.ensures.same k)) c.in_ok-apply_to.ensures.certificates c.in_ok-apply_to.ensures.requests
    c.in_ok-apply_to.ensures.secrets
