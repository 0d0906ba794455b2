-- Changes that are made one after the other.
use Rattle.std.proofs.Common.{◌≡◌, List, ◌∷◌, sym, ap, ◌∙◌}
use Rattle.cmc_model.specs.declared.write.Write.{Write}
use Rattle.cmc_model.specs.Objects.{Objects}
use Rattle.cmc_model.specs.Replies.{put_at}
use Rattle.cmc_informer.specs.Caches.{objects_in, after_writes}
use Rattle.cmc_informer.specs.declared.rows.Rows.{Rows}

-- a write is made, and the later ones are left
pub made_next : (a b : Rows) (w : Write) (left rest : List Write) (all : Objects) → left ≡ w ∷ rest → after_writes (objects_in a.slots) left ≡ all
    → objects_in b.slots ≡ put_at (objects_in a.slots) w.key w.object → after_writes (objects_in b.slots) rest ≡ all
made_next a b w left rest all steps so_far made = ap (λ (m : Objects). after_writes m rest) made ∙ sym (ap (after_writes (objects_in a.slots)) steps) ∙ so_far
