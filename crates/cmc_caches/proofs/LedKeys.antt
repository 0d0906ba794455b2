-- The keys to which a column leads: those of its indexes now, with those that left them since.
use Rattle.std.proofs.Common.{◌≡◌, ℕ, ◌≤◌, List, sym, ap, subst, ◌∙◌}
use Rattle.cmc_meta.specs.declared.key.Key.{Key}
use Rattle.cmc_meta.specs.declared.key.Kind.{Kind}
use Rattle.cmc_model.specs.declared.write.Write.{Write}
use Rattle.cmc_model.specs.Objects.{Objects, object_at}
use Rattle.cmc_informer.specs.Caches.{is_owned_by, is_targeting, secret_key}
use Rattle.cmc_informer.specs.Indexes.{AreKeys}
use Rattle.cmc_caches.specs.Left.{AreFalling, has_left, numbers_under}
use Rattle.cmc_caches.specs.Lines.{numbers_in}
use Rattle.cmc_caches.specs.Board.{Columned, IsColumn, IsJoined, LeadTo, is_of_secret, numbers_for, objects_by}
use Rattle.cmc_caches.proofs.Columns.{leads_at}

module _ (kind : Kind) (n p : ℕ) (ws : List Write) (column here : Columned) (objects : Objects) (now keys : List Key) where
  pub owner_falls : (uid : ℕ) (line : List ℕ) → IsColumn kind column n ws → here ≡ column → line ≡ numbers_under here.owners uid → AreFalling line
  owner_falls uid line is same at = subst AreFalling (ap (λ (c : Columned). numbers_under c.owners uid) (sym same) ∙ sym at) (is.by_owner.falls uid)

  pub target_falls : (namespace name : List ℕ) (line : List ℕ) → IsColumn kind column n ws → here ≡ column → line ≡ numbers_in here.targets (secret_key namespace name) → AreFalling line
  target_falls namespace name line is same at = subst AreFalling (ap (λ (c : Columned). numbers_in c.targets (secret_key namespace name)) (sym same) ∙ sym at) (is.by_target.falls (namespace, name))

  pub owner_leads : (uid : ℕ) (line : List ℕ) → p ≤ n → IsColumn kind column n ws → here ≡ column → objects ≡ here.objects → line ≡ numbers_under here.owners uid
      → AreKeys now (λ k. is_owned_by uid (object_at objects k)) → IsJoined now line p ws keys → LeadTo keys (λ k. is_owned_by uid (object_at (objects_by kind p ws) k))
  owner_leads uid line low is same held at are joined =
      leads_at kind is_owned_by column.objects (numbers_under column.owners) n ws uid p keys low is.by_owner joined.ordered
      (λ k on. joined.now_kept k (are.exact k ∙ ap (λ (m : Objects). is_owned_by uid (object_at m k)) (held ∙ ap (λ (c : Columned). c.objects) same) ∙ on))
      (λ k had. joined.left_added k (ap (λ (l : List ℕ). has_left p l k ws) (at ∙ ap (λ (c : Columned). numbers_under c.owners uid) same) ∙ had))

  pub target_leads : (namespace name : List ℕ) (line : List ℕ) → p ≤ n → IsColumn kind column n ws → here ≡ column → objects ≡ here.objects → line ≡ numbers_in here.targets (secret_key namespace name)
      → AreKeys now (λ k. is_targeting namespace name (object_at objects k)) → IsJoined now line p ws keys → LeadTo keys (λ k. is_targeting namespace name (object_at (objects_by kind p ws) k))
  target_leads namespace name line low is same held at are joined =
      leads_at kind is_of_secret column.objects (numbers_for column.targets) n ws (namespace, name) p keys low is.by_target joined.ordered
      (λ k on. joined.now_kept k (are.exact k ∙ ap (λ (m : Objects). is_targeting namespace name (object_at m k)) (held ∙ ap (λ (c : Columned). c.objects) same) ∙ on))
      (λ k had. joined.left_added k (ap (λ (l : List ℕ). has_left p l k ws) (at ∙ ap (λ (c : Columned). numbers_in c.targets (secret_key namespace name)) same) ∙ had))
