use Rattle.std.proofs.Common.{◌≡◌, ℕ, take, true}
use Rattle.cmc_meta.specs.declared.key.Key.{Key}
use Rattle.cmc_audit_state.specs.Journaled.{is_kept, has_owner_uid}
use Rattle.cmc_audit_state.proofs.owned.add_under.Given as goal

abbrev pub invariant-loop-owner : goal.invariant-loop-owner
invariant-loop-owner l = record {
  added : (u : ℕ) → has_owner_uid u (take l.owner-index l.owners) ≡ true → is_kept l.owned u l.key ≡ true;
  keeps : (u : ℕ) (k : Key) → is_kept l.initial.owned u k ≡ true → is_kept l.owned u k ≡ true;
}
