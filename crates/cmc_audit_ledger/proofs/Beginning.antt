-- What is kept before any entry is what the empty history says.
use Rattle.std.proofs.Common.{◌≡◌, ◌∙◌, ℕ, ℤ, pos, Bool, true, false, [], None, Option, arith, refl, sym, ap, subst}
use Rattle.std.proofs.lemmas.Int.{ints}
use Rattle.std.specs.Prelude.{◌≤ℤ◌, neg_ℤ, int_le}
use Rattle.std.specs.List.{list_any}
use Rattle.cmc_meta.specs.declared.key.Kind.{Kind}
use Rattle.cmc_meta.specs.declared.key.Kind.TheVariants.{Certificate, CertificateRequest, Secret}
use Rattle.cmc_objects.specs.declared.role.Role.{Role}
use Rattle.cmc_objects.specs.Requests.{is_run_time}
use Rattle.cmc_model.specs.Replies.{empty_store}
use Rattle.cmc_model.specs.Histories.{role_eq}
use Rattle.cmc_rules.specs.Positions.{position_of}
use Rattle.cmc_setup.specs.Setups.{Setup, IsSetup}
use Rattle.cmc_audit_state.specs.declared.row.Row.{Row}
use Rattle.cmc_audit_state.specs.declared.standings.Standing.{Standing}
use Rattle.cmc_audit_state.specs.Standings.{first_standing, standing_of}
use Rattle.cmc_audit_state.specs.OpenRows.{open_row_at}
use Rattle.cmc_audit_ledger.specs.declared.ledger.Ledger.{Ledger}
use Rattle.cmc_audit_ledger.specs.Ledgers.{IsLedgerOf, IsRowOf, setting_of}
use borrow.Author.Differences.{le-false}

at_most : (a b : ℤ) (t : Bool) → int_le a b ≡ t → a ≤ℤ b → t ≡ true
at_most a b true test h = refl
at_most a b false test h = absurd (omega (arith, ints, le-false a b test, h))

run_time : (at : ℤ) → neg_ℤ (pos 599616000) ≤ℤ at → at ≤ℤ pos 250246627200 → is_run_time at ≡ true
run_time at low high = let first = at_most _ _ _ refl low in let last = at_most _ _ _ refl high in rw (first, last) refl

told_none : (k : Kind) (running : Bool) → position_of k (first_standing running).told ≡ 0
told_none Certificate running = refl
told_none CertificateRequest running = refl
told_none Secret running = refl

pub follows_none : (u : Setup) (l : Ledger) → IsSetup u → l.store ≡ record { faults = u.faults; state = empty_store } → l.journal ≡ [] → l.moment ≡ u.moment → l.window ≡ u.window
    → ((r : Role) → standing_of l.standings r ≡ first_standing (list_any (λ role. role_eq role r) u.roles)) → l.passes.begun ≡ 0 → ((n : ℕ) → open_row_at l.passes n ≡ None) → IsLedgerOf (setting_of u) [] l
follows_none u l setup store journal moment window standings begun rows = record {
  faults = λ i. (store i).faults;
  state = λ i. (store i).state;
  writes = journal;
  moment = moment;
  in_run = ap is_run_time moment ∙ run_time u.moment setup.begins (omega (arith, ints, setup.ends));
  window = window;
  runs = λ role. ap (λ (x : Standing). x.running) (standings role);
  told = λ role kind. ap (λ (x : Standing). position_of kind x.told) (standings role) ∙ told_none kind (list_any (λ r. role_eq r role) u.roles);
  begun = begun;
  rows = λ n. subst (λ (x : Option Row). IsRowOf [] (λ v. false) false None (λ v. false) x None) (sym (rows n)) tt;
  unheard = λ n above. record { not_found = λ v. refl; not_saved = refl; not_asked = refl; not_approved = λ v. refl };
  calls_low = omega arith;
  begun_low = omega arith;
}
