-- Where an entry may stand by what is kept, it may stand by the rules, and the other way round.
use Rattle.std.proofs.Common.{◌≡◌, ℕ, ℤ, ◌+◌, ◌<◌, List, length, Bool, true, Option, Some, None, refl, sym, ap, subst, ◌∙◌, arith}
use Rattle.std.specs.Prelude.{if◌then◌else◌, ◌&&◌}
use Rattle.cmc_meta.specs.declared.key.Key.{Key}
use Rattle.cmc_meta.specs.declared.key.Kind.{Kind}
use Rattle.cmc_meta.specs.declared.key.Kind.TheVariants as kinds
use Rattle.cmc_meta.specs.Keys.{key_eq}
use Rattle.cmc_objects.specs.declared.role.Role.{Role}
use Rattle.cmc_objects.specs.declared.entry.Entry.{Entry}
use Rattle.cmc_objects.specs.declared.entry.Positions.{Positions}
use Rattle.cmc_objects.specs.Informers.{has_informer}
use Rattle.cmc_model.specs.declared.write.Write.{Write}
use Rattle.cmc_model.specs.Histories.{Setting, role_eq, accepted, runs}
use Rattle.cmc_model.specs.Writes.{write_at, is_known}
use Rattle.cmc_model.proofs.Writes.{writes_count}
use Rattle.cmc_rules.specs.declared.progress.OpenPass.{OpenPass}
use Rattle.cmc_rules.specs.Legality.{IsOfKind, IsDelivery, IsListing, IsBegin}
use Rattle.cmc_rules.specs.Passes.{is_pass_of, open_pass}
use Rattle.cmc_rules.specs.Positions.{positions}
use Rattle.cmc_audit_state.specs.declared.row.Row.{Row}
use Rattle.cmc_audit_state.specs.declared.row.Version.{Version}
use Rattle.cmc_audit_state.specs.Standings.{standing_of}
use Rattle.cmc_audit_state.specs.OpenRows.{is_row_of, open_row_at, IsOn}
use Rattle.cmc_audit_ledger.specs.declared.ledger.Ledger.{Ledger}
use Rattle.cmc_audit_ledger.specs.Ledgers.{IsRowOf, IsLedgerOf}
use Rattle.cmc_audit_ledger.specs.Positions.{HasRunningInformer, IsInWindow, IsBeyond, IsNext, shown_told}

-- ---- deliveries and lists

count : (s : Setting) (h : List Entry) (l : Ledger) → IsLedgerOf s h l → length l.journal ≡ accepted s h
count s h l is = ap (λ (ws : List Write). length ws) is.writes ∙ writes_count s h

pub delivery : (s : Setting) (h : List Entry) (l : Ledger) (role : Role) (kind : Kind) (to : ℕ) → IsLedgerOf s h l → HasRunningInformer l role kind → IsInWindow l role kind to → IsDelivery s h role kind to
delivery s h l role kind to is told within = record {
  running = sym (is.runs role) ∙ told.running;
  informed = told.informed;
  further = subst (λ p. p < to) (is.told role kind) within.further;
  written = subst (λ (ws : List Write). IsOfKind kind (write_at to ws)) is.writes within.written;
  within = let n = count s h l is in let w = within.within in let p = is.told role kind in let q = is.window in omega (arith, n, w, p, q);
}

pub told_of : (s : Setting) (h : List Entry) (l : Ledger) (role : Role) (kind : Kind) → IsLedgerOf s h l → runs s h role ≡ true → has_informer role kind ≡ true → HasRunningInformer l role kind
told_of s h l role kind is running informed = record { running = is.runs role ∙ running; informed = informed }

pub within_of : (s : Setting) (h : List Entry) (l : Ledger) (role : Role) (kind : Kind) (to : ℕ) → IsLedgerOf s h l → IsDelivery s h role kind to → IsInWindow l role kind to
within_of s h l role kind to is d = record {
  further = subst (λ p. p < to) (sym (is.told role kind)) d.further;
  written = subst (λ (ws : List Write). IsOfKind kind (write_at to ws)) (sym is.writes) d.written;
  within = let n = count s h l is in let w = d.within in let p = is.told role kind in let q = is.window in omega (arith, n, w, p, q);
}

pub listing : (s : Setting) (h : List Entry) (l : Ledger) (role : Role) (kind : Kind) (to : ℕ) → IsLedgerOf s h l → HasRunningInformer l role kind → IsBeyond l role kind to → IsListing s h role kind to
listing s h l role kind to is told beyond = record {
  running = sym (is.runs role) ∙ told.running;
  informed = told.informed;
  beyond = let n = count s h l is in let w = beyond.beyond in let p = is.told role kind in let q = is.window in omega (arith, n, w, p, q);
  newest = beyond.newest ∙ count s h l is;
}

pub beyond_of : (s : Setting) (h : List Entry) (l : Ledger) (role : Role) (kind : Kind) (to : ℕ) → IsLedgerOf s h l → IsListing s h role kind to → IsBeyond l role kind to
beyond_of s h l role kind to is d = record {
  beyond = let n = count s h l is in let w = d.beyond in let p = is.told role kind in let q = is.window in omega (arith, n, w, p, q);
  newest = d.newest ∙ sym (count s h l is);
}

-- ---- begins

row_or_pass : (ws : List Write) (f : ℕ → Bool) (s : Bool) (a : Option Version) (y : Version → Bool) (role : Role) (key : Key) (x : Option Row) (p : Option OpenPass) → IsRowOf ws f s a y x p → is_row_of role key x ≡ is_pass_of role key p
row_or_pass ws f s a y role key None None is = refl
row_or_pass ws f s a y role key None (Some p) is = absurd is
row_or_pass ws f s a y role key (Some row) None is = absurd is
row_or_pass ws f s a y role key (Some row) (Some p) is = ap (λ (r : Role). role_eq r role && key_eq row.key key) is.role ∙ ap (λ (k : Key). role_eq p.role role && key_eq k key) is.key

same_pass : (s : Setting) (h : List Entry) (l : Ledger) (role : Role) (key : Key) (n : ℕ) → IsLedgerOf s h l → is_row_of role key (open_row_at l.passes n) ≡ is_pass_of role key (open_pass s h n)
same_pass s h l role key n is = row_or_pass _ _ _ _ _ role key (open_row_at l.passes n) (open_pass s h n) (is.rows n)

told_same : (s : Setting) (h : List Entry) (l : Ledger) (role : Role) → IsLedgerOf s h l → shown_told role (standing_of l.standings role).told ≡ positions h role
told_same s h l role is = λ i. record {
  certificates = if has_informer role kinds.Certificate then is.told role kinds.Certificate i else 0;
  requests = if has_informer role kinds.CertificateRequest then is.told role kinds.CertificateRequest i else 0;
  secrets = if has_informer role kinds.Secret then is.told role kinds.Secret i else 0;
}

pub begins : (s : Setting) (h : List Entry) (l : Ledger) (pass : ℕ) (role : Role) (key : Key) (at : Positions) (now : ℤ) → IsLedgerOf s h l → IsNext l pass role key at now → (IsOn l.passes role key → ⊥)
    → IsBegin s h pass role key at now
begins s h l pass role key at now is next free = record {
  running = sym (is.runs role) ∙ next.running;
  numbered = next.numbered ∙ ap (λ n. n + 1) is.begun;
  work = next.work;
  known = subst (λ (ws : List Write). is_known key ws ≡ true) is.writes next.known;
  free = λ working. free (working.0, same_pass s h l role key working.0 is ∙ working.1);
  told = next.told ∙ told_same s h l role is;
  present = next.present ∙ is.moment;
}

pub next_of : (s : Setting) (h : List Entry) (l : Ledger) (pass : ℕ) (role : Role) (key : Key) (at : Positions) (now : ℤ) → IsLedgerOf s h l → IsBegin s h pass role key at now → IsNext l pass role key at now
next_of s h l pass role key at now is b = record {
  running = is.runs role ∙ b.running;
  numbered = b.numbered ∙ ap (λ n. n + 1) (sym is.begun);
  work = b.work;
  known = subst (λ (ws : List Write). is_known key ws ≡ true) (sym is.writes) b.known;
  told = b.told ∙ sym (told_same s h l role is);
  present = b.present ∙ sym is.moment;
}

pub free_of : (s : Setting) (h : List Entry) (l : Ledger) (pass : ℕ) (role : Role) (key : Key) (at : Positions) (now : ℤ) → IsLedgerOf s h l → IsBegin s h pass role key at now → IsOn l.passes role key → ⊥
free_of s h l pass role key at now is b on = b.free (on.0, sym (same_pass s h l role key on.0 is) ∙ on.1)
