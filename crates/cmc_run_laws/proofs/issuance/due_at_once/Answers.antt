use Rattle.std.proofs.Common.{◌≡◌, ◌+◌, ◌<◌, ◌≤◌, ℕ, ℤ, pos, Bool, true, false, sym, ap, subst, int_lt, ◌+ℤ◌, ◌-ℤ◌, unsigned_abs, arith}
use Rattle.std.proofs.lemmas.Int.{ints}
use Rattle.cmc_policies.specs.Renewal.{lead, lifetime}
use Rattle.cmc_policies.specs.declared.renewal.Renew.{Renew}
use Rattle.cmc_run_laws.proofs.issuance.due_at_once.Goals as goal

back : (a : ℤ) (n : ℕ) → (a +ℤ pos n) -ℤ a ≡ pos n
back a n = grind (arith)

lasts : (a : ℤ) (n : ℕ) → lifetime a (a +ℤ pos n) ≡ n
lasts a n = ap unsigned_abs (back a n)

below : (now : ℤ) (before life part : ℕ) → part + before < life → int_lt now (((now -ℤ pos before) +ℤ pos life) -ℤ pos part) ≡ true
below now before life part small = grind (arith, ints)

above : (now : ℤ) (before life part : ℕ) → life ≤ part + before → int_lt now (((now -ℤ pos before) +ℤ pos life) -ℤ pos part) ≡ false
above now before life part large = grind (arith, ints)

by_lifetime : (b : Bool) (now : ℤ) (before life : ℕ) (renew : Renew) → int_lt now (((now -ℤ pos before) +ℤ pos life) -ℤ pos (lead life renew)) ≡ b
    → int_lt now (((now -ℤ pos before) +ℤ pos life) -ℤ pos (lead (lifetime (now -ℤ pos before) ((now -ℤ pos before) +ℤ pos life)) renew)) ≡ b
by_lifetime b now before life renew is = subst (λ (n : ℕ). int_lt now (((now -ℤ pos before) +ℤ pos life) -ℤ pos (lead n renew)) ≡ b) (sym (lasts (now -ℤ pos before) life)) is

pub returns-clause-later : goal.returns-clause-later
returns-clause-later c = λ now before life renew small. by_lifetime true now before life renew (below now before life (lead life renew) small)

pub returns-clause-at_once : goal.returns-clause-at_once
returns-clause-at_once c = λ now before life renew large. by_lifetime false now before life renew (above now before life (lead life renew) large)
