-- What a world holds after a pass has begun.
use Rattle.std.proofs.Common.{◌≡◌, ℕ, ℤ, ◌+◌, List, ◌∷◌, length, Option, Some, refl, sym, ap, subst, ◌∙◌, arith}
use Rattle.std.specs.Prelude.{◌==◌, ◌&&◌, ◌≤◌, if◌then◌else◌}
use Rattle.cmc_meta.specs.declared.key.Key.{Key}
use Rattle.cmc_meta.specs.Keys.{key_eq}
use Rattle.cmc_objects.specs.declared.role.Role.{Role}
use Rattle.cmc_objects.specs.declared.entry.Positions.{Positions}
use Rattle.cmc_objects.specs.declared.entry.Entry.{Entry}
use Rattle.cmc_objects.specs.declared.entry.Entry.TheVariants.{Begin}
use Rattle.cmc_pass.specs.declared.pass.Views.{Views}
use Rattle.cmc_rules.specs.declared.progress.OpenPass.{OpenPass}
use Rattle.cmc_rules.specs.declared.progress.Origin.{Origin}
use Rattle.cmc_rules.specs.declared.progress.Past.{Past}
use Rattle.cmc_model.specs.Histories.{Setting, moment, role_eq}
use Rattle.cmc_rules.specs.Positions.{positions}
use Rattle.cmc_rules.specs.Views.{views}
use Rattle.cmc_rules.specs.Sameness.{IsDue}
use Rattle.cmc_rules.specs.Origins.{begun}
use Rattle.cmc_rules.specs.Passes.{new_pass}
use Rattle.cmc_rules.specs.Memory.{past, with_begin}
use Rattle.cmc_rules.specs.Legality.{IsBegin}
use Rattle.cmc_rules.proofs.Positions.{begun_short}
use Rattle.cmc_held.specs.declared.role_states.RoleState.{RoleState}
use Rattle.cmc_held.specs.Dues.{shown_positions}
use Rattle.cmc_kernel.specs.declared.begin.Prepared.{Prepared}
use Rattle.cmc_moves.specs.declared.moves.Stepped.TheVariants.{Done}
use Rattle.cmc_moves.specs.Answers.{AnswersBegin}
use Rattle.cmc_kernel.specs.Kept.{Holdings, IsKept}
use Rattle.cmc_kernel.specs.Prepared.{IsPrepared}
use Rattle.cmc_kernel.proofs.Events.{kept_begun}
use Rattle.cmc_kernel.proofs.Judging.{shown_is}
use Rattle.cmc_moves.proofs.Tables.{may_begin}

counted : (s : Setting) (h : List Entry) (w : Holdings) (n : ℕ) → IsKept s h w → n ≡ length w.origins → n ≡ begun s h
counted s h w n k e = e ∙ ap length k.held.origins

pub number_fits : (s : Setting) (h : List Entry) (w : Holdings) (n : ℕ) → IsKept s h w → length h ≤ 250000 → n ≡ length w.origins → n ≤ 250000
number_fits s h w n k short e =
    let same : n ≡ begun s h = counted s h w n k e in
    let low : begun s h ≤ length h = begun_short s h in
    omega (arith, same, low, short)

pub prepared : (s : Setting) (h : List Entry) (w : Holdings) (role : Role) (key : Key) (t : RoleState) (at : Positions) (seen : Views) (pass : OpenPass) (since : ℤ) (count : ℕ)
    → IsKept s h w → t ≡ w.role_state role → at ≡ shown_positions role t.told → seen ≡ views s h role key
    → since ≡ w.moment → pass ≡ new_pass role key seen since → count ≡ length w.origins
    → IsPrepared s h role key (record { number = count + 1; origin = record { role = role; incarnation = t.incarnation }; pass = pass; seen = seen; key = key; at = at })
prepared s h w role key t at seen pass since count k stood shown seen_is m p o =
    record {
      number = ap (λ (x : ℕ). x + 1) (counted s h w count k o);
      origin = ap (λ (x : RoleState). let y : Origin = record { role = role; incarnation = x.incarnation } in y) (stood ∙ k.held.role_state role);
      pass = p ∙ ap (λ (x : Views). new_pass role key x since) seen_is ∙ ap (λ (x : ℤ). new_pass role key (views s h role key) x) (m ∙ k.held.moment);
      seen = seen_is;
      key = refl;
      at = shown_is s h w role t at k stood shown;
    }

pub kept_open : (s : Setting) (h : List Entry) (w : Holdings) (role : Role) (p : Prepared) (now later : ℤ) (os : List Origin) (opened : ℕ → Option OpenPass) (pasts : Role → Key → Past)
    → IsKept s h w → now ≡ w.moment → later ≡ w.moment → AnswersBegin s h role p.key Done → IsPrepared s h role p.key p
    → os ≡ p.origin ∷ w.origins
    → ((n : ℕ) → opened n ≡ (if n == p.number then Some p.pass else w.opened n))
    → ((r : Role) (k : Key) → pasts r k ≡ (if role_eq role r && key_eq p.key k then with_begin p.seen now (w.past r k) else w.past r k))
    → IsKept s (Begin p.number role p.key p.at later ∷ h) (record w { origins = os; opened = opened; past = pasts })
kept_open s h w role p now later os opened pasts k m1 m2 a is came put noted =
    let now_is : now ≡ moment s h = m1 ∙ k.held.moment in
    let later_is : later ≡ moment s h = m2 ∙ k.held.moment in
    let may = may_begin s h role p.key a in
    let due : IsDue (past s h role p.key) (views s h role p.key) (moment s h) (positions h role) = record { told = may.own; other = may.other } in
    let begins : IsBegin s h (begun s h + 1) role p.key (positions h role) (moment s h) =
    record {
      running = may.running;
      numbered = refl;
      work = may.queued.work;
      known = may.queued.known;
      free = may.idle;
      told = refl;
      present = refl;
    } in
    let kept =
    kept_begun s h w role p.key os opened pasts k begins due (omega (arith, may.room))
    (came ∙ ap (λ (o : Origin). o ∷ w.origins) is.origin)
    (λ n. put n ∙ ap (λ (m : ℕ). if n == m then Some p.pass else w.opened n) is.number ∙ ap (λ (q : OpenPass). if n == begun s h + 1 then Some q else w.opened n) is.pass)
    (λ r q. noted r q ∙ ap (λ (v : Views). if role_eq role r && key_eq p.key q then with_begin v now (w.past r q) else w.past r q) is.seen ∙ ap (λ (m : ℤ). if role_eq role r && key_eq p.key q then with_begin (views s h role p.key) m (w.past r q) else w.past r q) now_is) in
    subst (λ (m : ℕ). IsKept s (Begin m role p.key p.at later ∷ h) (record w { origins = os; opened = opened; past = pasts })) (sym is.number)
    (subst (λ (q : Positions). IsKept s (Begin (begun s h + 1) role p.key q later ∷ h) (record w { origins = os; opened = opened; past = pasts })) (sym is.at)
    (subst (λ (m : ℤ). IsKept s (Begin (begun s h + 1) role p.key (positions h role) m ∷ h) (record w { origins = os; opened = opened; past = pasts })) (sym later_is) kept))
