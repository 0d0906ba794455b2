-- A call leaves each approval and each denial as it was.
use Rattle.std.proofs.Common.{◌≡◌, ◌∙◌, ℕ, ℤ, ◌+◌, Bool, true, false, cond, List, Option, Some, None, refl, sym, ap, subst}
use Rattle.std.specs.Prelude.{if◌then◌else◌}
use Rattle.std.specs.FinMap.{get-empty}
use Rattle.std.specs.Ordering.{eq_by_cmp, is_eq}
use Rattle.std.specs.declared.cmp.Ordering.{Ordering}
use Rattle.std.specs.declared.cmp.Ordering.TheVariants.{Less, Equal, Greater}
use Rattle.cmc_meta.specs.declared.key.Key.{Key}
use Rattle.cmc_meta.specs.Keys.{key_cmp}
use Rattle.cmc_objects.specs.declared.call.Call.{Call}
use Rattle.cmc_objects.specs.declared.call.Reply.{Reply}
use Rattle.cmc_objects.specs.declared.object.Object.{Object}
use Rattle.cmc_model.specs.Objects.{Objects, no_objects, object_at}
use Rattle.cmc_model.specs.Replies.{State, IsReply, is_accepted, key_of_call, put_at, settled, state_after, stored}
use Rattle.cmc_model.specs.Verdicts.{HasOneVerdict, KeepsVerdicts}
use Rattle.cmc_model.proofs.Accepting.{accepted_found}
use Rattle.cmc_meta.proofs.KeyOrder.{key_cmp-IsAntisymmetric}
use Rattle.cmc_model.proofs.Verdicts.{IsHeirOf, IsOne, IsSteady, keeps_self, steady_call}
use Rattle.cmc_model.proofs.Versions.{object_at-put}
use Rattle.cmc_store.specs.Permanence.{KeepFinalVerdicts, HaveOneVerdict, KeepVerdicts}

one_as : (o p : Object) (x : Option Object) → x ≡ Some o → x ≡ Some p → o ≡ p
one_as o p x a b = let some : Some o ≡ Some p = sym a ∙ b in cc some

pub none_has : HaveOneVerdict no_objects
none_has key o is = absurd (let none : object_at no_objects key ≡ None = get-empty key_cmp key in cc (none, is))

-- objects that stay
pub untouched : (m : Objects) → HaveOneVerdict m → KeepFinalVerdicts m m
untouched m one = record { one = one; kept = λ key older newer a b. subst (KeepsVerdicts older) (one_as older newer (object_at m key) a b) (keeps_self older) }

-- ---- one write

tied : (o : Ordering) → is_eq o ≡ true → o ≡ Equal
tied Less h = cc
tied Equal h = refl
tied Greater h = cc

same_key : (j k : Key) → eq_by_cmp key_cmp j k ≡ true → j ≡ k
same_key j k h = key_cmp-IsAntisymmetric j k (tied (key_cmp j k) h)

one_at : (m : Objects) → HaveOneVerdict m → (key : Key) (o : Option Object) → object_at m key ≡ o → IsOne o
one_at m one key None is = tt
one_at m one key (Some o) is = one key o is

written_one : (old new : Option Object) (o : Object) → IsSteady old new → new ≡ Some o → HasOneVerdict o
written_one old None o steady is = absurd (cc is)
written_one old (Some n) o steady is = subst HasOneVerdict (one_as n o (Some n) refl is) steady.0

heir_keeps : (old : Option Object) (older o : Object) → IsHeirOf old o → old ≡ Some older → KeepsVerdicts older o
heir_keeps None older o heir is = absurd (cc is)
heir_keeps (Some old) older o heir is = subst (λ (x : Object). KeepsVerdicts x o) (one_as old older (Some old) refl is) heir

written_keeps : (old new : Option Object) (older o : Object) → IsSteady old new → old ≡ Some older → new ≡ Some o → KeepsVerdicts older o
written_keeps old None older o steady was is = absurd (cc is)
written_keeps old (Some n) older o steady was is = heir_keeps old older o (subst (IsHeirOf old) (one_as n o (Some n) refl is) steady.1) was

put_one : (m : Objects) (k : Key) (new : Option Object) → HaveOneVerdict m → IsSteady (object_at m k) new → HaveOneVerdict (put_at m k new)
put_one m k new one steady q o is = by_test (eq_by_cmp key_cmp q k) (sym (object_at-put m k new q) ∙ is)
  where
    by_test : (b : Bool) → cond b new (object_at m q) ≡ Some o → HasOneVerdict o
    by_test true at = written_one (object_at m k) new o steady at
    by_test false at = one q o at

put_keeps : (m : Objects) (k : Key) (new : Option Object) → IsSteady (object_at m k) new → KeepVerdicts m (put_at m k new)
put_keeps m k new steady q older newer was is = by_test (eq_by_cmp key_cmp q k) refl (sym (object_at-put m k new q) ∙ is)
  where
    by_test : (b : Bool) → eq_by_cmp key_cmp q k ≡ b → cond b new (object_at m q) ≡ Some newer → KeepsVerdicts older newer
    by_test true e at = written_keeps (object_at m k) new older newer steady (ap (object_at m) (sym (same_key q k e)) ∙ was) at
    by_test false e at = subst (KeepsVerdicts older) (one_as older newer (object_at m q) was at) (keeps_self older)

put_final : (m : Objects) (k : Key) (new : Option Object) → HaveOneVerdict m → IsSteady (object_at m k) new → KeepFinalVerdicts m (put_at m k new)
put_final m k new one steady = record { one = put_one m k new one steady; kept = put_keeps m k new steady }

-- ---- one call

pub called_final : (faults : List ℕ) (now : ℤ) (st : State) (call : Call) (reply : Reply) → IsReply faults st call reply → HaveOneVerdict st.objects → KeepFinalVerdicts st.objects (state_after now st call reply).objects
called_final faults now st call reply right one = by_reply (is_accepted reply) refl
  where
    by_reply : (b : Bool) → is_accepted reply ≡ b
        → KeepFinalVerdicts st.objects (if b then put_at st.objects (key_of_call (settled call reply)) (stored (st.accepted + 1) now st.objects (settled call reply)) else st.objects)
    by_reply false e = untouched st.objects one
    by_reply true e =
        let key = key_of_call (settled call reply) in
        put_final st.objects key (stored (st.accepted + 1) now st.objects (settled call reply)) one
        (steady_call (st.accepted + 1) now st.objects (settled call reply) (accepted_found faults st call reply right e) (one_at st.objects one key (object_at st.objects key) refl))

-- what an accepted call put, or what stood, keeps the verdicts
pub final_of : (faults : List ℕ) (now : ℤ) (st : State) (call : Call) (reply : Reply) (new : Objects) → IsReply faults st call reply → HaveOneVerdict st.objects
    → new ≡ (if is_accepted reply then put_at st.objects (key_of_call (settled call reply)) (stored (st.accepted + 1) now st.objects (settled call reply)) else st.objects)
    → KeepFinalVerdicts st.objects new
final_of faults now st call reply new right one is = subst (KeepFinalVerdicts st.objects) (sym is) (called_final faults now st call reply right one)
