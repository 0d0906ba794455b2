-- What an issuance writes into a Secret leaves it as it is when it is written again.
use Rattle.std.proofs.Common.{◌≡◌, ℕ, List, [], ◌∷◌, Bool, true, false, not, cond, Some, refl, sym, ap, subst, ◌∙◌, Ordering, Less, Equal, Greater}
use Rattle.std.specs.Prelude.{codes}
use Rattle.std.specs.Ordering.{nat_cmp, match_ordering, ordering_reverse}
use Rattle.std.specs.Str.{bytes_eq}
use Rattle.std.specs.Cmp.Lexicographic.{slice_cmp}
use Rattle.std.specs.FinMap.{slice_cmp-IsAntisymmetric, nat_cmp-IsAntisymmetric}
use Rattle.std.proofs.lemmas.Cmp.{nat_list_cmp_total, tied_itself}
use Rattle.std.proofs.lemmas.Slice.Eq.{bytes_eq-Decides}
use Rattle.cmc_meta.specs.PairLists.{with_text}
use Rattle.cmc_objects.specs.declared.certificate.Certificate.{Certificate}
use Rattle.cmc_objects.specs.declared.secret.Secret.{Secret}
use Rattle.cmc_objects.specs.Defaults.{issuer_kind, issuer_group}
use Rattle.cmc_rules.specs.Issuance.{without, filled, marks, signed_marks, old_target, secret_call}
use Rattle.cmc_load_laws.specs.Measure.{same_pairs, is_left}

abbrev Entries : Type 0
Entries = List (List ℕ × List ℕ)

-- the text stands under the name: to put it there again changes nothing
abbrev pub IsPut : List ℕ → List ℕ → Entries → Type 0
IsPut name text es = with_text es name text ≡ es

-- the same by recursion, with no equation of lists
abbrev PutBy : Ordering → List ℕ → List ℕ × List ℕ → Type 0 → Type 0
PutBy Less text e later = ⊥
PutBy Equal text e later = e.1 ≡ text
PutBy Greater text e later = later

abbrev pub Put : List ℕ → List ℕ → Entries → Type 0
Put name text [] = ⊥
Put name text (e ∷ es) = PutBy (slice_cmp nat_cmp name e.0) text e (Put name text es)

again_by : (name text : List ℕ) (e : List ℕ × List ℕ) (es later : Entries) (o : Ordering) (P : Type 0) → PutBy o text e P → (P → later ≡ es) → match_ordering o ((name, text) ∷ e ∷ es) ((e.0, text) ∷ es) (e ∷ later) ≡ e ∷ es
again_by name text e es later Less P put f = absurd put
again_by name text e es later Equal P put f = ap (λ (t : List ℕ). (e.0, t) ∷ es) (sym put)
again_by name text e es later Greater P put f = ap (λ (l : Entries). e ∷ l) (f put)

pub put_again : (name text : List ℕ) (es : Entries) → Put name text es → with_text es name text ≡ es
put_again name text [] put = absurd put
put_again name text (e ∷ es) put = again_by name text e es (with_text es name text) (slice_cmp nat_cmp name e.0) (Put name text es) put (put_again name text es)

-- it stands once it was put
itself : (name : List ℕ) → slice_cmp nat_cmp name name ≡ Equal
itself name = tied_itself nat_list_cmp_total name

now_by : (name text : List ℕ) (e : List ℕ × List ℕ) (es later : Entries) (o : Ordering) → slice_cmp nat_cmp name e.0 ≡ o → Put name text later → Put name text (match_ordering o ((name, text) ∷ e ∷ es) ((e.0, text) ∷ es) (e ∷ later))
now_by name text e es later Less is put = subst (λ (o : Ordering). PutBy o text (name, text) (Put name text (e ∷ es))) (sym (itself name)) refl
now_by name text e es later Equal is put = subst (λ (o : Ordering). PutBy o text (e.0, text) (Put name text es)) (sym is) refl
now_by name text e es later Greater is put = subst (λ (o : Ordering). PutBy o text e (Put name text later)) (sym is) put

pub now_put : (name text : List ℕ) (es : Entries) → Put name text (with_text es name text)
now_put name text [] = subst (λ (o : Ordering). PutBy o text (name, text) ⊥) (sym (itself name)) refl
now_put name text (e ∷ es) = now_by name text e es (with_text es name text) (slice_cmp nat_cmp name e.0) refl (now_put name text es)

-- it still stands where another name is put
above : (name other at : List ℕ) (o : Ordering) → slice_cmp nat_cmp name at ≡ o → (o ≡ Less → ⊥) → slice_cmp nat_cmp other at ≡ Less → slice_cmp nat_cmp name other ≡ Greater
above name other at Less is off less = absurd (off refl)
above name other at Equal is off less =
    nat_list_cmp_total.antisymm name other ∙ ap ordering_reverse (subst (λ (x : List ℕ). slice_cmp nat_cmp other x ≡ Less) (sym (slice_cmp-IsAntisymmetric nat_cmp-IsAntisymmetric name at is)) less)
above name other at Greater is off less =
    let back : slice_cmp nat_cmp at name ≡ Less = nat_list_cmp_total.antisymm at name ∙ ap ordering_reverse is in
    nat_list_cmp_total.antisymm name other ∙ ap ordering_reverse (nat_list_cmp_total.trans other at name less back)

not_less : (o : Ordering) (text : List ℕ) (e : List ℕ × List ℕ) (P : Type 0) → PutBy o text e P → o ≡ Less → ⊥
not_less Less text e P put is = put
not_less Equal text e P put is = cc is
not_less Greater text e P put is = cc is

same_tail : (o : Ordering) (text : List ℕ) (e : List ℕ × List ℕ) (P Q : Type 0) → (P → Q) → PutBy o text e P → PutBy o text e Q
same_tail Less text e P Q f put = put
same_tail Equal text e P Q f put = put
same_tail Greater text e P Q f put = f put

not_here : (o : Ordering) (text : List ℕ) (e : List ℕ × List ℕ) (P : Type 0) → (o ≡ Equal → ⊥) → PutBy o text e P → (o ≡ Greater) × P
not_here Less text e P off put = absurd put
not_here Equal text e P off put = absurd (off refl)
not_here Greater text e P off put = (refl, put)

still_by : (name text other more : List ℕ) (e : List ℕ × List ℕ) (es later : Entries) (o : Ordering) → slice_cmp nat_cmp other e.0 ≡ o → (slice_cmp nat_cmp name other ≡ Equal → ⊥) → Put name text (e ∷ es) → (Put name text es → Put name text later)
    → Put name text (match_ordering o ((other, more) ∷ e ∷ es) ((e.0, more) ∷ es) (e ∷ later))
still_by name text other more e es later Less is apart put f =
    subst (λ (o : Ordering). PutBy o text (other, more) (Put name text (e ∷ es))) (sym (above name other e.0 (slice_cmp nat_cmp name e.0) refl (not_less (slice_cmp nat_cmp name e.0) text e (Put name text es) put) is)) put
still_by name text other more e es later Equal is apart put f =
    let off : slice_cmp nat_cmp name e.0 ≡ Equal → ⊥ = subst (λ (x : List ℕ). slice_cmp nat_cmp name x ≡ Equal → ⊥) (slice_cmp-IsAntisymmetric nat_cmp-IsAntisymmetric other e.0 is) apart in
    let beyond = not_here (slice_cmp nat_cmp name e.0) text e (Put name text es) off put in
    subst (λ (o : Ordering). PutBy o text (e.0, more) (Put name text es)) (sym beyond.0) beyond.1
still_by name text other more e es later Greater is apart put f = same_tail (slice_cmp nat_cmp name e.0) text e (Put name text es) (Put name text later) f put

pub still_put : (name text other more : List ℕ) (es : Entries) → (slice_cmp nat_cmp name other ≡ Equal → ⊥) → Put name text es → Put name text (with_text es other more)
still_put name text other more [] apart put = absurd put
still_put name text other more (e ∷ es) apart put = still_by name text other more e es (with_text es other more) (slice_cmp nat_cmp other e.0) refl apart put (still_put name text other more es apart)

-- and where another name is taken out
out_by : (b : Bool) (name text other : List ℕ) (e : List ℕ × List ℕ) (es later : Entries) → bytes_eq e.0 other ≡ b → (slice_cmp nat_cmp name other ≡ Equal → ⊥) → Put name text (e ∷ es) → (Put name text es → Put name text later) → Put name text (cond (not b) (e ∷ later) later)
out_by true name text other e es later is apart put f =
    f (not_here (slice_cmp nat_cmp name e.0) text e (Put name text es) (subst (λ (x : List ℕ). slice_cmp nat_cmp name x ≡ Equal → ⊥) (sym ((bytes_eq-Decides e.0 other).0 is)) apart) put).1
out_by false name text other e es later is apart put f = same_tail (slice_cmp nat_cmp name e.0) text e (Put name text es) (Put name text later) f put

pub out_put : (name text other : List ℕ) (es : Entries) → (slice_cmp nat_cmp name other ≡ Equal → ⊥) → Put name text es → Put name text (without other es)
out_put name text other [] apart put = absurd put
out_put name text other (e ∷ es) apart put = out_by (bytes_eq e.0 other) name text other e es (without other es) refl apart put (out_put name text other es apart)

-- what was taken out is out
twice_by : (b : Bool) (name : List ℕ) (e : List ℕ × List ℕ) (es : Entries) → bytes_eq e.0 name ≡ b → without name es ≡ es → without name (cond (not b) (e ∷ es) es) ≡ cond (not b) (e ∷ es) es
twice_by true name e es is same = same
twice_by false name e es is same = ap (λ (b : Bool). cond (not b) (e ∷ without name es) (without name es)) is ∙ ap (λ (l : Entries). e ∷ l) same

pub out_twice : (name : List ℕ) (es : Entries) → without name (without name es) ≡ without name es
out_twice name [] = refl
out_twice name (e ∷ es) = twice_by (bytes_eq e.0 name) name e (without name es) refl (out_twice name es)

-- ---- the annotations

abbrev named : Certificate → Entries → Entries
named c es = with_text es (codes "cert-manager.io/certificate-name") c.meta.name

abbrev with_name : Certificate → Entries → Entries
with_name c es = with_text (named c es) (codes "cert-manager.io/issuer-name") c.spec.issuer.name

abbrev with_kind : Certificate → Entries → Entries
with_kind c es = with_text (with_name c es) (codes "cert-manager.io/issuer-kind") (issuer_kind c.spec.issuer)

abbrev with_group : Certificate → Entries → Entries
with_group c es = with_text (with_kind c es) (codes "cert-manager.io/issuer-group") (issuer_group c.spec.issuer)

pub record AreMarks (c : Certificate) (es : Entries) : Type 0 where
  pub owner : Put (codes "cert-manager.io/certificate-name") c.meta.name es
  pub name : Put (codes "cert-manager.io/issuer-name") c.spec.issuer.name es
  pub kind : Put (codes "cert-manager.io/issuer-kind") (issuer_kind c.spec.issuer) es
  pub group : Put (codes "cert-manager.io/issuer-group") (issuer_group c.spec.issuer) es

are_marks : (c : Certificate) (es : Entries) → AreMarks c (marks false c es)
unfolding marks signed_marks
are_marks c es =
    let out : (name text : List ℕ) (l : Entries) → (slice_cmp nat_cmp name (codes "cert-manager.io/temporary-certificate") ≡ Equal → ⊥) → Put name text l → Put name text (without (codes "cert-manager.io/temporary-certificate") l)
    = λ name text l. out_put name text (codes "cert-manager.io/temporary-certificate") l in
    record {
      owner = out (codes "cert-manager.io/certificate-name") c.meta.name (with_group c es) (λ e. cc e)
          (still_put (codes "cert-manager.io/certificate-name") c.meta.name (codes "cert-manager.io/issuer-group") (issuer_group c.spec.issuer) (with_kind c es) (λ e. cc e)
          (still_put (codes "cert-manager.io/certificate-name") c.meta.name (codes "cert-manager.io/issuer-kind") (issuer_kind c.spec.issuer) (with_name c es) (λ e. cc e)
          (still_put (codes "cert-manager.io/certificate-name") c.meta.name (codes "cert-manager.io/issuer-name") c.spec.issuer.name (named c es) (λ e. cc e) (now_put (codes "cert-manager.io/certificate-name") c.meta.name es))));
      name = out (codes "cert-manager.io/issuer-name") c.spec.issuer.name (with_group c es) (λ e. cc e)
          (still_put (codes "cert-manager.io/issuer-name") c.spec.issuer.name (codes "cert-manager.io/issuer-group") (issuer_group c.spec.issuer) (with_kind c es) (λ e. cc e)
          (still_put (codes "cert-manager.io/issuer-name") c.spec.issuer.name (codes "cert-manager.io/issuer-kind") (issuer_kind c.spec.issuer) (with_name c es) (λ e. cc e) (now_put (codes "cert-manager.io/issuer-name") c.spec.issuer.name (named c es))));
      kind = out (codes "cert-manager.io/issuer-kind") (issuer_kind c.spec.issuer) (with_group c es) (λ e. cc e)
          (still_put (codes "cert-manager.io/issuer-kind") (issuer_kind c.spec.issuer) (codes "cert-manager.io/issuer-group") (issuer_group c.spec.issuer) (with_kind c es) (λ e. cc e) (now_put (codes "cert-manager.io/issuer-kind") (issuer_kind c.spec.issuer) (with_name c es)));
      group = out (codes "cert-manager.io/issuer-group") (issuer_group c.spec.issuer) (with_group c es) (λ e. cc e) (now_put (codes "cert-manager.io/issuer-group") (issuer_group c.spec.issuer) (with_kind c es));
    }

signed_again : (c : Certificate) (es : Entries) → AreMarks c es → signed_marks c es ≡ es
unfolding signed_marks
signed_again c es are =
    let one : named c es ≡ es = put_again _ _ es are.owner in
    let two : with_name c es ≡ es = ap (λ (l : Entries). with_text l (codes "cert-manager.io/issuer-name") c.spec.issuer.name) one ∙ put_again _ _ es are.name in
    let three : with_kind c es ≡ es = ap (λ (l : Entries). with_text l (codes "cert-manager.io/issuer-kind") (issuer_kind c.spec.issuer)) two ∙ put_again _ _ es are.kind in
    ap (λ (l : Entries). with_text l (codes "cert-manager.io/issuer-group") (issuer_group c.spec.issuer)) three ∙ put_again _ _ es are.group

unmarked : (c : Certificate) (es : Entries) → without (codes "cert-manager.io/temporary-certificate") (marks false c es) ≡ marks false c es
unfolding marks
unmarked c es = out_twice (codes "cert-manager.io/temporary-certificate") (signed_marks c es)

unmarks : (c : Certificate) (es : Entries) → marks false c es ≡ without (codes "cert-manager.io/temporary-certificate") (signed_marks c es)
unfolding marks
unmarks c es = refl

pub marks_again : (c : Certificate) (es : Entries) → marks false c (marks false c es) ≡ marks false c es
marks_again c es = unmarks c (marks false c es) ∙ ap (without (codes "cert-manager.io/temporary-certificate")) (signed_again c (marks false c es) (are_marks c es)) ∙ unmarked c es

-- ---- the parts

filled_by : (key certificate : List ℕ) (es : Entries) → Put (codes "tls.key") key es → Put (codes "tls.crt") certificate es → with_text (with_text es (codes "tls.key") key) (codes "tls.crt") certificate ≡ es
filled_by key certificate es one two = ap (λ (l : Entries). with_text l (codes "tls.crt") certificate) (put_again _ _ es one) ∙ put_again _ _ es two

pub filled_again : (key certificate ca : List ℕ) (es : Entries) → filled key certificate ca (filled key certificate ca es) ≡ filled key certificate ca es
unfolding filled
filled_again key certificate [] es =
    let both : Entries = with_text (with_text es (codes "tls.key") key) (codes "tls.crt") certificate in
    let one : Put (codes "tls.key") key (without (codes "ca.crt") both) =
    out_put (codes "tls.key") key (codes "ca.crt") both (λ e. cc e) (still_put (codes "tls.key") key (codes "tls.crt") certificate (with_text es (codes "tls.key") key) (λ e. cc e) (now_put (codes "tls.key") key es)) in
    let two : Put (codes "tls.crt") certificate (without (codes "ca.crt") both) = out_put (codes "tls.crt") certificate (codes "ca.crt") both (λ e. cc e) (now_put (codes "tls.crt") certificate (with_text es (codes "tls.key") key)) in
    ap (without (codes "ca.crt")) (filled_by key certificate (without (codes "ca.crt") both) one two) ∙ out_twice (codes "ca.crt") both
filled_again key certificate (b ∷ ca) es =
    let both : Entries = with_text (with_text es (codes "tls.key") key) (codes "tls.crt") certificate in
    let after : Entries = with_text both (codes "ca.crt") (b ∷ ca) in
    let one : Put (codes "tls.key") key after =
    still_put (codes "tls.key") key (codes "ca.crt") (b ∷ ca) both (λ e. cc e) (still_put (codes "tls.key") key (codes "tls.crt") certificate (with_text es (codes "tls.key") key) (λ e. cc e) (now_put (codes "tls.key") key es)) in
    let two : Put (codes "tls.crt") certificate after = still_put (codes "tls.crt") certificate (codes "ca.crt") (b ∷ ca) both (λ e. cc e) (now_put (codes "tls.crt") certificate (with_text es (codes "tls.key") key)) in
    ap (λ (l : Entries). with_text l (codes "ca.crt") (b ∷ ca)) (filled_by key certificate after one two) ∙ put_again _ _ after (now_put (codes "ca.crt") (b ∷ ca) both)

-- ---- the call changes nothing any more

same_text : (text : List ℕ) → bytes_eq text text ≡ true
same_text text = (bytes_eq-Decides text text).1 refl

same_itself : (es : Entries) → same_pairs es es ≡ true
same_itself [] = refl
same_itself (e ∷ es) = rw (same_text e.0, same_text e.1, same_itself es) refl

same_if : (ps qs : Entries) → ps ≡ qs → same_pairs ps qs ≡ true
same_if ps qs is = subst (λ (l : Entries). same_pairs ps l ≡ true) is (same_itself ps)

pub left_again : (c : Certificate) (file certificate ca : List ℕ) (annotations parts : Entries) (k : Secret) → k.meta.annotations ≡ marks false c annotations → k.parts ≡ filled file certificate ca parts
    → is_left (Some k) (secret_call false c file certificate ca (Some k)) ≡ true
unfolding secret_call old_target
left_again c file certificate ca annotations parts k one two =
    let a : marks false c k.meta.annotations ≡ k.meta.annotations = ap (marks false c) one ∙ marks_again c annotations ∙ sym one in
    let b : filled file certificate ca k.parts ≡ k.parts = ap (filled file certificate ca) two ∙ filled_again file certificate ca parts ∙ sym two in
    rw (same_if _ _ a, same_if _ _ b) refl
