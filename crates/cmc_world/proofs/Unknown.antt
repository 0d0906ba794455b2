-- A key that no accepted write named is quiet.
use Rattle.std.proofs.Common.{◌≡◌, ℕ, ℤ, List, [], ◌∷◌, length, Option, None, Bool, true, false, cond, refl, sym, ap, subst, ◌∙◌, option_and_then}
use Rattle.std.specs.Prelude.{◌&&◌, ◌||◌, if◌then◌else◌, nat_le}
use Rattle.std.proofs.lemmas.Bool.{or_parts}
use Rattle.cmc_meta.specs.declared.key.Key.{Key}
use Rattle.cmc_meta.specs.declared.key.Kind.{Kind}
use Rattle.cmc_meta.specs.declared.key.Kind.TheVariants as kinds
use Rattle.cmc_meta.specs.Keys.{key_eq}
use Rattle.cmc_objects.specs.declared.certificate.Certificate.{Certificate}
use Rattle.cmc_objects.specs.declared.request.CertificateRequest.{CertificateRequest}
use Rattle.cmc_objects.specs.declared.role.Role.{Role}
use Rattle.cmc_objects.specs.declared.role.Role.TheVariants.{Trigger, KeyManager, RequestManager, Approver, Issuer, Issuing, Readiness, Revision}
use Rattle.cmc_objects.specs.declared.entry.Entry.{Entry}
use Rattle.cmc_objects.specs.declared.entry.Entry.TheVariants.{Call as Called, Begin, End, Start}
use Rattle.cmc_model.specs.declared.write.Write.{Write}
use Rattle.cmc_model.specs.Objects.{object_at}
use Rattle.cmc_model.specs.Replies.{is_accepted, key_of_call, settled}
use Rattle.cmc_model.specs.Histories.{Setting, moment, state, role_eq}
use Rattle.cmc_model.specs.Writes.{writes, write_of, contents, oldest, kind_eq, is_known}
use Rattle.cmc_pass.specs.declared.pass.Views.{Views}
use Rattle.cmc_rules.specs.declared.progress.LastPass.{LastPass}
use Rattle.cmc_rules.specs.declared.progress.Ending.{Ending}
use Rattle.cmc_rules.specs.declared.progress.Past.{Past}
use Rattle.cmc_objects.specs.Informers.{works_on_requests}
use Rattle.cmc_rules.specs.Positions.{position, cache}
use Rattle.cmc_rules.specs.Views.{certificate_in, request_in, certificate_at, request_at, views_of, views_in, views, Caches, caches}
use Rattle.cmc_rules.specs.Desks.{desk}
use Rattle.cmc_rules.specs.Passes.{open_pass, is_pass_of}
use Rattle.cmc_rules.specs.Memory.{past, no_past, with_begin, with_ending, ending_of}
use Rattle.cmc_rules.specs.Legality.{IsLegal}
use Rattle.cmc_kernel.proofs.Known.{none_under}
use Rattle.cmc_kernel.proofs.OneKind.{object_at-of_kind}
use Rattle.cmc_kernel.proofs.SameKeys.{same_key}
use Rattle.cmc_moves.proofs.Sounds.{each_sound}
use Rattle.cmc_moves.specs.Quiet.{IsQuiet, no_views, seen_last}
use Rattle.cmc_waking.proofs.Remembered.{last_called}

-- ---- no object stands under it

known_first : (b : Bool) (key : Key) (w : Write) (ws : List Write) (p : ℕ) → (key_eq w.key key || is_known key ws) ≡ false → is_known key (oldest p ws) ≡ false
    → is_known key (if b then w ∷ ws else oldest p ws) ≡ false
known_first true key w ws p none below = none
known_first false key w ws p none below = below

unknown_first : (key : Key) (ws : List Write) (p : ℕ) → is_known key ws ≡ false → is_known key (oldest p ws) ≡ false
unfolding oldest
unknown_first key [] p none = refl
unknown_first key (w ∷ ws) p none =
    known_first (nat_le (length (w ∷ ws)) p) key w ws p none (unknown_first key ws p (or_parts (key_eq w.key key) (is_known key ws) none).1)

both_none : {A : Type 0} (b : Bool) (o : Option A) → o ≡ None → cond b o None ≡ None
both_none true o none = none
both_none false o none = refl

unseen_in : (s : Setting) (h : List Entry) (role : Role) (kind : Kind) (key : Key) → is_known key (writes s h) ≡ false → object_at (cache s h role kind) key ≡ None
unseen_in s h role kind key none =
    let ws : List Write = oldest (position h role kind) (writes s h) in
    object_at-of_kind kind ws key ∙ both_none (kind_eq key.kind kind) (object_at (contents ws) key) (none_under key ws (unknown_first key (writes s h) (position h role kind) none))

-- ---- so the role sees nothing

nothing_seen : (role : Role) (c : Caches) (certificate : Option Certificate) (request : Option CertificateRequest) → certificate ≡ None → request ≡ None
    → views_of role c (if works_on_requests role then None else certificate) (if works_on_requests role then request else None) ≡ no_views
unfolding views_of
nothing_seen Trigger c certificate request one two = ap (λ (x : Option Certificate). views_of Trigger c x None) one
nothing_seen KeyManager c certificate request one two = ap (λ (x : Option Certificate). views_of KeyManager c x None) one
nothing_seen RequestManager c certificate request one two = ap (λ (x : Option Certificate). views_of RequestManager c x None) one
nothing_seen Approver c certificate request one two = ap (λ (x : Option CertificateRequest). views_of Approver c None x) two
nothing_seen Issuer c certificate request one two = ap (λ (x : Option CertificateRequest). views_of Issuer c None x) two
nothing_seen Issuing c certificate request one two = ap (λ (x : Option Certificate). views_of Issuing c x None) one
nothing_seen Readiness c certificate request one two = ap (λ (x : Option Certificate). views_of Readiness c x None) one
nothing_seen Revision c certificate request one two = ap (λ (x : Option Certificate). views_of Revision c x None) one

-- of such a key a role sees nothing
pub sees_none : (s : Setting) (h : List Entry) (role : Role) (key : Key) → is_known key (writes s h) ≡ false → views s h role key ≡ no_views
unfolding views_in
sees_none s h role key none =
    nothing_seen role (caches s h role) (certificate_at (cache s h role kinds.Certificate) key) (request_at (cache s h role kinds.CertificateRequest) key)
    (ap (option_and_then certificate_in) (unseen_in s h role kinds.Certificate key none))
    (ap (option_and_then request_in) (unseen_in s h role kinds.CertificateRequest key none))

-- ---- and remembers nothing

known_before : (b : Bool) (key : Key) (w : Write) (ws : List Write) → is_known key (if b then w ∷ ws else ws) ≡ false → is_known key ws ≡ false
known_before true key w ws none = (or_parts (key_eq w.key key) (is_known key ws) none).1
known_before false key w ws none = none

begun_none : (b : Bool) (seen : Views) (now : ℤ) (p : Past) → b ≡ false → p.last ≡ None → (if b then with_begin seen now p else p).last ≡ None
begun_none true seen now p other none = absurd (cc other)
begun_none false seen now p other none = none

other_key : (b : Bool) (at key : Key) (ws : List Write) → key_eq at key ≡ b → is_known at ws ≡ true → is_known key ws ≡ false → b ≡ false
other_key true at key ws is known none =
    let on : is_known key ws ≡ true = subst (λ (k : Key). is_known k ws ≡ true) (same_key at key is) known in
    absurd (cc (on, none))
other_key false at key ws is known none = refl

neither_and : (a b : Bool) → b ≡ false → (a && b) ≡ false
neither_and true b off = off
neither_and false b off = refl

ended_none : (b : Bool) (ending : Ending) (p : Past) → p.last ≡ None → (if b then with_ending ending p else p).last ≡ None
ended_none true ending p none = ap (λ (l : Option LastPass). (with_ending ending (record p { last = l })).last) none
ended_none false ending p none = none

started_none : (b : Bool) (p : Past) → p.last ≡ None → (if b then no_past else p).last ≡ None
started_none true p none = refl
started_none false p none = none

no_pass_on : (s : Setting) (h : List Entry) (role : Role) (key : Key) → IsLegal s h → is_known key (writes s h) ≡ false → (past s h role key).last ≡ None
unfolding IsLegal
no_pass_on s [] role key legal none = refl
no_pass_on s (Called who call reply ∷ h) role key legal none =
    last_called s h role key (past s h role key) who (key_of_call call).kind (is_accepted reply)
    ∙ no_pass_on s h role key legal.1 (known_before (is_accepted reply) key (write_of (moment s h) (state s h) (settled call reply)) (writes s h) none)
no_pass_on s (Begin pass who at told now ∷ h) role key legal none =
    begun_none (role_eq who role && key_eq at key) (views s h who at) now (past s h role key)
    (neither_and (role_eq who role) (key_eq at key) (other_key (key_eq at key) at key (writes s h) refl legal.0.known none)) (no_pass_on s h role key legal.1 none)
no_pass_on s (End pass cause ∷ h) role key legal none =
    ended_none (is_pass_of role key (open_pass s h pass)) (ending_of (open_pass s h pass)) (past s h role key) (no_pass_on s h role key legal.1 none)
no_pass_on s (Start who at ∷ h) role key legal none = started_none (role_eq who role) (past s h role key) (no_pass_on s h role key legal.1 none)
no_pass_on s (other ∷ h) role key legal none = no_pass_on s h role key legal.1 none

pub unknown_quiet : (s : Setting) (h : List Entry) (role : Role) (key : Key) → IsLegal s h → is_known key (writes s h) ≡ false → IsQuiet s h role key
unknown_quiet s h role key legal none =
    let seen : views s h role key ≡ no_views = sees_none s h role key none in
    record {
      idle =
          (each_sound role).absent (views s h role key) (moment s h) (desk s h role (views s h role key))
          (record { certificate = ap (λ (v : Views). v.certificate) seen; request = ap (λ (v : Views). v.request) seen });
      same = seen ∙ ap seen_last (sym (no_pass_on s h role key legal none));
    }

-- so a key on which there is something to do or to see is one that a write named
pub known_unless_quiet : (b : Bool) (s : Setting) (h : List Entry) (role : Role) (key : Key) → is_known key (writes s h) ≡ b → IsLegal s h → (IsQuiet s h role key → ⊥) → is_known key (writes s h) ≡ true
known_unless_quiet true s h role key is legal worth = is
known_unless_quiet false s h role key is legal worth = absurd (worth (unknown_quiet s h role key legal is))
