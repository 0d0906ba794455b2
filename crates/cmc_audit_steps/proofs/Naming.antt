-- A question that shows as a printed one, about the version that is named.
use Rattle.std.proofs.Common.{◌≡◌, ◌⊎◌, ℕ, ◌==◌, pos, List, [], ◌∷◌, Bool, true, false, Option, Some, None, refl, sym, ap, subst, ◌∙◌, inl, inr, arith}
use Rattle.std.proofs.lemmas.Bool.Decides.{nat_tests}
use Rattle.std.specs.Cmp.{Equal-is, tied_itself}
use Rattle.std.specs.Ordering.{is_eq}
use Rattle.cmc_meta.specs.declared.key.Key.{Key}
use Rattle.cmc_meta.specs.declared.key.Kind.TheVariants as kinds
use Rattle.cmc_meta.specs.Keys.{key_cmp}
use Rattle.cmc_meta.proofs.KeyOrder.{key_cmp-total, key_cmp-IsAntisymmetric}
use Rattle.cmc_objects.specs.declared.object.Object.{Object}
use Rattle.cmc_objects.specs.declared.object.Object.TheVariants.{Cert, Request, Secret}
use Rattle.cmc_objects.specs.declared.request.CertificateRequest.{CertificateRequest}
use Rattle.cmc_objects.specs.declared.rows.SignRow.TheVariants as sign_rows
use Rattle.cmc_objects.specs.declared.orders.Order.{Order}
use Rattle.cmc_objects.specs.declared.orders.Order.TheVariants as orders
use Rattle.cmc_objects.specs.declared.entry.Entry.{Entry}
use Rattle.cmc_objects.specs.Objects.{key_of}
use Rattle.cmc_model.specs.declared.write.Write.{Write}
use Rattle.cmc_model.specs.Histories.{Setting}
use Rattle.cmc_model.specs.Versions.{IsVersion}
use Rattle.cmc_model.specs.Verdicts.{IsAnswered}
use Rattle.cmc_model.specs.Writes.{writes}
use Rattle.cmc_model.proofs.Versions.{keyed}
use Rattle.cmc_lines.specs.declared.line.PrintedOrder.{PrintedOrder}
use Rattle.cmc_lines.specs.declared.line.PrintedOrder.TheVariants as asked
use Rattle.cmc_lines.specs.Shown.{shown_order}
use Rattle.cmc_lines.proofs.EntryLike.{order_like, request_like, request_named}
use Rattle.cmc_audit_steps.proofs.GoodIssues.{lawful, one_version}
use Rattle.cmc_audit_steps.specs.Failures.{IsOfRequest}
use Rattle.cmc_audit_steps.specs.Meant.{IsNamedOrder, IsVersionNamed}

-- a written version of this number, under whatever key
record Numbered (ws : List Write) (version : ℕ) : Type 0 where
  key : Key
  request : CertificateRequest
  has : IsVersion key (Request request) ws
  same : request.meta.version ≡ version

abbrev NoneNumbered : List Write → ℕ → Type 0
NoneNumbered ws version = (key : Key) (q : CertificateRequest) → IsVersion key (Request q) ws → q.meta.version ≡ version → ⊥

numbered_later : (w : Write) (ws : List Write) (version : ℕ) → Numbered ws version → Numbered (w ∷ ws) version
numbered_later w ws version n = record { key = n.key; request = n.request; has = inr n.has; same = n.same }

-- the write itself is no such version
abbrev IsOther : Option Object → ℕ → Type 0
IsOther o version = (q : CertificateRequest) → o ≡ Some (Request q) → q.meta.version ≡ version → ⊥

none_with : (w : Write) (ws : List Write) (version : ℕ) → IsOther w.object version → NoneNumbered ws version → NoneNumbered (w ∷ ws) version
none_with w ws version other none key q (inl here) same = other q here.1 same
none_with w ws version other none key q (inr later) same = none key q later same

with_other : (w : Write) (ws : List Write) (version : ℕ) → IsOther w.object version → Numbered ws version ⊎ NoneNumbered ws version → Numbered (w ∷ ws) version ⊎ NoneNumbered (w ∷ ws) version
with_other w ws version other (inl n) = inl (numbered_later w ws version n)
with_other w ws version other (inr none) = inr (none_with w ws version other none)

same_at : (n m : ℕ) → (n == m) ≡ true → n ≡ m
same_at n m e = grind (arith, nat_tests)

differs_at : (n m : ℕ) → (n == m) ≡ false → n ≡ m → ⊥
differs_at n m e same = grind (arith, nat_tests, e, same)

at_write : (w : Write) (ws : List Write) (version : ℕ) (x : Option Object) → w.object ≡ x → Numbered ws version ⊎ NoneNumbered ws version → Numbered (w ∷ ws) version ⊎ NoneNumbered (w ∷ ws) version
at_write w ws version None is rest = with_other w ws version (λ q e same. let none = is in absurd (cc (e, none))) rest
at_write w ws version (Some (Cert c)) is rest = with_other w ws version (λ q e same. let some = is in absurd (cc (e, some))) rest
at_write w ws version (Some (Secret k)) is rest = with_other w ws version (λ q e same. let some = is in absurd (cc (e, some))) rest
at_write w ws version (Some (Request r)) is rest = by (r.meta.version == version) refl where
  by : (b : Bool) → (r.meta.version == version) ≡ b → Numbered (w ∷ ws) version ⊎ NoneNumbered (w ∷ ws) version
  by true on = inl (record { key = w.key; request = r; has = inl (refl, is); same = same_at r.meta.version version on })
  by false off = with_other w ws version (λ q e same. let one : r ≡ q = let some = is in cc (e, some) in differs_at r.meta.version version off (ap (λ (x : CertificateRequest). x.meta.version) one ∙ same)) rest

search_for : (ws : List Write) (version : ℕ) → Numbered ws version ⊎ NoneNumbered ws version
search_for [] version = inr (λ key q has same. has)
search_for (w ∷ ws) version = at_write w ws version w.object refl (search_for ws version)

key_is : (a b : Key) → is_eq (key_cmp a b) ≡ true → a ≡ b
key_is a b e = key_cmp-IsAntisymmetric a b ((Equal-is (key_cmp a b)).0 e)

key_differs : (a b : Key) → is_eq (key_cmp a b) ≡ false → a ≡ b → ⊥
key_differs a b off same =
    let on : is_eq (key_cmp a b) ≡ true = subst (λ (k : Key). is_eq (key_cmp a k) ≡ true) same (ap is_eq (tied_itself key_cmp-total a)) in
    cc (on, off)

-- some request of the key and the version that is the version that is named
pub record NamedRequest (s : Setting) (h : List Entry) (key : Key) (version : ℕ) : Type 0 where
  pub request : CertificateRequest
  pub has_key : key_of (Request request) ≡ key
  pub has_version : request.meta.version ≡ version
  pub named : IsVersionNamed s h request

request_of : (r q : CertificateRequest) → Request r ≡ Request q → r ≡ q
request_of r q e = cc e

some_request : (s : Setting) (h : List Entry) (key : Key) (version : ℕ) → key.kind ≡ kinds.CertificateRequest
    → ((q : CertificateRequest) → IsVersion key (Request q) (writes s h) → q.meta.version ≡ version → ⊥) → NamedRequest s h key version
some_request s h key version kind none = record {
  request = request_like key version;
  has_key = request_named key version kind;
  has_version = refl;
  named = λ q has same. absurd (none q (subst (λ (k : Key). IsVersion k (Request q) (writes s h)) (request_named key version kind) has) same);
}

request_by : (s : Setting) (h : List Entry) (key : Key) (version : ℕ) → IsAnswered s h → key.kind ≡ kinds.CertificateRequest → Numbered (writes s h) version ⊎ NoneNumbered (writes s h) version → NamedRequest s h key version
request_by s h key version right kind (inr none) = some_request s h key version kind (none key)
request_by s h key version right kind (inl n) = by (is_eq (key_cmp (key_of (Request n.request)) key)) refl where
  same_one : (k : Key) (q : CertificateRequest) → IsVersion k (Request q) (writes s h) → q.meta.version ≡ version → n.request ≡ q
  same_one k q has same = request_of n.request q (one_version (writes s h) n.key k (Request n.request) (Request q) (lawful s h right) n.has has (n.same ∙ sym same))

  by : (b : Bool) → is_eq (key_cmp (key_of (Request n.request)) key) ≡ b → NamedRequest s h key version
  by true on = record {
    request = n.request;
    has_key = key_is (key_of (Request n.request)) key on;
    has_version = n.same;
    named = λ q has same. same_one (key_of (Request n.request)) q has (same ∙ n.same);
  }
  by false off = some_request s h key version kind (λ q has same.
      key_differs (key_of (Request n.request)) key off (ap (λ (x : CertificateRequest). key_of (Request x)) (same_one key q has same) ∙ keyed (writes s h) key (Request q) (lawful s h right) has))

pub named_request : (s : Setting) (h : List Entry) (key : Key) (version : ℕ) → IsAnswered s h → key.kind ≡ kinds.CertificateRequest → NamedRequest s h key version
named_request s h key version right kind = request_by s h key version right kind (search_for (writes s h) version)

-- an order that shows so
pub named_order : (s : Setting) (h : List Entry) (printed : PrintedOrder) → IsAnswered s h → IsOfRequest printed → (order : Order) × (shown_order order ≡ printed) × IsNamedOrder s h order
named_order s h (asked.Key certificate number) right is = (order_like (asked.Key certificate number), refl, tt)
named_order s h (asked.Csr key body) right is = (order_like (asked.Csr key body), refl, tt)
named_order s h (asked.Sign number key version) right is =
    let r = named_request s h key version right is in
    (orders.Sign (record { number = number; request = r.request; moment = pos 0; row = sign_rows.Free }), (λ i. asked.Sign number (r.has_key i) (r.has_version i)), r.named)
named_order s h (asked.Judge key version) right is =
    let r = named_request s h key version right is in
    (orders.Judge (record { request = r.request; rules = record { issuers = []; refuse = []; policies = [] } }), (λ i. asked.Judge (r.has_key i) (r.has_version i)), r.named)
