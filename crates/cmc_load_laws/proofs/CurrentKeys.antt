-- The writes of the key manager lower the measure, where it sees what there is to see, and one next key at most.
use Rattle.std.proofs.Common.{◌≡◌, ◌≤◌, ◌+◌, ◌<◌, ◌++◌, ◌∷◌, [], ℕ, ℤ, List, length, true, Option, Some, None, refl, sym, ap, subst, ◌∙◌, inl, inr, arith}
use Rattle.std.proofs.lemmas.Bool.{and_from}
use Rattle.std.proofs.lemmas.Slice.Eq.{bytes_eq-Decides}
use Rattle.std.specs.Prelude.{◌&&◌}
use Rattle.std.specs.Str.{bytes_eq}
use Rattle.cmc_meta.specs.declared.key.Key.{Key}
use Rattle.cmc_meta.specs.declared.key.Kind.TheVariants as kinds
use Rattle.cmc_objects.specs.declared.certificate.Certificate.{Certificate}
use Rattle.cmc_objects.specs.declared.certificate.CertStatus.{CertStatus}
use Rattle.cmc_objects.specs.declared.secret.Secret.{Secret as SecretObject}
use Rattle.cmc_objects.specs.declared.object.Object.{Object}
use Rattle.cmc_objects.specs.declared.object.Object.TheVariants.{Cert, Secret}
use Rattle.cmc_objects.specs.declared.call.Call.{Call}
use Rattle.cmc_objects.specs.declared.call.Call.TheVariants.{Delete}
use Rattle.cmc_objects.specs.declared.call.Reply.{Reply}
use Rattle.cmc_objects.specs.declared.call.Reply.TheVariants.{Ok, Unchanged, Found, Conflict, NotFound, AlreadyExists, Invalid, Unavailable}
use Rattle.cmc_objects.specs.declared.entry.Entry.{Entry}
use Rattle.cmc_objects.specs.declared.entry.Entry.TheVariants.{Call as Called}
use Rattle.cmc_objects.specs.declared.entry.Who.TheVariants.{Pass}
use Rattle.cmc_objects.specs.declared.orders.KeyOrder.{KeyOrder}
use Rattle.cmc_objects.specs.declared.orders.Order.{Order}
use Rattle.cmc_objects.specs.declared.orders.Order.TheVariants as orders
use Rattle.cmc_objects.specs.declared.role.Role.{Role}
use Rattle.cmc_objects.specs.declared.role.Role.TheVariants.{KeyManager}
use Rattle.cmc_objects.specs.Objects.{key_of}
use Rattle.cmc_match.specs.Facts.{fits, key_in}
use Rattle.cmc_pass.specs.Values.{IsValue}
use Rattle.cmc_pass.specs.declared.pass.Act.TheVariants.{Ask as Asks}
use Rattle.cmc_pass.specs.declared.pass.Desk.{Desk}
use Rattle.cmc_pass.specs.declared.pass.Views.{Views}
use Rattle.cmc_pass.specs.declared.value.Value.{Value}
use Rattle.cmc_pass.specs.declared.value.Value.TheVariants as values
use Rattle.cmc_model.specs.Acceptance.{IsFounded}
use Rattle.cmc_model.specs.Generated.{named}
use Rattle.cmc_model.specs.Objects.{Objects, object_at}
use Rattle.cmc_model.specs.Replies.{is_accepted, key_of_call, put_at, settled, stored}
use Rattle.cmc_model.specs.Stored.{created}
use Rattle.cmc_model.specs.Histories.{Setting, moment, objects, accepted}
use Rattle.cmc_model.specs.Writes.{writes}
use Rattle.cmc_informer.specs.Caches.{names}
use Rattle.cmc_rules.specs.declared.progress.OpenPass.{OpenPass}
use Rattle.cmc_rules.specs.declared.progress.Stage.{Stage}
use Rattle.cmc_rules.specs.declared.progress.Stage.TheVariants.{Fresh, Asked, Given, Read, Saved, Wrote, Refused, Barred}
use Rattle.cmc_rules.specs.Acts.{act, call_after}
use Rattle.cmc_rules.specs.Causes.{IsNextCall}
use Rattle.cmc_rules.specs.Desks.{desk}
use Rattle.cmc_rules.specs.KeyManager as keys
use Rattle.cmc_rules.specs.KeyManager.{key_after, key_secret, make_call}
use Rattle.cmc_rules.specs.Legality.{IsLegal}
use Rattle.cmc_rules.specs.NextKeys.{has_fitting_key, is_fitting}
use Rattle.cmc_rules.specs.Owners.{owned_meta, owner_of}
use Rattle.cmc_rules.specs.Passes.{open_pass}
use Rattle.cmc_rules.specs.SeenObjects.{IsAmong}
use Rattle.cmc_rules.specs.Sound.{IsQuestion}
use Rattle.cmc_rules.specs.Trigger.{is_issuing}
use Rattle.cmc_rules.specs.Views.{has_next_label, is_owned, views_in, views_of}
use Rattle.cmc_rules.proofs.Sighted.{AreKnown, stands_as_seen}
use Rattle.cmc_rules.proofs.Sights.{seen_next}
use Rattle.cmc_rules.proofs.Versions.{version_keyed}
use Rattle.cmc_run_laws.specs.Issuances.{certificate_restated, with_certificate}
use Rattle.cmc_safety.proofs.Course.{HasCome, of_open}
use Rattle.cmc_safety.proofs.NextCalls.{IsCallAt}
use Rattle.cmc_load_laws.specs.Frame.{part_for, seen_of}
use Rattle.cmc_load_laws.specs.LoadRuns.{SeesAll, LowersMeasure}
use Rattle.cmc_load_laws.specs.Measure.{measure}
use Rattle.cmc_load_laws.proofs.AskedActs.{AskedByAct, HoldsOfQuestion, IsOfAct, asked_act}
use Rattle.cmc_load_laws.proofs.Belonging.{certificate_of}
use Rattle.cmc_load_laws.proofs.CertificateWrites.{is_restated, status_call}
use Rattle.cmc_load_laws.proofs.CurrentHistories.{IsOfLoad}
use Rattle.cmc_load_laws.proofs.CurrentStatuses.{sees_part}
use Rattle.cmc_load_laws.proofs.KeyCalls.{IsIdleDrop, IsKeyCall, IsKeyManaging, IsMaking, IsNaming, IsUnfitDrop, IsUnnaming, first_key, key_asked}
use Rattle.cmc_load_laws.proofs.Keyed.{dropped_falls, idle_dropped_falls, made_falls, named_falls, named_status, the_views, unnamed_falls}
use Rattle.cmc_load_laws.proofs.LoadHistories.{IsForOneIn}
use Rattle.cmc_load_laws.proofs.MeasureLowers.{LowersOver, lowers_measure, status_lowers}
use Rattle.cmc_load_laws.proofs.NextWrites.{dropped_over, made_over}
use Rattle.cmc_load_laws.proofs.PassRights.{IsAcceptedBy, call_as, next_as}
use Rattle.cmc_load_laws.proofs.WritesForOne.{own_uid}

-- each key that answers the key manager's question fits
abbrev pub MadeKeysFit : Type 0
MadeKeysFit =
    (seen : Views) (now : ℤ) (desk : Desk) (c : Certificate) (order : KeyOrder) (file : List ℕ) → seen.certificate ≡ Some c → act KeyManager seen now desk ≡ Asks (orders.Key order) → IsValue (orders.Key order) (values.Made file)
    → fits c.spec.key file ≡ true

-- ---- its calls

first_call : (seen : Views) (since : ℤ) (d : Desk) (call : Call) → IsNextCall Fresh (act KeyManager seen since d) (call_after KeyManager seen since) call → IsKeyManaging seen (λ c. IsKeyCall seen c call)
unfolding act
first_call seen since d call next = first_key seen d call next

asks_key : (seen : Views) (since : ℤ) (d : Desk) (order : Order) → act KeyManager seen since d ≡ Asks order → IsKeyManaging seen (λ c. (is_issuing c ≡ true) × (seen.next ≡ []))
unfolding act
asks_key seen since d order asks = key_asked seen d order asks

kept_is : (seen : Views) (since : ℤ) (order : Order) (c : Certificate) (file : List ℕ) (call : Call) → seen.certificate ≡ Some c → call_after KeyManager seen since order (values.Made file) ≡ Some call → call ≡ make_call c file
unfolding call_after key_after
kept_is seen since order c file call sees is =
    let some : Some (make_call c file) ≡ Some call = sym (ap (λ (o : Option Certificate). keys.kept_for o (values.Made file)) sees) ∙ is in
    sym (let same : make_call c file ≡ call = cc some in same)

given_call : MadeKeysFit → (seen : Views) (since : ℤ) (d : Desk) (order : Order) (value : Value) (call : Call) → act KeyManager seen since d ≡ Asks order → IsValue order value → IsQuestion KeyManager seen order
    → call_after KeyManager seen since order value ≡ Some call → IsKeyManaging seen (λ c. IsKeyCall seen c call)
given_call fit seen since d (orders.Key order) (values.Made file) call asks right question is =
    let by = asks_key seen since d (orders.Key order) asks in
    record {
      certificate = by.certificate;
      sees = by.sees;
      so = inr (inr (inr (inr (inl (record {
        file = file;
        next = by.so.1;
        issuing = by.so.0;
        fitting = fit seen since d by.certificate order file by.sees asks right;
        is = kept_is seen since (orders.Key order) by.certificate file call by.sees is;
      })))));
    }
given_call fit seen since d (orders.Key order) (values.Signed signature) call asks right question is = absurd right
given_call fit seen since d (orders.Key order) (values.Answered answer) call asks right question is = absurd right
given_call fit seen since d (orders.Key order) (values.Judged approved) call asks right question is = absurd right
given_call fit seen since d (orders.Csr order) value call asks right question is = absurd (cc question)
given_call fit seen since d (orders.Sign order) value call asks right question is = absurd (cc question.0)
given_call fit seen since d (orders.Judge order) value call asks right question is = absurd (cc question.0)

pub key_call_at : MadeKeysFit → (s : Setting) (h : List Entry) (n : ℕ) (seen : Views) (since : ℤ) (d : Desk) (stage : Stage) (call : Call) → HoldsOfQuestion stage (IsOfAct s KeyManager seen since) → HasCome h n KeyManager seen since stage
    → IsNextCall stage (act KeyManager seen since d) (call_after KeyManager seen since) call → IsCallAt stage KeyManager seen since call → IsKeyManaging seen (λ c. IsKeyCall seen c call)
key_call_at fit s h n seen since d Fresh call asked come next at = first_call seen since d call next
key_call_at fit s h n seen since d (Given order value) call asked come next at = given_call fit seen since asked.its_desk order value call asked.asks come.right come.question next
key_call_at fit s h n seen since d Read call asked come next (inl at) = absurd (cc at.issues.issuing)
key_call_at fit s h n seen since d Read call asked come next (inr at) = absurd (cc at.stands_in.issuing)
key_call_at fit s h n seen since d Saved call asked come next at = absurd (cc at.issues.issuing)
key_call_at fit s h n seen since d (Asked order) call asked come next at = absurd next
key_call_at fit s h n seen since d Wrote call asked come next at = absurd next
key_call_at fit s h n seen since d (Refused entry obstacle) call asked come next at = absurd next
key_call_at fit s h n seen since d Barred call asked come next at = absurd next

-- ---- lists

single : (first rest : List SecretObject) (j k : SecretObject) → first ++ j ∷ rest ≡ k ∷ [] → first ++ rest ≡ []
single [] [] j k is = refl
single [] (x ∷ rest) j k is = absurd (omega (arith, ap length is))
single (y ∷ []) rest j k is = absurd (omega (arith, ap length is))
single (y ∷ x ∷ first) rest j k is = absurd (omega (arith, ap length is))

only_new : (first rest : List SecretObject) (k : SecretObject) → first ++ rest ≡ [] → first ++ k ∷ rest ≡ k ∷ []
only_new [] rest k is = ap (λ (l : List SecretObject). k ∷ l) is
only_new (x ∷ first) rest k is = absurd (cc is)

one_less : (first rest : List SecretObject) (k : SecretObject) → length (first ++ rest) < length (first ++ k ∷ rest)
one_less [] rest k = omega arith
one_less (x ∷ first) rest k = omega (arith, one_less first rest k)

-- ---- what it deletes and makes

pub record IsDropped (s : Setting) (h : List Entry) (call : Call) (reply : Reply) (k : SecretObject) : Type 0 where
  pub key : key_of_call (settled call reply) ≡ key_of (Secret k)
  pub was : object_at (objects s h) (key_of (Secret k)) ≡ Some (Secret k)
  pub is : stored (accepted s h + 1) (moment s h) (objects s h) (settled call reply) ≡ None

dropped_by : (s : Setting) (h : List Entry) (seen : Views) (reply : Reply) (k : SecretObject) → IsLegal s h → AreKnown (writes s h) seen → IsAmong k seen.next
    → IsFounded (objects s h) (settled (Delete (key_of (Secret k)) (Some k.meta.version)) reply) → IsDropped s h (Delete (key_of (Secret k)) (Some k.meta.version)) reply k
unfolding settled IsFounded
dropped_by s h seen reply k legal known among on =
    let same : Secret k ≡ on.0 = stands_as_seen s h seen (key_of (Secret k)) k.meta.version (Secret k) on.0 legal known (seen_next seen k among) refl on.1 on.2 in
    record { key = refl; was = on.1 ∙ ap Some (sym same); is = refl }

is_dropped : (s : Setting) (h : List Entry) (seen : Views) (call : Call) (reply : Reply) (k : SecretObject) → IsLegal s h → AreKnown (writes s h) seen → IsAmong k seen.next → IsFounded (objects s h) (settled call reply)
    → call ≡ Delete (key_of (Secret k)) (Some k.meta.version) → IsDropped s h call reply k
is_dropped s h seen call reply k legal known among on is =
    subst (λ (x : Call). IsDropped s h x reply k) (sym is) (dropped_by s h seen reply k legal known among (subst (λ (x : Call). IsFounded (objects s h) (settled x reply)) is on))

-- a new next key of the Certificate, with this file
pub record IsNewKey (s : Setting) (h : List Entry) (call : Call) (reply : Reply) (c : Certificate) (file : List ℕ) : Type 0 where
  pub made : SecretObject
  pub kind : (key_of_call (settled call reply)).kind ≡ kinds.Secret
  pub none : object_at (objects s h) (key_of_call (settled call reply)) ≡ None
  pub is : stored (accepted s h + 1) (moment s h) (objects s h) (settled call reply) ≡ Some (Secret made)
  pub labelled : has_next_label made.meta ≡ true
  pub owned : is_owned c made.meta ≡ true
  pub holds : key_in made ≡ Some file
  pub namespace : made.meta.namespace ≡ c.meta.namespace
  pub owners : made.meta.owners ≡ owner_of c ∷ []

owns_made : (c : Certificate) → (bytes_eq c.meta.namespace c.meta.namespace && names c.meta.uid (owner_of c ∷ [])) ≡ true
owns_made c =
    and_from (bytes_eq c.meta.namespace c.meta.namespace) (names c.meta.uid (owner_of c ∷ [])) ((bytes_eq-Decides c.meta.namespace c.meta.namespace).1 refl)
    (own_uid c c (record { namespace = refl; uid = refl; secret_name = refl }))

new_key_by : (s : Setting) (h : List Entry) (reply : Reply) (c : Certificate) (file : List ℕ) → is_accepted reply ≡ true → IsFounded (objects s h) (settled (make_call c file) reply) → IsNewKey s h (make_call c file) reply c file
unfolding make_call settled IsFounded key_secret owned_meta created named
new_key_by s h (Ok version name) c file ok on = record { made = _; kind = refl; none = on.0; is = refl; labelled = refl; owned = owns_made c; holds = refl; namespace = refl; owners = refl }
new_key_by s h (Unchanged version) c file ok on = absurd (cc ok)
new_key_by s h (Found object) c file ok on = absurd (cc ok)
new_key_by s h (Conflict at have) c file ok on = absurd (cc ok)
new_key_by s h (NotFound at) c file ok on = absurd (cc ok)
new_key_by s h (AlreadyExists have) c file ok on = absurd (cc ok)
new_key_by s h (Invalid rule) c file ok on = absurd (cc ok)
new_key_by s h (Unavailable number) c file ok on = absurd (cc ok)

pub is_new_key : (s : Setting) (h : List Entry) (call : Call) (reply : Reply) (c : Certificate) (file : List ℕ) → is_accepted reply ≡ true → IsFounded (objects s h) (settled call reply) → call ≡ make_call c file → IsNewKey s h call reply c file
is_new_key s h call reply c file ok on is =
    subst (λ (x : Call). IsNewKey s h x reply c file) (sym is) (new_key_by s h reply c file ok (subst (λ (x : Call). IsFounded (objects s h) (settled x reply)) is on))

-- ---- the measure

next_views : (v : Views) (c : Certificate) (next : List SecretObject) → v.next ≡ next → the_views v c next ≡ with_certificate c v
next_views v c next are = λ i. record v { certificate = Some c; next = sym are i }

-- a pass of the key manager on what there is to see
module _ (s : Setting) (h : List Entry) (n : ℕ) (call : Call) (reply : Reply) (a : IsAcceptedBy s h n call reply) (is_role : a.caller.pass.role ≡ KeyManager) (current : SeesAll s h a.caller.pass) (c : Certificate) (sees : a.caller.pass.seen.certificate ≡ Some c)
    (one : IsForOneIn (objects s h) (key_of_call (settled call reply)) (stored (accepted s h + 1) (moment s h) (objects s h) (settled call reply))) where
  key_is : key_of (Cert c) ≡ a.caller.pass.key
  key_is = version_keyed s h a.caller.pass.key (Cert c) a.legal (a.caller.version c sees)

  part : a.caller.pass.seen ≡ part_for KeyManager (seen_of (objects s h) a.caller.pass.key)
  part = sees_part s h a.caller.pass KeyManager refl is_role current

  present : object_at (objects s h) (key_of (Cert c)) ≡ Some (Cert c)
  unfolding views_in views_of
  present =
      ap (object_at (objects s h)) key_is
      ∙ certificate_of (object_at (objects s h) a.caller.pass.key) c (sym (ap (λ (v : Views). v.certificate) part) ∙ sees)

  next_is : (seen_of (objects s h) (key_of (Cert c))).next ≡ a.caller.pass.seen.next
  next_is = ap (λ (k : Key). (seen_of (objects s h) k).next) key_is ∙ sym (ap (λ (v : Views). v.next) part)

  status_by : (status : CertStatus) (next : List SecretObject) → call ≡ status_call c status → a.caller.pass.seen.next ≡ next
      → ((desk : Desk) (due : ℕ) → measure desk due (moment s h) (the_views (seen_of (objects s h) (key_of (Cert c))) (certificate_restated (accepted s h + 1) status c) next)
      < measure desk due (moment s h) (the_views (seen_of (objects s h) (key_of (Cert c))) c next)) → LowersMeasure s h (Called (Pass n) call reply)
  status_by status next is are falls =
      let v : Views = seen_of (objects s h) (key_of (Cert c)) in
      let d : Certificate = certificate_restated (accepted s h + 1) status c in
      let nexts : v.next ≡ next = next_is ∙ are in
      status_lowers s h n call reply c status a.ok (is_restated s h a.caller.pass.seen call reply c status a.legal a.caller.saw.known sees a.founded is) one
      (λ desk due rules.
      subst (λ (w : Views). measure desk due (moment s h) w < measure desk due (moment s h) (with_certificate c v)) (next_views v d next nexts)
      (subst (λ (w : Views). measure desk due (moment s h) (the_views v d next) < measure desk due (moment s h) w) (next_views v c next nexts) (falls desk due)))

  drop_by : (k : SecretObject) (others : List SecretObject) → call ≡ Delete (key_of (Secret k)) (Some k.meta.version) → a.caller.pass.seen.next ≡ k ∷ others
      → ((desk : Desk) (due : ℕ) (first rest : List SecretObject) → (seen_of (objects s h) (key_of (Cert c))).next ≡ first ++ k ∷ rest
      → measure desk due (moment s h) (the_views (seen_of (objects s h) (key_of (Cert c))) c (first ++ rest)) < measure desk due (moment s h) (the_views (seen_of (objects s h) (key_of (Cert c))) c (first ++ k ∷ rest)))
      → LowersMeasure s h (Called (Pass n) call reply)
  drop_by k others is are falls =
      let m : Objects = objects s h in
      let among : IsAmong k a.caller.pass.seen.next = subst (IsAmong k) (sym are) (inl refl) in
      let d = is_dropped s h a.caller.pass.seen call reply k a.legal a.caller.saw.known among a.founded is in
      let new : Option Object = stored (accepted s h + 1) (moment s h) m (settled call reply) in
      let here = subst (λ (x : Option Object). IsForOneIn m (key_of (Secret k)) x) d.is (subst (λ (q : Key). IsForOneIn m q new) d.key one) in
      let over = dropped_over s (moment s h) m c k here present d.was (a.caller.saw.well.labelled k among) (a.caller.saw.well.key_owned c k sees among) falls in
      lowers_measure s h n call reply a.ok
      (subst (λ (q : Key). LowersOver s (moment s h) m (put_at m q new)) (sym d.key) (subst (λ (x : Option Object). LowersOver s (moment s h) m (put_at m (key_of (Secret k)) x)) (sym d.is) over))

  naming : IsNaming a.caller.pass.seen c call → LowersMeasure s h (Called (Pass n) call reply)
  naming w =
      status_by (named_status (Some w.key.meta.name) c.status) (w.key ∷ []) w.is w.next
      (λ desk due. named_falls desk due (moment s h) (seen_of (objects s h) (key_of (Cert c))) c w.key (accepted s h + 1) w.issuing w.fitting w.other)

  unnaming : IsUnnaming a.caller.pass.seen c call → LowersMeasure s h (Called (Pass n) call reply)
  unnaming w =
      status_by (named_status None c.status) [] w.is w.next (λ desk due. unnamed_falls desk due (moment s h) (seen_of (objects s h) (key_of (Cert c))) c (accepted s h + 1) w.name w.idle w.named)

  unfit : IsUnfitDrop a.caller.pass.seen c call → LowersMeasure s h (Called (Pass n) call reply)
  unfit w =
      drop_by w.key [] w.is w.next
      (λ desk due first rest are.
      let v : Views = seen_of (objects s h) (key_of (Cert c)) in
      let alone : first ++ w.key ∷ rest ≡ w.key ∷ [] = sym are ∙ next_is ∙ w.next in
      subst (λ (l : List SecretObject). measure desk due (moment s h) (the_views v c l) < measure desk due (moment s h) (the_views v c (first ++ w.key ∷ rest))) (sym (single first rest w.key w.key alone))
      (subst (λ (l : List SecretObject). measure desk due (moment s h) (the_views v c []) < measure desk due (moment s h) (the_views v c l)) (sym alone) (dropped_falls desk due (moment s h) v c w.key w.issuing w.unfit)))

  idle : IsIdleDrop a.caller.pass.seen c call → LowersMeasure s h (Called (Pass n) call reply)
  idle w =
      drop_by w.key w.others w.is w.next
      (λ desk due first rest are. idle_dropped_falls desk due (moment s h) (seen_of (objects s h) (key_of (Cert c))) c (first ++ w.key ∷ rest) (first ++ rest) w.idle (one_less first rest w.key))

  making : IsMaking a.caller.pass.seen c call → LowersMeasure s h (Called (Pass n) call reply)
  making w =
      let m : Objects = objects s h in
      let v : Views = seen_of m (key_of (Cert c)) in
      let k = is_new_key s h call reply c w.file a.ok a.founded w.is in
      let key : Key = key_of_call (settled call reply) in
      let fit : has_fitting_key c.spec.key k.made ≡ true = ap (is_fitting c.spec.key) k.holds ∙ w.fitting in
      let over = made_over s (moment s h) m key c k.made (subst (λ (x : Option Object). IsForOneIn m key x) k.is one) k.kind present k.none k.labelled k.owned
      (λ desk due first rest are.
      let none : first ++ rest ≡ [] = sym are ∙ next_is ∙ w.next in
      subst (λ (l : List SecretObject). measure desk due (moment s h) (the_views v c l) < measure desk due (moment s h) (the_views v c (first ++ rest))) (sym (only_new first rest k.made none))
      (subst (λ (l : List SecretObject). measure desk due (moment s h) (the_views v c (k.made ∷ [])) < measure desk due (moment s h) (the_views v c l)) (sym none) (made_falls desk due (moment s h) v c k.made w.issuing fit)))
      in
      lowers_measure s h n call reply a.ok (subst (λ (x : Option Object). LowersOver s (moment s h) m (put_at m key x)) (sym k.is) over)

  pub key_lowers : length a.caller.pass.seen.next ≤ 1 → IsKeyCall a.caller.pass.seen c call → LowersMeasure s h (Called (Pass n) call reply)
  key_lowers few (inl w) = naming w
  key_lowers few (inr (inl w)) = unnaming w
  key_lowers few (inr (inr (inl w))) = unfit w
  key_lowers few (inr (inr (inr (inl w)))) = idle w
  key_lowers few (inr (inr (inr (inr (inl w))))) = making w
  key_lowers few (inr (inr (inr (inr (inr many))))) = absurd (omega (arith, few, many))

pub key_manager_lowers : MadeKeysFit → (s : Setting) (h : List Entry) (n : ℕ) (call : Call) (reply : Reply) (a : IsAcceptedBy s h n call reply) → IsOfLoad s h → a.caller.pass.role ≡ KeyManager → SeesAll s h a.caller.pass
    → length a.caller.pass.seen.next ≤ 1
    → IsForOneIn (objects s h) (key_of_call (settled call reply)) (stored (accepted s h + 1) (moment s h) (objects s h) (settled call reply)) → LowersMeasure s h (Called (Pass n) call reply)
key_manager_lowers fit s h n call reply a load is current few one =
    let p : OpenPass = a.caller.pass in
    let asked = of_open (AskedByAct s) (open_pass s h n) p a.caller.opened (asked_act s h n load.played.caused) in
    let by = key_call_at fit s h n p.seen p.since (desk s h p.role p.seen) p.stage call (subst (λ (r : Role). HoldsOfQuestion p.stage (IsOfAct s r p.seen p.since)) is asked)
    (subst (λ (r : Role). HasCome h n r p.seen p.since p.stage) is a.caller.done) (next_as s h n call reply a KeyManager is) (call_as s h n call reply a KeyManager is)
    in
    key_lowers s h n call reply a is current by.certificate by.sees one few by.so
