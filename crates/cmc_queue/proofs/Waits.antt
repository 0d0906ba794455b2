-- What waits is found where it is looked for, after each change of the rows.
use Rattle.std.proofs.Common.{◌≡◌, ℕ, ℤ, Bool, true, false, List, Option, Some, None, refl, sym, ap, ◌∙◌, subst, int_le}
use Rattle.std.specs.Map.{lookup}
use Rattle.std.specs.Prelude.{◌==◌, if◌then◌else◌, is_some}
use Rattle.cmc_meta.specs.declared.key.Key.{Key}
use Rattle.cmc_meta.specs.declared.key.Kind.{Kind}
use Rattle.cmc_meta.specs.declared.key.Kind.TheVariants.{Certificate, CertificateRequest, Secret}
use Rattle.cmc_meta.specs.Keys.{key_eq, kind_rank}
use Rattle.cmc_queue.specs.declared.row.Parked.{Parked}
use Rattle.cmc_queue.specs.declared.row.Found.TheVariants.{Unknown, Nothing, Something}
use Rattle.cmc_queue.specs.declared.row.Found.{Found}
use Rattle.cmc_queue.specs.declared.row.Row.{Row}
use Rattle.cmc_queue.specs.Rows.{added, earlier, has_row, is_due, is_free, is_reached, is_unknown, lapsed, moved, row_in, row_or_new, taken, ticked}
use Rattle.cmc_queue.specs.Queues.{has_room_for, is_listed, is_timed_with, HasPlaces, IsParked, AreTimed, Work}
use Rattle.cmc_queue.proofs.OneRow.{same_by_test}
use Rattle.cmc_queue.proofs.Moving.{still_parked}

-- ---- a key with something to do has a row

free_kept : (o : Option Row) → is_free (row_or_new o) ≡ true → is_some o ≡ true
free_kept None e = absurd (cc)
free_kept (Some row) e = refl

working_kept : (o : Option Row) → (row_or_new o).working ≡ true → is_some o ≡ true
working_kept None e = absurd (cc)
working_kept (Some row) e = refl

pub free_has_row : (rows : List (Key × Row)) (key : Key) → is_free (row_in rows key) ≡ true → has_row rows key ≡ true
unfolding row_in has_row
free_has_row rows key e = free_kept (lookup (key_eq key) rows) e

pub working_has_row : (rows : List (Key × Row)) (key : Key) → (row_in rows key).working ≡ true → has_row rows key ≡ true
unfolding row_in has_row
working_has_row rows key e = working_kept (lookup (key_eq key) rows) e

reached_kept : (kind : Kind) (to : ℕ) (o : Option Row) → is_reached kind to (row_or_new o).parked ≡ true → is_some o ≡ true
reached_kept kind to None e = absurd (cc)
reached_kept kind to (Some row) e = refl

due_kept : (now : ℤ) (o : Option Row) → is_due now (row_or_new o).timed ≡ true → is_some o ≡ true
due_kept now None e = absurd (cc)
due_kept now (Some row) e = refl

pub reached_has_row : (kind : Kind) (to : ℕ) (rows : List (Key × Row)) (key : Key) → is_reached kind to (row_in rows key).parked ≡ true → has_row rows key ≡ true
unfolding row_in has_row
reached_has_row kind to rows key e = reached_kept kind to (lookup (key_eq key) rows) e

pub due_has_row : (now : ℤ) (rows : List (Key × Row)) (key : Key) → is_due now (row_in rows key).timed ≡ true → has_row rows key ≡ true
unfolding row_in has_row
due_has_row now rows key e = due_kept now (lookup (key_eq key) rows) e

-- ---- one row changes

pub part_before : {X : Type 0} (part : Row → X) (b : Bool) (rows new : List (Key × Row)) (key k : Key) (row : Row) → key_eq key k ≡ b → row_in new k ≡ (if b then row else row_in rows k)
    → part row ≡ part (row_in rows key) → part (row_in new k) ≡ part (row_in rows k)
part_before part true rows new key k row e at same = ap part at ∙ same ∙ ap (λ q. part (row_in rows q)) (same_by_test key k e)
part_before part false rows new key k row e at same = ap part at

given : (b : Bool) (f : Row → Row) (rows new : List (Key × Row)) (key k : Key) (row : Row) → key_eq key k ≡ b → row ≡ f (row_in rows key) → row_in new k ≡ (if b then row else row_in rows k)
    → row_in new k ≡ (if b then f (row_in rows k) else row_in rows k)
given true f rows new key k row e is at = at ∙ is ∙ ap (λ q. f (row_in rows q)) (same_by_test key k e)
given false f rows new key k row e is at = at

-- the row that is written is f of the old one
pub changed_by_put : (f : Row → Row) (rows new : List (Key × Row)) (key : Key) (row : Row) → row ≡ f (row_in rows key) → ((k : Key) → row_in new k ≡ (if key_eq key k then row else row_in rows k))
    → (k : Key) → row_in new k ≡ (if key_eq key k then f (row_in rows k) else row_in rows k)
changed_by_put f rows new key row is each k = given (key_eq key k) f rows new key k row refl is (each k)

as_it_was : (b : Bool) (f : Row → Row) (rows : List (Key × Row)) (key k : Key) → key_eq key k ≡ b → f (row_in rows key) ≡ row_in rows key → row_in rows k ≡ (if b then f (row_in rows k) else row_in rows k)
as_it_was true f rows key k e same = subst (λ (q : Key). row_in rows q ≡ f (row_in rows q)) (same_by_test key k e) (sym same)
as_it_was false f rows key k e same = refl

-- nothing is written where f leaves the row as it is
pub changed_by_nothing : (f : Row → Row) (rows : List (Key × Row)) (key : Key) → f (row_in rows key) ≡ row_in rows key → (k : Key) → row_in rows k ≡ (if key_eq key k then f (row_in rows k) else row_in rows k)
changed_by_nothing f rows key same k = as_it_was (key_eq key k) f rows key k refl same

-- whatever waits for the row stays as it was: its moment and its version
pub record IsAsFound (old new : Row) : Type 0 where
  pub timed : new.timed ≡ old.timed
  pub parked : new.parked ≡ old.parked

waits_same : (b : Bool) (row : Row) → IsAsFound row (if b then record row { ready = false; work = Unknown; working = true } else row)
waits_same true row = record { timed = refl; parked = refl }
waits_same false row = record { timed = refl; parked = refl }

-- a key that is given waits for what it waited for
pub taken_waits : (row : Row) → IsAsFound row (taken row)
taken_waits row = waits_same (is_free row) row

-- the row that is written waits for what the old one waits for
pub found_by_put : (q : Work) (new : List (Key × Row)) (key : Key) (row : Row) → HasPlaces q → row.timed ≡ (row_in q.rows key).timed → row.parked ≡ (row_in q.rows key).parked
    → ((k : Key) → row_in new k ≡ (if key_eq key k then row else row_in q.rows k))
    → HasPlaces (record { rows = new; moments = q.moments; certificates = q.certificates; requests = q.requests; secrets = q.secrets })
found_by_put q new key row so timed parked each = record {
  timed = λ k at is. so.timed k at (sym (part_before (λ r. r.timed) (key_eq key k) q.rows new key k row refl (each k) timed) ∙ is);
  certificates = λ k p is. so.certificates k p (sym (stays k) ∙ is);
  requests = λ k p is. so.requests k p (sym (stays k) ∙ is);
  secrets = λ k p is. so.secrets k p (sym (stays k) ∙ is);
} where
  stays : (k : Key) → (row_in new k).parked ≡ (row_in q.rows k).parked
  stays k = part_before (λ r. r.parked) (key_eq key k) q.rows new key k row refl (each k) parked

same_part : {X : Type 0} (part : Row → X) (f : Row → Row) → ((r : Row) → part (f r) ≡ part r) → (b : Bool) (row : Row) → part (if b then f row else row) ≡ part row
same_part part f same true row = same row
same_part part f same false row = refl

-- what is added waits for what it waited for
pub found_by_adding : (q : Work) (new : List (Key × Row)) (key : Key) → HasPlaces q → ((k : Key) → row_in new k ≡ (if key_eq key k then added (row_in q.rows k) else row_in q.rows k))
    → HasPlaces (record { rows = new; moments = q.moments; certificates = q.certificates; requests = q.requests; secrets = q.secrets })
found_by_adding q new key so each = record {
  timed = λ k at is. so.timed k at (sym (ap (λ (r : Row). r.timed) (each k) ∙ same_part (λ r. r.timed) added (λ r. refl) (key_eq key k) (row_in q.rows k)) ∙ is);
  certificates = λ k p is. so.certificates k p (sym (stays k) ∙ is);
  requests = λ k p is. so.requests k p (sym (stays k) ∙ is);
  secrets = λ k p is. so.secrets k p (sym (stays k) ∙ is);
} where
  stays : (k : Key) → (row_in new k).parked ≡ (row_in q.rows k).parked
  stays k = ap (λ (r : Row). r.parked) (each k) ∙ same_part (λ r. r.parked) added (λ r. refl) (key_eq key k) (row_in q.rows k)

chosen : (b : Bool) (old at : ℤ) (due : List (ℤ × Key)) (key : Key) → is_timed_with due at key ≡ true → is_timed_with due old key ≡ true → is_timed_with due (if b then old else at) key ≡ true
chosen true old at due key new before = before
chosen false old at due key new before = new

noted_earlier : (o : Option ℤ) (at : ℤ) (due : List (ℤ × Key)) (key : Key) → is_timed_with due at key ≡ true → ((t : ℤ) → o ≡ Some t → is_timed_with due t key ≡ true) → is_timed_with due (earlier at o) key ≡ true
noted_earlier None at due key new before = new
noted_earlier (Some old) at due key new before = chosen (int_le old at) old at due key new (before old refl)

the_moment : (a b : ℤ) (due : List (ℤ × Key)) (key : Key) → Some a ≡ Some b → is_timed_with due a key ≡ true → is_timed_with due b key ≡ true
the_moment a b due key same noted = let is : a ≡ b = cc in subst (λ (t : ℤ). is_timed_with due t key ≡ true) is noted

timed_here : (b : Bool) (rows new : List (Key × Row)) (due : List (ℤ × Key)) (key k : Key) (row : Row) (at t : ℤ) → key_eq key k ≡ b → row_in new k ≡ (if b then row else row_in rows k)
    → row.timed ≡ Some (earlier at (row_in rows key).timed) → is_timed_with due at key ≡ true → AreTimed rows due → (row_in new k).timed ≡ Some t → is_timed_with due t k ≡ true
timed_here true rows new due key k row at t e each row_is place so is =
    let there : Some (earlier at (row_in rows key).timed) ≡ Some t = sym row_is ∙ sym (ap (λ r. r.timed) each) ∙ is in
    subst (λ (q : Key). is_timed_with due t q ≡ true) (same_by_test key k e)
    (the_moment _ t due key there (noted_earlier (row_in rows key).timed at due key place (so key)))
timed_here false rows new due key k row at t e each row_is place so is = so k t (sym (ap (λ r. r.timed) each) ∙ is)

-- the key is timed where it has a place
pub found_by_timing : (q : Work) (new : List (Key × Row)) (key : Key) (row : Row) (at : ℤ) → HasPlaces q → is_timed_with q.moments at key ≡ true → row.timed ≡ Some (earlier at (row_in q.rows key).timed)
    → row.parked ≡ (row_in q.rows key).parked → ((k : Key) → row_in new k ≡ (if key_eq key k then row else row_in q.rows k))
    → HasPlaces (record { rows = new; moments = q.moments; certificates = q.certificates; requests = q.requests; secrets = q.secrets })
found_by_timing q new key row at so place timed parked each = record {
  timed = λ k t is. timed_here (key_eq key k) q.rows new q.moments key k row at t refl (each k) timed place so.timed is;
  certificates = λ k p is. so.certificates k p (sym (stays k) ∙ is);
  requests = λ k p is. so.requests k p (sym (stays k) ∙ is);
  secrets = λ k p is. so.secrets k p (sym (stays k) ∙ is);
} where
  stays : (k : Key) → (row_in new k).parked ≡ (row_in q.rows k).parked
  stays k = part_before (λ r. r.parked) (key_eq key k) q.rows new key k row refl (each k) parked

parked_is : (kind : Kind) (version : ℕ) (p : Parked) → Some (record { kind = kind; version = version }) ≡ Some p → (kind ≡ p.kind) × (version ≡ p.version)
parked_is kind version p is = let q : Parked = record { kind = kind; version = version } in let same : q ≡ p = cc is in (ap (λ (x : Parked). x.kind) same, ap (λ (x : Parked). x.version) same)

parked_here : (b : Bool) (other kind : Kind) (version : ℕ) (rows new : List (Key × Row)) (versions : List (ℕ × Key)) (key k : Key) (row : Row) (p : Parked) → key_eq key k ≡ b → row_in new k ≡ (if b then row else row_in rows k)
    → row.parked ≡ Some (record { kind = kind; version = version }) → ((kind_rank kind == kind_rank other) ≡ true → is_listed versions version key ≡ true) → IsParked other rows versions
    → (row_in new k).parked ≡ Some p → (kind_rank p.kind == kind_rank other) ≡ true → is_listed versions p.version k ≡ true
parked_here true other kind version rows new versions key k row p e each row_is place so is same =
    let found = parked_is kind version p (sym row_is ∙ sym (ap (λ r. r.parked) each) ∙ is) in
    subst (λ (q : Key). is_listed versions p.version q ≡ true) (same_by_test key k e)
    (subst (λ (v : ℕ). is_listed versions v key ≡ true) found.1 (place (ap (λ (x : Kind). kind_rank x == kind_rank other) found.0 ∙ same)))
parked_here false other kind version rows new versions key k row p e each row_is place so is same = so k p (sym (ap (λ r. r.parked) each) ∙ is) same

certificate_place : (kind : Kind) (version : ℕ) (q : Work) (key : Key) → has_room_for q kind version key ≡ true → (kind_rank kind == kind_rank Certificate) ≡ true → is_listed q.certificates version key ≡ true
certificate_place Certificate version q key place is = place
certificate_place other version q key place is = absurd (cc is)

request_place : (kind : Kind) (version : ℕ) (q : Work) (key : Key) → has_room_for q kind version key ≡ true → (kind_rank kind == kind_rank CertificateRequest) ≡ true → is_listed q.requests version key ≡ true
request_place CertificateRequest version q key place is = place
request_place other version q key place is = absurd (cc is)

secret_place : (kind : Kind) (version : ℕ) (q : Work) (key : Key) → has_room_for q kind version key ≡ true → (kind_rank kind == kind_rank Secret) ≡ true → is_listed q.secrets version key ≡ true
secret_place Secret version q key place is = place
secret_place other version q key place is = absurd (cc is)

-- the key waits for a version where it has a place
pub found_by_parking : (q : Work) (new : List (Key × Row)) (key : Key) (row : Row) (kind : Kind) (version : ℕ) → HasPlaces q → has_room_for q kind version key ≡ true → row.parked ≡ Some (record { kind = kind; version = version })
    → row.timed ≡ (row_in q.rows key).timed → ((k : Key) → row_in new k ≡ (if key_eq key k then row else row_in q.rows k))
    → HasPlaces (record { rows = new; moments = q.moments; certificates = q.certificates; requests = q.requests; secrets = q.secrets })
found_by_parking q new key row kind version so place parked timed each = record {
  timed = λ k at is. so.timed k at (sym (part_before (λ r. r.timed) (key_eq key k) q.rows new key k row refl (each k) timed) ∙ is);
  certificates = λ k p is. parked_here (key_eq key k) Certificate kind version q.rows new q.certificates key k row p refl (each k) parked (certificate_place kind version q key place) so.certificates is;
  requests = λ k p is. parked_here (key_eq key k) CertificateRequest kind version q.rows new q.requests key k row p refl (each k) parked (request_place kind version q key place) so.requests is;
  secrets = λ k p is. parked_here (key_eq key k) Secret kind version q.rows new q.secrets key k row p refl (each k) parked (secret_place kind version q key place) so.secrets is;
}

-- ---- all rows change

parked_by_moment : (b : Bool) (row : Row) → (if b then record row { ready = true; work = Unknown; timed = None } else record row { work = lapsed row.work }).parked ≡ row.parked
parked_by_moment true row = refl
parked_by_moment false row = refl

ticked_parked : (now : ℤ) (row : Row) → (ticked now row).parked ≡ row.parked
unfolding ticked
ticked_parked now row = parked_by_moment (is_due now row.timed) row

-- a moment changes nothing for what waits for a version
pub parked_by_tick : (kind : Kind) (now : ℤ) (rows new : List (Key × Row)) (versions : List (ℕ × Key)) → ((k : Key) → row_in new k ≡ ticked now (row_in rows k)) → IsParked kind rows versions → IsParked kind new versions
parked_by_tick kind now rows new versions each so k p is = so k p (sym (ap (λ r. r.parked) (each k) ∙ ticked_parked now (row_in rows k)) ∙ is)

timed_by_version : (b : Bool) (row : Row) → (if b then record row { ready = true; work = Unknown; parked = None } else row).timed ≡ row.timed
timed_by_version true row = refl
timed_by_version false row = refl

moved_timed : (kind : Kind) (to : ℕ) (row : Row) → (moved kind to row).timed ≡ row.timed
unfolding moved
moved_timed kind to row = timed_by_version _ row

-- a version changes nothing for what waits for a moment
pub timed_by_move : (kind : Kind) (to : ℕ) (rows new : List (Key × Row)) (due : List (ℤ × Key)) → ((k : Key) → row_in new k ≡ moved kind to (row_in rows k)) → AreTimed rows due → AreTimed new due
timed_by_move kind to rows new due each so k at is = so k at (sym (ap (λ r. r.timed) (each k) ∙ moved_timed kind to (row_in rows k)) ∙ is)

pub parked_by_move : (other kind : Kind) (to : ℕ) (rows new : List (Key × Row)) (versions : List (ℕ × Key)) → ((k : Key) → row_in new k ≡ moved kind to (row_in rows k)) → IsParked other rows versions → IsParked other new versions
parked_by_move other kind to rows new versions each so k p is = so k p (still_parked kind to (row_in rows k) p (sym (ap (λ r. r.parked) (each k)) ∙ is)).0

-- ---- a key that is ready and to be looked at

unknown_is : (work : Found) → is_unknown work ≡ true → work ≡ Unknown
unknown_is Unknown on = refl
unknown_is Nothing on = absurd (cc on)
unknown_is Something on = absurd (cc on)

-- stays as it is where it is added
pub added_stays : (row : Row) → row.ready ≡ true → is_unknown row.work ≡ true → added row ≡ row
added_stays row ready on = let work = unknown_is row.work on in λ i. record row { ready = sym ready i; work = sym work i }
