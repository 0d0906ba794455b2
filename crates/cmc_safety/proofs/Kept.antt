-- What is true of all objects that are stored: said once of each kind of objects, it is kept by all that a call makes of an object.
use Rattle.std.proofs.Common.{ℕ, ℤ, ◌+◌, List, ◌∷◌, Option, Some, true}
use Rattle.std.specs.Prelude.{IfSome}
use Rattle.cmc_objects.specs.declared.certificate.CertStatus.{CertStatus}
use Rattle.cmc_objects.specs.declared.request.RequestStatus.{RequestStatus}
use Rattle.cmc_objects.specs.declared.object.Object.{Object}
use Rattle.cmc_objects.specs.declared.object.Object.TheVariants.{Cert, Request, Secret}
use Rattle.cmc_objects.specs.declared.call.Call.{Call}
use Rattle.cmc_objects.specs.declared.call.Call.TheVariants.{Create, Update, UpdateStatus, Get}
use Rattle.cmc_objects.specs.declared.call.Reply.{Reply}
use Rattle.cmc_objects.specs.declared.call.Reply.TheVariants.{Ok}
use Rattle.cmc_objects.specs.declared.entry.Entry.{Entry}
use Rattle.cmc_objects.specs.Objects.{meta_of, no_cert_status, no_request_status, numbered}
use Rattle.cmc_model.specs.Objects.{object_at}
use Rattle.cmc_model.specs.Generated.{named}
use Rattle.cmc_model.specs.Stored.{created, updated, with_status, generation_after}
use Rattle.cmc_model.specs.Replies.{key_of_call, settled, stored_over}
use Rattle.cmc_model.specs.Histories.{Setting, moment, objects, accepted}
use Rattle.cmc_model.specs.Writes.{writes}
use Rattle.cmc_safety.proofs.Carried.{EachVersion, one_more, standing_has, newest}

-- ---- what a claim has to keep

-- of the objects of one kind at this moment: what is New makes one that is so, and updates one, each under any name; what is Written sets its status
pub record Keeps {A : Type 0} (kind : A → Object) (now : ℤ) (P New Written : Object → Type 0) : Type 0 where
  pub makes : (version : ℕ) (a : A) → New (kind a) → P (created version now (kind a))
  pub numbers : (version generation : ℕ) (a : A) → P (kind a) → P (numbered version generation (kind a))
  pub updates : (old new : A) → P (kind old) → New (kind new) → P (updated (kind old) (kind new))
  pub sets : (old new : A) → P (kind old) → Written (kind new) → P (with_status (kind old) (kind new))
  pub names : (name : List ℕ) (a : A) → New (kind a) → New (named name (kind a))

pub record IsKept (now : ℤ) (P New Written : Object → Type 0) : Type 0 where
  pub certificates : Keeps Cert now P New Written
  pub requests : Keeps Request now P New Written
  pub secrets : Keeps Secret now P New Written

-- of which nothing is asked
abbrev pub Any : Object → Type 0
Any o = Unit {0}

-- a claim on statuses alone, which an empty one meets, is kept where each status that is written meets it
abbrev pub OnStatus : (CertStatus → Type 0) → (RequestStatus → Type 0) → Object → Type 0
OnStatus C R (Cert c) = C c.status
OnStatus C R (Request r) = R r.status
OnStatus C R (Secret k) = Unit {0}

pub status_kept : (C : CertStatus → Type 0) (R : RequestStatus → Type 0) (now : ℤ) → C no_cert_status → R no_request_status → IsKept now (OnStatus C R) Any (OnStatus C R)
unfolding created numbered updated with_status
status_kept C R now c r = record {
  certificates = record { makes = λ version a new. c; numbers = λ version generation a is. is; updates = λ old new is given. is; sets = λ old new is given. given; names = λ name a new. tt };
  requests = record { makes = λ version a new. r; numbers = λ version generation a is. is; updates = λ old new is given. is; sets = λ old new is given. given; names = λ name a new. tt };
  secrets = record { makes = λ version a new. tt; numbers = λ version generation a is. is; updates = λ old new is given. is; sets = λ old new is given. given; names = λ name a new. tt };
}

-- ---- what calls store: an object of another kind leaves the old one

kept_created : {now : ℤ} {P New Written : Object → Type 0} → IsKept now P New Written → (version : ℕ) (object : Object) → New object → P (created version now object)
kept_created k version (Cert c) new = k.certificates.makes version c new
kept_created k version (Request r) new = k.requests.makes version r new
kept_created k version (Secret s) new = k.secrets.makes version s new

kept_numbered : {now : ℤ} {P New Written : Object → Type 0} → IsKept now P New Written → (version generation : ℕ) (object : Object) → P object → P (numbered version generation object)
kept_numbered k version generation (Cert c) is = k.certificates.numbers version generation c is
kept_numbered k version generation (Request r) is = k.requests.numbers version generation r is
kept_numbered k version generation (Secret s) is = k.secrets.numbers version generation s is

kept_updated : {now : ℤ} {P New Written : Object → Type 0} → IsKept now P New Written → (old new : Object) → P old → New new → P (updated old new)
unfolding updated
kept_updated k (Cert a) (Cert b) is given = k.certificates.updates a b is given
kept_updated k (Request a) (Request b) is given = k.requests.updates a b is given
kept_updated k (Secret a) (Secret b) is given = k.secrets.updates a b is given
kept_updated k old other is given = is

kept_with_status : {now : ℤ} {P New Written : Object → Type 0} → IsKept now P New Written → (old new : Object) → P old → Written new → P (with_status old new)
unfolding with_status
kept_with_status k (Cert a) (Cert b) is given = k.certificates.sets a b is given
kept_with_status k (Request a) (Request b) is given = k.requests.sets a b is given
kept_with_status k old other is given = is

kept_named : {now : ℤ} {P New Written : Object → Type 0} → IsKept now P New Written → (name : List ℕ) (object : Object) → New object → New (named name object)
kept_named k name (Cert c) new = k.certificates.names name c new
kept_named k name (Request r) new = k.requests.names name r new
kept_named k name (Secret s) new = k.secrets.names name s new

-- what a call has to bring
abbrev pub Brings : (Object → Type 0) → (Object → Type 0) → Call → Type 0
Brings New Written (Create object generate) = New object
Brings New Written (Update object named) = New object
Brings New Written (UpdateStatus object named) = Written object
Brings New Written other = Unit {0}

pub brings_any : (call : Call) → Brings Any Any call
brings_any (Get key) = tt
brings_any other = tt

kept_stored : {now : ℤ} {P New Written : Object → Type 0} → IsKept now P New Written → (version : ℕ) (old : Option Object) (call : Call) → Brings New Written call → IfSome old P
    → IfSome (stored_over version now old call) P
kept_stored k version old (Create object generate) given is = kept_created k version object given
kept_stored k version (Some old) (Update object named) given is = kept_numbered k version (generation_after old (updated old object)) (updated old object) (kept_updated k old object is given)
kept_stored k version (Some old) (UpdateStatus object named) given is = kept_numbered k version (meta_of old).generation (with_status old object) (kept_with_status k old object is given)
kept_stored k version old (Get key) given is = is
kept_stored k version old other given is = tt

-- a name that is generated changes nothing of that
kept_settled : {now : ℤ} {P New Written : Object → Type 0} → IsKept now P New Written → (call : Call) (reply : Reply) → Brings New Written call → Brings New Written (settled call reply)
unfolding settled
kept_settled k (Create object true) (Ok version name) given = kept_named k name object given
kept_settled k call reply given = given

-- ---- histories

-- each version is so over a call that brings what it has to
pub kept_more : {P New Written : Object → Type 0} (s : Setting) (h : List Entry) (call : Call) (reply : Reply) → IsKept (moment s h) P New Written → Brings New Written call
    → EachVersion P (writes s h) → EachVersion P (newest s h call reply ∷ writes s h)
kept_more {P} s h call reply k given each =
    one_more P (newest s h call reply) (writes s h)
    (kept_stored k (accepted s h + 1) (object_at (objects s h) (key_of_call (settled call reply))) (settled call reply) (kept_settled k call reply given)
    (standing_has P s h (key_of_call (settled call reply)) each))
    each
