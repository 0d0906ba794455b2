-- Which private keys stand for the issuance of a Certificate, each in a Secret of its own (cert-manager.io/v1 `privateKey.rotationPolicy`).
use Rattle.std.specs.Prelude.{ℕ, ℤ, ◌+◌, true, not, List, [], ◌∷◌, codes, Option, Some, None, find, is_some, if◌then◌else◌}
use Rattle.cmc_meta.specs.PairLists.{with_text}
use Rattle.cmc_x509.specs.ReadKeys.{key_file_at}
use Rattle.cmc_objects.specs.declared.certificate.Certificate.{Certificate}
use Rattle.cmc_objects.specs.declared.secret.Secret.{Secret as SecretObject}
use Rattle.cmc_objects.specs.declared.object.Object.TheVariants.{Cert, Secret}
use Rattle.cmc_objects.specs.declared.orders.KeyOrder.{KeyOrder}
use Rattle.cmc_objects.specs.declared.orders.Order.{Order}
use Rattle.cmc_objects.specs.declared.orders.Order.TheVariants.{Key as KeyOf}
use Rattle.cmc_objects.specs.declared.key_spec.Rotation.{Rotation}
use Rattle.cmc_objects.specs.declared.key_spec.Rotation.TheVariants.{Always, Never}
use Rattle.cmc_objects.specs.declared.call.Call.{Call}
use Rattle.cmc_objects.specs.declared.call.Call.TheVariants.{Create, UpdateStatus, Delete}
use Rattle.cmc_objects.specs.Objects.{key_of}
use Rattle.cmc_objects.specs.Defaults.{key_algorithm, key_size, key_encoding, key_rotation}
use Rattle.cmc_match.specs.Facts.{key_in, fits}
use Rattle.cmc_pass.specs.declared.pass.Views.{Views}
use Rattle.cmc_pass.specs.declared.pass.Desk.{Desk}
use Rattle.cmc_pass.specs.declared.pass.Act.{Act}
use Rattle.cmc_pass.specs.declared.pass.Act.TheVariants.{Nothing, Call as Calls, Ask as Asks}
use Rattle.cmc_pass.specs.declared.value.Value.{Value}
use Rattle.cmc_pass.specs.declared.value.Value.TheVariants.{Made, Signed, Answered, Judged}
use Rattle.cmc_rules.specs.Trigger.{is_issuing}
use Rattle.cmc_rules.specs.Orders.{key_row}
use Rattle.cmc_rules.specs.Owners.{owned_meta}
use Rattle.cmc_rules.specs.NextKeys.{is_named, has_fitting_key}

-- ---- the calls and the question

-- the write of the name of the next key, or of none, at the version that was seen
unfoldable pub name_call : Option (List ℕ) → Certificate → Act
name_call name c = Calls (UpdateStatus (Cert (record c { status = record c.status { next_key = name } })) c.meta.version)

-- the deletion of a key at the version that was seen
unfoldable pub drop_call : SecretObject → Act
drop_call k = Calls (Delete (key_of (Secret k)) (Some k.meta.version))

-- a new key: an opaque Secret with the label of a next key, which the Certificate owns
unfoldable pub key_secret : Certificate → List ℕ → SecretObject
key_secret c file = record {
  meta = owned_meta c (with_text [] (codes "cert-manager.io/next-private-key") (codes "true")) [];
  kind_text = codes "Opaque";
  parts = with_text [] (codes "tls.key") file;
}

-- its create, under a name that is generated
unfoldable pub make_call : Certificate → List ℕ → Call
make_call c file = Create (Secret (key_secret c file)) true

-- the question for a key of the kind that the specification asks for
unfoldable pub key_order : Certificate → Desk → KeyOrder
key_order c desk = record {
  number = desk.asked + 1;
  certificate = key_of (Cert c);
  algorithm = key_algorithm c.spec.key;
  size = key_size c.spec.key;
  encoding = key_encoding c.spec.key;
  row = key_row desk.material (key_of (Cert c)) desk.asked;
}

unfoldable pub ask_key : Certificate → Desk → Act
ask_key c desk = Asks (KeyOf (key_order c desk))

-- ---- the table

abbrev pub target_key : Option SecretObject → Option (List ℕ)
target_key None = None
target_key (Some k) = key_in k

-- the target's key again, where it fits; where it does not there is nothing to do, and where it is not readable a new one is asked for
abbrev pub reused : Certificate → Desk → Option (List ℕ) → Act
reused c desk None = ask_key c desk
reused c desk (Some file) = if is_some (key_file_at file) then (if fits c.spec.key file then Calls (make_call c file) else Nothing) else ask_key c desk

-- always a new key, or never one where the target has one
abbrev pub rotated : Certificate → Desk → Option (List ℕ) → Rotation → Act
rotated c desk file Always = ask_key c desk
rotated c desk file Never = reused c desk file

-- the only key goes if it does not fit, and else the status gets its name
abbrev pub only_key : Certificate → SecretObject → Act
only_key c k = if has_fitting_key c.spec.key k then (if is_named c.status.next_key k then Nothing else name_call (Some k.meta.name) c) else drop_call k

abbrev pub dropped : Option SecretObject → Act
dropped None = Nothing
dropped (Some k) = drop_call k

-- of several keys the first goes that the status does not name
abbrev pub while_issuing : Certificate → Desk → Option SecretObject → List SecretObject → Act
while_issuing c desk target [] = rotated c desk (target_key target) (key_rotation c.spec.key)
while_issuing c desk target (k ∷ []) = only_key c k
while_issuing c desk target (k ∷ j ∷ ks) = dropped (find (λ o. not (is_named c.status.next_key o)) (k ∷ j ∷ ks))

abbrev pub unnamed : Certificate → Option (List ℕ) → Act
unnamed c None = Nothing
unnamed c (Some name) = name_call None c

-- where nothing is issued the keys go one by one, and then the name
abbrev pub while_idle : Certificate → List SecretObject → Act
while_idle c [] = unnamed c c.status.next_key
while_idle c (k ∷ ks) = drop_call k

abbrev pub keys_for : Certificate → Desk → Option SecretObject → List SecretObject → Act
keys_for c desk target next = if is_issuing c then while_issuing c desk target next else while_idle c next

abbrev pub keys_of : Option Certificate → Desk → Option SecretObject → List SecretObject → Act
keys_of None desk target next = Nothing
keys_of (Some c) desk target next = keys_for c desk target next

unfoldable pub key_manager : Views → Desk → Act
key_manager views desk = keys_of views.certificate desk views.secret views.next

-- ---- what follows a value: the key that was made is kept

abbrev pub kept : Certificate → Value → Option Call
kept c (Made file) = Some (make_call c file)
kept c (Signed signature) = None
kept c (Answered answer) = None
kept c (Judged approved) = None

abbrev pub kept_for : Option Certificate → Value → Option Call
kept_for None value = None
kept_for (Some c) value = kept c value

-- it hangs neither on the moment nor on the question, which its value answers
unfoldable pub key_after : Views → ℤ → Order → Value → Option Call
key_after views moment order value = kept_for views.certificate value
