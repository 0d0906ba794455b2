-- Each entry of a history keeps what a work queue keeps of each key.
use Rattle.std.proofs.Common.{◌≡◌, ◌≤◌, ◌+◌, ℕ, ℤ, List, [], ◌∷◌, Option, Some, None, Bool, true, false, refl, sym, ap, subst, ◌∙◌, arith, int_le}
use Rattle.std.proofs.lemmas.Bool.{and_from, and_parts}
use Rattle.std.proofs.lemmas.Int.{ints}
use Rattle.std.specs.Prelude.{◌&&◌, ◌↔◌, IfSome, IsTrue, if◌then◌else◌}
use Rattle.cmc_meta.specs.declared.key.Key.{Key}
use Rattle.cmc_meta.specs.declared.key.Kind.{Kind}
use Rattle.cmc_meta.specs.declared.key.Kind.TheVariants as kinds
use Rattle.cmc_meta.specs.Keys.{key_eq}
use Rattle.cmc_objects.specs.declared.call.Call.{Call}
use Rattle.cmc_objects.specs.declared.call.Reply.{Reply}
use Rattle.cmc_objects.specs.declared.entry.Cause.{Cause}
use Rattle.cmc_objects.specs.declared.entry.Entry.{Entry}
use Rattle.cmc_objects.specs.declared.entry.Entry.TheVariants.{Script, Call as Called, Deliver, List as Listed, Begin, Ask, Made, Signed, Answered, Judged, End, Stop, Start, Tick}
use Rattle.cmc_objects.specs.declared.entry.Positions.{Positions}
use Rattle.cmc_objects.specs.declared.entry.Who.{Who}
use Rattle.cmc_objects.specs.declared.entry.Who.TheVariants.{User, Pass}
use Rattle.cmc_objects.specs.declared.orders.Order.{Order}
use Rattle.cmc_objects.specs.declared.orders.Rules.{Rules}
use Rattle.cmc_objects.specs.declared.orders.Signing.{Signing}
use Rattle.cmc_objects.specs.declared.role.Role.{Role}
use Rattle.cmc_objects.specs.Informers.{has_informer}
use Rattle.cmc_pass.specs.declared.pass.Act.TheVariants.{Nothing}
use Rattle.cmc_pass.specs.declared.pass.Desk.{Desk}
use Rattle.cmc_pass.specs.declared.pass.Views.{Views}
use Rattle.cmc_pass.specs.declared.value.Value.TheVariants as values
use Rattle.cmc_queue.specs.declared.row.Found.TheVariants as found
use Rattle.cmc_queue.specs.declared.row.Parked.{Parked}
use Rattle.cmc_queue.specs.declared.row.Row.{Row}
use Rattle.cmc_queue.specs.Rows.{is_due, is_free, is_reached, lapsed, moved, no_row, taken, ticked}
use Rattle.cmc_model.specs.Histories.{Setting, accepted, moment, role_eq, runs}
use Rattle.cmc_model.specs.Replies.{is_accepted, key_of_call}
use Rattle.cmc_model.specs.Writes.{kind_eq, objects_of}
use Rattle.cmc_rules.specs.declared.progress.Ending.{Ending}
use Rattle.cmc_rules.specs.declared.progress.Ending.TheVariants as endings
use Rattle.cmc_rules.specs.declared.progress.LastPass.{LastPass}
use Rattle.cmc_rules.specs.declared.progress.Obstacle.TheVariants as obstacles
use Rattle.cmc_rules.specs.declared.progress.OpenPass.{OpenPass}
use Rattle.cmc_rules.specs.declared.progress.Past.{Past}
use Rattle.cmc_rules.specs.declared.progress.Stage.{Stage}
use Rattle.cmc_rules.specs.declared.progress.Stage.TheVariants as stages
use Rattle.cmc_rules.specs.Acts.{act}
use Rattle.cmc_rules.specs.Causes.{EndsBy, MayEnd}
use Rattle.cmc_rules.specs.Desks.{desk}
use Rattle.cmc_rules.specs.Legality.{IsLegal}
use Rattle.cmc_rules.specs.Memory.{ending_at, ending_of, no_past, past, past_called, with_begin, with_ending, with_own, with_position}
use Rattle.cmc_rules.specs.Passes.{is_pass_of, open_pass, IsWorking}
use Rattle.cmc_rules.specs.Positions.{position, position_of, positions}
use Rattle.cmc_rules.specs.Sound as sound
use Rattle.cmc_rules.specs.Views.{Caches, caches, views, views_in}
use Rattle.cmc_rules.proofs.Positions.{positions_low, views_called}
use Rattle.cmc_queue.proofs.OneRow.{equal_keys}
use Rattle.cmc_queue.proofs.OneRow.{same_by_test}
use Rattle.cmc_moves.specs.Quiet.{no_views}
use Rattle.cmc_waking.specs.Parked.{ahead, own_ahead}
use Rattle.cmc_waking.specs.Feeds.{row_begun, closed, started, row_delivered, waiting}
use Rattle.cmc_waking.specs.WakeUps.{IsIdleAt, IsRowKept, IsTended, IsTimed}
use Rattle.cmc_waking.proofs.Owners.{AreSameOwners, equal_roles, none_ended, none_open, none_stopped, owners_asked, owners_begun, owners_called, owners_ended, owners_given, owners_stopped, same_role, works_begun}
use Rattle.cmc_waking.proofs.Remembered.{last_called, remembered, IsRemembered, RemembersPass}
use Rattle.cmc_waking.proofs.Tended.{kept_begun, kept_closed, kept_started, kept_ticked, kept_told, kept_working, IsFair}

-- ---- entries that leave a key as it was

-- what is kept is said by these
abbrev KeptBy : Setting → Role → Row → Past → Views → ℤ → Positions → Type 0
KeptBy s role row p seen now at = IsRowKept row.working role s.rules p seen now at row

-- the key is in process where it was
pub works_same : (s : Setting) (e : Entry) (h : List Entry) (role : Role) (key : Key) (working : Bool) → AreSameOwners s e h role key → (IsTrue working ↔ IsWorking s h role key) → IsTrue working ↔ IsWorking s (e ∷ h) role key
works_same s e h role key working same works = (λ on. let w = works.0 on in (w.0, same w.0 ∙ w.1), λ w. works.1 (w.0, sym (same w.0) ∙ w.1))

-- the role and the key are as they were
pub record IsAsBefore (s : Setting) (e : Entry) (h : List Entry) (role : Role) (key : Key) : Type 0 where
  pub owners : AreSameOwners s e h role key
  pub running : runs s (e ∷ h) role ≡ runs s h role
  pub past : past s (e ∷ h) role key ≡ past s h role key
  pub seen : views s (e ∷ h) role key ≡ views s h role key
  pub now : moment s (e ∷ h) ≡ moment s h
  pub at : positions (e ∷ h) role ≡ positions h role

kept_same : (s : Setting) (e : Entry) (h : List Entry) (role : Role) (key : Key) (row : Row) → IsAsBefore s e h role key → KeptBy s role row (past s h role key) (views s h role key) (moment s h) (positions h role)
    → KeptBy s role row (past s (e ∷ h) role key) (views s (e ∷ h) role key) (moment s (e ∷ h)) (positions (e ∷ h) role)
kept_same s e h role key row same kept =
    subst (λ (p : Past). KeptBy s role row p (views s (e ∷ h) role key) (moment s (e ∷ h)) (positions (e ∷ h) role)) (sym same.past)
    (subst (λ (v : Views). KeptBy s role row (past s h role key) v (moment s (e ∷ h)) (positions (e ∷ h) role)) (sym same.seen)
    (subst (λ (t : ℤ). KeptBy s role row (past s h role key) (views s h role key) t (positions (e ∷ h) role)) (sym same.now)
    (subst (λ (a : Positions). KeptBy s role row (past s h role key) (views s h role key) (moment s h) a) (sym same.at) kept)))

pub tended_same : (s : Setting) (e : Entry) (h : List Entry) (role : Role) (key : Key) (row : Row) → IsAsBefore s e h role key → IsTended s h role key row → IsTended s (e ∷ h) role key row
unfolding IsTended
tended_same s e h role key row same is = record {
  working = works_same s e h role key row.working same.owners is.working;
  kept = λ up. kept_same s e h role key row same (is.kept (sym same.running ∙ up));
}

pub tended_script : (s : Setting) (h : List Entry) (step : ℕ) (role : Role) (key : Key) (row : Row) → IsTended s h role key row → IsTended s (Script step ∷ h) role key row
tended_script s h step role key row = tended_same s (Script step) h role key row (record { owners = λ n. refl; running = refl; past = refl; seen = refl; now = refl; at = refl })

pub tended_ask : (s : Setting) (h : List Entry) (pass : ℕ) (order : Order) (role : Role) (key : Key) (row : Row) → IsTended s h role key row → IsTended s (Ask pass order ∷ h) role key row
tended_ask s h pass order role key row = tended_same s (Ask pass order) h role key row (record { owners = owners_asked s h pass order role key; running = refl; past = refl; seen = refl; now = refl; at = refl })

pub tended_made : (s : Setting) (h : List Entry) (pass : ℕ) (file : List ℕ) (role : Role) (key : Key) (row : Row) → IsTended s h role key row → IsTended s (Made pass file ∷ h) role key row
tended_made s h pass file role key row = tended_same s (Made pass file) h role key row (record { owners = λ n. owners_given s h n pass (values.Made file) role key; running = refl; past = refl; seen = refl; now = refl; at = refl })

pub tended_signed : (s : Setting) (h : List Entry) (pass : ℕ) (signature : List ℕ) (role : Role) (key : Key) (row : Row) → IsTended s h role key row → IsTended s (Signed pass signature ∷ h) role key row
tended_signed s h pass signature role key row = tended_same s (Signed pass signature) h role key row (record { owners = λ n. owners_given s h n pass (values.Signed signature) role key; running = refl; past = refl; seen = refl; now = refl; at = refl })

pub tended_answered : (s : Setting) (h : List Entry) (pass : ℕ) (answer : Signing) (role : Role) (key : Key) (row : Row) → IsTended s h role key row → IsTended s (Answered pass answer ∷ h) role key row
tended_answered s h pass answer role key row = tended_same s (Answered pass answer) h role key row (record { owners = λ n. owners_given s h n pass (values.Answered answer) role key; running = refl; past = refl; seen = refl; now = refl; at = refl })

pub tended_judged : (s : Setting) (h : List Entry) (pass : ℕ) (approved : Bool) (role : Role) (key : Key) (row : Row) → IsTended s h role key row → IsTended s (Judged pass approved ∷ h) role key row
tended_judged s h pass approved role key row = tended_same s (Judged pass approved) h role key row (record { owners = λ n. owners_given s h n pass (values.Judged approved) role key; running = refl; past = refl; seen = refl; now = refl; at = refl })

-- ---- a call

abbrev calls_own : Setting → List Entry → Role → Key → Who → Reply → Bool
calls_own s h role key User reply = false
calls_own s h role key (Pass pass) reply = is_accepted reply && is_pass_of role key (open_pass s h pass)

called_past : (b : Bool) (kind : Kind) (version : ℕ) (p : Past) → b ≡ false → (if b then with_own kind version p else p) ≡ p
called_past true kind version p off = absurd (cc off)
called_past false kind version p off = refl

past_unwritten : (s : Setting) (h : List Entry) (role : Role) (key : Key) (p : Past) (who : Who) (kind : Kind) (reply : Reply) → calls_own s h role key who reply ≡ false → past_called s h role key p who kind (is_accepted reply) ≡ p
past_unwritten s h role key p User kind reply off = refl
past_unwritten s h role key p (Pass pass) kind reply off = called_past (is_accepted reply && is_pass_of role key (open_pass s h pass)) kind (accepted s h + 1) p off

caller_works : (s : Setting) (h : List Entry) (role : Role) (key : Key) (who : Who) (reply : Reply) → calls_own s h role key who reply ≡ true → IsWorking s h role key
caller_works s h role key User reply on = absurd (cc on)
caller_works s h role key (Pass pass) reply on = (pass, (and_parts (is_accepted reply) (is_pass_of role key (open_pass s h pass)) on).1)

called_by : (b : Bool) (s : Setting) (h : List Entry) (who : Who) (call : Call) (reply : Reply) (role : Role) (key : Key) (row : Row) → calls_own s h role key who reply ≡ b → IsLegal s h → IsTended s h role key row → IsTended s (Called who call reply ∷ h) role key row
unfolding IsTended
called_by false s h who call reply role key row own legal is =
    tended_same s (Called who call reply) h role key row
    (record {
      owners = owners_called s h who call reply role key;
      running = refl;
      past = past_unwritten s h role key (past s h role key) who (key_of_call call).kind reply own;
      seen = views_called s h who call reply role key legal;
      now = refl;
      at = refl;
    })
    is
called_by true s h who call reply role key row own legal is = record {
  working = works_same s (Called who call reply) h role key row.working (owners_called s h who call reply role key) is.working;
  kept = λ up.
      kept_working role s.rules (past s h role key) (past s (Called who call reply ∷ h) role key) (views s (Called who call reply ∷ h) role key) (moment s h) (positions h role) row
      (is.working.1 (caller_works s h role key who reply own)) (last_called s h role key (past s h role key) who (key_of_call call).kind (is_accepted reply))
      (subst (λ (v : Views). KeptBy s role row (past s h role key) v (moment s h) (positions h role)) (sym (views_called s h who call reply role key legal)) (is.kept up));
}

pub tended_call : (s : Setting) (h : List Entry) (who : Who) (call : Call) (reply : Reply) (role : Role) (key : Key) (row : Row) → IsLegal s h → IsTended s h role key row → IsTended s (Called who call reply ∷ h) role key row
tended_call s h who call reply role key row legal is = called_by (calls_own s h role key who reply) s h who call reply role key row refl legal is

-- ---- a role is told

-- a role that is told of nothing new
abbrev StaysAt : Entry → List Entry → Role → Type 0
StaysAt e h role = (k : Kind) → position (e ∷ h) role k ≡ position h role k

same_told : (b : Bool) (p q : ℕ) → p ≡ q → (if b then p else 0) ≡ (if b then q else 0)
same_told true p q same = same
same_told false p q same = refl

positions_same : (e : Entry) (h : List Entry) (role : Role) → StaysAt e h role → positions (e ∷ h) role ≡ positions h role
positions_same e h role same =
    let one = same_told (has_informer role kinds.Certificate) (position (e ∷ h) role kinds.Certificate) (position h role kinds.Certificate) (same kinds.Certificate) in
    let two = same_told (has_informer role kinds.CertificateRequest) (position (e ∷ h) role kinds.CertificateRequest) (position h role kinds.CertificateRequest) (same kinds.CertificateRequest) in
    let three = same_told (has_informer role kinds.Secret) (position (e ∷ h) role kinds.Secret) (position h role kinds.Secret) (same kinds.Secret) in
    λ i. record { certificates = one i; requests = two i; secrets = three i }

-- it sees what it saw, where the entry is no write
views_same : (s : Setting) (e : Entry) (h : List Entry) (role : Role) (key : Key) → ((k : Kind) (p : ℕ) → objects_of k s (e ∷ h) p ≡ objects_of k s h p) → StaysAt e h role → views s (e ∷ h) role key ≡ views s h role key
views_same s e h role key stays same =
    let one = stays kinds.Certificate (position (e ∷ h) role kinds.Certificate) ∙ ap (objects_of kinds.Certificate s h) (same kinds.Certificate) in
    let two = stays kinds.CertificateRequest (position (e ∷ h) role kinds.CertificateRequest) ∙ ap (objects_of kinds.CertificateRequest s h) (same kinds.CertificateRequest) in
    let three = stays kinds.Secret (position (e ∷ h) role kinds.Secret) ∙ ap (objects_of kinds.Secret s h) (same kinds.Secret) in
    let all : caches s (e ∷ h) role ≡ caches s h role = λ i. record { certificates = one i; requests = two i; secrets = three i } in
    ap (λ (c : Caches). views_in role c key) all

other_told : (b c : Bool) (to p : ℕ) → b ≡ false → (if b && c then to else p) ≡ p
other_told true c to p other = absurd (cc other)
other_told false c to p other = refl

-- another role is told
pub tended_delivered_other : (s : Setting) (h : List Entry) (role r : Role) (kind : Kind) (to : ℕ) (key : Key) (row : Row) → role_eq role r ≡ false → IsTended s h r key row → IsTended s (Deliver role kind to ∷ h) r key row
tended_delivered_other s h role r kind to key row other =
    let stays : StaysAt (Deliver role kind to) h r = λ k. other_told (role_eq role r) (kind_eq kind k) to (position h r k) other in
    tended_same s (Deliver role kind to) h r key row
    (record { owners = λ n. refl; running = refl; past = refl; seen = views_same s (Deliver role kind to) h r key (λ k p. refl) stays; now = refl; at = positions_same (Deliver role kind to) h r stays })

pub tended_listed_other : (s : Setting) (h : List Entry) (role r : Role) (kind : Kind) (to : ℕ) (key : Key) (row : Row) → role_eq role r ≡ false → IsTended s h r key row → IsTended s (Listed role kind to ∷ h) r key row
tended_listed_other s h role r kind to key row other =
    let stays : StaysAt (Listed role kind to) h r = λ k. other_told (role_eq role r) (kind_eq kind k) to (position h r k) other in
    tended_same s (Listed role kind to) h r key row
    (record { owners = λ n. refl; running = refl; past = refl; seen = views_same s (Listed role kind to) h r key (λ k p. refl) stays; now = refl; at = positions_same (Listed role kind to) h r stays })

itself_told : (b c : Bool) (to p : ℕ) → b ≡ true → (if b && c then to else p) ≡ (if c then to else p)
itself_told true c to p mine = refl
itself_told false c to p mine = absurd (cc mine)

informed_told : (b : Bool) (to p : ℕ) → b ≡ true → (if b then to else p) ≡ to
informed_told true to p on = refl
informed_told false to p on = absurd (cc on)

-- where the role is told of the kind, its positions are these
placed : (s : Setting) (e : Entry) (h : List Entry) (role : Role) (kind : Kind) (to : ℕ) → has_informer role kind ≡ true → ((k : Kind) → position (e ∷ h) role k ≡ (if kind_eq kind k then to else position h role k))
    → positions (e ∷ h) role ≡ with_position kind to (positions h role)
placed s e h role kinds.Certificate to on told =
    let one = ap (λ (p : ℕ). if has_informer role kinds.Certificate then p else 0) (told kinds.Certificate) ∙ informed_told (has_informer role kinds.Certificate) to 0 on in
    let two = ap (λ (p : ℕ). if has_informer role kinds.CertificateRequest then p else 0) (told kinds.CertificateRequest) in
    let three = ap (λ (p : ℕ). if has_informer role kinds.Secret then p else 0) (told kinds.Secret) in
    λ i. record { certificates = one i; requests = two i; secrets = three i }
placed s e h role kinds.CertificateRequest to on told =
    let one = ap (λ (p : ℕ). if has_informer role kinds.Certificate then p else 0) (told kinds.Certificate) in
    let two = ap (λ (p : ℕ). if has_informer role kinds.CertificateRequest then p else 0) (told kinds.CertificateRequest) ∙ informed_told (has_informer role kinds.CertificateRequest) to 0 on in
    let three = ap (λ (p : ℕ). if has_informer role kinds.Secret then p else 0) (told kinds.Secret) in
    λ i. record { certificates = one i; requests = two i; secrets = three i }
placed s e h role kinds.Secret to on told =
    let one = ap (λ (p : ℕ). if has_informer role kinds.Certificate then p else 0) (told kinds.Certificate) in
    let two = ap (λ (p : ℕ). if has_informer role kinds.CertificateRequest then p else 0) (told kinds.CertificateRequest) in
    let three = ap (λ (p : ℕ). if has_informer role kinds.Secret then p else 0) (told kinds.Secret) ∙ informed_told (has_informer role kinds.Secret) to 0 on in
    λ i. record { certificates = one i; requests = two i; secrets = three i }

low_told : (b : Bool) (p to : ℕ) → p ≤ to → (if b then p else 0) ≤ to
low_told true p to low = low
low_told false p to low = omega arith

position_low : (h : List Entry) (role : Role) (kind : Kind) (to : ℕ) → position h role kind ≤ to → position_of kind (positions h role) ≤ to
position_low h role kinds.Certificate to low = low_told (has_informer role kinds.Certificate) (position h role kinds.Certificate) to low
position_low h role kinds.CertificateRequest to low = low_told (has_informer role kinds.CertificateRequest) (position h role kinds.CertificateRequest) to low
position_low h role kinds.Secret to low = low_told (has_informer role kinds.Secret) (position h role kinds.Secret) to low

told_row : (s : Setting) (h : List Entry) (role : Role) (kind : Kind) (to : ℕ) (key : Key) (row : Row) (listed : Bool) (new : Views) (at : Positions) → position h role kind ≤ to → at ≡ with_position kind to (positions h role)
    → (listed ≡ false → new ≡ views s h role key) → KeptBy s role row (past s h role key) (views s h role key) (moment s h) (positions h role)
    → KeptBy s role (row_delivered listed kind to row) (past s h role key) new (moment s h) at
told_row s h role kind to key row listed new at low at_is same kept =
    subst (λ (a : Positions). KeptBy s role (row_delivered listed kind to row) (past s h role key) new (moment s h) a) (sym at_is)
    (kept_told listed role s.rules (past s h role key) (views s h role key) new (moment s h) (positions h role) kind to row (position_low h role kind to low) same kept)

moved_working : (b : Bool) (row : Row) → (if b then record row { ready = true; work = found.Unknown; parked = None } else row).working ≡ row.working
moved_working true row = refl
moved_working false row = refl

moves_working : (kind : Kind) (to : ℕ) (row : Row) → (moved kind to row).working ≡ row.working
unfolding moved
moves_working kind to row = moved_working (is_reached kind to row.parked) row

told_working : (listed : Bool) (kind : Kind) (to : ℕ) (row : Row) → (row_delivered listed kind to row).working ≡ row.working
told_working true kind to row = moves_working kind to row
told_working false kind to row = moves_working kind to row

-- the role is told, and each key of which it may see something new is listed
pub tended_delivered : (s : Setting) (h : List Entry) (role : Role) (kind : Kind) (to : ℕ) (key : Key) (row : Row) (listed : Bool) → IsLegal s (Deliver role kind to ∷ h) → (listed ≡ false → views s (Deliver role kind to ∷ h) role key ≡ views s h role key)
    → IsTended s h role key row → IsTended s (Deliver role kind to ∷ h) role key (row_delivered listed kind to row)
unfolding IsTended IsLegal
tended_delivered s h role kind to key row listed legal same is = record {
  working = subst (λ (b : Bool). IsTrue b ↔ IsWorking s (Deliver role kind to ∷ h) role key) (sym (told_working listed kind to row)) (works_same s (Deliver role kind to) h role key row.working (λ n. refl) is.working);
  kept = λ up.
      told_row s h role kind to key row listed (views s (Deliver role kind to ∷ h) role key) (positions (Deliver role kind to ∷ h) role) (let further = legal.0.further in omega (arith, further))
      (placed s (Deliver role kind to) h role kind to legal.0.informed (λ k. itself_told (role_eq role role) (kind_eq kind k) to (position h role k) (equal_roles role))) same (is.kept up);
}

pub tended_listed : (s : Setting) (h : List Entry) (role : Role) (kind : Kind) (to : ℕ) (key : Key) (row : Row) (listed : Bool) → IsLegal s (Listed role kind to ∷ h) → (listed ≡ false → views s (Listed role kind to ∷ h) role key ≡ views s h role key)
    → IsTended s h role key row → IsTended s (Listed role kind to ∷ h) role key (row_delivered listed kind to row)
unfolding IsTended IsLegal
tended_listed s h role kind to key row listed legal same is = record {
  working = subst (λ (b : Bool). IsTrue b ↔ IsWorking s (Listed role kind to ∷ h) role key) (sym (told_working listed kind to row)) (works_same s (Listed role kind to) h role key row.working (λ n. refl) is.working);
  kept = λ up.
      told_row s h role kind to key row listed (views s (Listed role kind to ∷ h) role key) (positions (Listed role kind to ∷ h) role)
      (let newest = legal.0.newest in let low = positions_low s h role kind legal.1 in omega (arith, newest, low))
      (placed s (Listed role kind to) h role kind to legal.0.informed (λ k. itself_told (role_eq role role) (kind_eq kind k) to (position h role k) (equal_roles role))) same (is.kept up);
}

-- ---- a pass begins

past_other : (b : Bool) (new p : Past) → b ≡ false → (if b then new else p) ≡ p
past_other true new p other = absurd (cc other)
past_other false new p other = refl

past_itself : (b : Bool) (new p : Past) → b ≡ true → (if b then new else p) ≡ new
past_itself true new p mine = refl
past_itself false new p mine = absurd (cc mine)

pub tended_begun_other : (s : Setting) (h : List Entry) (pass : ℕ) (role r : Role) (key k : Key) (at : Positions) (now : ℤ) (row : Row) → IsLegal s (Begin pass role key at now ∷ h) → (role_eq role r && key_eq key k) ≡ false
    → IsTended s h r k row → IsTended s (Begin pass role key at now ∷ h) r k row
tended_begun_other s h pass role r key k at now row legal other =
    tended_same s (Begin pass role key at now) h r k row
    (record {
      owners = owners_begun s h pass role key at now r k legal other;
      running = refl;
      past = past_other (role_eq role r && key_eq key k) (with_begin (views s h role key) now (past s h r k)) (past s h r k) other;
      seen = refl;
      now = refl;
      at = refl;
    })

taken_works : (row : Row) → is_free row ≡ true → (taken row).working ≡ true
taken_works row free = by (is_free row) free where
  by : (b : Bool) → b ≡ true → (if b then record row { ready = false; work = found.Unknown; working = true } else row).working ≡ true
  by true on = refl
  by false on = absurd (cc on)

begun_works : (next : Option ℤ) (row : Row) → is_free row ≡ true → (row_begun next row).working ≡ true
begun_works None row free = taken_works row free
begun_works (Some at) row free = taken_works row free

same_key_itself : (role : Role) (key : Key) → (role_eq role role && key_eq key key) ≡ true
same_key_itself role key = and_from (role_eq role role) (key_eq key key) (equal_roles role) (equal_keys key)

pub tended_begun : (s : Setting) (h : List Entry) (pass : ℕ) (role : Role) (key : Key) (at : Positions) (now : ℤ) (row : Row) (next : Option ℤ) → IsLegal s (Begin pass role key at now ∷ h) → is_free row ≡ true → IsTimed role (views s h role key) (moment s h) next
    → IsTended s h role key row → IsTended s (Begin pass role key at now ∷ h) role key (row_begun next row)
unfolding IsTended IsLegal
tended_begun s h pass role key at now row next legal free timed is = record {
  working = (λ on. works_begun s h pass role key at now, λ works. begun_works next row free);
  kept = λ up.
      subst (λ (p : Past). KeptBy s role (row_begun next row) p (views s h role key) (moment s h) (positions h role))
      (sym (past_itself (role_eq role role && key_eq key key) (with_begin (views s h role key) now (past s h role key)) (past s h role key) (same_key_itself role key)))
      (subst (λ (t : ℤ). KeptBy s role (row_begun next row) (with_begin (views s h role key) t (past s h role key)) (views s h role key) (moment s h) (positions h role)) (sym legal.0.present)
      (kept_begun next role s.rules (past s h role key) (views s h role key) (moment s h) (positions h role) row free timed));
}

-- ---- a pass ends

pub tended_ended_other : (s : Setting) (h : List Entry) (pass : ℕ) (cause : Cause) (r : Role) (k : Key) (row : Row) → is_pass_of r k (open_pass s h pass) ≡ false → IsTended s h r k row → IsTended s (End pass cause ∷ h) r k row
tended_ended_other s h pass cause r k row other =
    tended_same s (End pass cause) h r k row
    (record {
      owners = owners_ended s h pass cause r k other;
      running = refl;
      past = past_other (is_pass_of r k (open_pass s h pass)) (with_ending (ending_of (open_pass s h pass)) (past s h r k)) (past s h r k) other;
      seen = refl;
      now = refl;
      at = refl;
    })

never_later : (b : Bool) → b ≡ false → b ≡ true → ⊥
never_later b off on = cc (off, on)

-- what is nothing at a desk is nothing at each with the same rules
nothing_anywhere : (role : Role) (rules : Rules) (seen : Views) (now : ℤ) (d : Desk) → sound.IsSound role → d.rules ≡ rules → act role seen now d ≡ Nothing → IsIdleAt role rules seen now
nothing_anywhere role rules seen now d laws rules_are is e same =
    laws.idle seen now now d e (rules_are ∙ sym same) (λ at due later low. never_later (int_le at now) later low) (grind (arith, ints)) is

fair_at : (stage : Stage) (role : Role) (rules : Rules) (seen : Views) (since : ℤ) (d : Desk) (cause : Cause) (l : LastPass) → sound.IsSound role → d.rules ≡ rules → EndsBy stage (act role seen since d) cause → (l.seen ≡ seen) × (l.since ≡ since)
    → IsFair role rules l (ending_at stage)
fair_at stages.Fresh role rules seen since d cause l laws rules_are ends same =
    subst (λ (v : Views). IsIdleAt role rules v l.since) (sym same.0) (subst (λ (t : ℤ). IsIdleAt role rules seen t) (sym same.1) (nothing_anywhere role rules seen since d laws rules_are ends.0))
fair_at stages.Wrote role rules seen since d cause l laws rules_are ends same = tt
fair_at (stages.Refused entry obstacle) role rules seen since d cause l laws rules_are ends same = tt
fair_at other role rules seen since d cause l laws rules_are ends same = absurd ends

recalled : (seen : Views) (since : ℤ) (o : Option LastPass) (l : LastPass) → o ≡ Some l → IsRemembered seen since o → (l.seen ≡ seen) × (l.since ≡ since)
recalled seen since None l is same = absurd (cc is)
recalled seen since (Some x) l is same = let here : x ≡ l = cc is in subst (λ (y : LastPass). (y.seen ≡ seen) × (y.since ≡ since)) here same

fair_of : (s : Setting) (h : List Entry) (r : Role) (k : Key) (p : OpenPass) (cause : Cause) → ((role : Role) → sound.IsSound role) → p.role ≡ r → p.key ≡ k → EndsBy p.stage (act p.role p.seen p.since (desk s h p.role p.seen)) cause → RemembersPass s h p
    → (l : LastPass) → (past s h r k).last ≡ Some l → IsFair r s.rules l (ending_at p.stage)
fair_of s h r k p cause laws role_is key_is ends same l is =
    subst (λ (q : Role). IsFair q s.rules l (ending_at p.stage)) role_is
    (fair_at p.stage p.role s.rules p.seen p.since (desk s h p.role p.seen) cause l (laws p.role) refl ends
    (recalled p.seen p.since (past s h p.role p.key).last l (ap (λ (q : Role). (past s h q p.key).last) role_is ∙ (ap (λ (q : Key). (past s h r q).last) key_is ∙ is)) same))

fair_if : (s : Setting) (h : List Entry) (r : Role) (k : Key) (p : Option OpenPass) (cause : Cause) → ((role : Role) → sound.IsSound role) → is_pass_of r k p ≡ true → MayEnd s h p cause → IfSome p (RemembersPass s h)
    → (l : LastPass) → (past s h r k).last ≡ Some l → IsFair r s.rules l (ending_of p)
fair_if s h r k None cause laws mine ends same l is = absurd (cc mine)
fair_if s h r k (Some p) cause laws mine ends same l is =
    fair_of s h r k p cause laws (same_role p.role r (and_parts (role_eq p.role r) (key_eq p.key k) mine).0) (same_by_test p.key k (and_parts (role_eq p.role r) (key_eq p.key k) mine).1) ends same l is

waiting_working : (o : Option Parked) (row : Row) → (waiting o row).working ≡ row.working
waiting_working None row = refl
waiting_working (Some p) row = refl

closed_works : (ending : Ending) (own at : Positions) (row : Row) → (closed ending own at row).working ≡ false
closed_works endings.Open own at row = refl
closed_works endings.Nothing own at row = refl
closed_works endings.Wrote own at row = waiting_working (own_ahead own at) (record row { working = false })
closed_works (endings.Refused obstacles.Failure) own at row = refl
closed_works (endings.Refused (obstacles.Newer kind version)) own at row = waiting_working (ahead kind version at None) (record row { working = false })

-- the pass was one of the role on the key
pub tended_ended : (s : Setting) (h : List Entry) (pass : ℕ) (cause : Cause) (r : Role) (k : Key) (row : Row) → ((role : Role) → sound.IsSound role) → IsLegal s h → MayEnd s h (open_pass s h pass) cause → is_pass_of r k (open_pass s h pass) ≡ true
    → IsTended s h r k row → IsTended s (End pass cause ∷ h) r k (closed (ending_of (open_pass s h pass)) (past s h r k).own (positions h r) row)
unfolding IsTended
tended_ended s h pass cause r k row laws legal ends mine is = record {
  working = (λ on. let off = closed_works (ending_of (open_pass s h pass)) (past s h r k).own (positions h r) row in absurd (cc (on, off)), λ works. absurd (none_ended s h pass cause r k legal mine works));
  kept = λ up.
      subst (λ (p : Past). KeptBy s r (closed (ending_of (open_pass s h pass)) (past s h r k).own (positions h r) row) p (views s h r k) (moment s h) (positions h r))
      (sym (past_itself (is_pass_of r k (open_pass s h pass)) (with_ending (ending_of (open_pass s h pass)) (past s h r k)) (past s h r k) mine))
      (kept_closed (ending_of (open_pass s h pass)) r s.rules (past s h r k) (views s h r k) (moment s h) (positions h r) row (laws r) (fair_if s h r k (open_pass s h pass) cause laws mine ends (remembered s h pass legal))
      (is.working.1 (pass, mine)) (is.kept up));
}

-- ---- the moment

ticked_working : (b : Bool) (row : Row) → (if b then record row { ready = true; work = found.Unknown; timed = None } else record row { work = lapsed row.work }).working ≡ row.working
ticked_working true row = refl
ticked_working false row = refl

ticks_working : (now : ℤ) (row : Row) → (ticked now row).working ≡ row.working
unfolding ticked
ticks_working now row = ticked_working (is_due now row.timed) row

pub tended_ticked : (s : Setting) (h : List Entry) (now : ℤ) (role : Role) (key : Key) (row : Row) → sound.IsSound role → int_le (moment s h) now ≡ true → IsTended s h role key row → IsTended s (Tick now ∷ h) role key (ticked now row)
unfolding IsTended
tended_ticked s h now role key row laws le is = record {
  working = subst (λ (b : Bool). IsTrue b ↔ IsWorking s (Tick now ∷ h) role key) (sym (ticks_working now row)) (works_same s (Tick now) h role key row.working (λ n. refl) is.working);
  kept = λ up. kept_ticked role s.rules (past s h role key) (views s h role key) (moment s h) now (positions h role) row laws le (is.kept up);
}

-- ---- a role stops and starts

runs_other : (b c before : Bool) → b ≡ false → (if b then c else before) ≡ before
runs_other true c before other = absurd (cc other)
runs_other false c before other = refl

pub tended_stopped_other : (s : Setting) (h : List Entry) (role r : Role) (key : Key) (row : Row) → role_eq role r ≡ false → IsTended s h r key row → IsTended s (Stop role ∷ h) r key row
tended_stopped_other s h role r key row other =
    tended_same s (Stop role) h r key row (record { owners = owners_stopped s h role r key other; running = runs_other (role_eq role r) false (runs s h r) other; past = refl; seen = refl; now = refl; at = refl })

-- a role that does not run has nothing in process
nothing_works : (s : Setting) (h : List Entry) (r : Role) (k : Key) → ((n : ℕ) → is_pass_of r k (open_pass s h n) ≡ false) → IsWorking s h r k → ⊥
nothing_works s h r k none works = let off = none works.0 in let on = works.1 in cc (off, on)

stopped_now : (b before : Bool) → b ≡ true → (if b then false else before) ≡ true → ⊥
stopped_now true before mine on = cc on
stopped_now false before mine on = cc mine

pub tended_stopped : (s : Setting) (h : List Entry) (role r : Role) (key : Key) → role_eq role r ≡ true → IsTended s (Stop role ∷ h) r key no_row
unfolding IsTended
tended_stopped s h role r key mine = record {
  working = (λ on. absurd (cc on), λ works. absurd (nothing_works s (Stop role ∷ h) r key (none_stopped s h role r key mine) works));
  kept = λ up. absurd (stopped_now (role_eq role r) (runs s h r) mine up);
}

pub tended_started_other : (s : Setting) (h : List Entry) (role r : Role) (at : ℕ) (key : Key) (row : Row) → role_eq role r ≡ false → IsTended s h r key row → IsTended s (Start role at ∷ h) r key row
tended_started_other s h role r at key row other =
    let stays : StaysAt (Start role at) h r = λ k. started_at (role_eq role r) at (position h r k) other in
    tended_same s (Start role at) h r key row
    (record {
      owners = λ n. refl;
      running = runs_other (role_eq role r) true (runs s h r) other;
      past = past_other (role_eq role r) no_past (past s h r key) other;
      seen = views_same s (Start role at) h r key (λ k p. refl) stays;
      now = refl;
      at = positions_same (Start role at) h r stays;
    })
  where
    started_at : (b : Bool) (p q : ℕ) → b ≡ false → (if b then p else q) ≡ q
    started_at true p q is = absurd (cc is)
    started_at false p q is = refl

started_works : (known : Bool) → (started known).working ≡ false
started_works true = refl
started_works false = refl

-- each key that a write named is ready, and of any other the role sees nothing
pub tended_started : (s : Setting) (h : List Entry) (role : Role) (at : ℕ) (key : Key) (known : Bool) → sound.IsSound role → IsLegal s h → runs s h role ≡ false → (known ≡ false → views s (Start role at ∷ h) role key ≡ no_views) → IsTended s (Start role at ∷ h) role key (started known)
unfolding IsTended
tended_started s h role at key known laws legal off unseen = record {
  working = (λ on. let none = started_works known in absurd (cc (on, none)), λ works. absurd (nothing_works s h role key (none_open s h role key legal off) works));
  kept = λ up.
      kept_started known role s.rules (past s (Start role at ∷ h) role key) (views s (Start role at ∷ h) role key) (moment s h) (positions (Start role at ∷ h) role) laws
      (ap (λ (p : Past). p.last) (past_itself (role_eq role role) no_past (past s h role key) (equal_roles role))) unseen;
}

-- ---- at the beginning

-- nothing is known, and the role sees nothing
pub tended_first : (s : Setting) (role : Role) (key : Key) → sound.IsSound role → views s [] role key ≡ no_views → IsTended s [] role key no_row
unfolding IsTended
tended_first s role key laws unseen = record {
  working = (λ on. absurd (cc on), λ works. absurd (let on = works.1 in cc on));
  kept = λ up. kept_started false role s.rules no_past (views s [] role key) (moment s []) (positions [] role) laws refl (λ off. unseen);
}
