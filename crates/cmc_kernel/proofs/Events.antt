-- What a world holds stays what its history says, with each entry that a move adds.
use Rattle.std.proofs.Common.{◌≡◌, ℕ, ℤ, ◌+◌, ◌<◌, ◌≤◌, Bool, true, false, List, ◌∷◌, length, Option, Some, None, refl, sym, ap, subst, ◌∙◌}
use Rattle.std.specs.Prelude.{◌==◌, ◌&&◌, if◌then◌else◌, option_map}
use Rattle.cmc_meta.specs.declared.key.Key.{Key}
use Rattle.cmc_meta.specs.declared.key.Kind.{Kind}
use Rattle.cmc_meta.specs.Keys.{key_eq}
use Rattle.cmc_objects.specs.declared.role.Role.{Role}
use Rattle.cmc_objects.specs.declared.call.Call.{Call}
use Rattle.cmc_objects.specs.declared.call.Reply.{Reply}
use Rattle.cmc_objects.specs.declared.entry.Step.{Step}
use Rattle.cmc_objects.specs.declared.entry.Cause.{Cause}
use Rattle.cmc_objects.specs.declared.entry.Who.TheVariants.{User, Pass}
use Rattle.cmc_objects.specs.declared.entry.Entry.{Entry}
use Rattle.cmc_objects.specs.declared.entry.Positions.{Positions}
use Rattle.cmc_objects.specs.declared.entry.Entry.TheVariants.{Script, Call as Called, Deliver, List as Listed, Begin, End, Stop, Start, Tick}
use Rattle.cmc_rules.specs.declared.effect.Effect.TheVariants as effects
use Rattle.cmc_model.specs.declared.write.Write.{Write}
use Rattle.cmc_rules.specs.declared.progress.OpenPass.{OpenPass}
use Rattle.cmc_rules.specs.declared.progress.Origin.{Origin}
use Rattle.cmc_rules.specs.declared.progress.Past.{Past}
use Rattle.cmc_model.specs.Replies.{State, IsReply, is_accepted, key_of_call, settled, state_after}
use Rattle.cmc_model.specs.Histories.{Setting, moment, state, accepted, incarnation, role_eq}
use Rattle.cmc_model.specs.Writes.{write_of}
use Rattle.cmc_rules.specs.Positions.{positions}
use Rattle.cmc_rules.specs.Views.{views}
use Rattle.cmc_rules.specs.Origins.{begun, origins}
use Rattle.cmc_rules.specs.Passes.{open_pass, stage_after, with_stage, unless_of, new_pass, is_pass_of}
use Rattle.cmc_rules.specs.Memory.{past, no_past, with_begin, with_own, with_ending, ending_at, ending_of, past_called}
use Rattle.cmc_rules.specs.Sameness.{IsDue}
use Rattle.cmc_rules.specs.Legality.{IsDelivery, IsListing, IsBegin, IsOpen}
use Rattle.cmc_rules.specs.Causes.{MayCall, MayEnd}
use Rattle.cmc_rules.specs.Scripts.{scripted, step_at, held}
use Rattle.cmc_rules.specs.UserSteps.{owed, IsNextStep}
use Rattle.cmc_held.specs.declared.role_states.RoleState.{RoleState}
use Rattle.cmc_kernel.specs.Kept.{role_state, Holdings, IsHoldingsOf, IsKept}
use Rattle.cmc_kernel.specs.Changes.{telling, stopping, starting, writing, scripted_standing}
use Rattle.cmc_held.specs.Dues.{shown_positions}
use Rattle.cmc_kernel.specs.Changes.{each_at}
use Rattle.cmc_kernel.proofs.RolePositions.{IsTelling, told_delivered, told_listed, told_started}
use Rattle.cmc_kernel.proofs.RoleStates.{standing_delivered, standing_listed, standing_stopped, standing_started, standing_scripted, standing_called}
use Rattle.cmc_kernel.proofs.Said.{are_said, held_by, run_on}

one_other : (s : Setting) (h : List Entry) (w : Holdings) (f : RoleState → RoleState) (role r : Role) → IsHoldingsOf s h w
    → (if role_eq role r then f (w.role_state role) else w.role_state r) ≡ (if role_eq role r then f (role_state s h role) else role_state s h r)
one_other s h w f role r k =
    ap (λ (t : RoleState). if role_eq role r then f t else w.role_state r) (k.role_state role) ∙ ap (λ (t : RoleState). if role_eq role r then f (role_state s h role) else t) (k.role_state r)

pub kept_delivered : (s : Setting) (h : List Entry) (w : Holdings) (role : Role) (kind : Kind) (to : ℕ) (t : Role → RoleState) (c : Role → Positions)
    → IsKept s h w → IsDelivery s h role kind to → held s h role kind ≡ false → length h < s.events
    → ((r : Role) → t r ≡ (if role_eq role r then telling kind to (w.role_state role) else w.role_state r))
    → IsTelling w role kind to c
    → IsKept s (Deliver role kind to ∷ h) (record w { role_state = t; told = c })
kept_delivered s h w role kind to t c k may free room put told = record {
  held = held_by s (Deliver role kind to ∷ h) (record w { role_state = t; told = c })
      (λ i. record (are_said s h w k.held i) { role_state = λ r. (put r ∙ one_other s h w (telling kind to) role r k.held ∙ standing_delivered s h role kind to r) i; told = λ r. told_delivered s h w role kind to c k.held may.informed told r i })
      (run_on s h (Deliver role kind to) k.held.run may tt (record { settled = k.settled; free = free }) room) k.held.formed;
  settled = refl;
}

one_past : (s : Setting) (h : List Entry) (w : Holdings) (b : Bool) (f : Past → Past) (r : Role) (key : Key) → IsHoldingsOf s h w
    → (if b then f (w.past r key) else w.past r key) ≡ (if b then f (past s h r key) else past s h r key)
one_past s h w b f r key k = ap (λ (p : Past). if b then f p else p) (k.past r key)

pub kept_begun : (s : Setting) (h : List Entry) (w : Holdings) (role : Role) (key : Key) (os : List Origin) (opened : ℕ → Option OpenPass) (pasts : Role → Key → Past)
    → IsKept s h w → IsBegin s h (begun s h + 1) role key (positions h role) (moment s h)
    → IsDue (past s h role key) (views s h role key) (moment s h) (positions h role) → length h < s.events
    → os ≡ record { role = role; incarnation = incarnation s h role } ∷ w.origins
    → ((n : ℕ) → opened n ≡ (if n == begun s h + 1 then Some (new_pass role key (views s h role key) (moment s h)) else w.opened n))
    → ((r : Role) (k : Key) → pasts r k ≡ (if role_eq role r && key_eq key k then with_begin (views s h role key) (moment s h) (w.past r k) else w.past r k))
    → IsKept s (Begin (begun s h + 1) role key (positions h role) (moment s h) ∷ h) (record w { origins = os; opened = opened; past = pasts })
kept_begun s h w role key os opened pasts k may due room came put noted = record {
  held = held_by s (Begin (begun s h + 1) role key (positions h role) (moment s h) ∷ h) (record w { origins = os; opened = opened; past = pasts })
      (λ i. record (are_said s h w k.held i) {
        origins = (came ∙ ap (λ (l : List Origin). let o : Origin = record { role = role; incarnation = incarnation s h role } in o ∷ l) k.held.origins) i;
        opened = λ n. (put n ∙ ap (λ (p : Option OpenPass). if n == begun s h + 1 then Some (new_pass role key (views s h role key) (moment s h)) else p) (k.held.opened n)) i;
        past = λ r q. (noted r q ∙ one_past s h w (role_eq role r && key_eq key q) (with_begin (views s h role key) (moment s h)) r q k.held) i;
      })
      (run_on s h (Begin (begun s h + 1) role key (positions h role) (moment s h)) k.held.run may due k.settled room) k.held.formed;
  settled = refl;
}

pub kept_ticked : (s : Setting) (h : List Entry) (w : Holdings) (now : ℤ) → IsHoldingsOf s h w → owed s h ≡ Some (effects.Tick now) → length h < s.events
    → IsKept s (Tick now ∷ h) (record w { moment = now })
kept_ticked s h w now k due room = record {
  held = held_by s (Tick now ∷ h) (record w { moment = now }) (λ i. record (are_said s h w k i) { moment = now }) (run_on s h (Tick now) k.run tt tt due room) k.formed;
  settled = refl;
}

pub kept_listed : (s : Setting) (h : List Entry) (w : Holdings) (role : Role) (kind : Kind) (to : ℕ) (t : Role → RoleState) (c : Role → Positions)
    → IsKept s h w → IsListing s h role kind to → held s h role kind ≡ false → length h < s.events
    → ((r : Role) → t r ≡ (if role_eq role r then telling kind to (w.role_state role) else w.role_state r))
    → IsTelling w role kind to c
    → IsKept s (Listed role kind to ∷ h) (record w { role_state = t; told = c })
kept_listed s h w role kind to t c k may free room put told = record {
  held = held_by s (Listed role kind to ∷ h) (record w { role_state = t; told = c })
      (λ i. record (are_said s h w k.held i) { role_state = λ r. (put r ∙ one_other s h w (telling kind to) role r k.held ∙ standing_listed s h role kind to r) i; told = λ r. told_listed s h w role kind to c k.held may.informed told r i })
      (run_on s h (Listed role kind to) k.held.run may tt (record { settled = k.settled; free = free }) room) k.held.formed;
  settled = refl;
}

past_of_call : (s : Setting) (h : List Entry) (n : ℕ) (p : OpenPass) (kind : Kind) (b : Bool) (r : Role) (key : Key) → open_pass s h n ≡ Some p
    → (if b && (role_eq p.role r && key_eq p.key key) then with_own kind (accepted s h + 1) (past s h r key) else past s h r key)
    ≡ past_called s h r key (past s h r key) (Pass n) kind b
past_of_call s h n p kind b r key is = ap (λ (o : Option OpenPass). if b && is_pass_of r key o then with_own kind (accepted s h + 1) (past s h r key) else past s h r key) (sym is)

pub kept_called : (s : Setting) (h : List Entry) (w : Holdings) (n : ℕ) (p : OpenPass) (call : Call) (reply : Reply) (st : State) (log : List Write) (t : Role → RoleState) (opened : ℕ → Option OpenPass) (pasts : Role → Key → Past)
    → IsKept s h w → open_pass s h n ≡ Some p → IsReply s.faults (state s h) call reply → MayCall s h (Some p) call → length h < s.events
    → st ≡ state_after (moment s h) (state s h) call reply
    → log ≡ (if is_accepted reply then write_of (moment s h) (state s h) (settled call reply) ∷ w.log else w.log)
    → ((r : Role) → t r ≡ (if is_accepted reply && role_eq p.role r then writing (key_of_call call).kind (w.role_state p.role) else w.role_state r))
    → ((m : ℕ) → opened m ≡ (if m == n then option_map (λ (q : OpenPass). with_stage (stage_after s h call reply q) q) (w.opened m) else w.opened m))
    → ((r : Role) (k : Key) → pasts r k ≡ (if is_accepted reply && (role_eq p.role r && key_eq p.key k) then with_own (key_of_call call).kind (accepted s h + 1) (w.past r k) else w.past r k))
    → IsKept s (Called (Pass n) call reply ∷ h) (record w { state = st; log = log; role_state = t; opened = opened; past = pasts })
kept_called s h w n p call reply st log t opened pasts k is right may room after logged counted staged noted = record {
  held = held_by s (Called (Pass n) call reply ∷ h) (record w { state = st; log = log; role_state = t; opened = opened; past = pasts })
      (λ i. record (are_said s h w k.held i) {
        state = after i;
        log = (logged ∙ ap (λ (l : List Write). if is_accepted reply then write_of (moment s h) (state s h) (settled call reply) ∷ l else l) k.held.log) i;
        role_state = λ r.
            (counted r
            ∙ ap (λ (x : RoleState). if is_accepted reply && role_eq p.role r then writing (key_of_call call).kind x else w.role_state r) (k.held.role_state p.role)
            ∙ ap (λ (x : RoleState). if is_accepted reply && role_eq p.role r then writing (key_of_call call).kind (role_state s h p.role) else x) (k.held.role_state r)
            ∙ standing_called s h n p call reply r is) i;
        opened = λ m. (staged m ∙ ap (λ (o : Option OpenPass). if m == n then option_map (λ (q : OpenPass). with_stage (stage_after s h call reply q) q) o else o) (k.held.opened m)) i;
        past = λ r q.
            (noted r q
            ∙ one_past s h w (is_accepted reply && (role_eq p.role r && key_eq p.key q)) (with_own (key_of_call call).kind (accepted s h + 1)) r q k.held
            ∙ past_of_call s h n p (key_of_call call).kind (is_accepted reply) r q is) i;
      })
      (run_on s h (Called (Pass n) call reply) k.held.run (right, subst IsOpen (sym is) tt) (subst (λ (o : Option OpenPass). MayCall s h o call) (sym is) may) k.settled room) k.held.formed;
  settled = refl;
}

past_of_end : (s : Setting) (h : List Entry) (n : ℕ) (p : OpenPass) (r : Role) (key : Key) → open_pass s h n ≡ Some p
    → (if role_eq p.role r && key_eq p.key key then with_ending (ending_at p.stage) (past s h r key) else past s h r key)
    ≡ (if is_pass_of r key (open_pass s h n) then with_ending (ending_of (open_pass s h n)) (past s h r key) else past s h r key)
past_of_end s h n p r key is = ap (λ (o : Option OpenPass). if is_pass_of r key o then with_ending (ending_of o) (past s h r key) else past s h r key) (sym is)

pub kept_ended : (s : Setting) (h : List Entry) (w : Holdings) (n : ℕ) (p : OpenPass) (cause : Cause) (opened : ℕ → Option OpenPass) (pasts : Role → Key → Past)
    → IsKept s h w → open_pass s h n ≡ Some p → MayEnd s h (Some p) cause → length h < s.events
    → ((m : ℕ) → opened m ≡ (if m == n then None else w.opened m))
    → ((r : Role) (k : Key) → pasts r k ≡ (if role_eq p.role r && key_eq p.key k then with_ending (ending_at p.stage) (w.past r k) else w.past r k))
    → IsKept s (End n cause ∷ h) (record w { opened = opened; past = pasts })
kept_ended s h w n p cause opened pasts k is may room closed noted = record {
  held = held_by s (End n cause ∷ h) (record w { opened = opened; past = pasts })
      (λ i. record (are_said s h w k.held i) {
        opened = λ m. (closed m ∙ ap (λ (o : Option OpenPass). if m == n then None else o) (k.held.opened m)) i;
        past = λ r q. (noted r q ∙ one_past s h w (role_eq p.role r && key_eq p.key q) (with_ending (ending_at p.stage)) r q k.held ∙ past_of_end s h n p r q is) i;
      })
      (run_on s h (End n cause) k.held.run (subst IsOpen (sym is) tt) (subst (λ (o : Option OpenPass). MayEnd s h o cause) (sym is) may) k.settled room) k.held.formed;
  settled = refl;
}

pub held_scripted : (s : Setting) (h : List Entry) (w : Holdings) (step : Step) (made : ℕ) (t : Role → RoleState)
    → IsKept s h w → IsNextStep s h (scripted h + 1) → step_at s.script (scripted h + 1) ≡ Some step → length h < s.events
    → made ≡ w.made + 1 → ((r : Role) → t r ≡ scripted_standing step r (w.role_state r))
    → IsHoldingsOf s (Script (scripted h + 1) ∷ h) (record w { made = made; role_state = t })
held_scripted s h w step made t k next is room counted put =
    held_by s (Script (scripted h + 1) ∷ h) (record w { made = made; role_state = t })
    (λ i. record (are_said s h w k.held i) {
      made = (counted ∙ ap (λ n. n + 1) k.held.made) i;
      role_state = λ r. (put r ∙ ap (scripted_standing step r) (k.held.role_state r) ∙ standing_scripted s h (scripted h + 1) step r is) i;
    })
    (run_on s h (Script (scripted h + 1)) k.held.run tt tt next room) k.held.formed

pub kept_users : (s : Setting) (h : List Entry) (w : Holdings) (call : Call) (reply : Reply) (st : State) (log : List Write)
    → IsHoldingsOf s h w → owed s h ≡ Some (effects.Call call) → IsReply s.faults (state s h) call reply → length h < s.events
    → st ≡ state_after (moment s h) (state s h) call reply
    → log ≡ (if is_accepted reply then write_of (moment s h) (state s h) (settled call reply) ∷ w.log else w.log)
    → IsKept s (Called User call reply ∷ h) (record w { state = st; log = log })
kept_users s h w call reply st log k due right room after logged = record {
  held = held_by s (Called User call reply ∷ h) (record w { state = st; log = log })
      (λ i. record (are_said s h w k i) {
        state = after i;
        log = (logged ∙ ap (λ (l : List Write). if is_accepted reply then write_of (moment s h) (state s h) (settled call reply) ∷ l else l) k.log) i;
        role_state = λ r. (k.role_state r ∙ uncounted (is_accepted reply) s h r) i;
      })
      (run_on s h (Called User call reply) k.run (right, tt) tt due room) k.formed;
  settled = refl;
} where
  uncounted : (b : Bool) (s : Setting) (h : List Entry) (r : Role)
      → role_state s h r
      ≡ record (role_state s h r) {
        written = record {
          certificates = if b && false then (role_state s h r).written.certificates + 1 else (role_state s h r).written.certificates;
          requests = if b && false then (role_state s h r).written.requests + 1 else (role_state s h r).written.requests;
          secrets = if b && false then (role_state s h r).written.secrets + 1 else (role_state s h r).written.secrets;
        };
      }
  uncounted true s h r = refl
  uncounted false s h r = refl

pub kept_stopped : (s : Setting) (h : List Entry) (w : Holdings) (role : Role) (t : Role → RoleState) (opened : ℕ → Option OpenPass)
    → IsHoldingsOf s h w → owed s h ≡ Some (effects.Stop role) → length h < s.events
    → ((r : Role) → t r ≡ (if role_eq role r then stopping (w.role_state role) else w.role_state r))
    → ((n : ℕ) → opened n ≡ unless_of role (w.opened n))
    → IsKept s (Stop role ∷ h) (record w { role_state = t; opened = opened })
kept_stopped s h w role t opened k due room put closed = record {
  held = held_by s (Stop role ∷ h) (record w { role_state = t; opened = opened })
      (λ i. record (are_said s h w k i) { role_state = λ r. (put r ∙ one_other s h w stopping role r k ∙ standing_stopped s h role r) i; opened = λ n. (closed n ∙ ap (unless_of role) (k.opened n)) i })
      (run_on s h (Stop role) k.run tt tt due room) k.formed;
  settled = refl;
}

pub kept_started : (s : Setting) (h : List Entry) (w : Holdings) (role : Role) (at : ℕ) (t : Role → RoleState) (c : Role → Positions) (pasts : Role → Key → Past)
    → IsHoldingsOf s h w → owed s h ≡ Some (effects.Start role at) → at ≤ accepted s h → length h < s.events
    → ((r : Role) → t r ≡ (if role_eq role r then starting at (w.role_state role) else w.role_state r))
    → ((r : Role) → c r ≡ (if role_eq role r then shown_positions role (each_at at) else w.told r))
    → ((r : Role) (k : Key) → pasts r k ≡ (if role_eq role r then no_past else w.past r k))
    → IsKept s (Start role at ∷ h) (record w { role_state = t; told = c; past = pasts })
kept_started s h w role at t c pasts k due low room put told forgot = record {
  held = held_by s (Start role at ∷ h) (record w { role_state = t; told = c; past = pasts })
      (λ i. record (are_said s h w k i) {
        role_state = λ r. (put r ∙ one_other s h w (starting at) role r k ∙ standing_started s h role at r) i;
        told = λ r. told_started s h w role at c k told r i;
        past = λ r q. (forgot r q ∙ ap (λ (p : Past). if role_eq role r then no_past else p) (k.past r q)) i;
      })
      (run_on s h (Start role at) k.run low tt due room) k.formed;
  settled = refl;
}
