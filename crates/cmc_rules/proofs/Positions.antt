-- No role is told of more than was written, and what it sees changes only as it is told.
use Rattle.std.proofs.Common.{◌≡◌, ℕ, ◌+◌, ◌≤◌, List, [], ◌∷◌, length, Some, Bool, true, false, refl, ap, arith}
use Rattle.std.proofs.lemmas.Bool.Decides.{nat_tests}
use Rattle.std.specs.Prelude.{if◌then◌else◌, ◌==◌}
use Rattle.cmc_meta.specs.declared.key.Key.{Key}
use Rattle.cmc_meta.specs.declared.key.Kind.{Kind}
use Rattle.cmc_meta.specs.declared.key.Kind.TheVariants as kinds
use Rattle.cmc_objects.specs.declared.call.Call.{Call}
use Rattle.cmc_objects.specs.declared.call.Reply.{Reply}
use Rattle.cmc_objects.specs.declared.role.Role.{Role}
use Rattle.cmc_objects.specs.declared.entry.Who.{Who}
use Rattle.cmc_objects.specs.declared.entry.Entry.{Entry}
use Rattle.cmc_objects.specs.declared.entry.Entry.TheVariants.{Script, Call as Called, Begin, Deliver, List as Listed, Start}
use Rattle.cmc_model.specs.declared.write.Write.{Write}
use Rattle.cmc_model.specs.Replies.{is_accepted}
use Rattle.cmc_model.specs.Histories.{Setting, state, accepted, role_eq}
use Rattle.cmc_model.specs.Writes.{writes, write_at, objects_of}
use Rattle.cmc_rules.specs.Positions.{is_informer, position, cache}
use Rattle.cmc_rules.specs.Views.{Caches, caches, views, views_in}
use Rattle.cmc_rules.specs.Origins.{begun}
use Rattle.cmc_rules.specs.Legality.{IsOfKind, IsLegal}
use Rattle.cmc_model.proofs.Writes.{writes_count, objects_of-older}

low_at : (b : Bool) (kind : Kind) (p : ℕ) (w : Write) (ws : List Write) → (length (w ∷ ws) == p) ≡ b → (IsOfKind kind (write_at p ws) → p ≤ length ws)
    → IsOfKind kind (if b then Some w else write_at p ws) → p ≤ length (w ∷ ws)
low_at true kind p w ws e below h = grind (arith, nat_tests)
low_at false kind p w ws e below h = omega (arith, below h)

-- a write has its place among the accepted ones
pub write_at-low : (kind : Kind) (p : ℕ) (ws : List Write) → IsOfKind kind (write_at p ws) → p ≤ length ws
unfolding write_at
write_at-low kind p [] h = absurd h
write_at-low kind p (w ∷ ws) h = low_at (length (w ∷ ws) == p) kind p w ws refl (write_at-low kind p ws) h

more : (b : Bool) (p n : ℕ) → p ≤ n → p ≤ (if b then n + 1 else n)
more true p n h = omega (arith, h)
more false p n h = h

told : (b : Bool) (to p n : ℕ) → to ≤ n → p ≤ n → (if b then to else p) ≤ n
told true to p n h k = h
told false to p n h k = k

-- no position is above the accepted writes
pub positions_low : (s : Setting) (h : List Entry) (r : Role) (k : Kind) → IsLegal s h → position h r k ≤ accepted s h
unfolding IsLegal
positions_low s [] r k legal = omega arith
positions_low s (Called who call reply ∷ h) r k legal = more (is_accepted reply) (position h r k) (accepted s h) (positions_low s h r k legal.1)
positions_low s (Deliver role kind to ∷ h) r k legal = told (is_informer role kind r k) to (position h r k) (accepted s h) (omega (arith, write_at-low kind to (writes s h) legal.0.written, writes_count s h)) (positions_low s h r k legal.1)
positions_low s (Listed role kind to ∷ h) r k legal = told (is_informer role kind r k) to (position h r k) (accepted s h) (omega (arith, legal.0.newest)) (positions_low s h r k legal.1)
positions_low s (Start role at ∷ h) r k legal = told (role_eq role r) at (position h r k) (accepted s h) legal.0 (positions_low s h r k legal.1)
positions_low s (other ∷ h) r k legal = positions_low s h r k legal.1

-- after any entry there is at the old position what the role saw
pub cache_older : (s : Setting) (e : Entry) (h : List Entry) (r : Role) (k : Kind) → IsLegal s h → objects_of k s (e ∷ h) (position h r k) ≡ cache s h r k
cache_older s e h r k legal = objects_of-older k s e h (position h r k) (positions_low s h r k legal)

-- a call moves no cache
pub cache_called : (s : Setting) (h : List Entry) (who : Who) (call : Call) (reply : Reply) (r : Role) (k : Kind) → IsLegal s h
    → cache s (Called who call reply ∷ h) r k ≡ cache s h r k
cache_called s h who call reply r k legal = cache_older s (Called who call reply) h r k legal

pub caches_called : (s : Setting) (h : List Entry) (who : Who) (call : Call) (reply : Reply) (r : Role) → IsLegal s h
    → caches s (Called who call reply ∷ h) r ≡ caches s h r
caches_called s h who call reply r legal =
    let one = cache_called s h who call reply r kinds.Certificate legal in
    let two = cache_called s h who call reply r kinds.CertificateRequest legal in
    let three = cache_called s h who call reply r kinds.Secret legal in
    λ i. record { certificates = one i; requests = two i; secrets = three i }

pub views_called : (s : Setting) (h : List Entry) (who : Who) (call : Call) (reply : Reply) (r : Role) (key : Key) → IsLegal s h
    → views s (Called who call reply ∷ h) r key ≡ views s h r key
views_called s h who call reply r key legal = ap (λ (c : Caches). views_in r c key) (caches_called s h who call reply r legal)

-- ---- counts that an entry each pays for

step : (b : Bool) (m n : ℕ) → m ≤ n → (if b then m + 1 else m) ≤ n + 1
step true m n h = omega (arith, h)
step false m n h = omega (arith, h)

pub accepted_short : (s : Setting) (h : List Entry) → accepted s h ≤ length h
accepted_short s [] = omega arith
accepted_short s (Called who call reply ∷ h) = let one : (if is_accepted reply then accepted s h + 1 else accepted s h) ≤ length h + 1 = step (is_accepted reply) (accepted s h) (length h) (accepted_short s h) in omega (arith, one)
accepted_short s (other ∷ h) = omega (arith, accepted_short s h)

pub calls_short : (s : Setting) (h : List Entry) → (state s h).calls ≤ length h
calls_short s [] = omega arith
calls_short s (Script step ∷ h) = omega (arith, calls_short s h)
calls_short s (other ∷ h) = omega (arith, calls_short s h)

pub begun_short : (s : Setting) (h : List Entry) → begun s h ≤ length h
begun_short s [] = omega arith
begun_short s (Script step ∷ h) = omega (arith, begun_short s h)
begun_short s (Begin pass role key at now ∷ h) = omega (arith, begun_short s h)
begun_short s (other ∷ h) = omega (arith, begun_short s h)
