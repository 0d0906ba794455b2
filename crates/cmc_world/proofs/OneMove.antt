-- A history has at most one plain move.
use Rattle.std.proofs.Common.{◌≡◌, ◌∙◌, ℕ, ◌<◌, List, Option, Some, None, Ordering, Less, Equal, Greater, inl, inr, refl, sym, ap, subst, arith}
use Rattle.std.proofs.lemmas.Bool.Decides.{Decides-eqb}
use Rattle.std.specs.Ordering.{ordering_reverse}
use Rattle.cmc_meta.specs.declared.key.Key.{Key}
use Rattle.cmc_meta.specs.declared.key.Kind.{Kind}
use Rattle.cmc_meta.specs.Keys.{kind_rank, key_cmp}
use Rattle.cmc_objects.specs.Roles.{role_rank}
use Rattle.cmc_objects.specs.declared.role.Role.{Role}
use Rattle.cmc_objects.specs.declared.entry.Entry.{Entry}
use Rattle.cmc_objects.proofs.Ranks.{role_of_rank}
use Rattle.cmc_rules.specs.declared.progress.OpenPass.{OpenPass}
use Rattle.cmc_model.specs.Histories.{Setting}
use Rattle.cmc_model.specs.Writes.{writes, last_of_kind}
use Rattle.cmc_rules.specs.Passes.{open_pass}
use Rattle.cmc_meta.proofs.KeyOrder.{key_cmp-total, key_cmp-IsAntisymmetric}
use Rattle.cmc_moves.specs.declared.moves.Move.{Move}
use Rattle.cmc_moves.specs.declared.moves.Move.TheVariants.{Script, Deliver, Begin, Next, Give, Decide}
use Rattle.cmc_kernel.proofs.SameKeys.{same_kind}
use Rattle.cmc_kernel.specs.Plain.{IsOfPresent, IsFirstPass, IsFirstDelivery, IsFirstBegin, IsChosen, IsPlainMove}

-- numbers of which neither is the lesser are one
not_less : (a b : ℕ) → (a < b → ⊥) → (b < a → ⊥) → a ≡ b
not_less a b f g = grind (arith, f, g)

-- ---- passes

one_number : (s : Setting) (h : List Entry) (n m : ℕ) → IsFirstPass s h n → IsFirstPass s h m → n ≡ m
one_number s h n m x y = not_less n m (λ lt. y.least n lt x.stands) (λ lt. x.least m lt y.stands)

one_present : (s : Setting) (h : List Entry) (a b : ℕ) (o : Option OpenPass) → IsOfPresent s h a o → IsOfPresent s h b o → a ≡ b
one_present s h a b None x y = absurd x
one_present s h a b (Some p) x y = x ∙ sym y

one_pass : (s : Setting) (h : List Entry) (n m a b : ℕ) → IsFirstPass s h n → IsOfPresent s h a (open_pass s h n) → IsFirstPass s h m → IsOfPresent s h b (open_pass s h m) → Next n a ≡ Next m b
one_pass s h n m a b x present y other =
    let number = one_number s h n m x y in
    let here : IsOfPresent s h b (open_pass s h n) = subst (λ (k : ℕ). IsOfPresent s h b (open_pass s h k)) (sym number) other in
    ap (λ (k : ℕ). Next k a) number ∙ ap (λ (k : ℕ). Next m k) (one_present s h a b (open_pass s h n) present here)

-- ---- deliveries

kind_of_rank : (a b : Kind) → kind_rank a ≡ kind_rank b → a ≡ b
kind_of_rank a b e = same_kind a b ((Decides-eqb (kind_rank a) (kind_rank b)).1 e)

one_informer : (s : Setting) (h : List Entry) (role other : Role) (kind look : Kind) → IsFirstDelivery s h role kind → IsFirstDelivery s h other look → (role ≡ other) × (kind ≡ look)
one_informer s h role other kind look x y =
    let ranks = not_less (role_rank role) (role_rank other) (λ lt. y.first role kind (inl lt) x.behind) (λ lt. x.first other look (inl lt) y.behind) in
    let kinds = not_less (kind_rank kind) (kind_rank look) (λ lt. y.first role kind (inr (ranks, lt)) x.behind) (λ lt. x.first other look (inr (sym ranks, lt)) y.behind) in
    (role_of_rank role other ranks, kind_of_rank kind look kinds)

one_delivery : (s : Setting) (h : List Entry) (role other : Role) (kind look : Kind) (to up : ℕ) → IsFirstDelivery s h role kind → IsFirstDelivery s h other look
    → to ≡ last_of_kind kind (writes s h) → up ≡ last_of_kind look (writes s h) → Deliver role kind to ≡ Deliver other look up
one_delivery s h role other kind look to up x y last newest =
    let same = one_informer s h role other kind look x y in
    ap (λ (r : Role). Deliver r kind to) same.0 ∙ ap (λ (k : Kind). Deliver other k to) same.1
    ∙ ap (λ (n : ℕ). Deliver other look n) (last ∙ ap (λ (k : Kind). last_of_kind k (writes s h)) same.1 ∙ sym newest)

-- ---- begins

one_role : (s : Setting) (h : List Entry) (role other : Role) (key named : Key) → IsFirstBegin s h role key → IsFirstBegin s h other named → role ≡ other
one_role s h role other key named x y =
    role_of_rank role other (not_less (role_rank role) (role_rank other) (λ lt. y.first role key (inl lt) x.fits) (λ lt. x.first other named (inl lt) y.fits))

-- keys of which neither comes before the other are one
not_before : (a b : Key) (o : Ordering) → key_cmp a b ≡ o → (key_cmp a b ≡ Less → ⊥) → (key_cmp b a ≡ Less → ⊥) → a ≡ b
not_before a b Less e f g = absurd (f e)
not_before a b Equal e f g = key_cmp-IsAntisymmetric a b e
not_before a b Greater e f g = absurd (g (key_cmp-total.antisymm b a ∙ ap ordering_reverse e))

one_begin : (s : Setting) (h : List Entry) (role other : Role) (key named : Key) → IsFirstBegin s h role key → IsFirstBegin s h other named → Begin role key ≡ Begin other named
one_begin s h role other key named x y =
    let roles = one_role s h role other key named x y in
    let keys = not_before key named (key_cmp key named) refl (λ lt. y.first role key (inr (roles, lt)) x.fits) (λ lt. x.first other named (inr (sym roles, lt)) y.fits) in
    ap (λ (r : Role). Begin r key) roles ∙ ap (λ (k : Key). Begin other k) keys

-- ---- all moves

one_chosen : (s : Setting) (h : List Entry) (m n : Move) → IsChosen s h m → IsChosen s h n → m ≡ n
one_chosen s h (Give pass named given) n x y = absurd x
one_chosen s h (Decide pass named d) n x y = absurd x
one_chosen s h Script (Give pass named given) x y = absurd y
one_chosen s h (Next number present) (Give pass named given) x y = absurd y
one_chosen s h (Deliver role kind to) (Give pass named given) x y = absurd y
one_chosen s h (Begin role key) (Give pass named given) x y = absurd y
one_chosen s h Script (Decide pass named d) x y = absurd y
one_chosen s h (Next number present) (Decide pass named d) x y = absurd y
one_chosen s h (Deliver role kind to) (Decide pass named d) x y = absurd y
one_chosen s h (Begin role key) (Decide pass named d) x y = absurd y
one_chosen s h Script Script x y = refl
one_chosen s h Script (Next pass named) x y = absurd (y.0 x)
one_chosen s h Script (Deliver role kind to) x y = absurd (y.0 x)
one_chosen s h Script (Begin role key) x y = absurd (y.0 x)
one_chosen s h (Next pass named) Script x y = absurd (x.0 y)
one_chosen s h (Next pass named) (Next other present) x y = one_pass s h pass other named present x.1 x.2 y.1 y.2
one_chosen s h (Next pass named) (Deliver role kind to) x y = absurd (y.1 pass x.1.stands)
one_chosen s h (Next pass named) (Begin role key) x y = absurd (y.1 pass x.1.stands)
one_chosen s h (Deliver role kind to) Script x y = absurd (x.0 y)
one_chosen s h (Deliver role kind to) (Next pass named) x y = absurd (x.1 pass y.1.stands)
one_chosen s h (Deliver role kind to) (Deliver other look up) x y = one_delivery s h role other kind look to up x.2 y.2 x.3 y.3
one_chosen s h (Deliver role kind to) (Begin other key) x y = absurd (y.2 role kind x.2.behind)
one_chosen s h (Begin role key) Script x y = absurd (x.0 y)
one_chosen s h (Begin role key) (Next pass named) x y = absurd (x.1 pass y.1.stands)
one_chosen s h (Begin role key) (Deliver other kind to) x y = absurd (x.2 other kind y.2.behind)
one_chosen s h (Begin role key) (Begin other named) x y = one_begin s h role other key named x.3 y.3

-- of two plain moves of one history the one is the other
pub one_move : (s : Setting) (h : List Entry) (m n : Move) → IsPlainMove s h (Some m) → IsPlainMove s h (Some n) → m ≡ n
one_move s h m n x y = one_chosen s h m n x.1 y.1

-- and so where there may be none
pub one_answer : (s : Setting) (h : List Entry) (m n : Option Move) → IsPlainMove s h m → IsPlainMove s h n → m ≡ n
one_answer s h None None x y = refl
one_answer s h None (Some n) x y = absurd (y.0 x)
one_answer s h (Some m) None x y = absurd (x.0 y)
one_answer s h (Some m) (Some n) x y = ap (λ (move : Move). Some move) (one_move s h m n x y)
