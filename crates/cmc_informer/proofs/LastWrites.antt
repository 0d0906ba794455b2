-- Of the writes under one key only the last one counts.
use Rattle.std.proofs.Common.{◌≡◌, ◌++◌, ◌+◌, ◌<◌, ℕ, List, [], ◌∷◌, length, get_or, reverse, Option, Some, Bool, true, false, cond, refl, sym, ap, subst, ◌∙◌}
use Rattle.std.specs.FinMap.{same_map}
use Rattle.std.specs.Ordering.{eq_by_cmp}
use Rattle.std.specs.Prelude.{if◌then◌else◌, ◌&&◌, ◌||◌, not}
use Rattle.cmc_meta.specs.declared.key.Key.{Key}
use Rattle.cmc_meta.specs.declared.key.Kind.{Kind}
use Rattle.cmc_meta.specs.Keys.{key_cmp, key_eq}
use Rattle.cmc_objects.specs.declared.object.Object.{Object}
use Rattle.cmc_model.specs.declared.write.Write.{Write}
use Rattle.cmc_model.specs.Objects.{Objects, object_at}
use Rattle.cmc_model.specs.Replies.{put_at}
use Rattle.cmc_model.specs.Writes.{contents, is_known, kind_eq, of_kind, oldest}
use Rattle.cmc_meta.proofs.KeyOrder.{key_cmp-total, key_cmp-IsAntisymmetric}
use Rattle.cmc_model.proofs.Versions.{object_at-put}
use Rattle.cmc_model.proofs.Writes.{contents_of-next}
use Rattle.cmc_informer.specs.Caches.{after_writes}
use Rattle.std.specs.Borrow.{Bor}
use Rattle.cmc_informer.specs.declared.latest.Change.{Change}
use Rattle.cmc_informer.specs.Superseded.{has_seen, with_first, with_older, writes_of}
use Rattle.cmc_informer.proofs.OneMark.{equal_key, key_eq_self, same_key}

covered : (b : Bool) (p o r : Option Object) → cond b p (cond b o r) ≡ cond b p r
covered true p o r = refl
covered false p o r = refl

-- what is put under a key takes the place of what was put there before
put_again : (m : Objects) (k : Key) (o p : Option Object) → put_at (put_at m k o) k p ≡ put_at m k p
put_again m k o p = same_map key_cmp-total key_cmp-IsAntisymmetric (put_at (put_at m k o) k p) (put_at m k p) (λ q.
    object_at-put (put_at m k o) k p q ∙ ap (cond (eq_by_cmp key_cmp q k) p) (object_at-put m k o q)
    ∙ covered (eq_by_cmp key_cmp q k) p o (object_at m q) ∙ sym (object_at-put m k p q))

apart : (a b : Bool) (p o r : Option Object) → (a ≡ true → b ≡ true → ⊥) → cond a p (cond b o r) ≡ cond b o (cond a p r)
apart true true p o r never = absurd (never refl refl)
apart true false p o r never = refl
apart false true p o r never = refl
apart false false p o r never = refl

not_both : (q j k : Key) → key_eq j k ≡ false → eq_by_cmp key_cmp q j ≡ true → eq_by_cmp key_cmp q k ≡ true → ⊥
not_both q j k differ one other =
    let same : j ≡ k = sym (same_key q j one) ∙ same_key q k other in
    let both : false ≡ true = sym differ ∙ ap (λ (x : Key). key_eq x k) same ∙ key_eq_self k in
    absurd (cc both)

-- under two keys it does not matter what is put first
put_apart : (m : Objects) (j k : Key) (o p : Option Object) → key_eq j k ≡ false → put_at (put_at m k o) j p ≡ put_at (put_at m j p) k o
put_apart m j k o p differ = same_map key_cmp-total key_cmp-IsAntisymmetric (put_at (put_at m k o) j p) (put_at (put_at m j p) k o) (λ q.
    object_at-put (put_at m k o) j p q ∙ ap (cond (eq_by_cmp key_cmp q j) p) (object_at-put m k o q)
    ∙ apart (eq_by_cmp key_cmp q j) (eq_by_cmp key_cmp q k) p o (object_at m q) (not_both q j k differ)
    ∙ sym (object_at-put (put_at m j p) k o q ∙ ap (cond (eq_by_cmp key_cmp q k) o) (object_at-put m j p q)))

overwritten_by : (b : Bool) (m : Objects) (k : Key) (o : Option Object) (w : Write) (ws : List Write) → key_eq w.key k ≡ b → (b || is_known k ws) ≡ true
    → ((n : Objects) → is_known k ws ≡ true → after_writes (put_at n k o) ws ≡ after_writes n ws) → after_writes (put_at (put_at m k o) w.key w.object) ws ≡ after_writes (put_at m w.key w.object) ws
overwritten_by true m k o w ws e known below =
    ap (λ (n : Objects). after_writes n ws) (subst (λ (j : Key). put_at (put_at m k o) j w.object ≡ put_at m j w.object) (sym (equal_key w.key k e)) (put_again m k o w.object))
overwritten_by false m k o w ws e known below = ap (λ (n : Objects). after_writes n ws) (put_apart m w.key k o w.object e) ∙ below (put_at m w.key w.object) known

-- what is written again might as well not have been put there
overwritten : (m : Objects) (k : Key) (o : Option Object) (ws : List Write) → is_known k ws ≡ true → after_writes (put_at m k o) ws ≡ after_writes m ws
overwritten m k o [] known = absurd (cc known)
overwritten m k o (w ∷ ws) known = overwritten_by (key_eq w.key k) m k o w ws refl known (λ n later. overwritten n k o ws later)

delayed_by : (b : Bool) (m : Objects) (k : Key) (o : Option Object) (w : Write) (ws : List Write) → key_eq w.key k ≡ b → (b || is_known k ws) ≡ false
    → ((n : Objects) → is_known k ws ≡ false → after_writes (put_at n k o) ws ≡ put_at (after_writes n ws) k o) → after_writes (put_at (put_at m k o) w.key w.object) ws ≡ put_at (after_writes (put_at m w.key w.object) ws) k o
delayed_by true m k o w ws e known below = absurd (cc known)
delayed_by false m k o w ws e known below = ap (λ (n : Objects). after_writes n ws) (put_apart m w.key k o w.object e) ∙ below (put_at m w.key w.object) known

-- and what is not written again can be put there at the end
delayed : (m : Objects) (k : Key) (o : Option Object) (ws : List Write) → is_known k ws ≡ false → after_writes (put_at m k o) ws ≡ put_at (after_writes m ws) k o
delayed m k o [] known = refl
delayed m k o (w ∷ ws) known = delayed_by (key_eq w.key k) m k o w ws refl known (λ n later. delayed n k o ws later)

written_more : (m : Objects) (ws : List Write) (w : Write) → after_writes m (ws ++ w ∷ []) ≡ put_at (after_writes m ws) w.key w.object
written_more m [] w = refl
written_more m (v ∷ ws) w = written_more (put_at m v.key v.object) ws w

older_by : (a b : Bool) (base : Objects) (w : Write) (ws : List Write) → is_known w.key ws ≡ b
    → after_writes base (if a && not b then ws ++ w ∷ [] else ws) ≡ after_writes (if a then put_at base w.key w.object else base) ws
older_by true true base w ws e = sym (overwritten base w.key w.object ws e)
older_by true false base w ws e = written_more base ws w ∙ sym (delayed base w.key w.object ws e)
older_by false b base w ws e = refl

-- one write more, before those that were looked at
pub last_next : (kind : Kind) (all : List Write) (i : ℕ) (w : Write) (ws new : List Write) (left : Objects) → i < length all → get_or all i w ≡ w → new ≡ with_older kind w ws
    → after_writes (contents (of_kind kind (oldest (i + 1) (reverse all)))) ws ≡ left → after_writes (contents (of_kind kind (oldest i (reverse all)))) new ≡ left
last_next kind all i w ws new left within is set so_far =
    let base : Objects = contents (of_kind kind (oldest i (reverse all))) in
    ap (after_writes base) set ∙ older_by (kind_eq w.key.kind kind) (is_known w.key ws) base w ws refl
    ∙ sym (ap (λ (m : Objects). after_writes m ws) (contents_of-next kind all i w within ∙ ap (λ (v : Write). if kind_eq v.key.kind kind then put_at base v.key v.object else base) is))
    ∙ so_far

swapped : (a b r : Bool) → (a || (b || r)) ≡ (b || (a || r))
swapped true true r = refl
swapped true false r = refl
swapped false b r = refl

pub known_more : (k : Key) (ws : List Write) (w : Write) → is_known k (ws ++ w ∷ []) ≡ (key_eq w.key k || is_known k ws)
known_more k [] w = refl
known_more k (v ∷ ws) w = ap (λ (r : Bool). key_eq v.key k || r) (known_more k ws w) ∙ swapped (key_eq v.key k) (key_eq w.key k) (is_known k ws)

-- ---- changes

same_write : (key : Bor Key) (o : Option Object) (w : Write) → key.now ≡ w.key → o ≡ w.object → (record { key = key.now; object = o } ∷ []) ≡ (w ∷ [])
same_write key o w k is i = record { key = k i; object = is i } ∷ []

more : (cs : List Change) (c : Change) → writes_of (cs ++ c ∷ []) ≡ writes_of cs ++ writes_of (c ∷ [])
more [] c = refl
more (d ∷ cs) c = ap (λ (ws : List Write). record { key = d.key.now; object = d.object } ∷ ws) (more cs c)

-- a change is added that does what the write did
pub change_added : (cs new : List Change) (key : Bor Key) (o : Option Object) (w : Write) → new ≡ cs ++ record { key = key; object = o } ∷ [] → key.now ≡ w.key → o ≡ w.object → writes_of new ≡ writes_of cs ++ w ∷ []
change_added cs new key o w set k is =
    ap writes_of set ∙ more cs (record { key = key; object = o }) ∙ ap (λ (ws : List Write). writes_of cs ++ ws) (same_write key o w k is)

-- ---- keys that were seen

pub one_more : (b r : Bool) → cond b true r ≡ (b || r)
one_more true r = refl
one_more false r = refl

-- a key that is not the first one is seen among the others
pub seen_more : (first : Option (Bor Key)) (f : Bor Key) (others new : List (Bor Key)) (key k : Key) → first ≡ Some f → has_seen new k ≡ cond (key_eq key k) true (has_seen others k)
    → has_seen (with_first first new) k ≡ (key_eq key k || has_seen (with_first first others) k)
seen_more first f others new key k is more = subst (λ (x : Option (Bor Key)). has_seen (with_first x new) k ≡ (key_eq key k || has_seen (with_first x others) k)) (sym is)
    (ap (λ (r : Bool). key_eq k f.now || r) (more ∙ one_more (key_eq key k) (has_seen others k)) ∙ swapped (key_eq k f.now) (key_eq key k) (has_seen others k))
