-- What is kept of one key is kept of all of a queue's.
use Rattle.std.proofs.Common.{◌≡◌, Bool, true, false, List, refl, sym, ap, subst, ◌∙◌}
use Rattle.std.specs.Prelude.{if◌then◌else◌}
use Rattle.cmc_meta.specs.declared.key.Key.{Key}
use Rattle.cmc_meta.specs.Keys.{key_eq}
use Rattle.cmc_objects.specs.declared.entry.Entry.{Entry}
use Rattle.cmc_objects.specs.declared.role.Role.{Role}
use Rattle.cmc_objects.specs.Informers.{kind_of_work}
use Rattle.cmc_queue.specs.declared.row.Row.{Row}
use Rattle.cmc_queue.specs.Rows.{no_row}
use Rattle.cmc_queue.proofs.OneRow.{same_by_test}
use Rattle.cmc_model.specs.Histories.{Setting}
use Rattle.cmc_waking.specs.WakeUps.{AreTended, IsTended}

-- each row becomes f of what it was, and f keeps what is kept of each key of the role's work, and makes no row of another
pub are_changed : (s : Setting) (h g : List Entry) (role : Role) (old new : Key → Row) (f : Key → Row → Row) → ((key : Key) → new key ≡ f key (old key))
    → ((key : Key) → key.kind ≡ kind_of_work role → IsTended s h role key (old key) → IsTended s g role key (f key (old key))) → ((key : Key) → (key.kind ≡ kind_of_work role → ⊥) → f key no_row ≡ no_row)
    → AreTended s h role old → AreTended s g role new
are_changed s h g role old new f each kept none are = record {
  tended = λ key work. subst (IsTended s g role key) (sym (each key)) (kept key work (are.tended key work));
  others = λ key other. each key ∙ ap (f key) (are.others key other) ∙ none key other;
}

-- no row changes
pub are_same : (s : Setting) (h g : List Entry) (role : Role) (old new : Key → Row) → ((key : Key) → new key ≡ old key) → ((key : Key) → IsTended s h role key (old key) → IsTended s g role key (old key)) → AreTended s h role old → AreTended s g role new
are_same s h g role old new each kept are = are_changed s h g role old new (λ key row. row) each (λ key work is. kept key is) (λ key other. refl) are

none_by : (b : Bool) (f : Row → Row) → (b ≡ true → ⊥) → (if b then f no_row else no_row) ≡ no_row
none_by true f off = absurd (off refl)
none_by false f off = refl

-- one row changes, of a key of the role's work
pub are_changed_one : (s : Setting) (h g : List Entry) (role : Role) (key : Key) (old new : Key → Row) (f : Row → Row) → key.kind ≡ kind_of_work role → ((k : Key) → new k ≡ (if key_eq key k then f (old k) else old k))
    → (IsTended s h role key (old key) → IsTended s g role key (f (old key))) → ((k : Key) → key_eq key k ≡ false → IsTended s h role k (old k) → IsTended s g role k (old k)) → AreTended s h role old → AreTended s g role new
are_changed_one s h g role key old new f work each here elsewhere are =
    are_changed s h g role old new (λ k row. if key_eq key k then f row else row) each
    (λ k kind is. one_of (key_eq key k) k refl is)
    (λ k other. none_by (key_eq key k) f (λ same. other (ap (λ (q : Key). q.kind) (sym (same_by_test key k same)) ∙ work))) are
  where
    one_of : (b : Bool) (k : Key) → key_eq key k ≡ b → IsTended s h role k (old k) → IsTended s g role k (if b then f (old k) else old k)
    one_of true k is kept =
        let same = same_by_test key k is in subst (λ (q : Key). IsTended s g role q (f (old q))) same (here (subst (λ (q : Key). IsTended s h role q (old q)) (sym same) kept))
    one_of false k is kept = elsewhere k is kept
