-- The names of a tag, as far as they have been gone through.
use Rattle.std.proofs.Common.{◌≡◌, ℕ, true, false, List, [], ◌∷◌, ◌++◌, refl, sym, ◌∙◌, ap, append_assoc}
use Rattle.std.proofs.lemmas.List.{append-nil}
use Rattle.cmc_der.specs.Values.{BeginsWith}
use Rattle.cmc_x509.specs.Options.{Value}
use Rattle.cmc_x509.specs.Lists.{IsValueList}
use Rattle.cmc_x509.proofs.ListLaws.{values_again}
use Rattle.cmc_answers.specs.Wanted.{general_names, has_tag, bodies_of, names_of_tag}

first_name : (rest after : List ℕ) (name : Value) → BeginsWith rest name.0 name.1 after → IsValueList after
    → general_names rest ≡ name ∷ general_names after
unfolding general_names
first_name rest after name begins (values, are) =
    rw (values_again rest (name ∷ values) (after, begins, are), values_again after values are) refl

no_name : general_names [] ≡ []
unfolding general_names
no_name = rw (values_again [] [] refl) refl

-- a name that counts is added
pub name_added : (tag : ℕ) (names : List (List ℕ)) (rest after : List ℕ) (name : Value) (all : List (List ℕ))
    → BeginsWith rest name.0 name.1 after → IsValueList after → has_tag tag name ≡ true
    → names ++ names_of_tag tag rest ≡ all → (copied : List ℕ) (next : List (List ℕ)) → copied ≡ name.1 → next ≡ names ++ copied ∷ []
    → next ++ names_of_tag tag after ≡ all
name_added tag names rest after name all begins values counts before copied next copy pushed =
    let here : names_of_tag tag rest ≡ name.1 ∷ names_of_tag tag after =
    ap (bodies_of tag) (first_name rest after name begins values) ∙ rw counts refl in
    rw (pushed, copy) (append_assoc names (name.1 ∷ []) (names_of_tag tag after) ∙ (ap (λ (l : List (List ℕ)). names ++ l) (sym here) ∙ before))

-- another one is passed over
pub name_passed : (tag : ℕ) (names : List (List ℕ)) (rest after : List ℕ) (name : Value) (all : List (List ℕ))
    → BeginsWith rest name.0 name.1 after → IsValueList after → has_tag tag name ≡ false
    → names ++ names_of_tag tag rest ≡ all → names ++ names_of_tag tag after ≡ all
name_passed tag names rest after name all begins values counts before =
    let here : names_of_tag tag rest ≡ names_of_tag tag after =
    ap (bodies_of tag) (first_name rest after name begins values) ∙ rw counts refl in
    ap (λ (l : List (List ℕ)). names ++ l) (sym here) ∙ before

-- at the end all are there
pub names_whole : (tag : ℕ) (names : List (List ℕ)) (rest : List ℕ) (all : List (List ℕ)) → rest ≡ []
    → names ++ names_of_tag tag rest ≡ all → names ≡ all
names_whole tag names rest all empty before =
    sym (append-nil names) ∙ (ap (λ (l : List (List ℕ)). names ++ l) (sym (ap (bodies_of tag) (ap general_names empty ∙ no_name))) ∙ before)
