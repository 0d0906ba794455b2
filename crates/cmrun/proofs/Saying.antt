-- What one word more does to what was said, and which command is said at the end.
use Rattle.std.proofs.Common.{◌≡◌, arith, ℕ, Option, None, List, [], ◌∷◌, ◌++◌, length, drop, Bool, true, false, refl, ap, sym, subst, Bor}
use Rattle.std.specs.Prelude.{map, codes, string_bytes, String, nat_eq, if◌then◌else◌}
use Rattle.std.specs.declared.alloc.Global.{Global}
use Rattle.std.specs.List.{starts_with}
use Rattle.std.specs.Str.{bytes_eq}
use Rattle.std.proofs.lemmas.Bool.Decides.{Decides-eqb}
use Rattle.std.proofs.lemmas.Slice.Eq.{starts_is}
use Rattle.cmrun.specs.Words.{Given, with_worker_value, with_word, with_summary, with_other, given_by, command_said}
use Rattle.cmrun.specs.Said.{with_given, Takes, TakesNext}
use Rattle.cmrun.specs.declared.words.Said.{Said}
use Rattle.cmrun.specs.declared.words.Command.{Command}

abbrev no_command : Option Command
no_command = None

neither : (a b : Bool) (r l : Option Command) → r ≡ None → l ≡ None → (if a then r else if b then l else None) ≡ None
neither true b r l h k = h
neither false true r l h k = k
neither false false r l h k = refl

no_value : (word front : List ℕ) → ((rest : List ℕ) → word ≡ front ++ rest → ⊥)
    → (b : Bool) → b ≡ starts_with nat_eq word front → b ≡ false
no_value word front h true e = absurd (h _ ((starts_is Decides-eqb word front true e).0 refl))
no_value word front h false e = refl

pub word_other : (s : Said) (word : List ℕ) (r : Option Said) → ((rest : List ℕ) → word ≡ codes "--workers=" ++ rest → ⊥) → bytes_eq word (codes "--summary") ≡ false
    → Takes s (with_other word) r → Takes s (with_word word) r
word_other s word r h k t =
    subst (λ (b : Bool). Takes s (λ g. if b then with_worker_value (drop 10 word) g else if bytes_eq word (codes "--summary") then with_summary g else with_other word g) r) (sym (no_value word (codes "--workers=") h _ refl))
    (subst (λ (b : Bool). Takes s (λ g. if b then with_summary g else with_other word g) r) (sym k) t)

-- the words from one word on
pub given_pair : (word next : List ℕ) (words : List (List ℕ)) → bytes_eq word (codes "--workers") ≡ true
    → given_by (word ∷ next ∷ words) ≡ with_worker_value next (given_by words)
given_pair word next words h = ap (λ (b : Bool). if b then with_worker_value next (given_by words) else with_word word (given_by (next ∷ words))) h

pub given_alone : (word next : List ℕ) (words : List (List ℕ)) → bytes_eq word (codes "--workers") ≡ false
    → given_by (word ∷ next ∷ words) ≡ with_word word (given_by (next ∷ words))
given_alone word next words h = ap (λ (b : Bool). if b then with_worker_value next (given_by words) else with_word word (given_by (next ∷ words))) h

-- the word stands last
pub last_refused : (s : Said) (word : List ℕ) (words : List (String Global)) (r : Option (Said × Bor (List (String Global)))) → length words ≡ 0
    → ((first : List ℕ) (given : Given) → command_said first (with_given s (with_word word given)) ≡ None) → r ≡ None → TakesNext s word words r
last_refused s word [] r n none e = subst (λ (q : Option (Said × Bor (List (String Global)))). TakesNext s word [] q) (sym e) (λ first. none first (given_by []))
last_refused s word (next ∷ words) r n none e = absurd (omega (arith, n))

pub last_taken : (s more : Said) (word : List ℕ) (words : List (String Global)) → length words ≡ 0
    → ((given : Given) → with_given more given ≡ with_given s (with_word word given))
    → with_given more (given_by (map string_bytes words)) ≡ with_given s (given_by (word ∷ map string_bytes words))
last_taken s more word [] n same = same (given_by [])
last_taken s more word (next ∷ words) n same = absurd (omega (arith, n))

-- a value stands behind it
pub value_refused : (s : Said) (word : List ℕ) (words behind : List (String Global)) (value : String Global) (r : Option (Said × Bor (List (String Global))))
    → words ≡ value ∷ behind → bytes_eq word (codes "--workers") ≡ true
    → ((first : List ℕ) (given : Given) → command_said first (with_given s (with_worker_value (string_bytes value) given)) ≡ None) → r ≡ None → TakesNext s word words r
value_refused s word words behind value r is h none e =
    subst (λ (q : Option (Said × Bor (List (String Global)))). TakesNext s word words q) (sym e)
    (subst (λ (ws : List (String Global)). (first : List ℕ) → command_said first (with_given s (given_by (word ∷ map string_bytes ws))) ≡ None) (sym is)
    (subst (λ (g : Given). (first : List ℕ) → command_said first (with_given s g) ≡ None) (sym (given_pair word (string_bytes value) (map string_bytes behind) h)) (λ first. none first (given_by (map string_bytes behind)))))
