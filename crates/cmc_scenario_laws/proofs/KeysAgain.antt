-- Keys that were read are printed as the texts that were read.
use Rattle.std.proofs.Common.{◌≡◌, ℕ, ◌<◌, ◌≤◌, List, [], ◌∷◌, ◌++◌, length, get_or, Bool, true, false, Ok, Err, refl, ap, sym, subst, ◌∙◌, codes, arith}
use Rattle.std.specs.Prelude.{if◌then◌else◌, ◌==◌, not}
use Rattle.std.specs.List.{position_or_len, before_first, after_first}
use Rattle.std.specs.Str.{bytes_eq}
use Rattle.std.proofs.lemmas.Bool.{eqb-true}
use Rattle.std.proofs.lemmas.Bool.Decides.{nat_tests}
use Rattle.std.proofs.lemmas.List.Sums.{split_at_first, passes_at_first, prefix_len-le-length}
use Rattle.std.proofs.lemmas.Slice.Eq.{bytes_eq-Decides}
use Rattle.serde_json.specs.Data.{Data, string}
use Rattle.cmc_meta.specs.Names.{is_subdomain}
use Rattle.cmc_meta.specs.declared.key.Key.{Key}
use Rattle.cmc_meta.specs.declared.key.Kind.{Kind}
use Rattle.cmc_meta.specs.declared.key.Kind.TheVariants.{Certificate, CertificateRequest, Secret}
use Rattle.cmc_cursor.specs.Members.{Read}
use Rattle.cmc_cursor.specs.Readers.{text_at, name_in}
use Rattle.cmc_cursor.proofs.Always.{Always, so, failed, next, after, with_both, further}
use Rattle.cmc_print.specs.Words.{kind_name, name_text, key_text}
use Rattle.cmc_material.specs.Keys.{is_slash, split_slash, kind_in, key_of_kind, key_of_text, key_at}
use Rattle.cmc_material.specs.MaterialRows.{certificate_key_at}

-- a text with a slash is what stands before the first one, the slash, and what stands after it
abbrev IsSplit : List ℕ → List ℕ × List ℕ → Type 0
IsSplit t parts = parts.0 ++ (codes "/" ++ parts.1) ≡ t

split_again : (t : List ℕ) → position_or_len is_slash t < length t → IsSplit t (before_first is_slash t, after_first is_slash t)
split_again t inside =
    let slash : get_or t (position_or_len is_slash t) 0 ≡ 47 = eqb-true (get_or t (position_or_len is_slash t) 0) 47 (passes_at_first is_slash t 0 inside) in
    ap (λ (c : ℕ). before_first is_slash t ++ (c ∷ after_first is_slash t)) (sym slash) ∙ sym (split_at_first is_slash t 0 inside)

at_most : (t : List ℕ) → position_or_len is_slash t ≤ length t
at_most t = prefix_len-le-length (λ c. not (is_slash c)) t

not_at_end : (n m : ℕ) → n ≤ m → (n == m) ≡ false → n < m
not_at_end n m h e = grind (arith, nat_tests)

split_so : (t : List ℕ) → Always (IsSplit t) (split_slash t)
split_so t = by_test (position_or_len is_slash t == length t) refl
  where
    by_test : (b : Bool) → (position_or_len is_slash t == length t) ≡ b → Always (IsSplit t) (if b then Err [] else Ok (before_first is_slash t, after_first is_slash t))
    by_test true e = failed []
    by_test false e = so (split_again t (not_at_end (position_or_len is_slash t) (length t) (at_most t) e))

-- ---- names

name_so : (t : List ℕ) → Always (λ n. n ≡ t) (name_in t)
name_so t = by_test (is_subdomain t)
  where
    by_test : (b : Bool) → Always (λ n. n ≡ t) (if b then Ok t else Err [])
    by_test true = so refl
    by_test false = failed []

-- the key is written as the text says
abbrev IsWritten : List ℕ → Key → Type 0
IsWritten t key = name_text key ≡ t

written_so : (kind : Kind) (t : List ℕ) → Always (IsWritten t) (key_of_kind kind t)
unfolding key_of_kind
written_so kind t =
    after (IsSplit t) (IsWritten t) (split_slash t) _ (split_so t)
    (λ parts split. after (λ n. n ≡ parts.0) (IsWritten t) (name_in parts.0) _ (name_so parts.0)
    (λ namespace first. after (λ n. n ≡ parts.1) (IsWritten t) (name_in parts.1) _ (name_so parts.1)
    (λ name second. so (rw (first, second) split))))

itself : {A : Type 0} (r : Read A) → Always (λ x. r ≡ Ok x) r
itself r = record { each = λ x e. e }

-- a Certificate's key is read again
pub certificate_text_so : (kind : Kind) (t : List ℕ) → Always (λ key. key_of_kind kind (name_text key) ≡ Ok key) (key_of_kind kind t)
certificate_text_so kind t = record { each = λ key e. subst (λ (x : List ℕ). key_of_kind kind x ≡ Ok key) (sym ((written_so kind t).each key e)) e }

pub certificate_so : (d : Data) → Always (λ key. certificate_key_at (string (name_text key)) ≡ Ok key) (certificate_key_at d)
certificate_so d = next (λ key. certificate_key_at (string (name_text key)) ≡ Ok key) (text_at d) (key_of_kind Certificate) (certificate_text_so Certificate)

-- ---- keys of any kind

kind_so : (t : List ℕ) → Always (λ kind. kind_name kind ≡ t) (kind_in t)
kind_so t =
    by_test Certificate (bytes_eq t (codes "Certificate")) refl _
    (by_test CertificateRequest (bytes_eq t (codes "CertificateRequest")) refl _
    (by_test Secret (bytes_eq t (codes "Secret")) refl (Err []) (failed [])))
  where
    by_test : (kind : Kind) (b : Bool) → bytes_eq t (kind_name kind) ≡ b → (rest : Read Kind) → Always (λ k. kind_name k ≡ t) rest → Always (λ k. kind_name k ≡ t) (if b then Ok kind else rest)
    by_test kind true e rest others = so (sym ((bytes_eq-Decides t (kind_name kind)).0 e))
    by_test kind false e rest others = others

abbrev IsWholeKey : List ℕ → Key → Type 0
IsWholeKey t key = key_text key ≡ t

kept_kind : (kind : Kind) (t : List ℕ) → Always (λ key. key.kind ≡ kind) (key_of_kind kind t)
unfolding key_of_kind
kept_kind kind t =
    next (λ (key : Key). key.kind ≡ kind) (split_slash t) _ (λ parts. next (λ (key : Key). key.kind ≡ kind) (name_in parts.0) _
    (λ namespace. next (λ (key : Key). key.kind ≡ kind) (name_in parts.1) _ (λ name. so refl)))

whole_so : (t : List ℕ) → Always (IsWholeKey t) (key_of_text t)
unfolding key_of_text
whole_so t =
    after (IsSplit t) (IsWholeKey t) (split_slash t) _ (split_so t)
    (λ parts split. after (λ k. kind_name k ≡ parts.0) (IsWholeKey t) (kind_in parts.0) _ (kind_so parts.0)
    (λ kind named. further (λ (key : Key). IsWritten parts.1 key × (key.kind ≡ kind)) (IsWholeKey t) (key_of_kind kind parts.1)
    (λ key is. rw (is.0, is.1, named) split)
    (with_both (IsWritten parts.1) (λ (key : Key). key.kind ≡ kind) (key_of_kind kind parts.1) (written_so kind parts.1) (kept_kind kind parts.1))))

pub key_so : (d : Data) → Always (λ key. key_at (string (key_text key)) ≡ Ok key) (key_at d)
key_so d = next (λ key. key_at (string (key_text key)) ≡ Ok key) (text_at d) key_of_text
    (λ t. record { each = λ key e. subst (λ (x : List ℕ). key_of_text x ≡ Ok key) (sym ((whole_so t).each key e)) e })
