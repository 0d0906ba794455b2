-- Parts of what is written.
use Rattle.std.proofs.Common.{zero, suc, get_or, arith, String, Global, string_bytes, ◌≡◌, ℕ, ◌+◌, ◌<◌, ◌≤◌, Ok, Err, IfErr, List, [], ◌∷◌, ◌++◌, length, take, drop, None, Some, refl, sym, ap, ◌∙◌, subst, append_assoc, take-append-drop, length-append}
use Rattle.std.proofs.Math.Seq.{take-append-add, take-append_seam}
use Rattle.std.specs.declared.option.Option.{Option}
use Rattle.std.specs.declared.result.Result.{Result}
use Rattle.std.specs.Io.KnownBytes.{Appends, Keeps}
use Rattle.std.specs.Io.KnownBytes.{Consumes}
use Rattle.std.proofs.KnownBytes.{Appends-trans, Appends-kept, Appends-nil, Consumes-trans}
use Rattle.cmrun.specs.Ends.{AppendsPrefix, ConsumesExactly, ConsumesAtMost}
use Rattle.cmrun.specs.Lines.{joined}

-- nothing was added
pub prefix_kept : (a b : Option (List ℕ)) (all : List ℕ) → Keeps a b → AppendsPrefix a b all
prefix_kept a b all h = (0, Appends-kept a a b [] (Appends-nil a) h)

-- a whole part was added, and then a prefix of the rest
pub prefix_later : (a b c : Option (List ℕ)) (done rest : List ℕ) → Appends a b done → AppendsPrefix b c rest → AppendsPrefix a c (done ++ rest)
prefix_later a b c done rest first later =
    (length done + later.0, subst (Appends a c) (sym (take-append-add done rest later.0)) (Appends-trans a b c done (take later.0 rest) first later.1))

-- a prefix of the front
pub prefix_front : (a c : Option (List ℕ)) (front rest : List ℕ) → AppendsPrefix a c front → AppendsPrefix a c (front ++ rest)
prefix_front None c front rest h = (0, tt)
prefix_front (Some x) None front rest h = absurd h.1
prefix_front (Some x) (Some y) front rest h =
    (length (take h.0 front), h.1 ∙ ap (λ l. x ++ l) (sym (ap (take (length (take h.0 front))) (ap (λ l. l ++ rest) (sym (take-append-drop h.0 front)) ∙ append_assoc (take h.0 front) (drop h.0 front) rest) ∙ take-append_seam (take h.0 front) (drop h.0 front ++ rest))))

-- the piece is what was added and what is left
pub record WrittenSoFar (old now : Option (List ℕ)) (piece rest : List ℕ) : Type 0 where
  pub done : List ℕ
  pub whole : piece ≡ done ++ rest
  pub added : Appends old now done

pub written_more : (a b c : Option (List ℕ)) (piece rest : List ℕ) (n : ℕ) → WrittenSoFar a b piece rest → Appends b c (take n rest) → WrittenSoFar a c piece (drop n rest)
written_more a b c piece rest n h more = record {
  done = h.done ++ take n rest;
  whole = h.whole ∙ ap (λ l. h.done ++ l) (sym (take-append-drop n rest)) ∙ sym (append_assoc h.done (take n rest) (drop n rest));
  added = Appends-trans a b c h.done (take n rest) h.added more;
}

pub written_part : (a b c : Option (List ℕ)) (piece rest : List ℕ) → WrittenSoFar a b piece rest → AppendsPrefix b c rest → AppendsPrefix a c piece
written_part a b c piece rest h later = subst (AppendsPrefix a c) (sym h.whole) (prefix_later a b c h.done rest h.added later)

-- the texts before one of them, that one, and the others
pub joined_at : (lines : List (String Global)) (i : ℕ) (d : String Global) → i < length lines
    → joined lines ≡ joined (take i lines) ++ (string_bytes (get_or lines i d) ++ joined (drop (suc i) lines))
joined_at [] i d h = absurd (omega arith)
joined_at (line ∷ lines) zero d h = refl
joined_at (line ∷ lines) (suc i) d h =
    ap (λ l. string_bytes line ++ l) (joined_at lines i d (omega arith)) ∙ sym (append_assoc (string_bytes line) (joined (take i lines)) _)

pub prefix_of_lines : (a b c : Option (List ℕ)) (lines : List (String Global)) (i : ℕ) (line : String Global) → i < length lines → line ≡ get_or lines i line
    → Appends a b (joined (take i lines)) → AppendsPrefix b c (string_bytes line) → AppendsPrefix a c (joined lines)
prefix_of_lines a b c lines i line h here before part =
    let at : joined lines ≡ joined (take i lines) ++ (string_bytes line ++ joined (drop (suc i) lines)) = rw (← here) at (joined_at lines i line h) in
    subst (AppendsPrefix a c) (sym at) (prefix_later a b c (joined (take i lines)) _ before (prefix_front b c (string_bytes line) (joined (drop (suc i) lines)) part))

-- what was read before, and then so many bytes more
pub consumed_more : (a b c : Option (List ℕ)) (front back : List ℕ) (n : ℕ) → Consumes a b front → Consumes b c back → length front + length back ≡ n → ConsumesExactly a c n
consumed_more a b c front back n first later count = (front ++ back, Consumes-trans a b c front back first later, length-append front back ∙ count)

pub consumed_within : (a b c : Option (List ℕ)) (front back : List ℕ) (n : ℕ) → Consumes a b front → Consumes b c back → length front + length back ≤ n → ConsumesAtMost a c n
consumed_within a b c front back n first later count = (front ++ back, Consumes-trans a b c front back first later, subst (λ k. k ≤ n) (sym (length-append front back)) count)

-- what holds whatever the error is
pub at_each_error : {T E A : Type 0} (result : Result T E) → A → IfErr result (λ _. A)
at_each_error (Ok value) h = tt
at_each_error (Err error) h = h
