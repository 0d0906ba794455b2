-- A board after one more write is known or accepted, where memory ran out, and what it answers at a position.
use Rattle.std.proofs.Common.{◌≡◌, ℕ, ◌+◌, ◌≤◌, ◌<◌, List, [], ◌∷◌, length, Bool, true, false, None, refl, sym, ap, subst, ◌∙◌, arith}
use Rattle.std.specs.Prelude.{if◌then◌else◌}
use Rattle.cmc_meta.specs.declared.key.Key.{Key}
use Rattle.cmc_meta.specs.declared.key.Kind.{Kind}
use Rattle.cmc_meta.specs.declared.key.Kind.TheVariants.{Certificate, CertificateRequest, Secret}
use Rattle.cmc_meta.specs.Keys.{key_eq}
use Rattle.cmc_model.specs.declared.write.Write.{Write}
use Rattle.cmc_model.specs.Objects.{no_objects, object_at}
use Rattle.cmc_model.specs.Writes.{contents, kind_eq, of_kind, oldest, write_at}
use Rattle.cmc_model.proofs.Writes.{oldest-none, oldest-older}
use Rattle.cmc_caches.specs.Lines.{LineTable, last_at, left_by_write, numbers, numbers_in}
use Rattle.cmc_caches.specs.Board.{Columned, IsBoard, IsColumn, IsColumnBy, IsColumnFailed, IsEmptyColumn, column_of, objects_by}
use Rattle.cmc_caches.proofs.LastNumbers.{last_known, left_by_number, none_of_other, numbers_more, oldest_count}
use Rattle.cmc_caches.proofs.Columns.{IsNextWrite, column_first, column_kept, column_more, column_pushed}

pub board_more : (t t' : LineTable) (c r s c' r' s' : Columned) (n : ℕ) (w : Write) (ws : List Write) → n < length ws → IsNextWrite n w ws → IsBoard t c r s n ws
    → ((k : Key) → numbers_in t' k ≡ (if key_eq w.key k then (n + 1) ∷ numbers_in t k else numbers_in t k))
    → IsColumnBy (kind_eq w.key.kind Certificate) (n + 1) w c c' → IsColumnBy (kind_eq w.key.kind CertificateRequest) (n + 1) w r r' → IsColumnBy (kind_eq w.key.kind Secret) (n + 1) w s s'
    → IsBoard t' c' r' s' (n + 1) ws
board_more t t' c r s c' r' s' n w ws low is board put one two three = record {
  known = omega (arith, low);
  lines = numbers_more (numbers_in t) (numbers_in t') n w (oldest n ws) (oldest (n + 1) ws) (oldest_count n ws board.known) is board.lines put;
  of_certificates = column_more (kind_eq w.key.kind Certificate) Certificate n w ws c c' refl low is board.of_certificates one;
  of_requests = column_more (kind_eq w.key.kind CertificateRequest) CertificateRequest n w ws r r' refl low is board.of_requests two;
  of_secrets = column_more (kind_eq w.key.kind Secret) Secret n w ws s s' refl low is board.of_secrets three;
}

failed : (b : Bool) (kind : Kind) (n : ℕ) (ws : List Write) (old new : Columned) → n < length ws → IsColumnFailed b (n + 1) old new → IsColumn kind old n ws → IsColumn kind new n ws
failed true kind n ws old new low kept column = column_kept kind n ws old new low column kept
failed false kind n ws old new low same column = subst (λ (c : Columned). IsColumn kind c n ws) (sym same) column

pub board_kept : (t t' : LineTable) (c r s c' r' s' : Columned) (kind : Kind) (n : ℕ) (ws : List Write) → n < length ws → IsBoard t c r s n ws → ((k : Key) → numbers_in t' k ≡ numbers_in t k)
    → IsColumnFailed (kind_eq kind Certificate) (n + 1) c c' → IsColumnFailed (kind_eq kind CertificateRequest) (n + 1) r r' → IsColumnFailed (kind_eq kind Secret) (n + 1) s s'
    → IsBoard t' c' r' s' n ws
board_kept t t' c r s c' r' s' kind n ws low board same one two three = record {
  known = board.known;
  lines = λ k. same k ∙ board.lines k;
  of_certificates = failed (kind_eq kind Certificate) Certificate n ws c c' low one board.of_certificates;
  of_requests = failed (kind_eq kind CertificateRequest) CertificateRequest n ws r r' low two board.of_requests;
  of_secrets = failed (kind_eq kind Secret) Secret n ws s s' low three board.of_secrets;
}

-- where no room was found for the line
pub board_roomed : (t t' : LineTable) (c r s : Columned) (n : ℕ) (ws : List Write) → IsBoard t c r s n ws → ((k : Key) → numbers_in t' k ≡ numbers_in t k) → IsBoard t' c r s n ws
board_roomed t t' c r s n ws board same = record {
  known = board.known;
  lines = λ k. same k ∙ board.lines k;
  of_certificates = board.of_certificates;
  of_requests = board.of_requests;
  of_secrets = board.of_secrets;
}

pub board_pushed : (t : LineTable) (c r s : Columned) (n : ℕ) (w : Write) (ws : List Write) → IsBoard t c r s n ws → IsBoard t c r s n (w ∷ ws)
board_pushed t c r s n w ws board = record {
  known = omega (arith, board.known);
  lines = λ k. board.lines k ∙ ap (numbers k) (sym (oldest-older n w ws board.known));
  of_certificates = column_pushed Certificate c n w ws board.known board.of_certificates;
  of_requests = column_pushed CertificateRequest r n w ws board.known board.of_requests;
  of_secrets = column_pushed Secret s n w ws board.known board.of_secrets;
}

no_numbers : (k : Key) (ws : List Write) → [] ≡ numbers k (oldest 0 ws)
unfolding numbers
no_numbers k ws = sym (ap (numbers k) (oldest-none ws))

nothing_left : (kind : Kind) (ws : List Write) → no_objects ≡ objects_by kind 0 ws
unfolding contents
nothing_left kind ws = sym (ap (λ (l : List Write). contents (of_kind kind l)) (oldest-none ws))

pub board_first : (t : LineTable) (c r s : Columned) (ws : List Write) → ((k : Key) → numbers_in t k ≡ []) → IsEmptyColumn c → IsEmptyColumn r → IsEmptyColumn s → IsBoard t c r s 0 ws
board_first t c r s ws none one two three = record {
  known = omega arith;
  lines = λ k. none k ∙ no_numbers k ws;
  of_certificates = column_first Certificate c ws (one.objects ∙ nothing_left Certificate ws) one.owners one.targets;
  of_requests = column_first CertificateRequest r ws (two.objects ∙ nothing_left CertificateRequest ws) two.owners two.targets;
  of_secrets = column_first Secret s ws (three.objects ∙ nothing_left Secret ws) three.owners three.targets;
}

-- ---- what a board answers

-- the object under a key of the kind, by the key's line
pub answers_of : (t : LineTable) (c r s : Columned) (kind : Kind) (n p : ℕ) (key : Key) (ws : List Write) → p ≤ n → IsBoard t c r s n ws → kind_eq key.kind kind ≡ true
    → left_by_write (write_at (last_at p (numbers_in t key)) ws) ≡ object_at (objects_by kind p ws) key
answers_of t c r s kind n p key ws low board of =
    ap (λ (m : ℕ). left_by_write (write_at m ws)) (ap (last_at p) (board.lines key) ∙ last_known p n key ws low) ∙ sym (left_by_number p kind key ws of)

pub answers_none : (kind : Kind) (p : ℕ) (key : Key) (ws : List Write) → kind_eq key.kind kind ≡ false → None ≡ object_at (objects_by kind p ws) key
answers_none kind p key ws off = sym (none_of_other kind key (oldest p ws) off)

pub board_column : (t : LineTable) (c r s : Columned) (kind : Kind) (n : ℕ) (ws : List Write) → IsBoard t c r s n ws → IsColumn kind (column_of kind c r s) n ws
board_column t c r s Certificate n ws board = board.of_certificates
board_column t c r s CertificateRequest n ws board = board.of_requests
board_column t c r s Secret n ws board = board.of_secrets
