-- A signature has 32 octets.
use Rattle.std.proofs.Common.{◌≡◌, ℕ, zero, suc, ◌*◌, List, length, slice_index, refl, arith, length-append}
use Rattle.std.specs.Int.{w32, to_be_bytes}
use Rattle.sha2.specs.Sha256.{sha256, digest_bytes}

digest_size : (hash : List ℕ) (n : ℕ) → length (digest_bytes hash n) ≡ n * 4
unfolding digest_bytes
digest_size hash zero = refl
digest_size hash (suc n) = omega (arith, digest_size hash n, length-append (digest_bytes hash n) (to_be_bytes w32 (slice_index hash n)))

pub signature_size : (message : List ℕ) → length (sha256 message) ≡ 32
unfolding sha256
signature_size message = digest_size _ 8
