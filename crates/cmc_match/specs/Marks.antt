-- Labels and annotations of cert-manager.
use Rattle.std.specs.Prelude.{ℕ, Bool, false, List, Option, Some, None, codes}
use Rattle.std.specs.Str.{bytes_eq}
use Rattle.cmc_meta.specs.PairLists.{text_by_key}
use Rattle.cmc_objects.specs.declared.secret.Secret.{Secret}
use Rattle.cmc_objects.specs.declared.certificate.Certificate.{Certificate}

-- the text stands, and is this one
abbrev pub is_text : Option (List ℕ) → List ℕ → Bool
is_text None text = false
is_text (Some found) text = bytes_eq found text

-- this text stands under the key
abbrev pub has_text : List (List ℕ × List ℕ) → List ℕ → List ℕ → Bool
has_text pairs key text = is_text (text_by_key pairs key) text

-- the Secret is labelled as one that holds the private key of an issuance in progress
abbrev pub is_next_key : Secret → Bool
is_next_key secret = has_text secret.meta.labels (codes "cert-manager.io/next-private-key") (codes "true")

-- the Secret is annotated as one that holds a temporary certificate
abbrev pub is_temporary : Secret → Bool
is_temporary secret = has_text secret.meta.annotations (codes "cert-manager.io/temporary-certificate") (codes "true")

-- the Certificate is annotated to get a temporary certificate while its request waits
abbrev pub asks_for_temporary : Certificate → Bool
asks_for_temporary certificate = has_text certificate.meta.annotations (codes "cert-manager.io/issue-temporary-certificate") (codes "true")
