-- What is given back for a question: a key, and a signature.
use Rattle.std.specs.Prelude.{◌≡◌, ℕ, List, ◌++◌, take, codes, decimal}
use Rattle.std.specs.Int.{w64, from_be_bytes}
use Rattle.sha2.specs.Sha256.{sha256}
use Rattle.cmc_objects.specs.declared.orders.KeyOrder.{KeyOrder}
use Rattle.cmc_objects.specs.declared.orders.CsrOrder.{CsrOrder}
use Rattle.cmc_objects.specs.declared.rows.KeyRow.{KeyRow}
use Rattle.cmc_objects.specs.declared.rows.KeyRow.TheVariants.{Default, Synthetic, Der, Free}
use Rattle.cmc_keys.specs.Kinds.{IsKeyOf}
use Rattle.cmc_keys.specs.Synthetic.{synthetic_key}

-- what a question for a key is called: the Certificate's namespace and name, and the number of the question
abbrev pub order_text : KeyOrder → List ℕ
order_text order =
    order.certificate.namespace ++ (codes "/" ++ (order.certificate.name ++ (codes "#" ++ decimal order.number)))

-- the number of its stand-in key: the first eight octets of the digest of what it is called, the highest first
unfoldable pub usual_number : KeyOrder → ℕ
usual_number order = from_be_bytes w64 (take 8 (sha256 (order_text order)))

-- the stand-in key of this number that a question asks for
abbrev pub asked_key : KeyOrder → ℕ → List ℕ
asked_key order number = synthetic_key order.algorithm order.size order.encoding number

abbrev pub usual_key : KeyOrder → List ℕ
usual_key order = asked_key order (usual_number order)

-- a key file stands for itself where it is a key of the algorithm and size that are asked for, and counts as no
-- row where it is none
pub record IsOfFile (order : KeyOrder) (file bytes : List ℕ) : Type 0 where
  pub fits : IsKeyOf order.algorithm order.size file → bytes ≡ file
  pub other : (IsKeyOf order.algorithm order.size file → ⊥) → bytes ≡ usual_key order

-- the key is what the row says; of a free row any key is
abbrev pub IsOfRow : KeyOrder → KeyRow → List ℕ → Type 0
IsOfRow order Default bytes = bytes ≡ usual_key order
IsOfRow order (Synthetic number) bytes = bytes ≡ asked_key order number
IsOfRow order (Der file) bytes = IsOfFile order file bytes
IsOfRow order Free bytes = Unit {0}

-- what a scenario's own maker answers: what the row says, and of a free row the stand-in key that has no row
abbrev pub IsScriptedRow : KeyOrder → KeyRow → List ℕ → Type 0
IsScriptedRow order Free bytes = bytes ≡ usual_key order
IsScriptedRow order row bytes = IsOfRow order row bytes

abbrev pub IsScripted : KeyOrder → List ℕ → Type 0
IsScripted order bytes = IsScriptedRow order order.row bytes

-- the octets answer the question: a key of the algorithm and size that are asked for, and what its row says
pub record IsKeyValue (order : KeyOrder) (bytes : List ℕ) : Type 0 where
  pub is_key : IsKeyOf order.algorithm order.size bytes
  pub of_row : IsOfRow order order.row bytes

-- what contracts see of a key that was made
pub record KeyMade : Type 0 where
  pub order : KeyOrder
  pub bytes : List ℕ

-- the octets answer the question: the SHA-256 digest of the body that is to be signed
abbrev pub IsCsrValue : CsrOrder → List ℕ → Type 0
IsCsrValue order signature = signature ≡ sha256 order.body

-- what contracts see of a request that was signed
pub record CsrSigned : Type 0 where
  pub order : CsrOrder
  pub signature : List ℕ
