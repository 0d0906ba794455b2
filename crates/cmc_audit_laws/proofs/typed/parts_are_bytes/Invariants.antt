use Rattle.base64.specs.GeneralPurpose.{IsBytes}
use Rattle.cmc_codec.specs.Laws.{EachValue}
use Rattle.cmc_audit_laws.proofs.typed.parts_are_bytes.Given as goal

abbrev pub invariant-loop-bytes : goal.invariant-loop-bytes
invariant-loop-bytes l = EachValue IsBytes l.bytes-iterator → EachValue IsBytes l.parts
