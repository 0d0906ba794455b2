use Rattle.std.proofs.Common.{◌≡◌, true, false, refl, sym, ap, ◌∙◌}
use Rattle.cmc_x509_build.specs.Addresses.{address_at, has_dot}
use Rattle.cmc_x509_build.proofs.AddressLaws.{ipv4_again, ipv4_none, ipv6_again, ipv6_none}
use Rattle.cmc_x509_build.proofs.addresses.address_of.Goals as goal

pub returns-in-Ok : goal.returns-in-Ok
unfolding address_at
returns-in-Ok c = rw (ipv4_again _ _ c.in-Ok.ensures.value) refl

pub returns-then-has_dot : goal.returns-then-has_dot
unfolding address_at
returns-then-has_dot c =
    let dot : has_dot c.args.text.now ≡ true = ap has_dot (sym c.as_bytes.ensures.value) ∙ sym c.has_dot.ensures ∙ c.if-has_dot.true in
    rw (ipv4_none c.args.text.now c.in_default.ensures.value, dot) refl

pub returns-in-Ok-parse : goal.returns-in-Ok-parse
unfolding address_at
returns-in-Ok-parse c =
    let dot : has_dot c.args.text.now ≡ false = ap has_dot (sym c.as_bytes.ensures.value) ∙ sym c.has_dot.ensures ∙ c.if-has_dot.false in
    rw (ipv4_none c.args.text.now c.in_default.ensures.value, dot, ipv6_again _ _ c.in-Ok-parse.ensures.value) refl

pub returns-in-Err : goal.returns-in-Err
unfolding address_at
returns-in-Err c =
    let dot : has_dot c.args.text.now ≡ false = ap has_dot (sym c.as_bytes.ensures.value) ∙ sym c.has_dot.ensures ∙ c.if-has_dot.false in
    rw (ipv4_none c.args.text.now c.in_default.ensures.value, dot, ipv6_none c.args.text.now c.in-Err.ensures.value) refl
