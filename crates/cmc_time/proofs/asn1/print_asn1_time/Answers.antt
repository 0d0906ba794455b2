use Rattle.std.proofs.Common.{◌≡◌, ℕ, List, ap, ◌∙◌, to_z-of_z, sym, subst}
use Rattle.std.proofs.lemmas.Result.{IfOk-weaker}
use Rattle.cmc_time.specs.Moment.{moment_of}
use Rattle.cmc_time.specs.Asn1.{asn1_tag, asn1_text, asn1_time_text, IsAsn1Time}
use Rattle.cmc_time.proofs.Printed.{asn1_is_text}
use Rattle.cmc_time.proofs.asn1.print_asn1_time.Goals as goal

pub returns-clause-text : goal.returns-clause-text
unfolding asn1_text
returns-clause-text c =
    let same = ap asn1_time_text (c.moment_at.ensures.value ∙ ap moment_of (to_z-of_z c.ranges.at)) in
    IfOk-weaker c.body_of.result _ _ (λ text e. e ∙ same) c.body_of.ensures

pub returns-clause-reads_back : goal.returns-clause-reads_back
returns-clause-reads_back c =
    let same : asn1_time_text c.moment_at.result ≡ asn1_text c.args.at =
    unfold asn1_text in ap asn1_time_text (c.moment_at.ensures.value ∙ ap moment_of (to_z-of_z c.ranges.at)) in
    IfOk-weaker c.body_of.result _ _
    (λ text e. subst (λ (bytes : List ℕ). IsAsn1Time (asn1_tag c.args.at) bytes c.args.at) (sym (e ∙ same)) (asn1_is_text c.args.at c.requires)) c.body_of.ensures
