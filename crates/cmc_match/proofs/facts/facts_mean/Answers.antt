use Rattle.cmc_match.proofs.FactLaws as laws
use Rattle.cmc_match.proofs.facts.facts_mean.Goals as goal

pub returns-clause-filled : goal.returns-clause-filled
returns-clause-filled c secret = laws.filled secret

pub returns-clause-issuer : goal.returns-clause-issuer
returns-clause-issuer c reference secret = laws.issuer reference secret

pub returns-clause-owner : goal.returns-clause-owner
returns-clause-owner c name secret = laws.owner name secret

pub returns-clause-kind : goal.returns-clause-kind
returns-clause-kind c spec secret request = laws.requested spec secret request
