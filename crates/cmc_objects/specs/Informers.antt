-- Which objects each role looks at, and so which kinds it watches.
use Rattle.std.specs.Prelude.{Bool, true, false, ◌||◌, if◌then◌else◌}
use Rattle.cmc_meta.specs.declared.key.Kind.{Kind}
use Rattle.cmc_meta.specs.declared.key.Kind.TheVariants.{Certificate, CertificateRequest, Secret}
use Rattle.cmc_objects.specs.declared.role.Role.{Role}
use Rattle.cmc_objects.specs.declared.role.Role.TheVariants.{Trigger, KeyManager, RequestManager, Approver, Issuer, Issuing, Readiness, Revision}

-- whether its keys are those of CertificateRequests; all other roles work on keys of Certificates
abbrev pub works_on_requests : Role → Bool
works_on_requests Trigger = false
works_on_requests KeyManager = false
works_on_requests RequestManager = false
works_on_requests Approver = true
works_on_requests Issuer = true
works_on_requests Issuing = false
works_on_requests Readiness = false
works_on_requests Revision = false

-- whether it looks at the Secret that its Certificate names
abbrev pub looks_at_secret : Role → Bool
looks_at_secret Trigger = true
looks_at_secret KeyManager = true
looks_at_secret RequestManager = false
looks_at_secret Approver = false
looks_at_secret Issuer = false
looks_at_secret Issuing = true
looks_at_secret Readiness = true
looks_at_secret Revision = false

-- whether it looks at the Secrets with a next private key of its Certificate
abbrev pub looks_at_next : Role → Bool
looks_at_next Trigger = false
looks_at_next KeyManager = true
looks_at_next RequestManager = true
looks_at_next Approver = false
looks_at_next Issuer = false
looks_at_next Issuing = true
looks_at_next Readiness = false
looks_at_next Revision = false

-- whether it looks at the CertificateRequests that its Certificate owns
abbrev pub looks_at_requests : Role → Bool
looks_at_requests Trigger = true
looks_at_requests KeyManager = false
looks_at_requests RequestManager = true
looks_at_requests Approver = false
looks_at_requests Issuer = false
looks_at_requests Issuing = true
looks_at_requests Readiness = true
looks_at_requests Revision = true

-- the kind of the keys that it works on
abbrev pub kind_of_work : Role → Kind
kind_of_work role = if works_on_requests role then CertificateRequest else Certificate

-- it is told of the kinds that it looks at, and of no other
abbrev pub has_informer : Role → Kind → Bool
has_informer role Certificate = if works_on_requests role then false else true
has_informer role CertificateRequest = works_on_requests role || looks_at_requests role
has_informer role Secret = looks_at_secret role || looks_at_next role
