-- The order of kinds and of keys.
use Rattle.std.specs.Prelude.{ℕ, Bool, ◌&&◌, ◌==◌, nat_eq}
use Rattle.std.specs.declared.cmp.Ordering.{Ordering}
use Rattle.std.specs.Ordering.{nat_cmp, on, then_cmp}
use Rattle.std.specs.Cmp.Lexicographic.{slice_cmp, pointwise}
use Rattle.cmc_meta.specs.declared.key.Kind.{Kind}
use Rattle.cmc_meta.specs.declared.key.Kind.TheVariants.{Certificate, CertificateRequest, Secret}
use Rattle.cmc_meta.specs.declared.key.Key.{Key}

-- the place of a kind in the order of kinds
abbrev pub kind_rank : Kind → ℕ
kind_rank Certificate = 0
kind_rank CertificateRequest = 1
kind_rank Secret = 2

-- by kind, then by namespace, then by name
abbrev pub key_cmp : Key → Key → Ordering
key_cmp = then_cmp (on (λ k. kind_rank k.kind) nat_cmp) (then_cmp (on (λ k. k.namespace) (slice_cmp nat_cmp)) (on (λ k. k.name) (slice_cmp nat_cmp)))

-- one kind, one namespace and one name
abbrev pub key_eq : Key → Key → Bool
key_eq a b = (kind_rank a.kind == kind_rank b.kind) && (pointwise nat_eq a.namespace b.namespace && pointwise nat_eq a.name b.name)
