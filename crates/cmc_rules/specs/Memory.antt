-- What a role remembers of a key since it started.
use Rattle.std.specs.Prelude.{ℕ, ℤ, ◌+◌, Bool, ◌&&◌, List, [], ◌∷◌, Option, Some, None, option_map, if◌then◌else◌}
use Rattle.cmc_meta.specs.declared.key.Key.{Key}
use Rattle.cmc_meta.specs.declared.key.Kind.{Kind}
use Rattle.cmc_meta.specs.declared.key.Kind.TheVariants.{Certificate, CertificateRequest, Secret}
use Rattle.cmc_meta.specs.Keys.{key_eq}
use Rattle.cmc_objects.specs.declared.role.Role.{Role}
use Rattle.cmc_objects.specs.declared.entry.Positions.{Positions}
use Rattle.cmc_objects.specs.declared.entry.Who.{Who}
use Rattle.cmc_objects.specs.declared.entry.Who.TheVariants.{User, Pass}
use Rattle.cmc_objects.specs.declared.entry.Entry.{Entry}
use Rattle.cmc_objects.specs.declared.entry.Entry.TheVariants.{Call as Called, Begin, End, Start}
use Rattle.cmc_pass.specs.declared.pass.Views.{Views}
use Rattle.cmc_rules.specs.declared.progress.Stage.{Stage}
use Rattle.cmc_rules.specs.declared.progress.Stage.TheVariants.{Fresh, Wrote, Refused}
use Rattle.cmc_rules.specs.declared.progress.OpenPass.{OpenPass}
use Rattle.cmc_rules.specs.declared.progress.Ending.{Ending}
use Rattle.cmc_rules.specs.declared.progress.Ending.TheVariants as endings
use Rattle.cmc_rules.specs.declared.progress.LastPass.{LastPass}
use Rattle.cmc_rules.specs.declared.progress.Past.{Past}
use Rattle.cmc_model.specs.Replies.{is_accepted, key_of_call}
use Rattle.cmc_model.specs.Histories.{Setting, accepted, role_eq}
use Rattle.cmc_rules.specs.Views.{views}
use Rattle.cmc_rules.specs.Passes.{open_pass, is_pass_of}

abbrev pub no_past : Past
no_past = record { own = record { certificates = 0; requests = 0; secrets = 0 }; last = None }

abbrev pub with_begin : Views → ℤ → Past → Past
with_begin seen since past = record past { last = Some (record { seen = seen; since = since; ending = endings.Open }) }

abbrev pub with_position : Kind → ℕ → Positions → Positions
with_position Certificate version own = record own { certificates = version }
with_position CertificateRequest version own = record own { requests = version }
with_position Secret version own = record own { secrets = version }

abbrev pub with_own : Kind → ℕ → Past → Past
with_own kind version past = record past { own = with_position kind version past.own }

abbrev pub ending_at : Stage → Ending
ending_at Fresh = endings.Nothing
ending_at Wrote = endings.Wrote
ending_at (Refused entry obstacle) = endings.Refused obstacle
ending_at other = endings.Open

abbrev pub ending_of : Option OpenPass → Ending
ending_of None = endings.Open
ending_of (Some p) = ending_at p.stage

abbrev pub with_ending : Ending → Past → Past
with_ending ending past = record past { last = option_map (λ (l : LastPass). record l { ending = ending }) past.last }

abbrev pub past_called : Setting → List Entry → Role → Key → Past → Who → Kind → Bool → Past
past_called s h r k past User kind written = past
past_called s h r k past (Pass pass) kind written = if written && is_pass_of r k (open_pass s h pass) then with_own kind (accepted s h + 1) past else past

abbrev pub past_with : Setting → List Entry → Role → Key → Past → Entry → Past
past_with s h r k past (Called who call reply) = past_called s h r k past who (key_of_call call).kind (is_accepted reply)
past_with s h r k past (Begin pass role key at now) = if role_eq role r && key_eq key k then with_begin (views s h role key) now past else past
past_with s h r k past (End pass cause) = if is_pass_of r k (open_pass s h pass) then with_ending (ending_of (open_pass s h pass)) past else past
past_with s h r k past (Start role at) = if role_eq role r then no_past else past
past_with s h r k past other = past

-- the newest own writes of the role's passes on the key, and the last of these passes, since the role started
abbrev pub past : Setting → List Entry → Role → Key → Past
past s [] r k = no_past
past s (e ∷ h) r k = past_with s h r k (past s h r k) e
