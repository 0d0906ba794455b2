-- In legal histories versions count up, a uid is the version of a create, and no uid stands under two keys.
use Rattle.std.proofs.Common.{◌≡◌, ◌≤◌, List, [], ◌∷◌, Some, refl, ap, ◌∙◌}
use Rattle.cmc_meta.specs.declared.key.Key.{Key}
use Rattle.cmc_objects.specs.declared.object.Object.{Object}
use Rattle.cmc_objects.specs.declared.entry.Entry.{Entry}
use Rattle.cmc_objects.specs.declared.entry.Entry.TheVariants.{Call as Called}
use Rattle.cmc_objects.specs.Objects.{key_of}
use Rattle.cmc_model.specs.Objects.{Objects, object_at}
use Rattle.cmc_model.specs.Replies.{is_accepted}
use Rattle.cmc_model.specs.Histories.{Setting, moment, state, objects}
use Rattle.cmc_model.specs.Writes.{writes}
use Rattle.cmc_rules.specs.Legality.{IsLegal}
use Rattle.cmc_model.specs.Versions.{uid_of, HasVersion}
use Rattle.cmc_model.proofs.Writes.{writes_count, writes_leave}
use Rattle.cmc_model.proofs.Versions.{IsLawful, lawful_called, standing, keyed, one_key}

pub lawful : (s : Setting) (h : List Entry) → IsLegal s h → IsLawful (writes s h)
unfolding IsLegal
lawful s [] legal = tt
lawful s (Called who call reply ∷ h) legal = lawful_called s.faults (moment s h) (state s h) call reply (writes s h) (is_accepted reply) refl (writes_count s h) (writes_leave s h) legal.0.0 (lawful s h legal.1)
lawful s (other ∷ h) legal = lawful s h legal.1

-- ---- the same of histories

-- what stands is the version of an accepted write
pub stands_is_version : (s : Setting) (h : List Entry) (key : Key) (o : Object) → object_at (objects s h) key ≡ Some o → HasVersion s h key o
stands_is_version s h key o is = standing (writes s h) key o (ap (λ (m : Objects). object_at m key) (writes_leave s h) ∙ is)

-- a version stands under its own key
pub version_keyed : (s : Setting) (h : List Entry) (key : Key) (o : Object) → IsLegal s h → HasVersion s h key o → key_of o ≡ key
version_keyed s h key o legal has = keyed (writes s h) key o (lawful s h legal) has

-- no uid stands under two keys
pub uid_has_one_key : (s : Setting) (h : List Entry) (j k : Key) (o p : Object) → IsLegal s h → HasVersion s h j o → HasVersion s h k p → uid_of o ≡ uid_of p → j ≡ k
uid_has_one_key s h j k o p legal a b same = one_key (writes s h) j k o p (lawful s h legal) a b same
