-- What is read of keys and issuers has the form of a scenario.
use Rattle.std.proofs.Common.{◌≡◌, ℕ, List, [], ◌∷◌, true, Option, Some, None, refl, codes}
use Rattle.std.specs.Prelude.{if◌then◌else◌, nat_le, ◌&&◌}
use Rattle.std.specs.List.{list_all}
use Rattle.std.specs.Str.{bytes_eq}
use Rattle.std.specs.declared.cmp.Ordering.{Ordering}
use Rattle.std.specs.declared.cmp.Ordering.TheVariants.{Less, Equal, Greater}
use Rattle.std.specs.Ordering.{match_ordering}
use Rattle.std.specs.BTreeMap.{insert_entry}
use Rattle.std.proofs.lemmas.Bool.{and_from, and_parts}
use Rattle.serde_json.specs.Data.{Data, null, boolean, number, string, array, object, Members, no_members, member}
use Rattle.cmc_meta.specs.declared.key.Key.{Key}
use Rattle.cmc_meta.specs.declared.key.Kind.TheVariants.{Certificate}
use Rattle.cmc_meta.specs.Keys.{key_cmp}
use Rattle.cmc_objects.specs.declared.rows.Rows.{Rows}
use Rattle.cmc_objects.specs.declared.rows.KeyRow.{KeyRow}
use Rattle.cmc_objects.specs.declared.rows.SignRow.{SignRow}
use Rattle.cmc_objects.specs.Requests.{is_row_form, is_lifetime}
use Rattle.cmc_setup.specs.Forms.{is_certificate, is_key_row_form, is_rows_form, is_entry_form, is_material_form, is_said}
use Rattle.cmc_cursor.specs.Members.{under, Field, fields_at, optional_at, required_at, at_end}
use Rattle.cmc_cursor.specs.Readers.{text_at, count_at, bytes_at, name_in}
use Rattle.cmc_cursor.specs.Readers.{passes, text_member}
use Rattle.cmc_material.specs.Keys.{key_of_kind, split_slash}
use Rattle.cmc_material.specs.Lists.{numbered_at, member_or, member_option, bounded_at}
use Rattle.cmc_material.specs.MaterialRows.{synthetic_in, key_row_in, key_row_at, issue_in, pending_in, fail_in, raw_in, no_reply_in, reply_row_in, reply_row_at, key_rows_at, reply_rows_at, rows_at, certificate_key_at, certificate_rows_at, material_with, material_at}
use Rattle.cmc_cursor.proofs.Always.{Always, so, failed, next, after, below, either, further}
use Rattle.cmc_material.proofs.ListForms.{of_member_or, of_member_option, of_bounded, of_numbered, of_list}

abbrev IsKeyRow : KeyRow → Type 0
IsKeyRow row = is_key_row_form row ≡ true

of_synthetic : (given : Option Data) (fs : List Field) → Always IsKeyRow (synthetic_in given fs)
unfolding synthetic_in
of_synthetic None fs = next (IsKeyRow) (at_end fs) _ (λ end. failed [])
of_synthetic (Some d) fs = next (IsKeyRow) (under (codes "synthetic") (count_at d)) _ (λ n. next (IsKeyRow) (at_end fs) _ (λ end. so refl))

of_key_form : (der : Option Data) (fs : List Field) → Always IsKeyRow (key_row_in der fs)
unfolding key_row_in
of_key_form None fs = next (IsKeyRow) (optional_at (codes "synthetic") fs) _ (λ given. of_synthetic given.0 given.1)
of_key_form (Some d) fs = next (IsKeyRow) (under (codes "der") (bytes_at d)) _ (λ bytes. next (IsKeyRow) (at_end fs) _ (λ end. so refl))

of_key_row : (d : Data) → Always IsKeyRow (key_row_at d)
unfolding key_row_at
of_key_row d = next (IsKeyRow) (fields_at d) _ (λ fs. next (IsKeyRow) (optional_at (codes "der") fs) _ (λ der. of_key_form der.0 der.1))

abbrev AreKeyRows : List KeyRow → Type 0
AreKeyRows rows = list_all is_key_row_form rows ≡ true

of_key_rows : (d : Data) → Always AreKeyRows (key_rows_at d)
of_key_rows d = of_list is_key_row_form (numbered_at key_row_at) (of_numbered IsKeyRow key_row_at of_key_row) d

-- ---- issuers

-- the row says which answer it is, within the bounds
abbrev pub IsSaid : SignRow → Type 0
IsSaid row = (is_said row ≡ true) × (is_row_form row ≡ true)

abbrev IsEarly : ℕ → Type 0
IsEarly n = nat_le n 86400 ≡ true

of_before : (given : Option Data) → Always IsEarly (member_or 0 (codes "before") (bounded_at 0 86400) given)
of_before given = of_member_or IsEarly 0 (codes "before") (bounded_at 0 86400) given refl
    (λ d. further (λ n. (nat_le 0 n && nat_le n 86400) ≡ true) IsEarly (bounded_at 0 86400 d) (λ n is. (and_parts (nat_le 0 n) (nat_le n 86400) is).1) (of_bounded 0 86400 d))

abbrev IsLife : Option ℕ → Type 0
IsLife seconds = is_lifetime seconds ≡ true

of_life : (given : Option Data) → Always IsLife (member_option (codes "seconds") (bounded_at 1 3153600000) given)
of_life given = of_member_option (λ n. (nat_le 1 n && nat_le n 3153600000) ≡ true) IsLife (codes "seconds") (bounded_at 1 3153600000) given refl (λ n is. is) (of_bounded 1 3153600000)

of_issue : (fs : List Field) → Always IsSaid (issue_in fs)
unfolding issue_in
of_issue fs = next (IsSaid) (optional_at (codes "before") fs) _ (λ first. after (IsEarly) (IsSaid) (member_or 0 (codes "before") (bounded_at 0 86400) first.0) _ (of_before first.0) (λ before early. next (IsSaid) (optional_at (codes "ca") first.1) _ (λ second. next (IsSaid) (member_or [] (codes "ca") bytes_at second.0) _ (λ ca. next (IsSaid) (optional_at (codes "key") second.1) _ (λ third. next (IsSaid) (member_option (codes "key") count_at third.0) _ (λ key. next (IsSaid) (required_at (codes "reply") third.1) _ (λ word. next (IsSaid) (optional_at (codes "seconds") word.1) _ (λ fourth. after (IsLife) (IsSaid) (member_option (codes "seconds") (bounded_at 1 3153600000) fourth.0) _ (of_life fourth.0) (λ seconds life. next (IsSaid) (optional_at (codes "serial") fourth.1) _ (λ fifth. next (IsSaid) (member_option (codes "serial") count_at fifth.0) _ (λ serial. next (IsSaid) (at_end fifth.1) _ (λ end. so (refl, and_from (is_lifetime seconds) (nat_le before 86400) life early)))))))))))))

of_pending : (fs : List Field) → Always IsSaid (pending_in fs)
unfolding pending_in
of_pending fs = next (IsSaid) (required_at (codes "reply") fs) _ (λ word. next (IsSaid) (at_end word.1) _ (λ end. so (refl, refl)))

of_fail : (fs : List Field) → Always IsSaid (fail_in fs)
unfolding fail_in
of_fail fs = next (IsSaid) (optional_at (codes "message") fs) _ (λ given. next (IsSaid) (member_or (codes "The issuer refused") (codes "message") text_at given.0) _ (λ message. next (IsSaid) (required_at (codes "reply") given.1) _ (λ word. next (IsSaid) (at_end word.1) _ (λ end. so (refl, refl)))))

of_raw : (fs : List Field) → Always IsSaid (raw_in fs)
unfolding raw_in
of_raw fs = next (IsSaid) (required_at (codes "der") fs) _ (λ given. next (IsSaid) (under (codes "der") (bytes_at given.0)) _ (λ der. next (IsSaid) (required_at (codes "reply") given.1) _ (λ word. next (IsSaid) (at_end word.1) _ (λ end. so (refl, refl)))))

of_no_reply : (fs : List Field) → Always IsSaid (no_reply_in fs)
unfolding no_reply_in
of_no_reply fs = next (IsSaid) (optional_at (codes "before") fs) _ (λ before. next (IsSaid) (passes (codes "before") before.0) _ (λ first. next (IsSaid) (optional_at (codes "ca") before.1) _ (λ ca. next (IsSaid) (passes (codes "ca") ca.0) _ (λ second. next (IsSaid) (optional_at (codes "der") ca.1) _ (λ der. next (IsSaid) (passes (codes "der") der.0) _ (λ third. next (IsSaid) (optional_at (codes "key") der.1) _ (λ key. next (IsSaid) (passes (codes "key") key.0) _ (λ fourth. next (IsSaid) (optional_at (codes "message") key.1) _ (λ message. next (IsSaid) (passes (codes "message") message.0) _ (λ fifth. next (IsSaid) (required_at (codes "reply") message.1) _ (λ word. failed (codes "reply" ∷ []))))))))))))

of_reply_form : (word : Option (List ℕ)) (fs : List Field) → Always IsSaid (reply_row_in word fs)
of_reply_form None fs = of_no_reply fs
of_reply_form (Some word) fs =
    let last = either IsSaid (bytes_eq word (codes "raw")) (raw_in fs) (no_reply_in fs) (of_raw fs) (of_no_reply fs) in
    let third = either IsSaid (bytes_eq word (codes "fail")) (fail_in fs) (if bytes_eq word (codes "raw") then raw_in fs else no_reply_in fs) (of_fail fs) last in
    let second = either IsSaid (bytes_eq word (codes "pending")) (pending_in fs) (if bytes_eq word (codes "fail") then fail_in fs else (if bytes_eq word (codes "raw") then raw_in fs else no_reply_in fs)) (of_pending fs) third in
    either IsSaid (bytes_eq word (codes "issue")) (issue_in fs) (if bytes_eq word (codes "pending") then pending_in fs else (if bytes_eq word (codes "fail") then fail_in fs else (if bytes_eq word (codes "raw") then raw_in fs else no_reply_in fs))) (of_issue fs) second

pub of_reply_row : (d : Data) → Always IsSaid (reply_row_at d)
unfolding reply_row_at
of_reply_row d = next IsSaid (fields_at d) (reply_row_in (text_member (codes "reply") d)) (λ fs. of_reply_form (text_member (codes "reply") d) fs)

abbrev AreReplyRows : List SignRow → Type 0
AreReplyRows rows = list_all is_row_form rows ≡ true

of_reply_rows : (d : Data) → Always AreReplyRows (reply_rows_at d)
of_reply_rows d = of_list is_row_form (numbered_at reply_row_at)
    (of_numbered (λ row. is_row_form row ≡ true) reply_row_at (λ e. further IsSaid (λ row. is_row_form row ≡ true) (reply_row_at e) (λ row is. is.1) (of_reply_row e))) d

-- ---- rows by Certificate

abbrev IsRows : Rows → Type 0
IsRows rows = is_rows_form rows ≡ true

of_rows : (d : Data) → Always IsRows (rows_at d)
unfolding rows_at
of_rows d = next (IsRows) (fields_at d) _ (λ fs. next (IsRows) (optional_at (codes "keys") fs) _ (λ first. after (AreKeyRows) (IsRows) (member_or [] (codes "keys") key_rows_at first.0) _ (of_member_or AreKeyRows [] (codes "keys") key_rows_at first.0 refl of_key_rows) (λ keys named. next (IsRows) (optional_at (codes "replies") first.1) _ (λ second. after (AreReplyRows) (IsRows) (member_or [] (codes "replies") reply_rows_at second.0) _ (of_member_or AreReplyRows [] (codes "replies") reply_rows_at second.0 refl of_reply_rows) (λ replies said. next (IsRows) (at_end second.1) _ (λ end. so (and_from (list_all is_key_row_form keys) (list_all is_row_form replies) named said)))))))

abbrev pub IsCertificate : Key → Type 0
IsCertificate key = is_certificate key ≡ true

of_certificate : (t : List ℕ) → Always IsCertificate (key_of_kind Certificate t)
unfolding key_of_kind
of_certificate t = next (IsCertificate) (split_slash t) _ (λ parts. next (IsCertificate) (name_in parts.0) _ (λ namespace. next (IsCertificate) (name_in parts.1) _ (λ name. so refl)))

pub of_certificate_text : (d : Data) → Always IsCertificate (certificate_key_at d)
of_certificate_text d = next IsCertificate (text_at d) (key_of_kind Certificate) of_certificate

abbrev IsEntry : Key × Rows → Type 0
IsEntry entry = IsCertificate entry.0 × IsRows entry.1

of_entry : (name : List ℕ) (d : Data) → Always IsEntry (certificate_rows_at name d)
unfolding certificate_rows_at
of_entry name d = after (IsCertificate) (IsEntry) (key_of_kind Certificate name) _ (of_certificate name) (λ certificate is. after (IsRows) (IsEntry) (rows_at d) _ (of_rows d) (λ rows formed. so (is, formed)))

abbrev pub IsMaterial : List (Key × Rows) → Type 0
IsMaterial material = is_material_form material ≡ true

either_way : {A : Type 0} (P : A → Type 0) (o : Ordering) (a b c : A) → P a → P b → P c → P (match_ordering o a b c)
either_way P Less a b c x y z = x
either_way P Equal a b c x y z = y
either_way P Greater a b c x y z = z

-- one more entry at its place
entry_put : (material : List (Key × Rows)) (certificate : Key) (rows : Rows) → IsCertificate certificate → IsRows rows → IsMaterial material → IsMaterial (insert_entry key_cmp material certificate rows)
entry_put [] certificate rows is formed all = and_from (is_entry_form (certificate, rows)) true (and_from (is_certificate certificate) (is_rows_form rows) is formed) refl
entry_put (e ∷ es) certificate rows is formed all =
    let here : is_entry_form e ≡ true = (and_parts (is_entry_form e) (list_all is_entry_form es) all).0 in
    let rest : IsMaterial es = (and_parts (is_entry_form e) (list_all is_entry_form es) all).1 in
    let old : is_certificate e.0 ≡ true = (and_parts (is_certificate e.0) (is_rows_form e.1) here).0 in
    either_way IsMaterial (key_cmp certificate e.0) ((certificate, rows) ∷ e ∷ es) ((e.0, rows) ∷ es) (e ∷ insert_entry key_cmp es certificate rows)
    (and_from (is_entry_form (certificate, rows)) (list_all is_entry_form (e ∷ es)) (and_from (is_certificate certificate) (is_rows_form rows) is formed) all)
    (and_from (is_entry_form (e.0, rows)) (list_all is_entry_form es) (and_from (is_certificate e.0) (is_rows_form rows) old formed) rest)
    (and_from (is_entry_form e) (list_all is_entry_form (insert_entry key_cmp es certificate rows)) here (entry_put es certificate rows is formed rest))

of_entries : (material : List (Key × Rows)) (ms : Members) → IsMaterial material → Always IsMaterial (material_with material ms)
of_entries material no_members all = so all
of_entries material (member name d ms) all =
    after IsEntry IsMaterial (under name (certificate_rows_at name d)) _ (below IsEntry name (certificate_rows_at name d) (of_entry name d))
    (λ entry is. of_entries (insert_entry key_cmp material entry.0 entry.1) ms (entry_put material entry.0 entry.1 is.0 is.1 all))

of_listed : (d : Data) → Always IsMaterial (material_at d)
of_listed (object ms) = of_entries [] ms refl
of_listed null = failed []
of_listed (boolean b) = failed []
of_listed (number n) = failed []
of_listed (string s) = failed []
of_listed (array ds) = failed []

pub of_material : (given : Option Data) → Always IsMaterial (member_or [] (codes "material") material_at given)
of_material given = of_member_or IsMaterial [] (codes "material") material_at given refl of_listed
