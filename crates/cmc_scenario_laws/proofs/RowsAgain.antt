-- Rows of keys and issuers that were read are printed as rows that are read again.
use Rattle.std.proofs.Common.{◌≡◌, ℕ, List, [], ◌∷◌, true, Ok, Option, Some, None, refl, ap, drop, codes}
use Rattle.std.specs.Prelude.{if◌then◌else◌, ◌==◌, IfSome}
use Rattle.std.specs.List.{AllByRecursion}
use Rattle.std.specs.Str.{bytes_eq}
use Rattle.std.proofs.lemmas.Slice.Eq.{bytes_eq-Decides}
use Rattle.base64.specs.GeneralPurpose.{IsBytes}
use Rattle.serde_json.specs.Data.{Data, string, object}
use Rattle.cmc_objects.specs.declared.rows.Rows.{Rows}
use Rattle.cmc_objects.specs.declared.rows.KeyRow.{KeyRow}
use Rattle.cmc_objects.specs.declared.rows.KeyRow.TheVariants as key_rows
use Rattle.cmc_objects.specs.declared.rows.SignRow.{SignRow}
use Rattle.cmc_objects.specs.declared.rows.SignRow.TheVariants as signs
use Rattle.cmc_cursor.specs.Members.{under, Field, fields_of, fields_at, optional_at, required_at, at_end}
use Rattle.cmc_cursor.specs.Readers.{text_at, count_at, bytes_at, passes, text_member}
use Rattle.cmc_cursor.proofs.Always.{Always, so, failed, next, after, below, either}
use Rattle.cmc_print.specs.Trees.{natural}
use Rattle.cmc_print.specs.Puts.{base64_text}
use Rattle.cmc_material.specs.Lists.{numbered_at, member_or, member_option, bounded_at}
use Rattle.cmc_material.specs.MaterialRows.{synthetic_in, key_row_in, key_row_at, issue_in, pending_in, fail_in, raw_in, no_reply_in, reply_row_in, reply_row_at, key_rows_at, reply_rows_at, rows_at}
use Rattle.cmc_scenario_print.specs.Defaults.{is_usual_message}
use Rattle.cmc_scenario_print.specs.RowTrees.{key_row_tree, sign_row_members, sign_row_tree, rows_tree}
use Rattle.cmc_codec.proofs.Slots.{slots, start, bind, next_is, required_is, put_is, some_option, put_option_is, some_list, put_list_is}
use Rattle.cmc_scenario_laws.proofs.Names.{word_is}
use Rattle.cmc_codec.proofs.ObjectsAgain.{bytes_again}
use Rattle.cmc_scenario_laws.specs.Rows.{HasKeyBytes, HasReplyBytes, HaveRowBytes}
use Rattle.cmc_scenario_laws.proofs.Members.{some_unless, put_unless_is, unless_given, option_given, list_given, option_so, each_count, bounded_again, is_zero, Again, numbered_again, trees_of, list_again, list_so}

abbrev Places : Type 0
Places = List (List ℕ × Option Data)

-- ---- keys

abbrev IsKeyAgain : KeyRow → Type 0
IsKeyAgain = Again HasKeyBytes key_row_at key_row_tree

synthetic_again : (n : ℕ) → key_row_at (key_row_tree (key_rows.Synthetic n)) ≡ Ok (key_rows.Synthetic n)
unfolding key_row_at key_row_in synthetic_in
synthetic_again n = refl

der_again : (bytes : List ℕ) → IsBytes bytes → key_row_at (key_row_tree (key_rows.Der bytes)) ≡ Ok (key_rows.Der bytes)
unfolding key_row_at key_row_in
der_again bytes are = rw (bytes_again bytes are) refl

synthetic_so : (given : Option Data) (fs : List Field) → Always IsKeyAgain (synthetic_in given fs)
unfolding synthetic_in
synthetic_so None fs = next IsKeyAgain (at_end fs) _ (λ end. failed [])
synthetic_so (Some d) fs = next IsKeyAgain (under (codes "synthetic") (count_at d)) _ (λ n. next IsKeyAgain (at_end fs) _ (λ end. so (λ are. synthetic_again n)))

key_form_so : (der : Option Data) (fs : List Field) → Always IsKeyAgain (key_row_in der fs)
unfolding key_row_in
key_form_so None fs = next IsKeyAgain (optional_at (codes "synthetic") fs) _ (λ given. synthetic_so given.0 given.1)
key_form_so (Some d) fs = next IsKeyAgain (under (codes "der") (bytes_at d)) _ (λ bytes. next IsKeyAgain (at_end fs) _ (λ end. so (λ are. der_again bytes are)))

key_row_so : (d : Data) → Always IsKeyAgain (key_row_at d)
unfolding key_row_at
key_row_so d = next IsKeyAgain (fields_at d) _ (λ fs. next IsKeyAgain (optional_at (codes "der") fs) _ (λ der. key_form_so der.0 der.1))

-- ---- issuers

abbrev pub IsReplyAgain : SignRow → Type 0
IsReplyAgain = Again HasReplyBytes reply_row_at sign_row_tree

abbrev issue_places : Option Data → Option Data → Option Data → Option Data → Option Data → Option Data → Places
issue_places before ca key reply seconds serial =
    (codes "before", before) ∷ (codes "ca", ca) ∷ (codes "key", key) ∷ (codes "reply", reply) ∷ (codes "seconds", seconds) ∷ (codes "serial", serial) ∷ []

abbrev places_of_issue : Option ℕ → ℕ → Option ℕ → Option ℕ → List ℕ → Places
places_of_issue seconds before serial key ca =
    issue_places (some_unless (before == 0) natural before) (some_list base64_text ca) (some_option natural key) (Some (string (codes "issue"))) (some_option natural seconds) (some_option natural serial)

issue_printed : (seconds : Option ℕ) (before : ℕ) (serial key : Option ℕ) (ca : List ℕ) → sign_row_members (signs.Issue seconds before serial key ca) ≡ slots (places_of_issue seconds before serial key ca)
unfolding sign_row_members
issue_printed seconds before serial key ca =
    let first = put_unless_is (before == 0) natural (codes "before") before (start {ss = issue_places None None None None None None} refl) refl in
    let second = put_list_is base64_text (codes "ca") ca first refl in
    let third = put_option_is natural (codes "key") key second refl in
    let fourth = put_is (codes "reply") (string (codes "issue")) third refl in
    let fifth = put_option_is natural (codes "seconds") seconds fourth refl in
    let sixth = put_option_is natural (codes "serial") serial fifth refl in
    sixth.same

abbrev IsEarly : ℕ → Type 0
IsEarly before = bounded_at 0 86400 (natural before) ≡ Ok before

abbrev IsLife : Option ℕ → Type 0
IsLife seconds = IfSome seconds (λ n. bounded_at 1 3153600000 (natural n) ≡ Ok n)

issue_in_again : (seconds : Option ℕ) (before : ℕ) (serial key : Option ℕ) (ca : List ℕ) → IsEarly before → IsLife seconds → IsBytes ca
    → issue_in (fields_of (slots (places_of_issue seconds before serial key ca))) ≡ Ok (signs.Issue seconds before serial key ca)
unfolding issue_in
issue_in_again seconds before serial key ca early life are =
    let ps = places_of_issue seconds before serial key ca in
    (bind _ _ _ _ (next_is (codes "before") (some_unless (before == 0) natural before) (drop 1 ps) refl)
    (bind _ _ _ _ (unless_given 0 (bounded_at 0 86400) natural (codes "before") (before == 0) before (is_zero before) early)
    (bind _ _ _ _ (next_is (codes "ca") (some_list base64_text ca) (drop 2 ps) refl)
    (bind _ _ _ _ (list_given bytes_at base64_text (codes "ca") ca (bytes_again ca are))
    (bind _ _ _ _ (next_is (codes "key") (some_option natural key) (drop 3 ps) refl)
    (bind _ _ _ _ (option_given count_at natural (codes "key") key (each_count key))
    (bind _ _ _ _ (required_is (codes "reply") (string (codes "issue")) (drop 4 ps) refl)
    (bind _ _ _ _ (next_is (codes "seconds") (some_option natural seconds) (drop 5 ps) refl)
    (bind _ _ _ _ (option_given (bounded_at 1 3153600000) natural (codes "seconds") seconds life)
    (bind _ _ _ _ (next_is (codes "serial") (some_option natural serial) [] refl)
    (bind _ _ _ _ (option_given count_at natural (codes "serial") serial (each_count serial)) refl)))))))))))

issue_again : (seconds : Option ℕ) (before : ℕ) (serial key : Option ℕ) (ca : List ℕ) → IsEarly before → IsLife seconds → IsBytes ca
    → reply_row_at (sign_row_tree (signs.Issue seconds before serial key ca)) ≡ Ok (signs.Issue seconds before serial key ca)
unfolding reply_row_at
issue_again seconds before serial key ca early life are =
    rw (issue_printed seconds before serial key ca, word_is (codes "reply") (codes "issue") (places_of_issue seconds before serial key ca) refl refl)
    (issue_in_again seconds before serial key ca early life are)

pending_again : reply_row_at (sign_row_tree signs.Pending) ≡ Ok signs.Pending
unfolding reply_row_at sign_row_members pending_in required_at
pending_again = refl

abbrev fail_places : Option Data → Option Data → Places
fail_places message reply = (codes "message", message) ∷ (codes "reply", reply) ∷ []

abbrev places_of_fail : List ℕ → Places
places_of_fail message = fail_places (some_unless (is_usual_message message) string message) (Some (string (codes "fail")))

fail_printed : (message : List ℕ) → sign_row_members (signs.Fail message) ≡ slots (places_of_fail message)
unfolding sign_row_members
fail_printed message =
    let first = put_unless_is (is_usual_message message) string (codes "message") message (start {ss = fail_places None None} refl) refl in
    let second = put_is (codes "reply") (string (codes "fail")) first refl in
    second.same

usual_is : (message : List ℕ) → is_usual_message message ≡ true → message ≡ codes "The issuer refused"
usual_is message h = (bytes_eq-Decides message (codes "The issuer refused")).0 h

fail_in_again : (message : List ℕ) → fail_in (fields_of (slots (places_of_fail message))) ≡ Ok (signs.Fail message)
unfolding fail_in
fail_in_again message =
    let ps = places_of_fail message in
    (bind _ _ _ _ (next_is (codes "message") (some_unless (is_usual_message message) string message) (drop 1 ps) refl)
    (bind _ _ _ _ (unless_given (codes "The issuer refused") text_at string (codes "message") (is_usual_message message) message (usual_is message) refl)
    (bind _ _ _ _ (required_is (codes "reply") (string (codes "fail")) [] refl) refl)))

fail_again : (message : List ℕ) → reply_row_at (sign_row_tree (signs.Fail message)) ≡ Ok (signs.Fail message)
unfolding reply_row_at
fail_again message =
    rw (fail_printed message, word_is (codes "reply") (codes "fail") (places_of_fail message) refl refl) (fail_in_again message)

raw_again : (der : List ℕ) → IsBytes der → reply_row_at (sign_row_tree (signs.Raw der)) ≡ Ok (signs.Raw der)
unfolding reply_row_at sign_row_members raw_in required_at
raw_again der are = rw (bytes_again der are) refl

before_so : (given : Option Data) → Always IsEarly (member_or 0 (codes "before") (bounded_at 0 86400) given)
before_so None = so refl
before_so (Some d) = below IsEarly (codes "before") (bounded_at 0 86400 d) (bounded_again 0 86400 d)

life_so : (given : Option Data) → Always IsLife (member_option (codes "seconds") (bounded_at 1 3153600000) given)
life_so given = option_so (λ n. bounded_at 1 3153600000 (natural n) ≡ Ok n) (codes "seconds") (bounded_at 1 3153600000) given (bounded_again 1 3153600000)

issue_so : (fs : List Field) → Always IsReplyAgain (issue_in fs)
unfolding issue_in
issue_so fs =
    next IsReplyAgain (optional_at (codes "before") fs) _ (λ first. after IsEarly IsReplyAgain (member_or 0 (codes "before") (bounded_at 0 86400) first.0) _ (before_so first.0)
    (λ before early. next IsReplyAgain (optional_at (codes "ca") first.1) _ (λ second. next IsReplyAgain (member_or [] (codes "ca") bytes_at second.0) _
    (λ ca. next IsReplyAgain (optional_at (codes "key") second.1) _ (λ third. next IsReplyAgain (member_option (codes "key") count_at third.0) _
    (λ key. next IsReplyAgain (required_at (codes "reply") third.1) _
    (λ word. next IsReplyAgain (optional_at (codes "seconds") word.1) _ (λ fourth. after IsLife IsReplyAgain (member_option (codes "seconds") (bounded_at 1 3153600000) fourth.0) _ (life_so fourth.0)
    (λ seconds life. next IsReplyAgain (optional_at (codes "serial") fourth.1) _ (λ fifth. next IsReplyAgain (member_option (codes "serial") count_at fifth.0) _
    (λ serial. next IsReplyAgain (at_end fifth.1) _ (λ end. so (λ are. issue_again seconds before serial key ca early life are)))))))))))))

pending_so : (fs : List Field) → Always IsReplyAgain (pending_in fs)
unfolding pending_in
pending_so fs = next IsReplyAgain (required_at (codes "reply") fs) _ (λ word. next IsReplyAgain (at_end word.1) _ (λ end. so (λ are. pending_again)))

fail_so : (fs : List Field) → Always IsReplyAgain (fail_in fs)
unfolding fail_in
fail_so fs = next IsReplyAgain (optional_at (codes "message") fs) _ (λ given. next IsReplyAgain (member_or (codes "The issuer refused") (codes "message") text_at given.0) _
    (λ message. next IsReplyAgain (required_at (codes "reply") given.1) _ (λ word. next IsReplyAgain (at_end word.1) _ (λ end. so (λ are. fail_again message)))))

raw_so : (fs : List Field) → Always IsReplyAgain (raw_in fs)
unfolding raw_in
raw_so fs = next IsReplyAgain (required_at (codes "der") fs) _ (λ given. next IsReplyAgain (under (codes "der") (bytes_at given.0)) _
    (λ der. next IsReplyAgain (required_at (codes "reply") given.1) _ (λ word. next IsReplyAgain (at_end word.1) _ (λ end. so (λ are. raw_again der are)))))

no_reply_so : (fs : List Field) → Always IsReplyAgain (no_reply_in fs)
unfolding no_reply_in
no_reply_so fs =
    next IsReplyAgain (optional_at (codes "before") fs) _ (λ before. next IsReplyAgain (passes (codes "before") before.0) _
    (λ first. next IsReplyAgain (optional_at (codes "ca") before.1) _ (λ ca. next IsReplyAgain (passes (codes "ca") ca.0) _
    (λ second. next IsReplyAgain (optional_at (codes "der") ca.1) _ (λ der. next IsReplyAgain (passes (codes "der") der.0) _
    (λ third. next IsReplyAgain (optional_at (codes "key") der.1) _ (λ key. next IsReplyAgain (passes (codes "key") key.0) _
    (λ fourth. next IsReplyAgain (optional_at (codes "message") key.1) _ (λ message. next IsReplyAgain (passes (codes "message") message.0) _
    (λ fifth. next IsReplyAgain (required_at (codes "reply") message.1) _ (λ word. failed (codes "reply" ∷ []))))))))))))

reply_form_so : (word : Option (List ℕ)) (fs : List Field) → Always IsReplyAgain (reply_row_in word fs)
reply_form_so None fs = no_reply_so fs
reply_form_so (Some word) fs =
    let last = either IsReplyAgain (bytes_eq word (codes "raw")) (raw_in fs) (no_reply_in fs) (raw_so fs) (no_reply_so fs) in
    let third = either IsReplyAgain (bytes_eq word (codes "fail")) (fail_in fs) (if bytes_eq word (codes "raw") then raw_in fs else no_reply_in fs) (fail_so fs) last in
    let second = either IsReplyAgain (bytes_eq word (codes "pending")) (pending_in fs) (if bytes_eq word (codes "fail") then fail_in fs else (if bytes_eq word (codes "raw") then raw_in fs else no_reply_in fs)) (pending_so fs) third in
    either IsReplyAgain (bytes_eq word (codes "issue")) (issue_in fs) (if bytes_eq word (codes "pending") then pending_in fs else (if bytes_eq word (codes "fail") then fail_in fs else (if bytes_eq word (codes "raw") then raw_in fs else no_reply_in fs))) (issue_so fs) second

pub reply_row_so : (d : Data) → Always IsReplyAgain (reply_row_at d)
unfolding reply_row_at
reply_row_so d = next IsReplyAgain (fields_at d) (reply_row_in (text_member (codes "reply") d)) (λ fs. reply_form_so (text_member (codes "reply") d) fs)

-- ---- rows of one Certificate

abbrev pub AreRowsAgain : Rows → Type 0
AreRowsAgain = Again HaveRowBytes rows_at rows_tree

abbrev rows_places : Option Data → Option Data → Places
rows_places keys replies = (codes "keys", keys) ∷ (codes "replies", replies) ∷ []

abbrev places_of_rows : Rows → Places
places_of_rows rows = rows_places (some_list (trees_of key_row_tree) rows.keys) (some_list (trees_of sign_row_tree) rows.replies)

rows_printed : (rows : Rows) → rows_tree rows ≡ object (slots (places_of_rows rows))
unfolding rows_tree
rows_printed rows =
    let first = put_list_is (trees_of key_row_tree) (codes "keys") rows.keys (start {ss = rows_places None None} refl) refl in
    let second = put_list_is (trees_of sign_row_tree) (codes "replies") rows.replies first refl in
    ap object second.same

rows_again : (rows : Rows) → member_or [] (codes "keys") key_rows_at (some_list (trees_of key_row_tree) rows.keys) ≡ Ok rows.keys
    → member_or [] (codes "replies") reply_rows_at (some_list (trees_of sign_row_tree) rows.replies) ≡ Ok rows.replies → rows_at (rows_tree rows) ≡ Ok rows
unfolding rows_at
rows_again rows named said =
    let ps = places_of_rows rows in
    rw (rows_printed rows)
    (bind _ _ _ _ (next_is (codes "keys") (some_list (trees_of key_row_tree) rows.keys) (drop 1 ps) refl)
    (bind _ _ _ _ named
    (bind _ _ _ _ (next_is (codes "replies") (some_list (trees_of sign_row_tree) rows.replies) [] refl)
    (bind _ _ _ _ said refl))))

keys_so : (d : Data) → Always (Again (AllByRecursion HasKeyBytes) key_rows_at (trees_of key_row_tree)) (key_rows_at d)
keys_so d = list_again HasKeyBytes (numbered_at key_row_at) key_row_tree (numbered_again HasKeyBytes key_row_at key_row_tree key_row_so) d

replies_so : (d : Data) → Always (Again (AllByRecursion HasReplyBytes) reply_rows_at (trees_of sign_row_tree)) (reply_rows_at d)
replies_so d = list_again HasReplyBytes (numbered_at reply_row_at) sign_row_tree (numbered_again HasReplyBytes reply_row_at sign_row_tree reply_row_so) d

abbrev AreKeysGiven : List KeyRow → Type 0
AreKeysGiven rows = AllByRecursion HasKeyBytes rows → member_or [] (codes "keys") key_rows_at (some_list (trees_of key_row_tree) rows) ≡ Ok rows

abbrev AreRepliesGiven : List SignRow → Type 0
AreRepliesGiven rows = AllByRecursion HasReplyBytes rows → member_or [] (codes "replies") reply_rows_at (some_list (trees_of sign_row_tree) rows) ≡ Ok rows

pub rows_so : (d : Data) → Always AreRowsAgain (rows_at d)
unfolding rows_at
rows_so d =
    next AreRowsAgain (fields_at d) _ (λ fs. next AreRowsAgain (optional_at (codes "keys") fs) _
    (λ first. after AreKeysGiven AreRowsAgain (member_or [] (codes "keys") key_rows_at first.0) _ (list_so HasKeyBytes key_rows_at key_row_tree (codes "keys") first.0 keys_so)
    (λ keys named. next AreRowsAgain (optional_at (codes "replies") first.1) _
    (λ second. after AreRepliesGiven AreRowsAgain (member_or [] (codes "replies") reply_rows_at second.0) _ (list_so HasReplyBytes reply_rows_at sign_row_tree (codes "replies") second.0 replies_so)
    (λ replies said. next AreRowsAgain (at_end second.1) _ (λ end. so (λ are. rows_again (record { keys = keys; replies = replies }) (named are.0) (said are.1))))))))
