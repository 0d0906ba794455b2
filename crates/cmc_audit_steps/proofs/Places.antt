-- Lines of which only the place is looked at.
use Rattle.std.proofs.Common.{◌≡◌, ℕ, ℤ, List, Bool, refl}
use Rattle.cmc_meta.specs.declared.key.Key.{Key}
use Rattle.cmc_meta.specs.declared.key.Kind.{Kind}
use Rattle.cmc_objects.specs.declared.role.Role.{Role}
use Rattle.cmc_objects.specs.declared.entry.Cause.{Cause}
use Rattle.cmc_objects.specs.declared.entry.Positions.{Positions}
use Rattle.cmc_objects.specs.declared.orders.Signing.{Signing}
use Rattle.cmc_objects.specs.declared.entry.Entry.{Entry}
use Rattle.cmc_objects.specs.declared.entry.Entry.TheVariants.{Script, Deliver, List as Listed, Begin, Made, Signed, Answered, Judged, End, Stop, Start, Tick}
use Rattle.cmc_model.specs.Histories.{Setting}
use Rattle.cmc_lines.specs.declared.line.PrintedLine.TheVariants as lines
use Rattle.cmc_lines.specs.Shown.{line_of_entry}
use Rattle.cmc_audit_clauses.specs.declared.clause.Clause.{Clause}
use Rattle.cmc_audit_clauses.specs.declared.clause.Clause.TheVariants as clauses
use Rattle.cmc_audit_clauses.specs.Clauses.{Holds, IsPlaced}
use Rattle.cmc_audit_steps.proofs.Going.{IsPlain}

only_script : (step : ℕ) (x : Entry) → line_of_entry x ≡ lines.Script step → x ≡ Script step
only_script step (Script a0) is = cc is
only_script step other is = absurd (cc is)

rest_script : (step : ℕ) (s : Setting) (h : List Entry) → IsPlaced s h (Script step) → (clause : Clause) → Holds clause s h (Script step)
rest_script step s h placed clauses.Place = placed
rest_script step s h placed other = tt

pub plain_script : (step : ℕ) → IsPlain (Script step) (lines.Script step)
plain_script step = record { only = only_script step; shows = refl; named = λ s h. tt; rest = rest_script step }

only_deliver : (role : Role) (kind : Kind) (to : ℕ) (x : Entry) → line_of_entry x ≡ lines.Deliver role kind to → x ≡ Deliver role kind to
only_deliver role kind to (Deliver a0 a1 a2) is = cc is
only_deliver role kind to other is = absurd (cc is)

rest_deliver : (role : Role) (kind : Kind) (to : ℕ) (s : Setting) (h : List Entry) → IsPlaced s h (Deliver role kind to) → (clause : Clause) → Holds clause s h (Deliver role kind to)
rest_deliver role kind to s h placed clauses.Place = placed
rest_deliver role kind to s h placed other = tt

pub plain_deliver : (role : Role) (kind : Kind) (to : ℕ) → IsPlain (Deliver role kind to) (lines.Deliver role kind to)
plain_deliver role kind to = record { only = only_deliver role kind to; shows = refl; named = λ s h. tt; rest = rest_deliver role kind to }

only_list : (role : Role) (kind : Kind) (to : ℕ) (x : Entry) → line_of_entry x ≡ lines.List role kind to → x ≡ Listed role kind to
only_list role kind to (Listed a0 a1 a2) is = cc is
only_list role kind to other is = absurd (cc is)

rest_list : (role : Role) (kind : Kind) (to : ℕ) (s : Setting) (h : List Entry) → IsPlaced s h (Listed role kind to) → (clause : Clause) → Holds clause s h (Listed role kind to)
rest_list role kind to s h placed clauses.Place = placed
rest_list role kind to s h placed other = tt

pub plain_list : (role : Role) (kind : Kind) (to : ℕ) → IsPlain (Listed role kind to) (lines.List role kind to)
plain_list role kind to = record { only = only_list role kind to; shows = refl; named = λ s h. tt; rest = rest_list role kind to }

only_begin : (pass : ℕ) (role : Role) (key : Key) (at : Positions) (now : ℤ) (x : Entry) → line_of_entry x ≡ lines.Begin pass role key at now → x ≡ Begin pass role key at now
only_begin pass role key at now (Begin a0 a1 a2 a3 a4) is = cc is
only_begin pass role key at now other is = absurd (cc is)

rest_begin : (pass : ℕ) (role : Role) (key : Key) (at : Positions) (now : ℤ) (s : Setting) (h : List Entry) → IsPlaced s h (Begin pass role key at now) → (clause : Clause) → Holds clause s h (Begin pass role key at now)
rest_begin pass role key at now s h placed clauses.Place = placed
rest_begin pass role key at now s h placed other = tt

pub plain_begin : (pass : ℕ) (role : Role) (key : Key) (at : Positions) (now : ℤ) → IsPlain (Begin pass role key at now) (lines.Begin pass role key at now)
plain_begin pass role key at now = record { only = only_begin pass role key at now; shows = refl; named = λ s h. tt; rest = rest_begin pass role key at now }

only_made : (pass : ℕ) (key : List ℕ) (x : Entry) → line_of_entry x ≡ lines.Made pass key → x ≡ Made pass key
only_made pass key (Made a0 a1) is = cc is
only_made pass key other is = absurd (cc is)

rest_made : (pass : ℕ) (key : List ℕ) (s : Setting) (h : List Entry) → IsPlaced s h (Made pass key) → (clause : Clause) → Holds clause s h (Made pass key)
rest_made pass key s h placed clauses.Place = placed
rest_made pass key s h placed other = tt

pub plain_made : (pass : ℕ) (key : List ℕ) → IsPlain (Made pass key) (lines.Made pass key)
plain_made pass key = record { only = only_made pass key; shows = refl; named = λ s h. tt; rest = rest_made pass key }

only_signed : (pass : ℕ) (signature : List ℕ) (x : Entry) → line_of_entry x ≡ lines.Signed pass signature → x ≡ Signed pass signature
only_signed pass signature (Signed a0 a1) is = cc is
only_signed pass signature other is = absurd (cc is)

rest_signed : (pass : ℕ) (signature : List ℕ) (s : Setting) (h : List Entry) → IsPlaced s h (Signed pass signature) → (clause : Clause) → Holds clause s h (Signed pass signature)
rest_signed pass signature s h placed clauses.Place = placed
rest_signed pass signature s h placed other = tt

pub plain_signed : (pass : ℕ) (signature : List ℕ) → IsPlain (Signed pass signature) (lines.Signed pass signature)
plain_signed pass signature = record { only = only_signed pass signature; shows = refl; named = λ s h. tt; rest = rest_signed pass signature }

only_answer : (pass : ℕ) (answer : Signing) (x : Entry) → line_of_entry x ≡ lines.Answered pass answer → x ≡ Answered pass answer
only_answer pass answer (Answered a0 a1) is = cc is
only_answer pass answer other is = absurd (cc is)

rest_answer : (pass : ℕ) (answer : Signing) (s : Setting) (h : List Entry) → IsPlaced s h (Answered pass answer) → (clause : Clause) → Holds clause s h (Answered pass answer)
rest_answer pass answer s h placed clauses.Place = placed
rest_answer pass answer s h placed other = tt

pub plain_answer : (pass : ℕ) (answer : Signing) → IsPlain (Answered pass answer) (lines.Answered pass answer)
plain_answer pass answer = record { only = only_answer pass answer; shows = refl; named = λ s h. tt; rest = rest_answer pass answer }

only_judge : (pass : ℕ) (told : Bool) (x : Entry) → line_of_entry x ≡ lines.Judged pass told → x ≡ Judged pass told
only_judge pass told (Judged a0 a1) is = cc is
only_judge pass told other is = absurd (cc is)

rest_judge : (pass : ℕ) (told : Bool) (s : Setting) (h : List Entry) → IsPlaced s h (Judged pass told) → (clause : Clause) → Holds clause s h (Judged pass told)
rest_judge pass told s h placed clauses.Place = placed
rest_judge pass told s h placed other = tt

pub plain_judge : (pass : ℕ) (told : Bool) → IsPlain (Judged pass told) (lines.Judged pass told)
plain_judge pass told = record { only = only_judge pass told; shows = refl; named = λ s h. tt; rest = rest_judge pass told }

only_end : (pass : ℕ) (cause : Cause) (x : Entry) → line_of_entry x ≡ lines.End pass cause → x ≡ End pass cause
only_end pass cause (End a0 a1) is = cc is
only_end pass cause other is = absurd (cc is)

rest_end : (pass : ℕ) (cause : Cause) (s : Setting) (h : List Entry) → IsPlaced s h (End pass cause) → (clause : Clause) → Holds clause s h (End pass cause)
rest_end pass cause s h placed clauses.Place = placed
rest_end pass cause s h placed other = tt

pub plain_end : (pass : ℕ) (cause : Cause) → IsPlain (End pass cause) (lines.End pass cause)
plain_end pass cause = record { only = only_end pass cause; shows = refl; named = λ s h. tt; rest = rest_end pass cause }

only_stop : (role : Role) (x : Entry) → line_of_entry x ≡ lines.Stop role → x ≡ Stop role
only_stop role (Stop a0) is = cc is
only_stop role other is = absurd (cc is)

rest_stop : (role : Role) (s : Setting) (h : List Entry) → IsPlaced s h (Stop role) → (clause : Clause) → Holds clause s h (Stop role)
rest_stop role s h placed clauses.Place = placed
rest_stop role s h placed other = tt

pub plain_stop : (role : Role) → IsPlain (Stop role) (lines.Stop role)
plain_stop role = record { only = only_stop role; shows = refl; named = λ s h. tt; rest = rest_stop role }

only_start : (role : Role) (at : ℕ) (x : Entry) → line_of_entry x ≡ lines.Start role at → x ≡ Start role at
only_start role at (Start a0 a1) is = cc is
only_start role at other is = absurd (cc is)

rest_start : (role : Role) (at : ℕ) (s : Setting) (h : List Entry) → IsPlaced s h (Start role at) → (clause : Clause) → Holds clause s h (Start role at)
rest_start role at s h placed clauses.Place = placed
rest_start role at s h placed other = tt

pub plain_start : (role : Role) (at : ℕ) → IsPlain (Start role at) (lines.Start role at)
plain_start role at = record { only = only_start role at; shows = refl; named = λ s h. tt; rest = rest_start role at }

only_tick : (now : ℤ) (x : Entry) → line_of_entry x ≡ lines.Tick now → x ≡ Tick now
only_tick now (Tick a0) is = cc is
only_tick now other is = absurd (cc is)

rest_tick : (now : ℤ) (s : Setting) (h : List Entry) → IsPlaced s h (Tick now) → (clause : Clause) → Holds clause s h (Tick now)
rest_tick now s h placed clauses.Place = placed
rest_tick now s h placed other = tt

pub plain_tick : (now : ℤ) → IsPlain (Tick now) (lines.Tick now)
plain_tick now = record { only = only_tick now; shows = refl; named = λ s h. tt; rest = rest_tick now }
