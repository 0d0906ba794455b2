-- The verdict on the lines of a history at which nothing fails is yes.
use Rattle.std.proofs.Common.{◌≡◌, ◌⊎◌, ℕ, List, [], ◌∷◌, ◌++◌, length, map, suc, refl, ap, ◌∙◌, inl, inr}
use Rattle.cmc_objects.specs.declared.entry.Entry.{Entry}
use Rattle.cmc_model.specs.Histories.{Setting, objects}
use Rattle.cmc_lines.specs.declared.line.PrintedLine.{PrintedLine}
use Rattle.cmc_lines.specs.Shown.{line_of_entry}
use Rattle.cmc_audit_clauses.specs.declared.clause.Clause.{Clause}
use Rattle.cmc_audit_clauses.specs.declared.clause.Verdict.{Verdict}
use Rattle.cmc_audit_clauses.specs.declared.clause.Verdict.TheVariants.{Yes, No}
use Rattle.cmc_audit_clauses.specs.Clauses.{Holds}
use Rattle.cmc_audit_steps.specs.Meant.{AreNamedEntries, IsNamedEntry, IsMeant}
use Rattle.cmc_audit_steps.specs.Steps.{IsClean}
use Rattle.cmc_audit.specs.Verdicts.{counted, FailsFirst, IsVerdict}
use Rattle.cmc_audit_laws.specs.AuditedYes.{IsAuditedYes}

-- an entry of the history, with what stood before it
record IsPlace (s : Setting) (line : PrintedLine) (before : List PrintedLine) : Type 0 where
  h : List Entry
  e : Entry
  meant : IsMeant s before h
  shows : line_of_entry e ≡ line
  named : IsNamedEntry s h e
  clean : (clause : Clause) → Holds clause s h e

tail_same : (l m : PrintedLine) (ls ms : List PrintedLine) → (l ∷ ls) ≡ (m ∷ ms) → ls ≡ ms
tail_same l m ls ms e = cc e

head_same : (l m : PrintedLine) (ls ms : List PrintedLine) → (l ∷ ls) ≡ (m ∷ ms) → l ≡ m
head_same l m ls ms e = cc e

place_of : (s : Setting) (h : List Entry) (later : List PrintedLine) (line : PrintedLine) (before : List PrintedLine) → AreNamedEntries s h → IsClean s h → map line_of_entry h ≡ later ++ (line ∷ before) → IsPlace s line before
unfolding AreNamedEntries IsClean
place_of s [] [] line before named clean parts = absurd (cc parts)
place_of s [] (l ∷ later) line before named clean parts = absurd (cc parts)
place_of s (e ∷ h) [] line before named clean parts = record {
  h = h;
  e = e;
  meant = record { shows = tail_same (line_of_entry e) line (map line_of_entry h) before parts; named = named.1 };
  shows = head_same (line_of_entry e) line (map line_of_entry h) before parts;
  named = named.0;
  clean = clean.0;
}
place_of s (e ∷ h) (l ∷ later) line before named clean parts =
    place_of s h later line before named.1 clean.1 (tail_same (line_of_entry e) l (map line_of_entry h) (later ++ (line ∷ before)) parts)

-- the lines of a history are as many as its entries
shown_length : (h : List Entry) → length (map line_of_entry h) ≡ length h
shown_length [] = refl
shown_length (e ∷ h) = ap (λ (n : ℕ). suc n) (shown_length h)

pub audited_yes : (s : Setting) (h : List Entry) → AreNamedEntries s h → IsClean s h → IsAuditedYes s h
audited_yes s h named clean counts (Yes entries) right is = ap Yes (is.all ∙ shown_length h)
audited_yes s h named clean counts (No entry clause) right (inl fails) =
    absurd (let p = place_of s h fails.later fails.line fails.before named clean fails.parts in (fails.fails p.h p.e p.meant p.shows p.named).1 (p.clean clause))
audited_yes s h named clean counts (No entry clause) right (inr miss) = absurd (miss.miss h (record { shows = refl; named = named }) right)
