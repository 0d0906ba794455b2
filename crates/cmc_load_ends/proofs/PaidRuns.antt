-- The entries of all passes of a plain run of a load are paid for by its writes.
use Rattle.std.proofs.Common.{◌≡◌, ◌≤◌, List, [], ◌∷◌, refl, inl, inr, arith}
use Rattle.cmc_objects.specs.declared.entry.Who.TheVariants.{User, Pass}
use Rattle.cmc_objects.specs.declared.entry.Entry.{Entry}
use Rattle.cmc_objects.specs.declared.entry.Entry.TheVariants.{Script, Call as Called, Deliver, List as Listed, Begin, Ask, Made, Signed, Answered, Judged, End, Stop, Start, Tick}
use Rattle.cmc_pass.specs.declared.value.Value.TheVariants as values
use Rattle.cmc_model.specs.Histories.{Setting}
use Rattle.cmc_rules.specs.Legality.{IsLegal}
use Rattle.cmc_rules.specs.Causes.{IsCaused}
use Rattle.cmc_safety.specs.Formed.{IsFormed}
use Rattle.cmc_safety.proofs.InProgress.{IsPlayed, played_below}
use Rattle.cmc_load_ends.proofs.PaidCalls.{call_pays}
use Rattle.cmc_load_ends.proofs.PaidPasses.{Pays, ask_pays, begin_pays, end_pays, entries_of_passes, paid_for, still_paid, the_one, value_pays}
use Rattle.cmc_load_ends.proofs.PlainEntries.{ArePlain}

pays : (s : Setting) (h : List Entry) → IsFormed s → s.faults ≡ [] → IsPlayed s h → ArePlain s h → Pays s h
unfolding IsLegal IsCaused
pays s [] formed none o plain = inl (record { closed = λ n. refl; low = omega arith })
pays s (Script step ∷ h) formed none o plain =
    let p = still_paid s h plain.0 (pays s h formed none (played_below s (Script step) h o) plain.1) in inl (record { closed = p.closed; low = p.low })
pays s (Called User call reply ∷ h) formed none o plain =
    let p = still_paid s h plain.0.0 (pays s h formed none (played_below s (Called User call reply) h o) plain.1) in inl (record { closed = p.closed; low = p.low })
pays s (Called (Pass n) call reply ∷ h) formed none o plain =
    let below = played_below s (Called (Pass n) call reply) h o in
    let only = the_one s h n o.legal.0.1 (pays s h formed none below plain.1) in
    inr (n, call_pays s h n call formed none below plain.0.1 only o.caused.0 reply plain.0.0 o.legal.0.0)
pays s (Deliver role kind to ∷ h) formed none o plain =
    let p = still_paid s h plain.0.0 (pays s h formed none (played_below s (Deliver role kind to) h o) plain.1) in inl (record { closed = p.closed; low = p.low })
pays s (Listed role kind to ∷ h) formed none o plain =
    let p = still_paid s h plain.0.0 (pays s h formed none (played_below s (Listed role kind to) h o) plain.1) in inl (record { closed = p.closed; low = p.low })
pays s (Begin n role key at now ∷ h) formed none o plain =
    inr (n, begin_pays s h n role key at now o.legal.0.present (still_paid s h plain.0.0 (pays s h formed none (played_below s (Begin n role key at now) h o) plain.1)))
pays s (Ask n order ∷ h) formed none o plain = inr (n, ask_pays s h n order (the_one s h n o.legal.0 (pays s h formed none (played_below s (Ask n order) h o) plain.1)) o.caused.0)
pays s (Made n key ∷ h) formed none o plain =
    inr (n, value_pays s h n (Made n key) (values.Made key) (the_one s h n o.legal.0 (pays s h formed none (played_below s (Made n key) h o) plain.1)) (λ m. refl) refl refl refl refl refl o.caused.0)
pays s (Signed n signature ∷ h) formed none o plain =
    inr (n, value_pays s h n (Signed n signature) (values.Signed signature) (the_one s h n o.legal.0 (pays s h formed none (played_below s (Signed n signature) h o) plain.1)) (λ m. refl) refl refl refl refl refl o.caused.0)
pays s (Answered n answer ∷ h) formed none o plain =
    inr (n, value_pays s h n (Answered n answer) (values.Answered answer) (the_one s h n o.legal.0 (pays s h formed none (played_below s (Answered n answer) h o) plain.1)) (λ m. refl) refl refl refl refl refl o.caused.0)
pays s (Judged n approved ∷ h) formed none o plain =
    inr (n, value_pays s h n (Judged n approved) (values.Judged approved) (the_one s h n o.legal.0 (pays s h formed none (played_below s (Judged n approved) h o) plain.1)) (λ m. refl) refl refl refl refl refl o.caused.0)
pays s (End n cause ∷ h) formed none o plain = inl (end_pays s h n cause (the_one s h n o.legal.0 (pays s h formed none (played_below s (End n cause) h o) plain.1)) o.caused.0)
pays s (Stop role ∷ h) formed none o plain = absurd plain.0
pays s (Start role at ∷ h) formed none o plain = absurd plain.0
pays s (Tick now ∷ h) formed none o plain =
    let p = still_paid s h plain.0 (pays s h formed none (played_below s (Tick now) h o) plain.1) in inl (record { closed = p.closed; low = p.low })

pub entries_paid : (s : Setting) (h : List Entry) → IsFormed s → s.faults ≡ [] → IsPlayed s h → ArePlain s h → entries_of_passes h ≤ paid_for s h
entries_paid s h formed none o plain = by (pays s h formed none o plain) where
  by : Pays s h → entries_of_passes h ≤ paid_for s h
  by (inl p) = let low = p.low in omega (arith, low)
  by (inr (n, only)) = let low = only.low in omega (arith, low)
