-- What is known of the text of a spread that is refused, and of a text of NET that is.
use Rattle.std.proofs.Common.{◌≡◌, ◌≢◌, ℕ, ◌<◌, ◌^◌, List, length, ◌⊎◌, inl, inr, ◌∙◌, refl, sym, subst, arith}
use Rattle.hyd_io.specs.DeskCounts.{with_opened}
use Rattle.hyd_io.specs.declared.desk.Openings.{Openings}
use Rattle.hyd_net.specs.declared.refusal_cause.Cause.{Cause}
use Rattle.hyd_net.specs.declared.refusal_cause.Cause.TheVariants.{Limit}
use Rattle.hyd_spec.specs.ProgramTypes.{Project}
use Rattle.hyd_command_answers.specs.DeskContents.{Seen, OnlyPrinted, OnlyPrintedFront, OnlyPrintedSome}
use Rattle.hyd_command_answers.specs.FaultsAndRefusals.{AnswersRefused}
use Rattle.hyd_command_answers.specs.declared.status.Status.{Status}
use Rattle.hyd_command_answers.specs.declared.status.Status.TheVariants.{Done, OutOfMemory, Usage, ReadFault}
use Rattle.hyd_command_answers.specs.declared.status.Status.TheVariants.{WriteFault}
use Rattle.hyd_command_answers.specs.declared.status.Status.TheVariants.{InputRefused, Undecided, RoundsSpent, Demand}
use Rattle.hyd_command_answers.specs.declared.status.Status.TheVariants.{CertificateRefused, Stalled}
use Rattle.hyd_spread_files.specs.RefusedSpreads.{IsSpreadFault, RefusesSpread, AnswersSpreadRefused}
use Rattle.hyd_spread_files.specs.SpreadFiles.{IsNoSpread}
use Rattle.hyd_spread_files.specs.NetsRead.{EndsAtNet}

-- ---- a text that is too long

-- it isn't that of no spread
pub long-is-some : (text : List ℕ) → 2 ^ 26 < length text → IsNoSpread text → ⊥
long-is-some text long none =
    let short = none.short in
    absurd (omega (arith, long, short))

-- it has that fault
pub long-fault : (project : Project) (text : List ℕ) → 2 ^ 26 < length text → IsSpreadFault project text 0 (Limit 1)
long-fault project text long = inl (inl (inl (long, refl, refl)))

pub refuses-long : (project : Project) (text : List ℕ) (status : Status) (before now : Seen) → 2 ^ 26 < length text
    → AnswersSpreadRefused 0 (Limit 1) status before now → RefusesSpread project text status before now
refuses-long project text status before now long answers = record {
  line = 0;
  cause = Limit 1;
  is_fault = long-fault project text long;
  answers = answers;
}

-- ---- what a refusal leaves

pub never-memory : (line : ℕ) (cause : Cause) (status : Status) (before now : Seen)
    → AnswersSpreadRefused line cause status before now → status ≢ OutOfMemory
never-memory line cause status before now h = λ e.
    subst (λ (s : Status). AnswersSpreadRefused line cause s before now) e h

pub line_prints : (line : List ℕ) (before now : Seen) → OnlyPrinted line before now → OnlyPrintedSome before now
line_prints line before now h = record { files = h.files; written = h.written; text = line; printed = h.printed }

pub front_prints : (line : List ℕ) (before now : Seen) → OnlyPrintedFront line before now → OnlyPrintedSome before now
front_prints line before now h = record {
  files = h.files;
  written = h.written;
  text = h.printed.1.front;
  printed = h.printed.1.out;
}

pub refusal_prints : (line : ℕ) (cause : Cause) (status : Status) (before now : Seen)
    → AnswersSpreadRefused line cause status before now → OnlyPrintedSome before now
refusal_prints line cause Done before now h = absurd h
refusal_prints line cause OutOfMemory before now h = absurd h
refusal_prints line cause Usage before now h = absurd h
refusal_prints line cause ReadFault before now h = absurd h
refusal_prints line cause WriteFault before now h = front_prints _ before now h
refusal_prints line cause InputRefused before now h = line_prints _ before now h
refusal_prints line cause Undecided before now h = absurd h
refusal_prints line cause RoundsSpent before now h = absurd h
refusal_prints line cause Demand before now h = absurd h
refusal_prints line cause CertificateRefused before now h = absurd h
refusal_prints line cause Stalled before now h = front_prints _ before now h

-- ---- files that were opened

-- a text of NET that is refused ends the command
pub refusal-ends : (line : ℕ) (cause : Cause) (status : Status) (before now : Seen) (start opened end : Openings)
    → AnswersRefused line cause status before now → opened ≡ with_opened start → end ≡ opened
    → EndsAtNet status start end
refusal-ends line cause Done before now start opened end h o e = absurd h
refusal-ends line cause OutOfMemory before now start opened end h o e = inr (e ∙ o)
refusal-ends line cause Usage before now start opened end h o e = absurd h
refusal-ends line cause ReadFault before now start opened end h o e = e ∙ o
refusal-ends line cause WriteFault before now start opened end h o e = e ∙ o
refusal-ends line cause InputRefused before now start opened end h o e = e ∙ o
refusal-ends line cause Undecided before now start opened end h o e = absurd h
refusal-ends line cause RoundsSpent before now start opened end h o e = absurd h
refusal-ends line cause Demand before now start opened end h o e = absurd h
refusal-ends line cause CertificateRefused before now start opened end h o e = absurd h
refusal-ends line cause Stalled before now start opened end h o e = e ∙ o

-- so does a text that couldn't be had
pub ended-at-net : (status : Status) (start end : Openings) → (status ≡ ReadFault) ⊎ (status ≡ OutOfMemory)
    → end ≡ with_opened start → EndsAtNet status start end
ended-at-net status start end (inl e) o = subst (λ (s : Status). EndsAtNet s start end) (sym e) o
ended-at-net status start end (inr e) o = subst (λ (s : Status). EndsAtNet s start end) (sym e) (inr o)
