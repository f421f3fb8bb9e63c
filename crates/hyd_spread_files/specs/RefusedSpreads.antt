-- Why no run can begin for the spread of a text, and the line that is printed then.
-- Source: this program's.
use Rattle.std.specs.Prelude.{◌≡◌, ℕ, suc, ◌+◌, ◌⊎◌, List, Some, slice_get, Option}
use Rattle.std.specs.Option.{option_map_or}
use Rattle.hyd_net.specs.declared.refusal_cause.Cause.{Cause}
use Rattle.hyd_net.specs.declared.refusal_cause.Cause.TheVariants.{Range}
use Rattle.hyd_spec.specs.ProgramTypes.{Project, Capacity}
use Rattle.hyd_spec.specs.Lists.{Each}
use Rattle.hyd_spec.specs.NodeNumbers.{junction_count}
use Rattle.hyd_spec_lines.specs.WordsOfLines.{text_lines}
use Rattle.hyd_spec_spread_rows.specs.declared.Subject.{Subject}
use Rattle.hyd_spec_spread_rows.specs.declared.Subject.TheVariants.{Emitter, Head}
use Rattle.hyd_spec_spread_rows.specs.TextsOfSpreads.{rows_of, spread_in}
use Rattle.hyd_spec_spread_starts.specs.StartsOfSpreads.{place_for, IsFaultForRun, CanBegin}
use Rattle.hyd_spread_networks.specs.HeadsBySpreads.{HeadsStay}
use Rattle.hyd_spread_networks.specs.NetsOfSpreads.{KnownEmitter, IsOutermost, known_emitters}
use Rattle.hyd_spread_networks.specs.RefusedSpreads.{IsFirstEmitter, IsFirstHead}
use Rattle.hyd_report.specs.RefusedText.{refused_spread_line}
use Rattle.hyd_command_answers.specs.declared.status.Status.{Status}
use Rattle.hyd_command_answers.specs.declared.status.Status.TheVariants.{InputRefused, WriteFault, Stalled}
use Rattle.hyd_command_answers.specs.DeskContents.{Seen, OnlyPrinted, OnlyPrintedFront}

-- ---- faults

-- The line, counted from 1, of the row that counts for a node, or 0 where no row speaks of it.
abbrev pub line_of : Project → Subject → ℕ → List ℕ → ℕ
line_of project subject node text =
    option_map_or (λ place. suc place) (place_for project subject (rows_of (text_lines text)) node) 0

-- A text with which a run could begin lets a head of a reservoir leave the range of heads: the fault is out of range,
-- in the line of the row that counts for the first such reservoir.
pub record IsFaultOfHeads (project : Project) (text : List ℕ) (line : ℕ) (cause : Cause) : Type 0 where
  pub begins : CanBegin project text
  pub reservoir : ℕ
  pub first : IsFirstHead project (spread_in project text) reservoir
  pub line_is : line ≡ line_of project Head (junction_count project + reservoir) text
  pub cause_is : cause ≡ Range

-- One that lets none gives an emitter a coefficient that none can have: the fault is out of range, in the line of the
-- row that counts for the first such junction.
pub record IsFaultOfEmitters (project : Project) (text : List ℕ) (line : ℕ) (cause : Cause) : Type 0 where
  pub begins : CanBegin project text
  pub heads : Each project.reservoirs.list (HeadsStay project (spread_in project text))
  pub junction : ℕ
  pub first : IsFirstEmitter project (spread_in project text) junction
  pub line_is : line ≡ line_of project Emitter junction text
  pub cause_is : cause ≡ Range

-- The fault of a text for a run: that of its rows or of the start; or where it has none, that of heads, or of emitters.
abbrev pub IsSpreadFault : Project → List ℕ → ℕ → Cause → Type 0
IsSpreadFault project text line cause =
    IsFaultForRun project text line cause
    ⊎ (IsFaultOfHeads project text line cause ⊎ IsFaultOfEmitters project text line cause)

-- A text gives a run: it has no fault, and leaves no doubt at the start; and each head of a reservoir stays in range,
-- and each emitter has outermost coefficients.
pub record GivesRun (project : Project) (text : List ℕ) : Type 0 where
  pub begins : CanBegin project text
  pub heads : Each project.reservoirs.list (HeadsStay project (spread_in project text))
  pub emitters : (j : ℕ) (known : KnownEmitter)
      → slice_get (known_emitters project (spread_in project text)) j ≡ Some known
      → (emitter : Option Capacity) × IsOutermost known emitter

-- ---- refusals

-- Refused, and the line of the fault alone was printed; or a fault of the outside.
abbrev pub AnswersSpreadRefused : ℕ → Cause → Status → Seen → Seen → Type 0
AnswersSpreadRefused line cause InputRefused before now = OnlyPrinted (refused_spread_line line cause) before now
AnswersSpreadRefused line cause WriteFault before now = OnlyPrintedFront (refused_spread_line line cause) before now
AnswersSpreadRefused line cause Stalled before now = OnlyPrintedFront (refused_spread_line line cause) before now
AnswersSpreadRefused line cause status before now = ⊥

-- The text has a fault, and so it was answered.
pub record RefusesSpread (project : Project) (text : List ℕ) (status : Status) (before now : Seen) : Type 0 where
  pub line : ℕ
  pub cause : Cause
  pub is_fault : IsSpreadFault project text line cause
  pub answers : AnswersSpreadRefused line cause status before now

-- One line of a refused spread was printed, and nothing was created or written.
pub record PrintsSpreadRefusal (before now : Seen) : Type 0 where
  pub line : ℕ
  pub cause : Cause
  pub only : OnlyPrinted (refused_spread_line line cause) before now
