-- The lines of a report in which a time may be known to lie between two seconds, and the bytes of each. Nodes, links,
-- controls and rules are given by their numbers, counted from 0.
-- Source: this program's format.
use Rattle.std.specs.Prelude.{ℕ, ◌+◌, ◌==◌, List, [], ◌∷◌, ◌++◌, map, codes, if◌then◌else◌}
use Rattle.std.specs.Fmt.{decimal}
use Rattle.hyd_spec.specs.ProgramTypes.{Project}
use Rattle.hyd_spec.specs.Lists.{joined}
use Rattle.hyd_spec_certificates.specs.CertificateText.{line}
use Rattle.hyd_spec_reports.specs.ReportLine.{ReportLine, ControlLine, FilledLine, EmptiedLine, ReachedLine}
use Rattle.hyd_spec_reports.specs.ReportLine.{clock_text, tank_id, link_id, given_words, line_words}

-- A line, and how many seconds its time is open: what it tells happens from its time to that many seconds later.
pub record OpenLine : Type 0 where
  pub line : ReportLine
  pub late : ℕ

-- A line whose time is known to the second.
abbrev pub known_line : ReportLine → OpenLine
known_line told = record { line = told; late = 0 }

-- ---- words

-- A time before further words: as h:mm:ss, and where it is open so the last second that it may be.
abbrev pub with_clock : ℕ → ℕ → List (List ℕ) → List (List ℕ)
with_clock time late rest =
    clock_text time ∷ (if late == 0 then rest else clock_text (time + late) ∷ rest)

-- What happened to a tank (its ID) at such a time.
abbrev pub open_event_words : List ℕ → ℕ → ℕ → List (List ℕ) → List (List ℕ)
open_event_words id time late what = codes "EVENT" ∷ with_clock time late (codes "TANK" ∷ (id ∷ what))

-- The words of a line whose time is open so many seconds. Rules end a period at a known second, and what a report time
-- has is told of a known one: such lines have their one time, whatever is open.
abbrev pub open_words : Project → ℕ → ReportLine → List (List ℕ)
open_words project late (ControlLine time number link state) =
    codes "CONTROL" ∷ (decimal (number + 1) ∷ with_clock time late (given_words (link_id project link) state))
open_words project late (FilledLine time tank) =
    open_event_words (tank_id project tank) time late (codes "FULL" ∷ [])
open_words project late (EmptiedLine time tank) =
    open_event_words (tank_id project tank) time late (codes "EMPTY" ∷ [])
open_words project late (ReachedLine time tank control) =
    open_event_words (tank_id project tank) time late (codes "CONTROL" ∷ (decimal (control + 1) ∷ []))
open_words project late told = line_words project told

-- The bytes of a line.
abbrev pub open_line_text : Project → OpenLine → List ℕ
open_line_text project each = line (open_words project each.late each.line)

-- The report of some lines and a last one: it begins with the line `HYD 1`.
abbrev pub open_report_text : Project → List OpenLine → List ℕ → List ℕ
open_report_text project lines last =
    line (codes "HYD" ∷ (decimal 1 ∷ [])) ++ (joined (map (open_line_text project) lines) ++ last)
