-- Texts of times and of events, as the program makes them.
-- Source: this program's format.
use Rattle.std.specs.Prelude.{ℕ, ◌+◌, ◌==◌, List, [], ◌∷◌, ◌++◌, codes, if◌then◌else◌}
use Rattle.std.specs.Fmt.{decimal}
use Rattle.hyd_spec_certificates.specs.declared.EventKind.{EventKind}
use Rattle.hyd_spec_certificates.specs.declared.EventKind.TheVariants.{Full, Empty, Control}
use Rattle.hyd_spec_reports.specs.ReportLine.{clock_text}

-- behind the first second of a time: where it is open, a space and the last second
abbrev pub last_text : ℕ → ℕ → List ℕ
last_text time late = if late == 0 then [] else 32 ∷ clock_text (time + late)

-- what a tank reached: its maximum, its minimum, or the level of a control
abbrev pub event_text : EventKind → List ℕ
event_text Full = codes "FULL"
event_text Empty = codes "EMPTY"
event_text (Control number) = codes "CONTROL " ++ decimal (number + 1)
