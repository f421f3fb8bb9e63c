-- The bytes of the report of a run for a spread. Its second line counts what the spread leaves open, so that nobody
-- reads the intervals as those of the file's network alone.
-- Source: this program's format.
use Rattle.std.specs.Prelude.{ℕ, ◌==◌, ◌&&◌, Bool, not, List, [], ◌∷◌, ◌++◌, length, map, filter, codes}
use Rattle.std.specs.Prelude.{is_some, if◌then◌else◌}
use Rattle.std.specs.Fmt.{decimal}
use Rattle.std.specs.Ordering.{int_eq}
use Rattle.hyd_spec.specs.ProgramTypes.{Project, Junction, Reservoir, Tank}
use Rattle.hyd_spec.specs.Lists.{joined, map_from}
use Rattle.hyd_spec_certificates.specs.CertificateText.{line}
use Rattle.hyd_spec_certificates.specs.Interval.{Interval}
use Rattle.hyd_spec_open_reports.specs.OpenReportLine.{OpenLine, open_line_text}
use Rattle.hyd_spec_spread.specs.Spreads.{Factors, Spread, demand_factors, emitter_factors, head_offsets, level_interval}

-- ---- what a spread leaves open

-- the factors, or the numbers of an interval, are more than one
abbrev pub are_several : Factors → Bool
are_several factors = not (factors.least == factors.greatest)

abbrev pub is_wide : Interval → Bool
is_wide interval = not (int_eq interval.lo interval.hi)

-- how many of a list are true
abbrev pub how_many : List Bool → ℕ
how_many answers = length (filter (λ answer. answer) answers)

-- how many demands of junctions
abbrev pub demands_left : Project → Spread → ℕ
demands_left project spread =
    how_many (map_from (λ j (junction : Junction). are_several (demand_factors spread j)) 0 project.junctions.list)

-- how many coefficients of emitters
abbrev pub emitters_left : Project → Spread → ℕ
emitters_left project spread =
    how_many (map_from (λ j (junction : Junction). is_some junction.emitter && are_several (emitter_factors spread j)) 0
    project.junctions.list)

-- how many heads of reservoirs
abbrev pub heads_left : Project → Spread → ℕ
heads_left project spread =
    how_many (map_from (λ r (reservoir : Reservoir). is_wide (head_offsets spread r)) 0 project.reservoirs.list)

-- how many initial levels of tanks
abbrev pub levels_left : Project → Spread → ℕ
levels_left project spread =
    how_many (map_from (λ k (tank : Tank). is_wide (level_interval spread k tank)) 0 project.tanks.list)

-- ---- texts

-- `SPREAD d e h l`: how many demands, emitters, heads of reservoirs and initial levels are left open
abbrev pub spread_line : Project → Spread → List ℕ
spread_line project spread =
    line (codes "SPREAD" ∷ (decimal (demands_left project spread) ∷ (decimal (emitters_left project spread)
    ∷ (decimal (heads_left project spread) ∷ (decimal (levels_left project spread) ∷ [])))))

-- A spread says nothing of any node: there is none.
abbrev pub says_nothing : Spread → Bool
says_nothing spread =
    (length spread.demands == 0) && ((length spread.emitters == 0)
    && ((length spread.heads == 0) && (length spread.levels == 0)))

-- The second line of a report, which only one for a spread has.
abbrev pub second_line : Project → Spread → List ℕ
second_line project spread = if says_nothing spread then [] else spread_line project spread

-- The report of some lines and a last one: it begins with the line `HYD 1` and the line of the spread.
abbrev pub spread_report_text : Project → Spread → List OpenLine → List ℕ → List ℕ
spread_report_text project spread lines last =
    line (codes "HYD" ∷ (decimal 1 ∷ [])) ++ (second_line project spread
    ++ (joined (map (open_line_text project) lines) ++ last))
