-- The text of closures for a spread as far as they were put in at a pen.
-- Source: this program's.
use Rattle.std.specs.Prelude.{◌≡◌, ℕ, Bool, IsTrue, List, [], ◌++◌, length, map, take, if◌then◌else◌}
use Rattle.std.specs.List.{AllZip}
use Rattle.hyd_num.specs.Rational.{Rational}
use Rattle.hyd_spec.specs.ProgramTypes.{Project}
use Rattle.hyd_spec.specs.Lists.{joined}
use Rattle.hyd_spec_reports.specs.ReportLine.{done_line}
use Rattle.hyd_spec_pressure_targets.specs.FirstPeriod.{pipes_of}
use Rattle.hyd_spec_spread.specs.Spreads.{Spread}
use Rattle.hyd_spec_targets_within.specs.PromisesWithinSpreads.{ClosureWithin, IsClosureWithin, closure_text}

-- the text of the closures of the first pipes, and of their number where these are all
pub record AreSoFarWithin (project : Project) (spread : Spread) (target : Rational) (rounds : ℕ) (text : List ℕ)
    : Type 0 where
  pub closures : List ClosureWithin
  pub each : AllZip (IsClosureWithin project spread target rounds) (take (length closures) (pipes_of project)) closures
  pub is_whole : Bool
  pub all : IsTrue is_whole → length closures ≡ length (pipes_of project)
  pub is_text : text ≡ joined (map (closure_text project) closures)
      ++ (if is_whole then done_line (length closures) else [])
