-- The text of closures as far as they were put in at a pen.
-- Source: this program's.
use Rattle.std.specs.Prelude.{◌≡◌, ℕ, Bool, IsTrue, List, [], ◌++◌, length, map, take, if◌then◌else◌, Some, None}
use Rattle.std.specs.List.{AllZip}
use Rattle.hyd_num.specs.Rational.{Rational}
use Rattle.hyd_spec.specs.ProgramTypes.{Project, Link}
use Rattle.hyd_spec.specs.Lists.{joined, map_from, present}
use Rattle.hyd_spec_certificates.specs.declared.LevelSpan.{LevelSpan}
use Rattle.hyd_spec_reports.specs.ReportLine.{done_line}
use Rattle.hyd_spec_pressure_targets.specs.declared.ClosureWord.{ClosureWord}
use Rattle.hyd_spec_pressure_targets.specs.FirstPeriod.{is_pipe, pipes_of}
use Rattle.hyd_spec_pressure_targets.specs.PromisesOfTargets.{Closure, IsClosure, closure_text}
use Rattle.hyd_fire.specs.StudyView.{StudyView}
use Rattle.hyd_fire.specs.SidesOfClosures.{word_by}
use Rattle.hyd_fire.specs.declared.answers.Sides.{Sides}

-- the words of all junctions, by what a closure left
abbrev pub words_by : StudyView → Sides → List LevelSpan → List ClosureWord
words_by left sides targets = map_from (λ j target. word_by left sides j target) 0 targets

-- the pipes among the first links
abbrev pub pipes_among : List Link → List ℕ
pipes_among links = present (map_from (λ l (link : Link). if is_pipe link.kind then Some l else None) 0 links)

-- the text of the closures of the first pipes, and of their number where these are all
pub record AreSoFar (project : Project) (target : Rational) (rounds : ℕ) (text : List ℕ) : Type 0 where
  pub closures : List Closure
  pub each : AllZip (IsClosure project target rounds) (take (length closures) (pipes_of project)) closures
  pub is_whole : Bool
  pub all : IsTrue is_whole → length closures ≡ length (pipes_of project)
  pub is_text : text ≡ joined (map (closure_text project) closures)
      ++ (if is_whole then done_line (length closures) else [])
