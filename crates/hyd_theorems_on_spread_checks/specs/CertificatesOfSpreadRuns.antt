-- The certificates of version 4 that hold for a spread: those of runs for it with a slack.
-- Source: this program's.
use Rattle.std.specs.Prelude.{ℕ, List, length}
use Rattle.hyd_spec.specs.ProgramTypes.{Project}
use Rattle.hyd_spec.specs.NodeNumbers.{junction_count, tank_count}
use Rattle.hyd_spec_open_ends.specs.OpenStandings.{OpenStanding}
use Rattle.hyd_spec_open_ends.specs.OpenCertificateText.{IsOpenCertificateText}
use Rattle.hyd_spec_spread.specs.Spreads.{Spread}
use Rattle.hyd_spec_open_spreads.specs.OpenRunsForSpreads.{OpenFoundOver, IsOpenRunOver}
use Rattle.hyd_spec_spread_promises.specs.PromisesOfSpreadRuns.{rows_over}

-- The text is the certificate of a run of the network for the spread with some slack, whole or as far as it went, with
-- an END line that says what is so: how many records stand before it, and whether the run is finished.
pub record IsCertificateOfRunOver (project : Project) (spread : Spread) (text : List ℕ) : Type 0 where
  pub slack : ℕ
  pub founds : List OpenFoundOver
  pub left : OpenStanding
  pub is_run : IsOpenRunOver project spread slack founds left
  pub certificate : IsOpenCertificateText text (junction_count project) (tank_count project) (rows_over founds)
      (length founds) left.known.finished
