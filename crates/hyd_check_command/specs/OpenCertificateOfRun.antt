-- The certificates of version 4 that hold: those of runs with a slack.
-- Source: this program's.
use Rattle.std.specs.Prelude.{ℕ, List, length}
use Rattle.hyd_spec.specs.ProgramTypes.{Project}
use Rattle.hyd_spec.specs.NodeNumbers.{junction_count, tank_count}
use Rattle.hyd_spec_open_ends.specs.OpenStandings.{OpenStanding}
use Rattle.hyd_spec_open_ends.specs.OpenRuns.{OpenFound, IsOpenRun}
use Rattle.hyd_spec_open_ends.specs.OpenCertificateText.{IsOpenCertificateText}
use Rattle.hyd_spec_open_ends.specs.PromisesOfOpenRuns.{open_rows_of}

-- The text is the certificate of a run of the network with some slack, whole or as far as it went, with an END line that
-- says what is so: how many records stand before it, and whether the run is finished.
pub record IsCertificateOfOpenRun (project : Project) (text : List ℕ) : Type 0 where
  pub slack : ℕ
  pub founds : List OpenFound
  pub left : OpenStanding
  pub is_run : IsOpenRun project slack founds left
  pub certificate : IsOpenCertificateText text (junction_count project) (tank_count project) (open_rows_of founds)
      (length founds) left.known.finished
