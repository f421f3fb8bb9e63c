-- A run is one with each greater slack, none of its starts is open by more, and a check accepts what a run wrote.
use Rattle.std.proofs.Common.{◌≡◌, ℕ, ◌≤◌, sym, subst, arith, List, length}
use Rattle.std.specs.Prelude.{Option, Some, None, is_none}
use Rattle.std.specs.List.{AllByRecursion}
use Rattle.hyd_spec.specs.ProgramTypes.{Project}
use Rattle.hyd_spec.specs.NodeNumbers.{junction_count, tank_count}
use Rattle.hyd_spec_certificates.specs.declared.StopCause.{StopCause}
use Rattle.hyd_spec_open_ends.specs.OpenStandings.{OpenStanding, initial_open_standing}
use Rattle.hyd_spec_open_ends.specs.OpenRuns.{OpenFound, IsOpenRunFrom, IsOpenRun, none, more}
use Rattle.hyd_spec_open_ends.specs.OpenCertificateText.{IsOpenCertificateText}
use Rattle.hyd_spec_open_ends.specs.PromisesOfOpenRuns.{EndsOpenlySo, open_rows_of, RunWritesOpenly, CheckAcceptsOpenly}

pub greater_slack : (project : Project) (slack greater : ℕ) → slack ≤ greater → (standing : OpenStanding)
    (founds : List OpenFound) (last : OpenStanding)
    → IsOpenRunFrom project slack standing founds last → IsOpenRunFrom project greater standing founds last
greater_slack project slack greater le _ _ last none = none
greater_slack project slack greater le _ _ last (more {here = here} {rest = rest} is within go) =
    more is (omega (arith, within, le)) (greater_slack project slack greater le here.next rest last go)

-- no start of a run is open by more seconds than the slack, nor is that of the standing that it leaves
late-within : (project : Project) (slack : ℕ) (standing : OpenStanding) (founds : List OpenFound) (last : OpenStanding)
    → standing.late ≤ slack → IsOpenRunFrom project slack standing founds last
    → AllByRecursion (λ (here : OpenFound). here.standing.late ≤ slack) founds × (last.late ≤ slack)
late-within project slack _ _ last le none = (tt, le)
late-within project slack _ _ last le (more {here = here} {rest = rest} is within go) =
    let after = late-within project slack here.next rest last within go in ((le, after.0), after.1)

pub late_within : (project : Project) (slack : ℕ) (founds : List OpenFound) (last : OpenStanding)
    → IsOpenRun project slack founds last
    → AllByRecursion (λ (here : OpenFound). here.standing.late ≤ slack) founds × (last.late ≤ slack)
late_within project slack founds last run =
    late-within project slack (initial_open_standing project) founds last (omega arith) run

finished-so : (project : Project) (left : OpenStanding) (slack rounds : ℕ) (stop : Option StopCause)
    → EndsOpenlySo project left slack rounds stop → is_none stop ≡ left.known.finished
finished-so project left slack rounds None ends = sym ends
finished-so project left slack rounds (Some cause) ends = sym ends.0

pub accepted : (project : Project) (slack rounds : ℕ) (stop : Option StopCause) (written : List ℕ)
    → RunWritesOpenly project slack rounds stop written → CheckAcceptsOpenly project written
accepted project slack rounds stop written run = record {
  slack = slack;
  founds = run.founds;
  left = run.left;
  is_run = run.is_run;
  certificate = subst (IsOpenCertificateText written (junction_count project) (tank_count project)
      (open_rows_of run.founds) (length run.founds))
      (finished-so project run.left slack rounds stop run.ends_so) run.certificate;
  every_history = run.every_history;
}
