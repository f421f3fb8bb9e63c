use Rattle.std.proofs.Common.{List, map, sym, ap, subst, ◌∙◌}
use Rattle.hyd_spec_certificates.specs.Interval.{Interval}
use Rattle.hyd_spec_certificates.specs.SpansAsIntervals.{levels_of}
use Rattle.hyd_spec_certificates.specs.Valid.{ControlsAreDecided}
use Rattle.hyd_theorems_on_histories.proofs.AgreementAtStart.{decided_at_start}
use Rattle.hyd_first_period.proofs.first_period.FirstPeriod.open.Goals as goal

pub states_at_start-requires-clause-decided : goal.states_at_start-requires-clause-decided
states_at_start-requires-clause-decided c =
    subst (λ (levels : List Interval). ControlsAreDecided c.args.project.now levels)
    (sym (ap (map levels_of) c.as_slice.ensures ∙ c.in_ok-stocks.ensures.levels))
    (decided_at_start c.args.project.now)
