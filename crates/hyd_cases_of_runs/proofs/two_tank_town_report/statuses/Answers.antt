use Rattle.std.proofs.Common.{ap}
use Rattle.hyd_cases_of_runs.proofs.two_tank_town_report.statuses.Goals as goal
use Rattle.hyd_cases_of_runs.proofs.TwoTankTownAsOneValue.{town_is}
use Rattle.std.specs.Prelude.{slice_index_or}
use Rattle.hyd_spec.specs.Lists.{map_from}
use Rattle.hyd_spec.specs.DemandsHeadsAndPumpLifts.{is_us}
use Rattle.hyd_spec.specs.Rules.{state_of_link}
use Rattle.hyd_spec_certificates.specs.FlowIntervals.{difference}
use Rattle.hyd_spec_certificates.specs.Decided.{links_at, heads_below, heads_above}
use Rattle.hyd_spec_certificates.specs.StatusesOfLinks.{status_of}
use Rattle.hyd_cases_of_runs.specs.TwoTankTownPeriods.{standing_at_two, standing_when_full, grid_at_two, grid_when_full}
use Rattle.hyd_cases_of_runs.specs.TwoTankTownPeriods.{row_at_two, row_when_full}
use Rattle.hyd_cases_of_runs.specs.TwoTankTownReport.{lift}

pub returns-clause-at_two : goal.returns-clause-at_two
returns-clause-at_two c = λ project town. ap (λ project. map_from
    (λ l link. status_of (is_us project) project.bends.list link.kind
    (state_of_link (links_at project standing_at_two) l) (difference (slice_index_or grid_at_two.links l lift)
    (heads_below grid_at_two row_at_two) (heads_above grid_at_two row_at_two))) 0 project.links.list) (town_is town)

pub returns-clause-when_full : goal.returns-clause-when_full
returns-clause-when_full c = λ project town. ap (λ project. map_from
    (λ l link. status_of (is_us project) project.bends.list link.kind
    (state_of_link (links_at project standing_when_full) l) (difference (slice_index_or grid_when_full.links l lift)
    (heads_below grid_when_full row_when_full) (heads_above grid_when_full row_when_full))) 0 project.links.list)
    (town_is town)
