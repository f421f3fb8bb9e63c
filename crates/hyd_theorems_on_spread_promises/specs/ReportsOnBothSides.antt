-- Reports of runs for a spread beside reports of runs of the network.
-- Source: this program's.
use Rattle.hyd_spec_open_reports.specs.PromisesOfOpenReports.{Reported}
use Rattle.hyd_spec_spread_reports.specs.ClaimsWithinSpreads.{ReportedOver}
use Rattle.hyd_theorems_on_open_spreads.specs.RunsAsOthers.{on_both_sides}

-- What was reported of the network, as reported for a spread, with its grid on both sides.
abbrev pub reported_on_both_sides : Reported → ReportedOver
reported_on_both_sides each = record { here = on_both_sides each.here; lines = each.lines }
