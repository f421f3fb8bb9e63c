use Rattle.hyd_cases_of_runs.proofs.VillageStops.{rule_truth_before, rule_truth_open, rule_truth_later}
use Rattle.hyd_cases_of_runs.proofs.village_stops.truths.Goals as goal

pub returns-clause-first : goal.returns-clause-first
returns-clause-first c = rule_truth_before

pub returns-clause-second : goal.returns-clause-second
returns-clause-second c = rule_truth_open

pub returns-clause-third : goal.returns-clause-third
returns-clause-third c = rule_truth_later
