use Rattle.std.proofs.Common.{refl}
use Rattle.hyd_cases_of_runs.proofs.VillageRefusals.{too_thirsty}
use Rattle.hyd_cases_of_open_ends.proofs.refusals.demand.Goals as goal

pub returns : goal.returns
returns c = record {
  refused = record {
    period_is = refl;
    refused_by = (
      record { unfinished = refl; due = record { number = refl; time = refl; late = refl } },
      too_thirsty.refused_by.1,
    );
  };
}
