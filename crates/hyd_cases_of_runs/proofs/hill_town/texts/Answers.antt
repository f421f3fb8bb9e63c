use Rattle.std.proofs.Common.{refl, arith, inr}
use Rattle.std.specs.Fmt.{digits}
use Rattle.hyd_num.specs.PrintedDecimals.{fixed_point}
use Rattle.hyd_cases_of_runs.proofs.HillTownRun.{rows_fit}
use Rattle.hyd_cases_of_runs.proofs.hill_town.texts.Goals as goal

pub returns-clause-certificate : goal.returns-clause-certificate
unfolding digits
returns-clause-certificate c = record {
  known = inr refl;
  junctions_fit = omega arith;
  tanks_fit = omega arith;
  header_fits = omega arith;
  rows_fit = rows_fit;
  periods_fit = omega arith;
  is_text = refl;
}

pub returns-clause-report : goal.returns-clause-report
unfolding digits fixed_point
returns-clause-report c = refl
