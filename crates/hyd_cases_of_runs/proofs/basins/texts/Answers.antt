use Rattle.std.proofs.Common.{refl, arith, inr}
use Rattle.std.specs.Fmt.{digits}
use Rattle.hyd_num.specs.PrintedDecimals.{fixed_point}
use Rattle.hyd_cases_of_runs.proofs.BasinRun.{row_fits, three_fit}
use Rattle.hyd_cases_of_runs.proofs.basins.texts.Goals as goal

pub returns-clause-curved_version : goal.returns-clause-curved_version
returns-clause-curved_version c = refl

pub returns-clause-curved_certificate : goal.returns-clause-curved_certificate
unfolding digits
returns-clause-curved_certificate c = record {
  known = inr refl;
  junctions_fit = omega arith;
  tanks_fit = omega arith;
  header_fits = omega arith;
  rows_fit = three_fit _ _ _ (row_fits 0 0 3600 (omega arith) (omega arith) (omega arith))
      (row_fits 1 3600 3600 (omega arith) (omega arith) (omega arith))
      (row_fits 2 7200 0 (omega arith) (omega arith) (omega arith));
  periods_fit = omega arith;
  is_text = refl;
}

pub returns-clause-curved_report : goal.returns-clause-curved_report
unfolding digits fixed_point
returns-clause-curved_report c = refl

pub returns-clause-spilling_version : goal.returns-clause-spilling_version
returns-clause-spilling_version c = refl

pub returns-clause-spilling_certificate : goal.returns-clause-spilling_certificate
unfolding digits
returns-clause-spilling_certificate c = record {
  known = inr refl;
  junctions_fit = omega arith;
  tanks_fit = omega arith;
  header_fits = omega arith;
  rows_fit = three_fit _ _ _ (row_fits 0 0 543 (omega arith) (omega arith) (omega arith))
      (row_fits 1 543 3057 (omega arith) (omega arith) (omega arith))
      (row_fits 2 3600 0 (omega arith) (omega arith) (omega arith));
  periods_fit = omega arith;
  is_text = refl;
}

pub returns-clause-spilling_report : goal.returns-clause-spilling_report
unfolding digits fixed_point
returns-clause-spilling_report c = refl
