use Rattle.std.proofs.Common.{◌∷◌, [], refl, arith, inl}
use Rattle.std.specs.Fmt.{digits}
use Rattle.std.proofs.lemmas.List.Elements.{All-nil, All-cons}
use Rattle.hyd_num.specs.PrintedDecimals.{fixed_point}
use Rattle.hyd_spec_certificates.specs.CertificateText.{IsRow}
use Rattle.hyd_cases_of_runs.specs.ShallowVillage.{row_0, row_1}
use Rattle.hyd_cases_of_runs.proofs.VillageTexts.{vector, row_fits}
use Rattle.hyd_cases_of_runs.proofs.shallow_village.texts.Goals as goal

pub returns-clause-certificate : goal.returns-clause-certificate
unfolding digits
returns-clause-certificate c = record {
  known = inl refl;
  junctions_fit = omega arith;
  tanks_fit = omega arith;
  header_fits = omega arith;
  rows_fit = All-cons (IsRow 2 1) row_0 (row_1 ∷ [])
      (row_fits row_0 _ refl (omega arith) (omega arith) (omega arith) (vector _ refl refl) (vector _ refl refl)
      (vector _ refl refl) (vector _ refl refl))
      (All-cons (IsRow 2 1) row_1 []
      (row_fits row_1 _ refl (omega arith) (omega arith) (omega arith) (vector _ refl refl) (vector _ refl refl)
      (vector _ refl refl) (vector _ refl refl))
      (All-nil (IsRow 2 1)));
  periods_fit = omega arith;
  is_text = refl;
}

pub returns-clause-report : goal.returns-clause-report
unfolding digits fixed_point
returns-clause-report c = refl
