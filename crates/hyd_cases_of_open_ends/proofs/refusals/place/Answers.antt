use Rattle.std.proofs.Common.{refl, arith}
use Rattle.hyd_cases_of_open_ends.proofs.refusals.place.Goals as goal

pub returns-clause-number : goal.returns-clause-number
returns-clause-number c = record {
  period_is = refl;
  refused_by = (refl, λ due. let e = due.number in absurd (omega (arith, e)));
}

pub returns-clause-time : goal.returns-clause-time
returns-clause-time c = record {
  period_is = refl;
  refused_by = (refl, λ due. let e = due.time in absurd (omega (arith, e)));
}

pub returns-clause-later : goal.returns-clause-later
returns-clause-later c = record {
  period_is = refl;
  refused_by = (refl, λ due. let e = due.late in absurd (omega (arith, e)));
}

pub returns-clause-forgotten : goal.returns-clause-forgotten
returns-clause-forgotten c = record {
  period_is = refl;
  refused_by = (refl, λ due. let e = due.late in absurd (omega (arith, e)));
}
