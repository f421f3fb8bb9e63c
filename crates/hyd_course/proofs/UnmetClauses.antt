-- The clause by which a moment isn't met.
use Rattle.std.proofs.Common.{◌≡◌, ℕ, ◌<◌, ℤ, sym, subst, arith}
use Rattle.std.specs.Prelude.{unsigned_abs}
use Rattle.hyd_spec.specs.ProgramTypes.{Project}
use Rattle.hyd_spec_certificates.specs.Valid.{demand_limit}
use Rattle.hyd_spec_certificates.specs.Stops.{IsFirstDemand}
use Rattle.hyd_spec_witnesses.specs.declared.MetClause.{MetClause}
use Rattle.hyd_spec_witnesses.specs.declared.Unmet.{Unmet}
use Rattle.hyd_spec_witnesses.specs.MetPeriods.{Moment, Reached, HasSmallDemand}
use Rattle.hyd_spec_witnesses.specs.FirstUnmetClause.{FailsFirstAt, FailsBy, IsUnmet}

-- it is told as it fails
pub unmet_by : (project : Project) (S : ℕ) (reached : Reached) (moment : Moment) (unmet : Unmet) (clause : MetClause)
    (number : ℕ) → unmet.clause ≡ clause → unmet.number ≡ number → FailsBy project S reached moment clause number
    → IsUnmet project S reached moment unmet
unmet_by project S reached moment unmet clause number is at fails =
    subst (λ (c : MetClause). FailsBy project S reached moment c unmet.number) (sym is)
    (subst (λ (n : ℕ). FailsBy project S reached moment clause n) (sym at) fails)

-- the first demand out of range
pub demand_fails : (project : Project) (time j : ℕ) (demand : ℤ) → IsFirstDemand project time j demand
    → FailsFirstAt project.junctions.list (HasSmallDemand project time) j
demand_fails project time j demand is = record {
  item = is.junction;
  is_item = is.is_junction;
  fails = λ small.
      let out = subst (λ (d : ℤ). demand_limit < unsigned_abs d) is.is_demand is.out_of_range in
      omega (arith, out, small);
  earlier = is.first;
}
