-- The grids of the village.
use Rattle.std.proofs.Common.{◌≡◌, ℤ, Bool, MatchBool, [], ◌∷◌, refl, sym, subst, int_le, None}
use Rattle.std.specs.Prelude.{ℕ, pos}
use Rattle.hyd_spec.specs.ProgramTypes.{Junction}
use Rattle.hyd_spec_certificates.specs.Interval.{Interval}
use Rattle.hyd_spec.specs.DemandsHeadsAndPumpLifts.{demand_of}
use Rattle.hyd_spec.specs.Outflow.{is_pressure_driven}
use Rattle.hyd_spec.specs.Law.{Law}
use Rattle.hyd_spec_certificates.specs.EnclosingFunctions.{Fixed}
use Rattle.hyd_spec_certificates.specs.PeriodNetwork.{IsDriven, IsJunctionOf, grid_links, tank_intervals}
use Rattle.hyd_spec_certificates.specs.RecordAndStanding.{Standing}
use Rattle.hyd_spec_certificates.specs.Decided.{links_at}
use Rattle.hyd_spec_certificates.specs.Valid.{IsGridAt}
use Rattle.hyd_cases_of_runs.specs.Village.{Choice, village_with, mill, farm}
use Rattle.hyd_cases_of_runs.specs.VillagePeriods.{village_grid}
use Rattle.hyd_lemmas.proofs.BooleanTests.{same_either_way}

module _ (choice : Choice) where
  -- no demand depends on the pressure
  pub junction_at : (time : ℕ) (junction : Junction) (demand : ℤ) → demand_of (village_with choice) time junction
      ≡ demand → junction.emitter ≡ None
      → IsJunctionOf (village_with choice) time junction (record {
        elevation = junction.elevation;
        demand = Fixed demand;
        emitter = None;
      })
  junction_at time junction demand is none = record {
    elevation = refl;
    demand = subst (λ (d : ℤ). MatchBool (is_pressure_driven (village_with choice) d)
        (IsDriven (village_with choice) d (Fixed demand)) (Fixed demand ≡ Fixed d)) (sym is)
        (subst (λ (b : Bool). MatchBool b (IsDriven (village_with choice) demand (Fixed demand))
        (Fixed demand ≡ Fixed demand)) (sym (same_either_way (int_le demand (pos 0)))) refl);
    emitter = sym none;
  }

  -- a grid of a village, where the mill's demand, the tower's head and the links' laws are those of the standing
  pub grid_at : (standing : Standing) (demand : ℤ) (feed drop : Law) (head : Interval)
      → demand_of (village_with choice) standing.time mill ≡ demand
      → demand_of (village_with choice) standing.time farm ≡ pos 2000000000
      → head ∷ [] ≡ tank_intervals (choice.tank ∷ []) standing.levels
      → (village_grid demand feed drop head).links ≡ grid_links (village_with choice) standing.tanks
      (village_with choice).links.list (links_at (village_with choice) standing)
      → IsGridAt (village_with choice) standing (village_grid demand feed drop head)
  grid_at standing demand feed drop head mill_takes farm_takes at_head laws = record {
    junctions = (
      junction_at standing.time mill demand mill_takes refl,
      (junction_at standing.time farm (pos 2000000000) farm_takes refl, tt),
    );
    reservoirs = refl;
    tank_heads = at_head;
    links_are = laws;
  }
