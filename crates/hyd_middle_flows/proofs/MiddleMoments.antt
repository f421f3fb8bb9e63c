-- A moment with the heads, the stocks and the flows of the middle candidate is that candidate.
use Rattle.std.proofs.Common.{◌≡◌, ℤ, List, sym, ap₂, subst}
use Rattle.hyd_spec.specs.Lists.{Each}
use Rattle.hyd_spec.specs.PeriodLength.{Period}
use Rattle.hyd_spec.specs.ProgramTypes.{Project, LinkState}
use Rattle.hyd_spec.specs.declared.TankState.{TankState}
use Rattle.hyd_spec_certificates.specs.PeriodNetwork.{GridLink}
use Rattle.hyd_spec_certificates.specs.RecordAndStanding.{Record}
use Rattle.hyd_spec_witnesses.specs.MetPeriods.{Moment, Reached, HasItsLists, period_of, links_of}
use Rattle.hyd_spec_witnesses.specs.MiddleCandidate.{halves, IsMiddle, LinkIsHalfway, DemandIsHalfway, EmitterIsHalfway}
use Rattle.hyd_period_network.specs.NetView.{NetView}
use Rattle.hyd_period_network.specs.NetAsPeriodNetwork.{grid_of, states_of}
use Rattle.hyd_met_flows.specs.Periods.{period_in, IsSet, IsMomentOf}
use Rattle.hyd_middle_flows.specs.CandidateParts.{HasHeadsAndStocks, IsSetFor}
use Rattle.hyd_middle_flows.specs.HalfwayFlows.{with_flows, with_demands, with_emitters}

its_lists : (project : Project) (moment : Moment) → IsMomentOf project moment → HasItsLists project moment
its_lists project moment is = record {
  head_each = is.heads.one_each;
  flow_each = is.flows.one_each;
  demand_each = is.demands.one_each;
  emitter_each = is.emitters.one_each;
  level_each = is.levels.one_each;
  volume_each = is.volumes.one_each;
}

pub is_middle : (project : Project) (reached : Reached) (row : Record) (moment : Moment) (net : NetView)
    (tanks : List TankState) → IsMomentOf project moment → HasHeadsAndStocks project reached row moment
    → IsSet project net tanks → IsSetFor project reached moment net tanks
    → Each (grid_of net).links (LinkIsHalfway project (period_in moment tanks (states_of net)))
    → ((t : List TankState) (l : List LinkState) → Each (grid_of net).junctions (DemandIsHalfway (period_in moment t l)))
    → ((t : List TankState) (l : List LinkState) → Each (grid_of net).junctions (EmitterIsHalfway (period_in moment t l)))
    → IsMiddle project reached row moment
is_middle project reached row moment net tanks is has set set-for links demands emitters =
    let period = period_of project halves reached moment in
    let same : period_in moment tanks (states_of net) ≡ period =
    ap₂ (period_in moment) set-for.tanks_are set-for.links_are in
    record {
      lists = its_lists project moment is;
      number = has.number;
      time = has.time;
      length_is = has.lasts;
      heads = has.heads;
      levels = has.levels;
      volumes = has.volumes;
      links = subst (λ (p : Period). Each (links_of project p) (LinkIsHalfway project p)) same
          (subst (λ (ls : List GridLink). Each ls (LinkIsHalfway project (period_in moment tanks (states_of net))))
          set.links links);
      junctions = (grid_of net).junctions;
      are_junctions = set-for.junctions_are;
      demands = demands period.tanks period.links;
      emitters = emitters period.tanks period.links;
    }

-- what doesn't speak of flows holds of the moment with others, too
pub heads_kept : (project : Project) (reached : Reached) (row : Record) (before after : Moment)
    (flows demands emitters : List ℤ) → after ≡ with_emitters (with_demands (with_flows before flows) demands) emitters
    → HasHeadsAndStocks project reached row before → HasHeadsAndStocks project reached row after
heads_kept project reached row before after flows demands emitters e has =
    subst (HasHeadsAndStocks project reached row) (sym e) (record {
      number = has.number;
      time = has.time;
      lasts = has.lasts;
      heads = has.heads;
      levels = has.levels;
      volumes = has.volumes;
    })

pub set_kept : (project : Project) (reached : Reached) (before after : Moment) (net : NetView) (tanks : List TankState)
    (flows demands emitters : List ℤ) → after ≡ with_emitters (with_demands (with_flows before flows) demands) emitters
    → IsSetFor project reached before net tanks → IsSetFor project reached after net tanks
set_kept project reached before after net tanks flows demands emitters e set-for =
    subst (λ (m : Moment). IsSetFor project reached m net tanks) (sym e) (record {
      tanks_are = set-for.tanks_are;
      links_are = set-for.links_are;
      junctions_are = set-for.junctions_are;
    })
