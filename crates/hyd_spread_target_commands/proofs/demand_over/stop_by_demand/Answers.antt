-- The line that was printed is that of the first demand, for each spread of which it is the first.
use Rattle.std.proofs.Common.{ℕ, ℤ, refl, sym, subst}
use Rattle.hyd_spec_certificates.specs.declared.StopCause.TheVariants.{Demand as DemandOutOfRange}
use Rattle.hyd_spec_reports.specs.ReportLine.{stop_line}
use Rattle.hyd_spec_spread_stops.specs.StopsOfSpreads.{IsFirstDemandOver}
use Rattle.hyd_command_answers.specs.DeskContents.{seen}
use Rattle.hyd_command_answers.specs.declared.status.Status.{Status}
use Rattle.hyd_spread_target_commands.specs.SpreadDemands.{AnswersDemandOver}
use Rattle.hyd_spread_target_commands.proofs.TextsPrintedOver.{demand-cut-off}
use Rattle.hyd_spread_target_commands.proofs.demand_over.stop_by_demand.Goals as goal

pub returns-in-Ok-clause-answers : goal.returns-in-Ok-clause-answers
returns-in-Ok-clause-answers g c spread first =
    let project = c.args.project.now in
    let demand = c.in_period-demand.result in
    let same = c.in_period-demand.ensures in
    let first_one : IsFirstDemandOver project spread 0 demand.junction demand.value =
    subst (λ (j : ℕ). IsFirstDemandOver project spread 0 j demand.value) (sym same.junction)
    (subst (λ (v : ℤ). IsFirstDemandOver project spread 0 c.args.demand.junction v) (sym same.value) first) in
    record {
      text = stop_line project 0 (DemandOutOfRange 0 demand.junction demand.value);
      holds = record {
        junction = demand.junction;
        demand = demand.value;
        first = first_one;
        is_line = refl;
      };
      only = record {
        files = c.print_demand.ensures.files_stay;
        written = c.print_demand.ensures.written_stays;
        printed = c.in-Ok.ensures.whole;
      };
    }

pub returns-in-Err-clause-answers : goal.returns-in-Err-clause-answers
returns-in-Err-clause-answers g c spread first =
    let project = c.args.project.now in
    let demand = c.in_period-demand.result in
    let same = c.in_period-demand.ensures in
    let before = seen g.D.Desk.files g.D.Desk.written g.D.Desk.printed c.args.desk.now in
    let now = seen g.D.Desk.files g.D.Desk.written g.D.Desk.printed c.print_demand.new.desk in
    let first_one : IsFirstDemandOver project spread 0 demand.junction demand.value =
    subst (λ (j : ℕ). IsFirstDemandOver project spread 0 j demand.value) (sym same.junction)
    (subst (λ (v : ℤ). IsFirstDemandOver project spread 0 c.args.demand.junction v) (sym same.value) first) in
    subst (λ (s : Status). AnswersDemandOver project spread s before now) (sym c.fault_status.ensures)
    (demand-cut-off project spread demand.junction demand.value c.in-Err.fault before now first_one (record {
      files = c.print_demand.ensures.files_stay;
      written = c.print_demand.ensures.written_stays;
      printed = c.in-Err.ensures.front;
    }))
