-- What a report asks of a period.
use Rattle.std.proofs.Common.{ap, subst}
use Rattle.hyd_open_certificates.specs.declared.open_row.OpenRow.{OpenRow}
use Rattle.hyd_period_network.specs.NetAsPeriodNetwork.{grid_of}
use Rattle.hyd_period_network.specs.NetView.{NetView}
use Rattle.hyd_theorems_on_definitions.specs.SoundLawsAndGrids.{IsSteady}
use Rattle.hyd_spread_run.proofs.SpreadPeriodLemmas.{sound-there, nets-there, pair-there, states-there, bounds-there}
use Rattle.hyd_spread_run.proofs.SpreadPeriodLemmas.{tanks-there, links-there}
use Rattle.hyd_spread_run.proofs.record_and_report.put_period_lines.Goals as goal

pub put_spread_report-requires : goal.put_spread_report-requires
put_spread_report-requires g c =
    let is = c.project-project.ensures.is_sim in
    let p = c.project-project.ensures.project in
    let n = c.nets-nets.ensures in
    let r = ap (λ (f : OpenRow). f.row) c.found-found.ensures in
    let f = c.facts.ensures in
    record {
      sound = sound-there _ is c.requires.period _ _ _ _ p n r f;
      of = nets-there _ is c.requires.period _ _ _ _ p n r f;
      pair = pair-there _ is c.requires.period _ _ _ _ p n r f;
      states = states-there _ is c.requires.period _ _ _ _ p n r f;
      bounds = bounds-there _ is c.requires.period _ _ _ _ p n r f
          (subst (λ (net : NetView). IsSteady (grid_of net)) c.on-lower.ensures c.junctions-junctions.ensures.steady);
      tanks = tanks-there _ is c.requires.period _ _ _ _ p n r f;
      links = links-there _ is c.requires.period _ _ _ _ p n r f;
      ready = c.requires.ready;
    }

pub returns : goal.returns
returns g c =
    rw (
      c.project-project.ensures.project,
      c.nets-nets.ensures,
      c.found-found.ensures,
      c.facts.ensures,
      c.late_at_end.ensures,
      c.opened.ensures,
    ) at c.put_spread_report.ensures.puts
