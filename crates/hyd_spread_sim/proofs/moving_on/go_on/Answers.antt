use Rattle.std.proofs.Common.{subst}
use Rattle.hyd_spec_certificates.specs.declared.Side.{Side}
use Rattle.hyd_spec_certificates.specs.declared.Side.TheVariants.{Upper, Lower}
use Rattle.hyd_theorems_on_definitions.specs.SoundLawsAndGrids.{IsSteady}
use Rattle.hyd_theorems_on_spread_standings.proofs.FirmOverSpreads.{firm-over}
use Rattle.hyd_open_certificates.specs.OpenRowView.{open_record_of}
use Rattle.hyd_open_sim.specs.EndedPeriods.{next_standing}
use Rattle.hyd_open_sim_start.specs.StandingsOfOpenRuns.{standing_for}
use Rattle.hyd_period_network.specs.NetAsPeriodNetwork.{grid_of}
use Rattle.hyd_period_network.specs.NetView.{NetView}
use Rattle.hyd_spread_networks.specs.NetsOfSpreads.{net_on, pair_of}
use Rattle.hyd_spread_sim.proofs.StandingsOverSpreads.{steady-both}
use Rattle.hyd_spread_sim.proofs.moving_on.go_on.Goals as goal

pub move_on-requires-clause-goes_on : goal.move_on-requires-clause-goes_on
move_on-requires-clause-goes_on c =
    let made = c.requires.made.1 in
    let nets = c.args.nets.now in
    record {
      firm = firm-over c.args.project.now c.requires.sound nets.spread c.requires.spread
          (standing_for c.args.standing.now) (pair_of nets) (open_record_of c.args.found.now)
          (next_standing c.args.project.now c.args.standing.now c.args.close.now) c.requires.standing.firm
          (steady-both nets
          (subst (λ (n : NetView). IsSteady (grid_of n)) c.on.ensures c.junctions-upper.ensures.steady)
          (subst (λ (n : NetView). IsSteady (grid_of n)) c.on-2.ensures c.junctions-lower.ensures.steady))
          made.valid;
      held = made.over.held;
      later = made.over.later;
    }
