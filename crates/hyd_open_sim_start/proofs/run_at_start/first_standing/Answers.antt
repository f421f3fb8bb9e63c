use Rattle.std.proofs.Common.{false, refl}
use Rattle.hyd_open_sim_start.proofs.StandingsAtStarts.{first-is, first-stands}
use Rattle.hyd_open_sim_start.proofs.run_at_start.first_standing.Goals as goal

pub returns-clause-initial : goal.returns-clause-initial
returns-clause-initial c =
    first-is c.args.project.now (record {
      number = 0;
      time = 0;
      late = 0;
      stocks = c.begin.new.self;
      commanded = c.in_ok-commanded.commanded;
      finished = false;
    }) refl refl refl c.begin.ensures.levels c.begin.ensures.volumes c.begin.ensures.tanks c.in_ok-commanded.ensures refl

pub returns-clause-standing : goal.returns-clause-standing
returns-clause-standing c =
    first-stands c.args.project.now (record {
      number = 0;
      time = 0;
      late = 0;
      stocks = c.begin.new.self;
      commanded = c.in_ok-commanded.commanded;
      finished = false;
    }) refl refl refl c.begin.ensures.levels c.begin.ensures.volumes c.begin.ensures.tanks c.in_ok-commanded.ensures refl
    c.requires c.begin.ensures.held c.begin.ensures.room
