-- Each part is as the run keeps it between two periods.
use Rattle.std.proofs.Common.{◌≡◌, length, rules}
use Rattle.hyd_sim.proofs.LinkStatesAtStart.{zip-length}
use Rattle.hyd_sim.proofs.sim.Sim.into_parts.Goals as goal

pub returns-clause-room : goal.returns-clause-room
returns-clause-room c =
    let each : length c.self.inside.standing.commanded.items ≡ length c.self.inside.project.links.list =
    zip-length c.self.inside.project _ _ c.self.invariant.standing.kept.states in
    record {
      sound = search rules;
      net = search rules;
      search = search rules;
      header = search rules;
      facts = search rules;
      stocks = search rules;
      commanded = search rules;
      close = search rules;
    }
