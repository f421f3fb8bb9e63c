use Rattle.std.proofs.Common.{arith}
use Rattle.hyd_spec_certificates.specs.Decided.{tank_watches}
use Rattle.hyd_open_watches.proofs.ArrivalsByFacts.{nearest_arrives, none_arrives, step_arrives, compete_arrives}
use Rattle.hyd_open_watches.proofs.ArrivalsByFacts.{reach_of}
use Rattle.hyd_open_watches.proofs.arrivals.just_reached.Goals as goal

pub returns-then-project-latest-clause-arrives : goal.returns-then-project-latest-clause-arrives
returns-then-project-latest-clause-arrives c = λ grid standing row earliest started.
    step_arrives c.args.project.now grid standing row c.args.facts.now started c.args.latest earliest
    c.if-project-latest.true

pub returns-in-One-clause-arrives : goal.returns-in-One-clause-arrives
returns-in-One-clause-arrives c = λ grid standing row earliest started.
    let later = c.if-project-latest.false in
    nearest_arrives c.args.project.now grid standing row c.args.facts.now started c.args.latest earliest
    c.in-One.watch (omega (arith, later))
    (c.in-One.ensures (tank_watches 0 c.args.project.now.tanks.list c.args.facts.now.tanks.list)
    c.among_bounds-bounds.ensures)

pub returns-in-One-clause-watch : goal.returns-in-One-clause-watch
returns-in-One-clause-watch c =
    (c.in-One.ensures (tank_watches 0 c.args.project.now.tanks.list c.args.facts.now.tanks.list)
    c.among_bounds-bounds.ensures).in_range

pub returns-in-One-clause-reach : goal.returns-in-One-clause-reach
returns-in-One-clause-reach c = λ each at.
    let near = c.in-One.ensures (tank_watches 0 c.args.project.now.tanks.list c.args.facts.now.tanks.list)
    c.among_bounds-bounds.ensures in
    reach_of c.args.project.now c.args.facts.now c.args.latest c.requires.sound c.requires.tanks c.in-One.watch
    near.comes near.short each at

pub returns-in-None-clause-arrives : goal.returns-in-None-clause-arrives
returns-in-None-clause-arrives c = λ grid standing row earliest started.
    none_arrives c.args.project.now grid standing row c.args.facts.now started c.args.latest earliest
    (c.in-None.ensures (tank_watches 0 c.args.project.now.tanks.list c.args.facts.now.tanks.list)
    c.among_bounds-bounds.ensures)

pub returns-in-Competing-clause-arrives : goal.returns-in-Competing-clause-arrives
returns-in-Competing-clause-arrives c = λ grid standing row earliest started.
    compete_arrives c.args.project.now grid standing row c.args.facts.now started c.args.latest earliest
    (c.in-Competing.ensures (tank_watches 0 c.args.project.now.tanks.list c.args.facts.now.tanks.list)
    c.among_bounds-bounds.ensures)
