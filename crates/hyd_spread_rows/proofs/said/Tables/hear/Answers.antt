use Rattle.hyd_spread_rows.proofs.said.Tables.hear.Goals as goal

pub returns-clause-said : goal.returns-clause-said
returns-clause-said c = λ rows words distinct is said.
    let project = c.args.project.now in
    record {
      demands = c.hear.ensures.said project rows words distinct c.requires.places.demands is said.demands;
      emitters = c.hear-2.ensures.said project rows words distinct c.requires.places.emitters is said.emitters;
      heads = c.hear-3.ensures.said project rows words distinct c.requires.places.heads is said.heads;
      levels = c.hear-4.ensures.said project rows words distinct c.requires.places.levels is said.levels;
    }
