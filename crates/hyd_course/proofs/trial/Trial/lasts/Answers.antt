use Rattle.std.proofs.Common.{◌∙◌}
use Rattle.std.proofs.lemmas.List.{with_items_is}
use Rattle.hyd_length_at_scale.specs.declared.periods.MetPeriod.{MetPeriod}
use Rattle.hyd_course.proofs.MetPeriodsOfTrials.{met_period}
use Rattle.hyd_course.proofs.trial.Trial.lasts.Goals as goal

pub has_its_length-requires-clause-period : goal.has_its_length-requires-clause-period
has_its_length-requires-clause-period c =
    let period : MetPeriod = record {
      project = c.args.project;
      scale = c.args.scale;
      moment = c.args.moment;
      inflows = c.deref.result;
      tanks = c.deref-2.result;
      links = c.deref-3.result;
    } in
    met_period period c.put_inflows.new.inflows c.args.self.now.set.tanks.items c.args.self.now.set.links.items
    (c.deref.ensures.value ∙ with_items_is c.args.self.now.inflows c.put_inflows.new.inflows
    (c.put_inflows.auto.inflows ∙ c.deref_mut.ensures.len)) c.deref-2.ensures.value c.deref-3.ensures.value
    c.requires.sound c.requires.moment c.requires.stocks c.put_inflows.ensures c.requires.trial.set.tank_each
    c.requires.trial.set.link_each
