use Rattle.hyd_witness_texts.specs.MomentView.{moment_of}
use Rattle.hyd_spec_witnesses.specs.MetPeriods.{at_start, reached_after}
use Rattle.hyd_witness_trials.proofs.MetMoments.{stands_more}
use Rattle.hyd_witness_trials.proofs.periods.try_moment.Goals as goal

pub returns-in-Ok-clause-gives : goal.returns-in-Ok-clause-gives
returns-in-Ok-clause-gives c moments is many stands =
    let project = c.args.project.now in
    let scale = c.args.reached.scale in
    let before = reached_after project scale at_start moments in
    let course = c.begin_first.ensures.stands moments is many stands in
    record {
      met = c.in-Ok.ensures.met scale before course;
      stands = stands_more project scale moments (moment_of c.args.moment.now) c.meets.new.self
          (c.in-Ok.ensures.stands scale before course);
    }
