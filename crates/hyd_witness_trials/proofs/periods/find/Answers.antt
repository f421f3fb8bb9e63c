-- One period after another.
use Rattle.std.proofs.Common.{◌∙◌}
use Rattle.hyd_io.proofs.LeftAsItWasLemmas.{output_kept_then}
use Rattle.hyd_witness_trials.proofs.periods.find.Goals as goal

pub loop-finding-preserved : goal.loop-finding-preserved
loop-finding-preserved g c =
    let i = c.loop-finding.invariant in
    let on = rw c.in_default.is at c.in_ok-finding.ensures.goes_on in
    record {
      counts = c.take_moment.ensures.counts;
      going = on.going;
      course = c.take_moment.ensures.course;
      lists = c.take_moment.ensures.lists;
      so_far = λ text told. rw c.in_default.is at (c.in_ok-finding.ensures.gives text (i.so_far text told));
      steady = c.in_ok-finding.ensures.steady ∙ i.steady;
      stays = output_kept_then _ _ _ i.stays c.take_moment.ensures.stays;
    }

pub returns-in-Some-clause-found : goal.returns-in-Some-clause-found
returns-in-Some-clause-found g c text told =
    rw c.in-Some.is at (c.in_ok-finding.ensures.gives text (c.loop-finding.invariant.so_far text told))
