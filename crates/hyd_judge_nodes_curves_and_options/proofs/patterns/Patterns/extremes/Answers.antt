use Rattle.hyd_judge_nodes_curves_and_options.proofs.ExtremeLemmas.{named_extremes, named_between}
use Rattle.hyd_judge_nodes_curves_and_options.specs.Extremes.{bounds}
use Rattle.hyd_judge_nodes_curves_and_options.proofs.patterns.Patterns.extremes.Goals as goal

pub returns-in-Some-clause-extremes : goal.returns-in-Some-clause-extremes
returns-in-Some-clause-extremes c = λ text rows are.
    rw c.in-Some.is (named_extremes text rows c.args.self.now c.in-Some.name.now c.number.result (bounds c.at.result)
    c.number.ensures.value c.at.ensures are)

pub returns-in-Some-clause-between : goal.returns-in-Some-clause-between
returns-in-Some-clause-between c = λ text rows are low high.
    rw c.in-Some.is (named_between text rows c.args.self.now c.in-Some.name.now c.number.result (bounds c.at.result)
    c.number.ensures.value c.at.ensures are low high)
