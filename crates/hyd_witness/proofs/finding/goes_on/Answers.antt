use Rattle.hyd_theorems_on_witnesses.proofs.OneUnmetClause.{met-is-not-unmet}
use Rattle.hyd_witness_texts.specs.MomentView.{moment_of}
use Rattle.hyd_witness.proofs.finding.goes_on.Goals as goal

pub returns-in-Err-clause-no : goal.returns-in-Err-clause-no
returns-in-Err-clause-no c = λ S reached is.
    met-is-not-unmet c.args.project.now S reached (moment_of c.args.moment.now) _ (c.in-Err.ensures.unmet S reached is)
