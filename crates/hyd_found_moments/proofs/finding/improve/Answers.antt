use Rattle.hyd_spec_witnesses.specs.WitnessText.{counts_of}
use Rattle.hyd_found_moments.proofs.finding.improve.Goals as goal

pub returns-in-Ok-clause-moment : goal.returns-in-Ok-clause-moment
returns-in-Ok-clause-moment c = c.improve.ensures.moment (counts_of c.args.project.now) c.requires.moment
