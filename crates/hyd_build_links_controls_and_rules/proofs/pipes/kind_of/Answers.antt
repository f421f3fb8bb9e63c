use Rattle.hyd_build_links_controls_and_rules.proofs.PipeLemmas.{checks, checks_not}
use Rattle.hyd_build_links_controls_and_rules.proofs.pipes.kind_of.Goals as goal

pub returns-in-CheckValve : goal.returns-in-CheckValve
returns-in-CheckValve c = λ rows row is loss. (checks row.words c.args.status is c.in-CheckValve.is, loss)

pub returns-in_default : goal.returns-in_default
returns-in_default c = λ rows row is loss. (checks_not row.words c.args.status is c.in_default.not-CheckValve, loss)
