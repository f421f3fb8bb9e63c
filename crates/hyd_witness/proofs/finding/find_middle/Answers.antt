use Rattle.hyd_spec_witnesses.specs.MiddleCandidate.{halves}
use Rattle.hyd_witness.proofs.finding.find_middle.Goals as goal

pub returns-clause-yes : goal.returns-clause-yes
returns-clause-yes c = λ reached is. c.goes_on.ensures.yes halves reached (c.middle.ensures.stands halves reached is)

pub returns-clause-behind : goal.returns-clause-behind
returns-clause-behind c = λ reached is.
    c.goes_on.ensures.behind halves reached (c.middle.ensures.stands halves reached is)

pub returns-clause-no : goal.returns-clause-no
returns-clause-no c = λ reached is. c.goes_on.ensures.no halves reached (c.middle.ensures.stands halves reached is)

pub returns-clause-stays : goal.returns-clause-stays
returns-clause-stays c = λ reached is.
    c.goes_on.ensures.stays halves reached (c.middle.ensures.stands halves reached is)
