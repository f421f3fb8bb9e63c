use Rattle.hyd_spec_witnesses.specs.MiddleCandidate.{halves}
use Rattle.hyd_found_moments.proofs.finding.find_in_halves.Goals as goal

pub returns-then-find_near-clause-yes : goal.returns-then-find_near-clause-yes
returns-then-find_near-clause-yes c = λ reached is.
    c.if-find_near.ensures.yes halves reached (c.if-find_middle.ensures.stays reached is)
