use Rattle.hyd_spec_spread_targets.proofs.OneGridOnBothSides.{bracket-alone, word-alone}
use Rattle.hyd_theorems_on_spread_targets.proofs.WithoutSpread.{pair-alone, shut-pair-alone, drawing-alone}
use Rattle.hyd_theorems_on_spread_targets.proofs.WithoutSpread.{with-shut-alone, enough-alone, too-much-alone}
use Rattle.hyd_theorems_on_spread_targets.proofs.without_spread.Goals as goal

pub returns-clause-pairs : goal.returns-clause-pairs
returns-clause-pairs c = pair-alone

pub returns-clause-shut_pairs : goal.returns-clause-shut_pairs
returns-clause-shut_pairs c = shut-pair-alone

pub returns-clause-drawing : goal.returns-clause-drawing
returns-clause-drawing c = drawing-alone

pub returns-clause-with_shut : goal.returns-clause-with_shut
returns-clause-with_shut c = with-shut-alone

pub returns-clause-brackets : goal.returns-clause-brackets
returns-clause-brackets c = bracket-alone

pub returns-clause-words : goal.returns-clause-words
returns-clause-words c = word-alone

pub returns-clause-enough : goal.returns-clause-enough
returns-clause-enough c = enough-alone

pub returns-clause-too_much : goal.returns-clause-too_much
returns-clause-too_much c = too-much-alone
