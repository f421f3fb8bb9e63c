use Rattle.hyd_theorems_on_spread_rows.proofs.SpreadsOfTexts.{demands-right, emitters-right, heads-right}
use Rattle.hyd_theorems_on_spread_rows.proofs.ranges.Goals as goal

pub returns-clause-demands : goal.returns-clause-demands
returns-clause-demands c = demands-right

pub returns-clause-emitters : goal.returns-clause-emitters
returns-clause-emitters c = emitters-right

pub returns-clause-heads : goal.returns-clause-heads
returns-clause-heads c = heads-right
