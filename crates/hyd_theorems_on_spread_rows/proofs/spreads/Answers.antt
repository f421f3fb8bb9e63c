use Rattle.hyd_theorems_on_spread_rows.proofs.SpreadsOfTexts.{is-spread}
use Rattle.hyd_theorems_on_spread_rows.proofs.spreads.Goals as goal

pub returns : goal.returns
returns c = is-spread
