use Rattle.hyd_spec_certificates.specs.Decided.{links_at}
use Rattle.hyd_theorems_on_open_ends.proofs.QuietStarts.{same_grid, same_start}
use Rattle.hyd_theorems_on_open_ends.proofs.starts.Goals as goal

pub returns-clause-grids : goal.returns-clause-grids
returns-clause-grids c = λ project sound standing time grid from none is.
    same_grid project sound standing.time time from none standing.levels standing.tanks (links_at project standing) grid
    is

pub returns-clause-links : goal.returns-clause-links
returns-clause-links c = same_start
