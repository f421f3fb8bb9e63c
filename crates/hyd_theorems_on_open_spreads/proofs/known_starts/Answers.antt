use Rattle.hyd_theorems_on_open_spreads.proofs.KnownStarts.{ends-over, valid-known, runs-known}
use Rattle.hyd_theorems_on_open_spreads.proofs.known_starts.Goals as goal

pub returns-clause-ends : goal.returns-clause-ends
returns-clause-ends c = λ project sound spread standing pair found next valid exact within not_last.
    let known = ends-over project sound spread standing pair found next valid exact within not_last in
    (known.leaves_links, (known.shortest, known.time))

pub returns-clause-records : goal.returns-clause-records
returns-clause-records c = λ project sound spread standing pair found next valid exact within uncut.
    valid-known project sound spread standing pair found next valid exact within uncut

pub returns-clause-runs : goal.returns-clause-runs
returns-clause-runs c = runs-known
