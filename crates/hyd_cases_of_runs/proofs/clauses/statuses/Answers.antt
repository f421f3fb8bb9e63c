use Rattle.std.proofs.Common.{ap}
use Rattle.hyd_cases_of_runs.proofs.clauses.statuses.Goals as goal
use Rattle.hyd_cases_of_runs.proofs.TwoTankTownAsOneValue.{town_is}
use Rattle.std.specs.Prelude.{map}
use Rattle.hyd_spec.specs.ProgramTypes.{Equal, Unequal, Status, ValueOpen, ValueClosed, ValueActive}
use Rattle.hyd_cases_of_runs.specs.TwoTankTown.{numbers}
use Rattle.hyd_cases_of_runs.specs.TwoTankTownPeriods.{standing_when_full, standing_at_three}
use Rattle.hyd_cases_of_runs.specs.Clauses.{town_truth}

pub returns-clause-at_three_equal_open : goal.returns-clause-at_three_equal_open
returns-clause-at_three_equal_open c = λ project town. ap (λ project. map
    (λ link. town_truth project standing_at_three 0 (Status link) Equal ValueOpen) numbers) (town_is town)

pub returns-clause-at_three_unequal_open : goal.returns-clause-at_three_unequal_open
returns-clause-at_three_unequal_open c = λ project town. ap (λ project. map
    (λ link. town_truth project standing_at_three 0 (Status link) Unequal ValueOpen) numbers) (town_is town)

pub returns-clause-at_three_equal_closed : goal.returns-clause-at_three_equal_closed
returns-clause-at_three_equal_closed c = λ project town. ap (λ project. map
    (λ link. town_truth project standing_at_three 0 (Status link) Equal ValueClosed) numbers) (town_is town)

pub returns-clause-at_three_unequal_closed : goal.returns-clause-at_three_unequal_closed
returns-clause-at_three_unequal_closed c = λ project town. ap
    (λ project. map (λ link. town_truth project standing_at_three 0 (Status link) Unequal ValueClosed) numbers)
    (town_is town)

pub returns-clause-at_three_equal_active : goal.returns-clause-at_three_equal_active
returns-clause-at_three_equal_active c = λ project town. ap (λ project. map
    (λ link. town_truth project standing_at_three 0 (Status link) Equal ValueActive) numbers) (town_is town)

pub returns-clause-at_three_unequal_active : goal.returns-clause-at_three_unequal_active
returns-clause-at_three_unequal_active c = λ project town. ap
    (λ project. map (λ link. town_truth project standing_at_three 0 (Status link) Unequal ValueActive) numbers)
    (town_is town)

pub returns-clause-when_full_equal_open : goal.returns-clause-when_full_equal_open
returns-clause-when_full_equal_open c = λ project town. ap (λ project. map
    (λ link. town_truth project standing_when_full 0 (Status link) Equal ValueOpen) numbers) (town_is town)

pub returns-clause-when_full_equal_closed : goal.returns-clause-when_full_equal_closed
returns-clause-when_full_equal_closed c = λ project town. ap
    (λ project. map (λ link. town_truth project standing_when_full 0 (Status link) Equal ValueClosed) numbers)
    (town_is town)

pub returns-clause-when_full_equal_active : goal.returns-clause-when_full_equal_active
returns-clause-when_full_equal_active c = λ project town. ap
    (λ project. map (λ link. town_truth project standing_when_full 0 (Status link) Equal ValueActive) numbers)
    (town_is town)
