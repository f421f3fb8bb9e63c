-- The states that links are commanded to be in at the end of a period are their own.
use Rattle.std.proofs.Common.{◌≡◌, ℕ, ◌+◌, ◌%◌, ℤ, List, sym, subst}
use Rattle.std.specs.Prelude.{◌==◌}
use Rattle.std.specs.List.{AllZip}
use Rattle.std.proofs.lemmas.Bool.{cond_both}
use Rattle.hyd_net.specs.Sound.{IsSound}
use Rattle.hyd_spec.specs.ProgramTypes.{Project, LinkState}
use Rattle.hyd_spec.specs.Rules.{acted}
use Rattle.hyd_spec.specs.PumpPatternsAndSimpleControls.{started, acts_at}
use Rattle.hyd_spec.specs.PeriodLength.{Period, values_at}
use Rattle.hyd_spec.specs.History.{commanded_after}
use Rattle.hyd_theorems_on_histories.specs.Agreement.{IsOwnState}
use Rattle.hyd_theorems_on_histories.proofs.CommandedLinkStates.{started_own, acted_own}

pub commanded_own : (project : Project) → IsSound project → (S : ℕ) (levels : List ℤ) (commanded : List LinkState)
    (period : Period) → AllZip (IsOwnState project) project.links.list commanded
    → period.links ≡ started project period.time (acts_at S levels) commanded
    → AllZip (IsOwnState project) project.links.list (commanded_after project S period)
commanded_own project sound S levels commanded period own is =
    let links = subst (AllZip (IsOwnState project) project.links.list) (sym is)
    (started_own project sound period.time (acts_at S levels) commanded own) in
    cond_both ((period.time + period.length) % project.times.rule == 0)
    (acted project (values_at project S period (period.time + period.length)) period.links) period.links
    (AllZip (IsOwnState project) project.links.list)
    (λ e. acted_own project sound (values_at project S period (period.time + period.length)) period.links links)
    (λ e. links)
