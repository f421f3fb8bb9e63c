use Rattle.std.proofs.Common.{◌≡◌, Some, sym, ◌∙◌, rules}
use Rattle.hyd_spec_certificates.specs.SpansAsIntervals.{levels_of}
use Rattle.hyd_spec_certificates.specs.Stocks.{state_of}
use Rattle.hyd_theorems_on_definitions.proofs.StocksInIntervals.{state_holds, state_nests}
use Rattle.hyd_tank.proofs.states.state_of.Goals as goal

pub returns-then-state-state_at-clause-holds : goal.returns-then-state-state_at-clause-holds
returns-then-state-state_at-clause-holds c =
    let value : Some c.state_at-state.result ≡ state_of c.args.tank.now (levels_of c.args.level) = search rules in
    λ S z state some lies is. state_holds S c.args.tank.now (levels_of c.args.level) z state some lies (sym value ∙ is)

pub returns-then-state-state_at-clause-nests : goal.returns-then-state-state_at-clause-nests
returns-then-state-state_at-clause-nests c =
    let value : Some c.state_at-state.result ≡ state_of c.args.tank.now (levels_of c.args.level) = search rules in
    λ inner state ordered inside is. state_nests c.args.tank.now inner (levels_of c.args.level) state ordered inside
    (sym value ∙ is)
