use Rattle.std.proofs.Common.{◌∙◌, sym}
use Rattle.std.specs.Prelude.{map}
use Rattle.hyd_spec_certificates.specs.SpansAsIntervals.{levels_of}
use Rattle.hyd_period_facts.proofs.InitialStocksAndStates.{none_at_start, states_are}
use Rattle.hyd_period_facts.proofs.initial_stocks.put_initial_states.Goals as goal

pub unreachable-requires : goal.unreachable-requires
unreachable-requires c =
    none_at_start c.args.project.now (map levels_of c.args.levels.now) c.put_states.result c.requires.levels
    c.put_states.ensures.open (sym c.is_err.ensures.value ∙ c.if-is_err.true)

pub returns-clause-states : goal.returns-clause-states
returns-clause-states c =
    states_are c.args.project.now (map levels_of c.args.levels.now) c.put_states.new.states.list c.put_states.result
    c.requires.levels c.put_states.ensures.decided
    (none_at_start c.args.project.now (map levels_of c.args.levels.now) c.put_states.result c.requires.levels
    c.put_states.ensures.open)
