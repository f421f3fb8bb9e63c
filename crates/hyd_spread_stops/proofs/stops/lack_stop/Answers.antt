use Rattle.std.proofs.Common.{ℕ, ap, sym, subst, ◌∙◌}
use Rattle.hyd_spec_certificates.specs.declared.StopCause.{StopCause}
use Rattle.hyd_spec_spread_stops.specs.StopsOfSpreads.{StopsOver}
use Rattle.hyd_sim.specs.NarrowRecordsAndStops.{stop_of}
use Rattle.hyd_spread_stops.specs.StuckOverSpreads.{NamesStuckOver}
use Rattle.hyd_spread_stops.proofs.LackingOver.{lack-stops-over, lack-stuck-over}
use Rattle.hyd_spread_stops.proofs.stops.lack_stop.Goals as goal

pub returns-clause-stops : goal.returns-clause-stops
returns-clause-stops c = λ project spread standing slack tight told pair held number in_range are first.
    subst (λ (cause : StopCause). StopsOver project spread standing slack c.args.rounds cause)
    (ap (λ (n : ℕ). stop_of n c.args.rounds c.args.lack.lack) number ∙ sym c.lack_stop.ensures)
    (lack-stops-over project spread standing slack c.args.rounds tight told pair held c.args.lack in_range are first)

pub returns-clause-stuck : goal.returns-clause-stuck
returns-clause-stuck c = λ project spread standing tight told pair held are first.
    subst (λ (cause : StopCause). NamesStuckOver project spread standing.known c.args.rounds cause)
    (sym c.lack_stop.ensures)
    (lack-stuck-over project spread standing.known c.args.rounds tight told pair held c.args.lack are first
    c.args.number)
