use Rattle.std.proofs.Common.{◌≡◌, ℕ, true, refl, sym, ap, subst, ◌∙◌}
use Rattle.std.specs.Prelude.{length}
use Rattle.hyd_spec.specs.NodeNumbers.{tank_count}
use Rattle.hyd_spec_certificates.specs.declared.StopCause.{StopCause}
use Rattle.hyd_spec_spread_stops.specs.StopsOfSpreads.{StopsOver}
use Rattle.hyd_cert.specs.Lines.{Header}
use Rattle.hyd_cert.specs.VectorsOfRecord.{behind_two}
use Rattle.hyd_cert.specs.RecordView.{row_of}
use Rattle.hyd_cert.proofs.VectorLemmas.{problems_length}
use Rattle.hyd_open_sim_start.specs.StandingsOfOpenRuns.{standing_for}
use Rattle.hyd_spread_networks.specs.NetsOfSpreads.{pair_of}
use Rattle.hyd_spread_stops.specs.StuckOverSpreads.{NamesStuckOver}
use Rattle.hyd_spread_vectors.specs.VectorsOfBothNetworks.{Told}
use Rattle.hyd_spread_sim.specs.PeriodAttempt.{AreSoughtOver, IsFaultOver}
use Rattle.hyd_spread_sim.proofs.StopsOverSpreads.{fault-stops, fault-stuck}
use Rattle.hyd_spread_sim.proofs.due_period.tighten.Goals as goal

pub try_period-requires-clause-search : goal.try_period-requires-clause-search
try_period-requires-clause-search g c = c.requires.search.junctions

pub try_period-requires-clause-tanks : goal.try_period-requires-clause-tanks
try_period-requires-clause-tanks g c = c.requires.search.tanks

pub returns-in-Ok-clause-tight : goal.returns-in-Ok-clause-tight
returns-in-Ok-clause-tight g c =
    let told : Told = record {
      above = g.F.Finder.told c.args.above.now;
      below = g.G.Finder.told c.args.below.now;
    } in
    c.tight_over.ensures c.args.project.now told (pair_of c.args.nets.now) (tank_count c.args.project.now)
    c.try_period.new.found.row refl c.in-Ok.ensures.sought.each

pub returns-in-Ok-clause-sought : goal.returns-in-Ok-clause-sought
returns-in-Ok-clause-sought g c =
    let told : Told = record {
      above = g.F.Finder.told c.args.above.now;
      below = g.G.Finder.told c.args.below.now;
    } in
    subst (λ (n : ℕ). AreSoughtOver true told (pair_of c.args.nets.now) (tank_count c.args.project.now) n
    (row_of c.try_period.new.found.row)) c.requires.search.rounds_are c.in-Ok.ensures.sought

pub returns-in-Err-clause-stops : goal.returns-in-Err-clause-stops
returns-in-Err-clause-stops g c =
    let project = c.args.project.now in
    let spread = c.args.nets.now.spread in
    let pair = pair_of c.args.nets.now in
    let standing = standing_for c.args.standing.now in
    let row = c.try_period.new.found.row in
    let held = c.try_period.new.search.held in
    let told : Told = record {
      above = g.F.Finder.told c.args.above.now;
      below = g.G.Finder.told c.args.below.now;
    } in
    let pinned : length (row_of row).pinned ≡ tank_count project =
    problems_length row.junctions row.tanks (behind_two row.junctions row.vectors.list)
    ∙ ap (λ (h : Header). h.tanks) (c.try_period.ensures.header ∙ c.requires.header) in
    subst (λ (cause : StopCause). StopsOver project spread standing c.args.slack c.args.rounds cause)
    (sym c.fault_stop.ensures)
    (fault-stops project spread standing c.args.slack c.args.rounds pair told held (row_of row)
    c.requires.started.in_range c.requires.started.are_pair pinned
    (λ sought. c.tight_over.ensures project told pair (tank_count project) row refl sought.each) c.in-Err.fault
    (subst (λ (n : ℕ). IsFaultOver true told project pair standing c.args.slack n held (row_of row) c.in-Err.fault)
    c.requires.search.rounds_are c.in-Err.ensures.fault))

pub returns-in-Err-clause-stuck : goal.returns-in-Err-clause-stuck
returns-in-Err-clause-stuck g c =
    let project = c.args.project.now in
    let spread = c.args.nets.now.spread in
    let pair = pair_of c.args.nets.now in
    let standing = standing_for c.args.standing.now in
    let row = row_of c.try_period.new.found.row in
    let held = c.try_period.new.search.held in
    let told : Told = record {
      above = g.F.Finder.told c.args.above.now;
      below = g.G.Finder.told c.args.below.now;
    } in
    subst (λ (cause : StopCause). NamesStuckOver project spread standing.known c.args.rounds cause)
    (sym c.fault_stop.ensures)
    (fault-stuck project spread standing c.args.slack c.args.rounds told pair held row
    c.requires.started.are_pair c.in-Err.fault
    (subst (λ (n : ℕ). IsFaultOver true told project pair standing c.args.slack n held row c.in-Err.fault)
    c.requires.search.rounds_are c.in-Err.ensures.fault))
