use Rattle.std.proofs.Common.{◌≡◌, ℕ, true, sym, ap, subst, ◌∙◌}
use Rattle.std.specs.Prelude.{length}
use Rattle.hyd_spec.specs.NodeNumbers.{junction_count, tank_count}
use Rattle.hyd_spec_certificates.specs.declared.StopCause.{StopCause}
use Rattle.hyd_spec_open_ends.specs.PromisesOfOpenRuns.{StopsOpenly}
use Rattle.hyd_cert.specs.Lines.{Header}
use Rattle.hyd_cert.specs.VectorsOfRecord.{behind_two}
use Rattle.hyd_cert.specs.RecordView.{row_of}
use Rattle.hyd_cert.proofs.VectorLemmas.{problems_length}
use Rattle.hyd_period_network.specs.NetAsPeriodNetwork.{grid_of}
use Rattle.hyd_period_vectors.specs.SizeOfSearch.{Room}
use Rattle.hyd_open_sim_start.specs.StandingsOfOpenRuns.{known_for, standing_for}
use Rattle.hyd_sim.specs.PeriodAttempt.{AreSought}
use Rattle.hyd_sim.specs.NarrowRecordsAndStops.{NamesStuck}
use Rattle.hyd_sim.proofs.StopsAndTightRecords.{net-junctions, tight-of}
use Rattle.hyd_open_sim.specs.PeriodAttempt.{IsFault}
use Rattle.hyd_open_sim.proofs.StopsOfDuePeriods.{fault-stops, fault-stuck}
use Rattle.hyd_open_sim.proofs.due_period.tighten.Goals as goal

pub returns-in-Ok-clause-tight : goal.returns-in-Ok-clause-tight
returns-in-Ok-clause-tight g c =
    tight-of c.args.project.now (grid_of c.args.net.now) (row_of c.try_period.new.found.row)
    c.in-Ok.ensures.sought.each

pub returns-in-Ok-clause-sought : goal.returns-in-Ok-clause-sought
returns-in-Ok-clause-sought g c =
    subst (λ (n : ℕ). AreSought true (g.F.Finder.told c.args.finder.now) (grid_of c.args.net.now)
    (tank_count c.args.project.now) n (row_of c.try_period.new.found.row)) (ap (λ (room : Room). room.rounds)
    c.requires.search) c.in-Ok.ensures.sought

pub returns-in-Err-clause-stops : goal.returns-in-Err-clause-stops
returns-in-Err-clause-stops g c =
    let project = c.args.project.now in
    let grid = grid_of c.args.net.now in
    let row = c.try_period.new.found.row in
    let standing = standing_for c.args.standing.now in
    let count : length grid.junctions ≡ junction_count project =
    c.junctions-junctions.ensures.each ∙ sym (net-junctions project c.args.net.now c.requires.of) in
    let pinned : length (row_of row).pinned ≡ tank_count project =
    problems_length row.junctions row.tanks (behind_two row.junctions row.vectors.list)
    ∙ ap (λ (h : Header). h.tanks) (c.try_period.ensures.header ∙ c.requires.header) in
    subst (λ (cause : StopCause). StopsOpenly project standing c.args.slack c.args.rounds cause)
    (sym c.fault_stop.ensures)
    (fault-stops project standing grid (row_of row) c.args.slack c.args.rounds (g.F.Finder.told c.args.finder.now)
    c.requires.started.is_grid c.requires.started.in_range count pinned c.in-Err.fault
    (subst (λ (n : ℕ). IsFault true (g.F.Finder.told c.args.finder.now) project grid standing c.args.slack n
    (row_of row) c.in-Err.fault) (ap (λ (room : Room). room.rounds) c.requires.search) c.in-Err.ensures.fault))

pub returns-in-Err-clause-stuck : goal.returns-in-Err-clause-stuck
returns-in-Err-clause-stuck g c =
    let project = c.args.project.now in
    let grid = grid_of c.args.net.now in
    let row = row_of c.try_period.new.found.row in
    let standing = standing_for c.args.standing.now in
    subst (λ (cause : StopCause). NamesStuck project (known_for c.args.standing.now) c.args.rounds cause)
    (sym c.fault_stop.ensures)
    (fault-stuck project standing grid row c.args.slack c.args.rounds (g.F.Finder.told c.args.finder.now)
    c.requires.started.is_grid c.in-Err.fault
    (subst (λ (n : ℕ). IsFault true (g.F.Finder.told c.args.finder.now) project grid standing c.args.slack n row
    c.in-Err.fault) (ap (λ (room : Room). room.rounds) c.requires.search) c.in-Err.ensures.fault))
