use Rattle.std.proofs.Common.{◌≡◌, ℕ, sym, ap, subst, ◌∙◌}
use Rattle.std.specs.Prelude.{length}
use Rattle.hyd_spec.specs.NodeNumbers.{tank_count}
use Rattle.hyd_cert.specs.Lines.{Header}
use Rattle.hyd_cert.specs.VectorsOfRecord.{behind_two}
use Rattle.hyd_cert.specs.RecordView.{row_of}
use Rattle.hyd_cert.specs.declared.record.Record.{Record as Row}
use Rattle.hyd_cert.proofs.VectorLemmas.{problems_length}
use Rattle.hyd_open_certificates.specs.OpenLines.{open_header}
use Rattle.hyd_open_certificates.specs.declared.open_row.OpenRow.{OpenRow}
use Rattle.hyd_period_network.specs.NetAsPeriodNetwork.{grid_of}
use Rattle.hyd_period_end.specs.OpenMatters.{SharesVectors}
use Rattle.hyd_period_vectors.specs.SoughtVectors.{LacksFirst}
use Rattle.hyd_spec_certificates.specs.Stops.{IsTightRow}
use Rattle.hyd_sim.specs.PeriodAttempt.{AreSought}
use Rattle.hyd_sim.proofs.PeriodsByFoundVectors.{certificates-again, sought-again}
use Rattle.hyd_sim.proofs.MissingVectors.{sought-all}
use Rattle.hyd_sim.proofs.StopsAndTightRecords.{net-junctions, certificates-of}
use Rattle.hyd_open_sim_start.specs.StandingsOfOpenRuns.{known_for}
use Rattle.hyd_open_sim.proofs.EndsOfDuePeriods.{made-of}
use Rattle.hyd_open_sim.proofs.StopsOfDuePeriods.{tight-again}
use Rattle.hyd_open_sim.proofs.period_attempt.try_period.Goals as goal

pub find-requires-clause-room : goal.find-requires-clause-room
find-requires-clause-room g c =
    c.requires.search ∙ net-junctions c.args.project.now c.args.net.now c.requires.of

pub find-requires-clause-fits : goal.find-requires-clause-fits
find-requires-clause-fits g c = record {
  junctions = ap (λ (h : Header). h.junctions) c.requires.header
      ∙ net-junctions c.args.project.now c.args.net.now c.requires.of;
  tanks = ap (λ (h : Header). h.tanks) c.requires.header ∙ sym c.requires.of.each_tank;
}

pub find-requires-clause-order : goal.find-requires-clause-order
find-requires-clause-order g c = c.requires.started.order

pub end_period-requires-clause-certificates : goal.end_period-requires-clause-certificates
end_period-requires-clause-certificates g c =
    let project = c.args.project.now in
    let net = c.args.net.now in
    let row = c.find.new.row in
    let pinned : length (row_of row).pinned ≡ length net.tanks =
    problems_length row.junctions row.tanks (behind_two row.junctions row.vectors.list)
    ∙ (ap (λ (h : Header). h.tanks) c.find.ensures.stays.header
    ∙ (ap (λ (h : Header). h.tanks) c.requires.header ∙ sym c.requires.of.each_tank)) in
    certificates-of project (grid_of net) (length net.tanks) (row_of row) c.requires.of.each_tank pinned
    (sought-all c.args.tight (g.F.Finder.told c.args.finder.now) (grid_of net) (length net.tanks) (row_of row)
    c.in_default.ensures.found)

pub end_period-requires-clause-header : goal.end_period-requires-clause-header
end_period-requires-clause-header g c =
    ap (λ (h : Header). open_header h.junctions h.tanks) c.find.ensures.stays.header ∙ c.requires.header

pub returns-in-Ok-clause-made : goal.returns-in-Ok-clause-made
returns-in-Ok-clause-made g c =
    let project = c.args.project.now in
    let net = c.args.net.now in
    let row = c.find.new.row in
    let found = c.end_period.new.found in
    let stays = c.find.ensures.stays in
    let pinned : length (row_of row).pinned ≡ length net.tanks =
    problems_length row.junctions row.tanks (behind_two row.junctions row.vectors.list)
    ∙ (ap (λ (h : Header). h.tanks) stays.header
    ∙ (ap (λ (h : Header). h.tanks) c.requires.header ∙ sym c.requires.of.each_tank)) in
    let certificates = certificates-of project (grid_of net) (length net.tanks) (row_of row) c.requires.of.each_tank
    pinned (sought-all c.args.tight (g.F.Finder.told c.args.finder.now) (grid_of net) (length net.tanks) (row_of row)
    c.in_default.ensures.found) in
    let same : found.row ≡ record row { length = found.row.length } =
    ap (λ (f : OpenRow). f.row) c.end_period.ensures.found in
    made-of project c.args.slack c.args.standing.now net c.args.found.now found c.args.facts.now c.end_period.new.facts
    c.end_period.new.close c.requires.started c.requires.unfinished
    (ap (λ (r : Row). r.number) same ∙ stays.number) (ap (λ (r : Row). r.time) same ∙ stays.time)
    (ap (λ (f : OpenRow). f.late) c.end_period.ensures.found) c.end_period.ensures.links
    (certificates-again row found.row same project (grid_of net) certificates) c.in-Ok.ensures.over

pub returns-in-Ok-clause-sought : goal.returns-in-Ok-clause-sought
returns-in-Ok-clause-sought g c =
    let net = c.args.net.now in
    let tanks = tank_count c.args.project.now in
    let told = g.F.Finder.told c.args.finder.now in
    let rounds = c.args.search.now.rounds in
    let found : AreSought c.args.tight told (grid_of net) (length net.tanks) rounds (row_of c.find.new.row) =
    record { each = c.in_default.ensures.found; come = c.in_default.ensures.comes } in
    sought-again c.find.new.row c.end_period.new.found.row (ap (λ (f : OpenRow). f.row) c.end_period.ensures.found)
    c.args.tight told (grid_of net) tanks
    rounds (subst (λ (n : ℕ). AreSought c.args.tight told (grid_of net) n rounds (row_of c.find.new.row))
    c.requires.of.each_tank found)

pub returns-in-Err-clause-fault : goal.returns-in-Err-clause-fault
returns-in-Err-clause-fault g c =
    let net = c.args.net.now in
    subst (λ (n : ℕ). LacksFirst c.args.tight (g.F.Finder.told c.args.finder.now) (grid_of net) n
    c.args.search.now.rounds (row_of c.find.new.row) c.in-Err.lack) c.requires.of.each_tank c.in-Err.ensures.lack

pub returns-in-Err-end_period-clause-fault : goal.returns-in-Err-end_period-clause-fault
returns-in-Err-end_period-clause-fault g c =
    let net = c.args.net.now in
    let tanks = tank_count c.args.project.now in
    let told = g.F.Finder.told c.args.finder.now in
    let rounds = c.args.search.now.rounds in
    let same = ap (λ (f : OpenRow). f.row) c.end_period.ensures.found in
    let found : AreSought c.args.tight told (grid_of net) (length net.tanks) rounds (row_of c.find.new.row) =
    record { each = c.in_default.ensures.found; come = c.in_default.ensures.comes } in (
      sought-again c.find.new.row c.end_period.new.found.row same c.args.tight told (grid_of net) tanks
          rounds (subst (λ (n : ℕ). AreSought c.args.tight told (grid_of net) n rounds (row_of c.find.new.row))
          c.requires.of.each_tank found),
      (
        λ other share.
            let own = subst (λ (r : Row). SharesVectors other.row (row_of r)) same share in
            c.in-Err-end_period.ensures.open other (record { main = own.main; pinned = own.pinned }),
        λ tight. c.in-Err-end_period.ensures.stops
            (tight-again c.args.project.now (known_for c.args.standing.now) (grid_of net) c.find.new.row
            c.end_period.new.found.row same tight),
      ),
    )
