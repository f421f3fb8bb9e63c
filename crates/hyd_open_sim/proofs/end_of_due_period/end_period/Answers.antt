use Rattle.std.proofs.Common.{◌≡◌, ap, refl, sym, subst}
use Rattle.hyd_spec_certificates.specs.Stops.{IsTightRow}
use Rattle.hyd_spec_open_ends.specs.OpenStandings.{OpenRecord}
use Rattle.hyd_cert.specs.Lines.{Header}
use Rattle.hyd_cert.specs.RecordView.{row_of}
use Rattle.hyd_open_certificates.specs.OpenRowView.{open_record_of}
use Rattle.hyd_open_certificates.specs.declared.open_row.OpenRow.{OpenRow}
use Rattle.hyd_period_network.specs.NetAsPeriodNetwork.{grid_of}
use Rattle.hyd_period_end.specs.OpenMatters.{SharesVectors}
use Rattle.hyd_period_end.specs.declared.undecided.Open.{Open}
use Rattle.hyd_open_period_end.specs.LookedAt.{AreLookedAt, ForRecord}
use Rattle.hyd_open_period_end.specs.OpenMatters.{IsOpenlyOpenAt, IsLeftOpen}
use Rattle.hyd_open_period_end.proofs.PeriodsLookedAt.{begun-still, looked-shared}
use Rattle.hyd_open_sim_start.specs.StandingsOfOpenRuns.{known_for, standing_for}
use Rattle.hyd_sim.proofs.MissingVectors.{if-err}
use Rattle.hyd_open_sim.proofs.EndsOfDuePeriods.{on-err, on-ok}
use Rattle.hyd_open_sim.proofs.end_of_due_period.end_period.Goals as goal

pub look-requires-clause-tanks : goal.look-requires-clause-tanks
look-requires-clause-tanks c = ap (λ (h : Header). h.tanks) c.requires.header

pub end_by_readings-requires-clause-begun : goal.end_by_readings-requires-clause-begun
end_by_readings-requires-clause-begun c =
    begun-still c.args.project.now (known_for c.args.standing.now) c.args.facts.now c.look.new.facts c.requires.begun
    c.look.ensures.keeps

pub end_by_readings-requires-clause-looked : goal.end_by_readings-requires-clause-looked
end_by_readings-requires-clause-looked c = record {
  grid = grid_of c.args.net.now;
  row = row_of c.args.found.now.row;
  looked = c.look.ensures.looked;
}

pub returns-clause-over : goal.returns-clause-over
returns-clause-over c =
    let project = c.args.project.now in
    let grid = grid_of c.args.net.now in
    let row = row_of c.args.found.now.row in
    let found : OpenRow = c.end_by_readings.new.found in
    let shared : SharesVectors (row_of found.row) row =
    subst (λ (f : OpenRow). SharesVectors (row_of f.row) row) (sym c.end_by_readings.ensures.found)
    (record { main = refl; pinned = refl }) in
    on-ok _ _ c.end_by_readings.result
    (λ all. all grid (open_record_of found)
    (looked-shared project grid c.look.new.facts c.look.new.readings row (row_of found.row) shared
    c.look.ensures.looked) refl refl)
    c.end_by_readings.ensures.over

pub returns-clause-open : goal.returns-clause-open
returns-clause-open c =
    let project = c.args.project.now in
    let here = c.args.standing.now in
    let grid = grid_of c.args.net.now in
    let row = row_of c.args.found.now.row in
    if-err (λ (what : Open). ForRecord project c.look.new.facts c.look.new.readings
    (λ g other. IsOpenlyOpenAt project g (standing_for here) c.args.slack other what))
    (λ (what : Open). (other : OpenRecord) → SharesVectors other.row row
    → IsOpenlyOpenAt project grid (standing_for here) c.args.slack other what) c.end_by_readings.result
    (λ what all other share. all grid other
    (looked-shared project grid c.look.new.facts c.look.new.readings row other.row share c.look.ensures.looked))
    c.end_by_readings.ensures.open

pub returns-clause-stops : goal.returns-clause-stops
returns-clause-stops c =
    let project = c.args.project.now in
    let here = c.args.standing.now in
    let grid = grid_of c.args.net.now in
    let row = row_of c.args.found.now.row in
    if-err (λ (what : Open). ForRecord project c.look.new.facts c.look.new.readings
    (λ g other. IsTightRow project (known_for here) g other.row
    → IsLeftOpen project (standing_for here) c.args.slack what))
    (λ (what : Open). IsTightRow project (known_for here) grid row
    → IsLeftOpen project (standing_for here) c.args.slack what) c.end_by_readings.result
    (λ what all. all grid (record { row = row; late = 0; shortest = 0 }) c.look.ensures.looked)
    c.end_by_readings.ensures.stops

pub returns-clause-matter : goal.returns-clause-matter
returns-clause-matter c = λ wide.
    let project = c.args.project.now in
    let grid = grid_of c.args.net.now in
    let row = row_of c.args.found.now.row in
    on-err _ _ c.end_by_readings.result
    (λ all other share. all grid other
    (looked-shared project grid c.look.new.facts c.look.new.readings row other.row share c.look.ensures.looked))
    (c.end_by_readings.ensures.matter wide)

pub returns-clause-decided : goal.returns-clause-decided
returns-clause-decided c =
    let project = c.args.project.now in
    let grid = grid_of c.args.net.now in
    let row = row_of c.args.found.now.row in
    on-ok _ _ c.end_by_readings.result
    (λ all other share. all grid other
    (looked-shared project grid c.look.new.facts c.look.new.readings row other.row share c.look.ensures.looked))
    c.end_by_readings.ensures.decided

pub returns-clause-lengths : goal.returns-clause-lengths
returns-clause-lengths c =
    let project = c.args.project.now in
    let grid = grid_of c.args.net.now in
    let row = row_of c.args.found.now.row in
    on-ok _ _ c.end_by_readings.result
    (λ all other share. all grid other
    (looked-shared project grid c.look.new.facts c.look.new.readings row other.row share c.look.ensures.looked))
    c.end_by_readings.ensures.lengths
