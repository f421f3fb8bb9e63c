use Rattle.std.proofs.Common.{◌≡◌, ℕ, true, refl, sym, ap, subst, ◌∙◌}
use Rattle.hyd_spec.specs.NodeNumbers.{tank_count}
use Rattle.hyd_spec_certificates.specs.declared.Side.{Side}
use Rattle.hyd_spec_certificates.specs.declared.Side.TheVariants.{Upper, Lower}
use Rattle.hyd_spec_spread.specs.Spreads.{Spread}
use Rattle.hyd_spec_spread_reports.specs.TextsOfSpreadReports.{says_nothing}
use Rattle.hyd_spec_spread_runs.specs.OutermostPairs.{Pair}
use Rattle.hyd_spec_spread_runs.specs.RunsForSpreads.{AreCertificatesOver}
use Rattle.hyd_cert.specs.Lines.{Header}
use Rattle.hyd_cert.specs.RecordView.{row_of}
use Rattle.hyd_cert.specs.declared.record.Record.{Record as Row}
use Rattle.hyd_open_certificates.specs.OpenLines.{open_header}
use Rattle.hyd_open_certificates.specs.declared.open_row.OpenRow.{OpenRow}
use Rattle.hyd_theorems_on_definitions.specs.SoundLawsAndGrids.{TanksInOrder}
use Rattle.hyd_period_end.specs.OpenMatters.{SharesVectors}
use Rattle.hyd_period_network.specs.NetView.{NetView}
use Rattle.hyd_period_network.specs.NetAsPeriodNetwork.{grid_of}
use Rattle.hyd_period_vectors.specs.SoughtVectors.{OfEach}
use Rattle.hyd_sim.proofs.PeriodsByFoundVectors.{each-again}
use Rattle.hyd_open_sim_start.specs.StandingsOfOpenRuns.{known_for}
use Rattle.hyd_spread_networks.specs.NetsOfSpreads.{pair_of as pair_on}
use Rattle.hyd_spread_vectors.specs.VectorsOfBothNetworks.{Told, IsSoughtOver, AreFoundOn}
use Rattle.hyd_spread_vectors.specs.VectorsOfBothNetworks.{LacksFirstOver, IsHeldIn, held_on}
use Rattle.hyd_spread_sim.specs.PeriodAttempt.{AreSoughtOver}
use Rattle.hyd_spread_sim.proofs.PeriodsOverSpreads.{fits-net, each-over, certificates-again, sought-again, made-of}
use Rattle.hyd_spread_sim.proofs.period_attempt.try_period.Goals as goal

pub find-requires-clause-above : goal.find-requires-clause-above
find-requires-clause-above g c =
    fits-net c.args.project.now c.args.nets.now.upper c.on-upper.result.now c.args.found.now c.on-upper.ensures
    (c.requires.of.each Upper) c.requires.header

pub find-requires-clause-below : goal.find-requires-clause-below
find-requires-clause-below g c =
    fits-net c.args.project.now c.args.nets.now.lower c.on-lower.result.now c.args.found.now c.on-lower.ensures
    (c.requires.of.each Lower) c.requires.header

pub find-requires-clause-junctions : goal.find-requires-clause-junctions
find-requires-clause-junctions g c =
    c.requires.search ∙ sym (ap (λ (h : Header). h.junctions) c.requires.header)

pub find-requires-clause-tanks : goal.find-requires-clause-tanks
find-requires-clause-tanks g c = c.requires.tanks ∙ sym (ap (λ (h : Header). h.tanks) c.requires.header)

pub find-requires-clause-above_order : goal.find-requires-clause-above_order
find-requires-clause-above_order g c =
    subst (λ (n : NetView). TanksInOrder (grid_of n)) (sym c.on-upper.ensures) (c.requires.started.order Upper)

pub find-requires-clause-below_order : goal.find-requires-clause-below_order
find-requires-clause-below_order g c =
    subst (λ (n : NetView). TanksInOrder (grid_of n)) (sym c.on-lower.ensures) (c.requires.started.order Lower)

pub end_period-requires-clause-pair : goal.end_period-requires-clause-pair
end_period-requires-clause-pair g c =
    c.outermost_in_order.ensures c.args.project.now c.args.nets.now.spread c.requires.spread
    (known_for c.args.standing.now) (pair_on c.args.nets.now) c.requires.started.are_pair

pub end_period-requires-clause-levels : goal.end_period-requires-clause-levels
end_period-requires-clause-levels g c = c.requires.started.order Lower

pub end_period-requires-clause-certificates : goal.end_period-requires-clause-certificates
end_period-requires-clause-certificates g c =
    let project = c.args.project.now in
    let nets = c.args.nets.now in
    let row = c.find.new.row in
    let told : Told = record {
      above = g.F.Finder.told c.args.above.now;
      below = g.G.Finder.told c.args.below.now;
    } in
    c.certificates_over.ensures project c.args.tight told (pair_on nets) (tank_count project) row refl
    (ap (λ (h : Header). h.tanks) c.find.ensures.stays.header ∙ ap (λ (h : Header). h.tanks) c.requires.header)
    (each-over nets c.on-upper.result.now c.on-lower.result.now c.on-upper.ensures c.on-lower.ensures
    (λ (p : Pair) (n : ℕ). OfEach (IsSoughtOver c.args.tight told p n) n (row_of row)) c.args.search.now.tanks
    (tank_count project) c.requires.tanks c.in_default.ensures.found)

pub end_period-requires-clause-header : goal.end_period-requires-clause-header
end_period-requires-clause-header g c =
    ap (λ (h : Header). open_header h.junctions h.tanks) c.find.ensures.stays.header ∙ c.requires.header

pub returns-in-Ok-clause-made : goal.returns-in-Ok-clause-made
returns-in-Ok-clause-made g c =
    let project = c.args.project.now in
    let nets = c.args.nets.now in
    let row = c.find.new.row in
    let found = c.end_period.new.found in
    let stays = c.find.ensures.stays in
    let told : Told = record {
      above = g.F.Finder.told c.args.above.now;
      below = g.G.Finder.told c.args.below.now;
    } in
    let certificates : AreCertificatesOver project (pair_on nets) (row_of row) =
    c.certificates_over.ensures project c.args.tight told (pair_on nets) (tank_count project) row refl
    (ap (λ (h : Header). h.tanks) stays.header ∙ ap (λ (h : Header). h.tanks) c.requires.header)
    (each-over nets c.on-upper.result.now c.on-lower.result.now c.on-upper.ensures c.on-lower.ensures
    (λ (p : Pair) (n : ℕ). OfEach (IsSoughtOver c.args.tight told p n) n (row_of row)) c.args.search.now.tanks
    (tank_count project) c.requires.tanks c.in_default.ensures.found) in
    let same : found.row ≡ record row { length = found.row.length } =
    ap (λ (f : OpenRow). f.row) c.end_period.ensures.found in
    made-of project c.args.slack c.args.standing.now nets c.args.found.now found c.args.facts.now
    c.end_period.new.facts c.end_period.new.close c.requires.started c.requires.unfinished
    (ap (λ (r : Row). r.number) same ∙ stays.number) (ap (λ (r : Row). r.time) same ∙ stays.time)
    (ap (λ (f : OpenRow). f.late) c.end_period.ensures.found) c.end_period.ensures.links
    (certificates-again row found.row same project (pair_on nets) certificates) c.in-Ok.ensures.over

pub returns-in-Ok-clause-sought : goal.returns-in-Ok-clause-sought
returns-in-Ok-clause-sought g c =
    let project = c.args.project.now in
    let nets = c.args.nets.now in
    let row = c.find.new.row in
    let rounds = c.args.search.now.rounds in
    let told : Told = record {
      above = g.F.Finder.told c.args.above.now;
      below = g.G.Finder.told c.args.below.now;
    } in
    sought-again row c.end_period.new.found.row (ap (λ (f : OpenRow). f.row) c.end_period.ensures.found) c.args.tight
    told (pair_on nets) (tank_count project) rounds
    (each-over nets c.on-upper.result.now c.on-lower.result.now c.on-upper.ensures c.on-lower.ensures
    (λ (p : Pair) (n : ℕ). AreSoughtOver c.args.tight told p n rounds (row_of row)) c.args.search.now.tanks
    (tank_count project) c.requires.tanks
    (record { each = c.in_default.ensures.found; come = c.in_default.ensures.comes }))

pub returns-in-Ok-clause-held : goal.returns-in-Ok-clause-held
returns-in-Ok-clause-held g c =
    let nets = c.args.nets.now in
    let told : Told = record {
      above = g.F.Finder.told c.args.above.now;
      below = g.G.Finder.told c.args.below.now;
    } in
    each-over nets c.on-upper.result.now c.on-lower.result.now c.on-upper.ensures c.on-lower.ensures
    (λ (p : Pair) (n : ℕ). (network : Side) → AreFoundOn c.args.tight told p n c.args.search.now.rounds network
    (held_on network c.find.new.self.held)) c.args.search.now.tanks (tank_count c.args.project.now) c.requires.tanks
    c.in_default.ensures.held

pub returns-in-Ok-clause-same : goal.returns-in-Ok-clause-same
returns-in-Ok-clause-same g c =
    let held = c.find.new.self.held in
    each-again c.find.new.row c.end_period.new.found.row (ap (λ (f : OpenRow). f.row) c.end_period.ensures.found)
    (IsHeldIn held) (tank_count c.args.project.now)
    (subst (λ (n : ℕ). OfEach (IsHeldIn held) n (row_of c.find.new.row)) c.requires.tanks c.in_default.ensures.same)

pub returns-in-Err-clause-fault : goal.returns-in-Err-clause-fault
returns-in-Err-clause-fault g c =
    let nets = c.args.nets.now in
    let told : Told = record {
      above = g.F.Finder.told c.args.above.now;
      below = g.G.Finder.told c.args.below.now;
    } in
    each-over nets c.on-upper.result.now c.on-lower.result.now c.on-upper.ensures c.on-lower.ensures
    (λ (p : Pair) (n : ℕ). LacksFirstOver c.args.tight told p n c.args.search.now.rounds c.find.new.self.held
    c.in-Err.lack) c.args.search.now.tanks (tank_count c.args.project.now) c.requires.tanks c.in-Err.ensures.lack

pub returns-in-Err-end_period-clause-fault : goal.returns-in-Err-end_period-clause-fault
returns-in-Err-end_period-clause-fault g c =
    let project = c.args.project.now in
    let nets = c.args.nets.now in
    let row = c.find.new.row in
    let rounds = c.args.search.now.rounds in
    let same = ap (λ (f : OpenRow). f.row) c.end_period.ensures.found in
    let told : Told = record {
      above = g.F.Finder.told c.args.above.now;
      below = g.G.Finder.told c.args.below.now;
    } in (
      sought-again row c.end_period.new.found.row same c.args.tight told (pair_on nets) (tank_count project) rounds
          (each-over nets c.on-upper.result.now c.on-lower.result.now c.on-upper.ensures c.on-lower.ensures
          (λ (p : Pair) (n : ℕ). AreSoughtOver c.args.tight told p n rounds (row_of row)) c.args.search.now.tanks
          (tank_count project) c.requires.tanks
          (record { each = c.in_default.ensures.found; come = c.in_default.ensures.comes })),
      λ other share.
          let own = subst (λ (r : Row). SharesVectors other.row (row_of r)) same share in
          c.in-Err-end_period.ensures.open other (record { main = own.main; pinned = own.pinned }),
    )

pub find-requires-clause-alike : goal.find-requires-clause-alike
find-requires-clause-alike g c = λ same.
    let project = c.args.project.now in
    let nets = c.args.nets.now in
    let none : says_nothing nets.spread ≡ true =
    subst (λ (s : Spread). says_nothing s ≡ true) c.spread.ensures (sym c.says_nothing-alike.ensures ∙ same) in
    let one = c.alike_without_spread.ensures project c.requires.sound nets.spread none
    (known_for c.args.standing.now) (pair_on nets) c.requires.started.are_pair in (
      ap grid_of c.on-lower.ensures ∙ (one ∙ sym (ap grid_of c.on-upper.ensures)),
      c.requires.told none,
    )

pub returns-in-Ok-clause-alike : goal.returns-in-Ok-clause-alike
returns-in-Ok-clause-alike g c = λ none.
    c.in_default.ensures.alike (c.says_nothing-alike.ensures
    ∙ subst (λ (s : Spread). says_nothing s ≡ true) (sym c.spread.ensures) none)
