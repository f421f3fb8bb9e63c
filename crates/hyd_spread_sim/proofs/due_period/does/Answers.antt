use Rattle.std.proofs.Common.{◌≡◌, ℕ, false, refl, sym, ap, subst, inl, inr, arith}
use Rattle.std.proofs.lemmas.Int.{ints}
use Rattle.hyd_spec.specs.NodeNumbers.{tank_count}
use Rattle.hyd_spec_certificates.specs.declared.StopCause.{StopCause}
use Rattle.hyd_spec_spread_stops.specs.StopsOfSpreads.{StopsOver}
use Rattle.hyd_cert.specs.RecordView.{row_of}
use Rattle.hyd_open_sim.specs.EndedPeriods.{next_standing}
use Rattle.hyd_open_sim_start.specs.StandingsOfOpenRuns.{standing_for}
use Rattle.hyd_sim.specs.NarrowRecordsAndStops.{IsBySpentRounds, stop_of}
use Rattle.hyd_sim.proofs.MissingVectors.{if-err}
use Rattle.hyd_spread_networks.specs.NetsOfSpreads.{pair_of}
use Rattle.hyd_spread_stops.specs.StuckOverSpreads.{NamesStuckOver}
use Rattle.hyd_spread_stops.proofs.LackingOver.{lack-stops-over, lack-stuck-over}
use Rattle.hyd_spread_vectors.specs.VectorsOfBothNetworks.{Told, LacksFirstOver}
use Rattle.hyd_spread_sim.specs.DuePeriods.{GoesOnOver}
use Rattle.hyd_spread_sim.specs.PeriodAttempt.{AreSoughtOver, IsFaultOver}
use Rattle.hyd_spread_sim.proofs.DuePeriodsOver.{close-at, not-done, spent-on, next-long}
use Rattle.hyd_spread_sim.proofs.DuePeriodsOver.{close-alone, narrow-within}
use Rattle.hyd_spread_sim.proofs.due_period.does.Goals as goal

pub try_period-requires-clause-search : goal.try_period-requires-clause-search
try_period-requires-clause-search g c = c.requires.search.junctions

pub try_period-requires-clause-tanks : goal.try_period-requires-clause-tanks
try_period-requires-clause-tanks g c = c.requires.search.tanks

pub returns-in-Ok-clause-narrow : goal.returns-in-Ok-clause-narrow
returns-in-Ok-clause-narrow g c = λ is.
    let standing = standing_for c.args.standing.now in
    let held = c.try_period.new.search.held in
    let told : Told = record {
      above = g.F.Finder.told c.args.above.now;
      below = g.G.Finder.told c.args.below.now;
    } in
    let row = row_of c.try_period.new.found.row in
    let close = close-at c.args.settings.search.width _ standing.known.levels _ held (c.is_narrow.ensures.vectors is)
    (omega (arith, ints)) refl in
    narrow-within c.args.settings.search.width _ c.args.nets.now.spread standing (pair_of c.args.nets.now) row
    (next_standing c.args.project.now c.args.standing.now c.try_period.new.close) (omega (arith, ints))
    (c.narrow_over.ensures c.args.settings.search.width standing.known.levels false told (pair_of c.args.nets.now)
    (tank_count c.args.project.now) c.args.search.now.rounds held row c.in-Ok.ensures.held c.in-Ok.ensures.same close)
    (λ none. close-alone c.args.settings.search.width standing.known.levels held (tank_count c.args.project.now) row
    (c.in-Ok.ensures.alike none) c.in-Ok.ensures.same close) (c.is_narrow.ensures.levels is)

pub is_narrow-requires : goal.is_narrow-requires
is_narrow-requires g c = record {
  levels = λ other. next-long c.args.project.now c.args.settings.slack c.args.standing.now c.args.nets.now
      c.try_period.new.found c.try_period.new.facts c.try_period.new.close c.requires.standing c.in-Ok.ensures.made
      other;
}

pub returns-in-Ok-clause-sought : goal.returns-in-Ok-clause-sought
returns-in-Ok-clause-sought g c = λ is.
    let told : Told = record {
      above = g.F.Finder.told c.args.above.now;
      below = g.G.Finder.told c.args.below.now;
    } in
    subst (λ (n : ℕ). AreSoughtOver false told (pair_of c.args.nets.now) (tank_count c.args.project.now) n
    (row_of c.try_period.new.found.row)) c.requires.search.rounds_are c.in-Ok.ensures.sought

pub returns-in-Ok-clause-goes_on : goal.returns-in-Ok-clause-goes_on
returns-in-Ok-clause-goes_on g c =
    let told : Told = record {
      above = g.F.Finder.told c.args.above.now;
      below = g.G.Finder.told c.args.below.now;
    } in
    inl (subst (λ (n : ℕ). AreSoughtOver false told (pair_of c.args.nets.now) (tank_count c.args.project.now) n
    (row_of c.try_period.new.found.row)) c.requires.search.rounds_are c.in-Ok.ensures.sought)

pub returns-in-Err-Lack-clause-made : goal.returns-in-Err-Lack-clause-made
returns-in-Err-Lack-clause-made g c = not-done _ c.lack_fits.result c.lack_fits.ensures.goes_on

pub returns-in-Err-Lack-clause-narrow : goal.returns-in-Err-Lack-clause-narrow
returns-in-Err-Lack-clause-narrow g c = not-done _ c.lack_fits.result c.lack_fits.ensures.goes_on

pub returns-in-Err-Lack-clause-sought : goal.returns-in-Err-Lack-clause-sought
returns-in-Err-Lack-clause-sought g c = not-done _ c.lack_fits.result c.lack_fits.ensures.goes_on

pub returns-in-Err-Lack-clause-stops : goal.returns-in-Err-Lack-clause-stops
returns-in-Err-Lack-clause-stops g c =
    let project = c.args.project.now in
    let spread = c.args.nets.now.spread in
    let pair = pair_of c.args.nets.now in
    let standing = standing_for c.args.standing.now in
    let rounds = c.args.settings.search.rounds in
    let slack = c.args.settings.slack in
    let row = row_of c.try_period.new.found.row in
    let held = c.try_period.new.search.held in
    let told : Told = record {
      above = g.F.Finder.told c.args.above.now;
      below = g.G.Finder.told c.args.below.now;
    } in
    let first : LacksFirstOver false told pair (tank_count project) rounds held c.in-Err-Lack.lack =
    subst (λ (n : ℕ). LacksFirstOver false told pair (tank_count project) n held c.in-Err-Lack.lack)
    c.requires.search.rounds_are (subst (IsFaultOver false told project pair standing slack c.args.search.now.rounds
    held row) c.in-Err-Lack.field-0-is c.in-Err-Lack.ensures.fault) in
    let stops = lack-stops-over project spread standing slack rounds false told pair held c.in-Err-Lack.lack
    c.requires.started.in_range c.requires.started.are_pair first in
    if-err (λ (cause : StopCause). cause ≡ stop_of c.args.standing.now.number rounds c.in-Err-Lack.lack.lack)
    (λ (cause : StopCause). StopsOver project spread standing slack rounds cause) c.lack_fits.result
    (λ cause same. subst (λ (other : StopCause). StopsOver project spread standing slack rounds other) (sym same)
    stops) c.lack_fits.ensures.stop

pub returns-in-Err-Lack-clause-goes_on : goal.returns-in-Err-Lack-clause-goes_on
returns-in-Err-Lack-clause-goes_on g c =
    let project = c.args.project.now in
    let spread = c.args.nets.now.spread in
    let pair = pair_of c.args.nets.now in
    let standing = standing_for c.args.standing.now in
    let rounds = c.args.settings.search.rounds in
    let slack = c.args.settings.slack in
    let row = row_of c.try_period.new.found.row in
    let held = c.try_period.new.search.held in
    let told : Told = record {
      above = g.F.Finder.told c.args.above.now;
      below = g.G.Finder.told c.args.below.now;
    } in
    let first : LacksFirstOver false told pair (tank_count project) rounds held c.in-Err-Lack.lack =
    subst (λ (n : ℕ). LacksFirstOver false told pair (tank_count project) n held c.in-Err-Lack.lack)
    c.requires.search.rounds_are (subst (IsFaultOver false told project pair standing slack c.args.search.now.rounds
    held row) c.in-Err-Lack.field-0-is c.in-Err-Lack.ensures.fault) in
    spent-on (IsBySpentRounds c.in-Err-Lack.lack.lack) (GoesOnOver told pair (tank_count project) rounds held row)
    c.lack_fits.result (λ spent. inr (c.in-Err-Lack.lack, (spent, first))) c.lack_fits.ensures.spent

pub returns-in-Err-Open-clause-goes_on : goal.returns-in-Err-Open-clause-goes_on
returns-in-Err-Open-clause-goes_on g c =
    let project = c.args.project.now in
    let pair = pair_of c.args.nets.now in
    let row = row_of c.try_period.new.found.row in
    let held = c.try_period.new.search.held in
    let told : Told = record {
      above = g.F.Finder.told c.args.above.now;
      below = g.G.Finder.told c.args.below.now;
    } in
    let fault = subst (IsFaultOver false told project pair (standing_for c.args.standing.now) c.args.settings.slack
    c.args.search.now.rounds held row) c.in-Err-Open.field-0-is c.in-Err-Open.ensures.fault in
    inl (subst (λ (n : ℕ). AreSoughtOver false told pair (tank_count project) n row) c.requires.search.rounds_are
    fault.0)

pub returns-in-Err-Lack-clause-stuck : goal.returns-in-Err-Lack-clause-stuck
returns-in-Err-Lack-clause-stuck g c =
    let project = c.args.project.now in
    let spread = c.args.nets.now.spread in
    let pair = pair_of c.args.nets.now in
    let standing = standing_for c.args.standing.now in
    let rounds = c.args.settings.search.rounds in
    let slack = c.args.settings.slack in
    let row = row_of c.try_period.new.found.row in
    let held = c.try_period.new.search.held in
    let told : Told = record {
      above = g.F.Finder.told c.args.above.now;
      below = g.G.Finder.told c.args.below.now;
    } in
    let first : LacksFirstOver false told pair (tank_count project) rounds held c.in-Err-Lack.lack =
    subst (λ (n : ℕ). LacksFirstOver false told pair (tank_count project) n held c.in-Err-Lack.lack)
    c.requires.search.rounds_are (subst (IsFaultOver false told project pair standing slack c.args.search.now.rounds
    held row) c.in-Err-Lack.field-0-is c.in-Err-Lack.ensures.fault) in
    let stuck = lack-stuck-over project spread standing.known rounds false told pair held c.in-Err-Lack.lack
    c.requires.started.are_pair first c.args.standing.now.number in
    if-err (λ (cause : StopCause). cause ≡ stop_of c.args.standing.now.number rounds c.in-Err-Lack.lack.lack)
    (λ (cause : StopCause). NamesStuckOver project spread standing.known rounds cause) c.lack_fits.result
    (λ cause same. subst (λ (other : StopCause). NamesStuckOver project spread standing.known rounds other) (sym same)
    stuck) c.lack_fits.ensures.stop
