use Rattle.std.proofs.Common.{◌≡◌, ℕ, Bool, true, false, refl, sym, ap, subst, ◌∙◌, inl, inr}
use Rattle.std.specs.Prelude.{length, Ok, Err, Result, IfOk}
use Rattle.hyd_spec.specs.NodeNumbers.{junction_count, tank_count}
use Rattle.hyd_spec_certificates.specs.declared.StopCause.{StopCause}
use Rattle.hyd_spec_open_ends.specs.PromisesOfOpenRuns.{StopsOpenly}
use Rattle.hyd_cert.specs.RecordView.{row_of}
use Rattle.hyd_period_network.specs.NetAsPeriodNetwork.{grid_of}
use Rattle.hyd_period_vectors.specs.SizeOfSearch.{Room}
use Rattle.hyd_period_vectors.specs.SoughtVectors.{LacksFirst}
use Rattle.hyd_open_sim_start.specs.StandingsOfOpenRuns.{known_for, standing_for}
use Rattle.hyd_sim.specs.PeriodAttempt.{AreSought, GoesOn}
use Rattle.hyd_sim.specs.NarrowRecordsAndStops.{IsBySpentRounds, NamesStuck, stop_of}
use Rattle.hyd_sim.proofs.DuePeriodLemmas.{heads-each}
use Rattle.hyd_sim.proofs.MissingVectors.{if-err, lacks-one}
use Rattle.hyd_sim.proofs.StopsAndTightRecords.{net-junctions, lack-stuck}
use Rattle.hyd_open_sim.specs.PeriodAttempt.{IsFault}
use Rattle.hyd_open_sim.proofs.DuePeriodLemmas.{next-long}
use Rattle.hyd_open_sim.proofs.StopsOfDuePeriods.{lack-stops-openly}
use Rattle.hyd_open_sim.proofs.due_period.does.Goals as goal

-- where a period isn't done nothing need hold of its record
not-done : {E : Type 0} (P : Type 0) (result : Result Bool E) → IfOk result (λ fits. fits ≡ false)
    → IfOk result (λ fits. fits ≡ true → P)
not-done P (Ok fits) e = λ is. absurd (cc)
not-done P (Err fault) e = e

-- where it goes on, rounds were spent
spent-on : {E : Type 0} (P Q : Type 0) (result : Result Bool E) → (P → Q) → IfOk result (λ fits. P)
    → IfOk result (λ fits. Q)
spent-on P Q (Ok fits) f p = f p
spent-on P Q (Err fault) f p = tt

pub is_narrow-requires-clause-heads : goal.is_narrow-requires-clause-heads
is_narrow-requires-clause-heads g c =
    heads-each c.args.project.now (grid_of c.args.net.now) (row_of c.try_period.new.found.row)
    c.in-Ok.ensures.made.valid.certificates

pub is_narrow-requires-clause-levels : goal.is_narrow-requires-clause-levels
is_narrow-requires-clause-levels g c = λ other.
    next-long c.args.project.now c.args.settings.slack c.args.standing.now c.args.net.now c.try_period.new.found
    c.try_period.new.facts c.try_period.new.close c.requires.standing c.in-Ok.ensures.made other

pub returns-in-Ok-clause-sought : goal.returns-in-Ok-clause-sought
returns-in-Ok-clause-sought g c = λ is.
    subst (λ (n : ℕ). AreSought false (g.F.Finder.told c.args.finder.now) (grid_of c.args.net.now)
    (tank_count c.args.project.now) n (row_of c.try_period.new.found.row)) (ap (λ (room : Room). room.rounds)
    c.requires.search) c.in-Ok.ensures.sought

pub returns-in-Err-Lack-clause-made : goal.returns-in-Err-Lack-clause-made
returns-in-Err-Lack-clause-made g c = not-done _ c.lack_fits.result c.lack_fits.ensures.goes_on

pub returns-in-Err-Lack-clause-narrow : goal.returns-in-Err-Lack-clause-narrow
returns-in-Err-Lack-clause-narrow g c = not-done _ c.lack_fits.result c.lack_fits.ensures.goes_on

pub returns-in-Err-Lack-clause-sought : goal.returns-in-Err-Lack-clause-sought
returns-in-Err-Lack-clause-sought g c = not-done _ c.lack_fits.result c.lack_fits.ensures.goes_on

pub returns-in-Err-Lack-clause-stops : goal.returns-in-Err-Lack-clause-stops
returns-in-Err-Lack-clause-stops g c =
    let project = c.args.project.now in
    let standing = standing_for c.args.standing.now in
    let grid = grid_of c.args.net.now in
    let told = g.F.Finder.told c.args.finder.now in
    let rounds = c.args.settings.search.rounds in
    let slack = c.args.settings.slack in
    let row = row_of c.try_period.new.found.row in
    let count : length grid.junctions ≡ junction_count project =
    c.junctions-junctions.ensures.each ∙ sym (net-junctions project c.args.net.now c.requires.of) in
    let first : LacksFirst false told grid (tank_count project) rounds row c.in-Err-Lack.lack =
    subst (λ (n : ℕ). LacksFirst false told grid (tank_count project) n row c.in-Err-Lack.lack)
    (ap (λ (room : Room). room.rounds) c.requires.search) (subst (IsFault false told project grid standing slack
    c.args.search.now.rounds row) c.in-Err-Lack.field-0-is c.in-Err-Lack.ensures.fault) in
    let stops = lack-stops-openly project standing grid slack rounds c.in-Err-Lack.lack count
    c.requires.started.in_range c.requires.started.is_grid
    (lacks-one false told grid (tank_count project) rounds row c.in-Err-Lack.lack first) in
    if-err (λ (cause : StopCause). cause ≡ stop_of c.args.standing.now.number rounds c.in-Err-Lack.lack)
    (λ (cause : StopCause). StopsOpenly project standing slack rounds cause) c.lack_fits.result
    (λ cause same. subst (λ (other : StopCause). StopsOpenly project standing slack rounds other) (sym same) stops)
    c.lack_fits.ensures.stop

pub returns-in-Ok-clause-goes_on : goal.returns-in-Ok-clause-goes_on
returns-in-Ok-clause-goes_on g c =
    inl (subst (λ (n : ℕ). AreSought false (g.F.Finder.told c.args.finder.now) (grid_of c.args.net.now)
    (tank_count c.args.project.now) n (row_of c.try_period.new.found.row)) (ap (λ (room : Room). room.rounds)
    c.requires.search) c.in-Ok.ensures.sought)

pub returns-in-Err-Lack-clause-goes_on : goal.returns-in-Err-Lack-clause-goes_on
returns-in-Err-Lack-clause-goes_on g c =
    let project = c.args.project.now in
    let standing = standing_for c.args.standing.now in
    let grid = grid_of c.args.net.now in
    let told = g.F.Finder.told c.args.finder.now in
    let rounds = c.args.settings.search.rounds in
    let row = row_of c.try_period.new.found.row in
    let first : LacksFirst false told grid (tank_count project) rounds row c.in-Err-Lack.lack =
    subst (λ (n : ℕ). LacksFirst false told grid (tank_count project) n row c.in-Err-Lack.lack)
    (ap (λ (room : Room). room.rounds) c.requires.search) (subst (IsFault false told project grid standing
    c.args.settings.slack c.args.search.now.rounds row) c.in-Err-Lack.field-0-is c.in-Err-Lack.ensures.fault) in
    spent-on (IsBySpentRounds c.in-Err-Lack.lack) (GoesOn told grid (tank_count project) rounds row)
    c.lack_fits.result (λ spent. inr (c.in-Err-Lack.lack, (spent, first))) c.lack_fits.ensures.spent

pub returns-in-Err-Open-clause-goes_on : goal.returns-in-Err-Open-clause-goes_on
returns-in-Err-Open-clause-goes_on g c =
    let project = c.args.project.now in
    let standing = standing_for c.args.standing.now in
    let grid = grid_of c.args.net.now in
    let told = g.F.Finder.told c.args.finder.now in
    let row = row_of c.try_period.new.found.row in
    let fault = subst (IsFault false told project grid standing c.args.settings.slack c.args.search.now.rounds row)
    c.in-Err-Open.field-0-is c.in-Err-Open.ensures.fault in
    inl (subst (λ (n : ℕ). AreSought false told grid (tank_count project) n row)
    (ap (λ (room : Room). room.rounds) c.requires.search) fault.0)

pub returns-in-Err-Lack-clause-stuck : goal.returns-in-Err-Lack-clause-stuck
returns-in-Err-Lack-clause-stuck g c =
    let project = c.args.project.now in
    let standing = standing_for c.args.standing.now in
    let known = known_for c.args.standing.now in
    let grid = grid_of c.args.net.now in
    let told = g.F.Finder.told c.args.finder.now in
    let rounds = c.args.settings.search.rounds in
    let row = row_of c.try_period.new.found.row in
    let first : LacksFirst false told grid (tank_count project) rounds row c.in-Err-Lack.lack =
    subst (λ (n : ℕ). LacksFirst false told grid (tank_count project) n row c.in-Err-Lack.lack)
    (ap (λ (room : Room). room.rounds) c.requires.search) (subst (IsFault false told project grid standing
    c.args.settings.slack c.args.search.now.rounds row) c.in-Err-Lack.field-0-is c.in-Err-Lack.ensures.fault) in
    let stuck = lack-stuck project known grid (tank_count project) rounds c.in-Err-Lack.lack
    c.requires.started.is_grid
    (lacks-one false told grid (tank_count project) rounds row c.in-Err-Lack.lack first) in
    if-err (λ (cause : StopCause). cause ≡ stop_of c.args.standing.now.number rounds c.in-Err-Lack.lack)
    (λ (cause : StopCause). NamesStuck project known rounds cause) c.lack_fits.result
    (λ cause same. subst (λ (other : StopCause). NamesStuck project known rounds other) (sym same) stuck)
    c.lack_fits.ensures.stop
