use Rattle.std.proofs.Common.{◌≡◌, ℕ, Bool, true, false, refl, sym, ap, subst, ◌∙◌, inl, inr}
use Rattle.std.specs.Prelude.{length, Ok, Err, Result, IfOk}
use Rattle.hyd_spec.specs.NodeNumbers.{junction_count, tank_count}
use Rattle.std.proofs.Common.{ℤ, arith, to_z, of_z, w64}
use Rattle.std.proofs.lemmas.Int.{ints}
use Rattle.hyd_spec_certificates.specs.Narrow.{IsNarrow}
use Rattle.hyd_spec_certificates.specs.Stops.{Stops}
use Rattle.hyd_spec_certificates.specs.declared.StopCause.{StopCause}
use Rattle.hyd_cert.specs.Lines.{Header}
use Rattle.hyd_cert.specs.VectorsOfRecord.{behind_two}
use Rattle.hyd_cert.specs.RecordView.{row_of}
use Rattle.hyd_cert.proofs.VectorLemmas.{problems_length}
use Rattle.hyd_period_network.specs.NetAsPeriodNetwork.{grid_of}
use Rattle.hyd_period_vectors.specs.SizeOfSearch.{Room}
use Rattle.hyd_period_vectors.specs.SoughtVectors.{LacksFirst}
use Rattle.hyd_sim.specs.PeriodAttempt.{AreSought, GoesOn, IsFault, next_standing}
use Rattle.hyd_sim.specs.NarrowRecordsAndStops.{IsBySpentRounds, NamesStuck, stop_of}
use Rattle.hyd_sim.specs.RunView.{standing_for}
use Rattle.hyd_sim.proofs.DuePeriodLemmas.{heads-each, next-long, told-here, same-here, nothing-open, narrow-too}
use Rattle.hyd_sim.proofs.MissingVectors.{if-err, lacks-one, none-lacking}
use Rattle.hyd_sim.proofs.StopsAndTightRecords.{net-junctions, lack-stops, lack-stuck}
use Rattle.hyd_sim.proofs.due_period.does.Goals as goal

-- where a period isn't done nothing need hold of its record
not-done : {E : Type 0} (P : Type 0) (result : Result Bool E) → IfOk result (λ fits. fits ≡ false)
    → IfOk result (λ fits. fits ≡ true → P)
not-done P (Ok fits) e = λ is. absurd (cc)
not-done P (Err fault) e = e

-- where it goes on, rounds were spent
spent-on : {E : Type 0} (P Q : Type 0) (result : Result Bool E) → (P → Q) → IfOk result (λ fits. P)
    → IfOk result (λ fits. Q)
spent-on P Q (Ok fits) f p = f p
spent-on P Q (Err fault) f p = tt

kept-true : (fits : Bool) → (fits ≡ false → ⊥) → fits ≡ true
kept-true true never = refl
kept-true false never = absurd (never refl)

pub is_narrow-requires-clause-heads : goal.is_narrow-requires-clause-heads
is_narrow-requires-clause-heads g c =
    heads-each c.args.project.now (grid_of c.args.net.now) (row_of c.try_period.new.row)
    c.in-Ok.ensures.made.valid.certificates

pub is_narrow-requires-clause-levels : goal.is_narrow-requires-clause-levels
is_narrow-requires-clause-levels g c = λ other.
    next-long c.args.project.now c.args.standing.now c.args.net.now c.try_period.new.row c.try_period.new.facts
    c.try_period.new.close c.requires.standing c.in-Ok.ensures.made other

pub returns-in-Ok-clause-proposal : goal.returns-in-Ok-clause-proposal
returns-in-Ok-clause-proposal g c = λ w p.
    let project = c.args.project.now in
    let standing = standing_for c.args.standing.now in
    let grid = grid_of c.args.net.now in
    let row = c.try_period.new.row in
    let pinned : length (row_of row).pinned ≡ tank_count project =
    problems_length row.junctions row.tanks (behind_two row.junctions row.vectors.list)
    ∙ ap (λ (h : Header). h.tanks) (c.try_period.ensures.header ∙ c.requires.header) in
    let told = g.F.Finder.told c.args.finder.now in
    let width : to_z w64 (of_z w64 c.args.settings.width) ≡ c.args.settings.width = omega (arith, ints) in
    let sought : AreSought false told grid (tank_count project) c.args.settings.rounds (row_of row) =
    subst (λ (n : ℕ). AreSought false told grid (tank_count project) n (row_of row))
    (ap (λ (room : Room). room.rounds) c.requires.search) c.in-Ok.ensures.sought in
    let narrow = narrow-too project c.args.settings standing grid c.requires.started.is_grid told w p
    c.junctions-junctions.ensures.steady c.requires.started.order (row_of row) pinned sought _
    c.in-Ok.ensures.made.valid in (
      ap Ok (kept-true c.is_narrow.result (λ e. c.is_narrow.ensures.wide e
          (subst (λ (W : ℤ). IsNarrow W standing (row_of row)
          (next_standing project c.args.standing.now row.length c.try_period.new.close)) (sym width) narrow))),
      same-here project c.args.settings standing grid c.requires.started.is_grid told w p
          c.junctions-junctions.ensures.steady c.requires.started.order (row_of row) pinned sought,
    )

pub returns-in-Ok-clause-sought : goal.returns-in-Ok-clause-sought
returns-in-Ok-clause-sought g c = λ is.
    subst (λ (n : ℕ). AreSought false (g.F.Finder.told c.args.finder.now) (grid_of c.args.net.now)
    (tank_count c.args.project.now) n (row_of c.try_period.new.row)) (ap (λ (room : Room). room.rounds)
    c.requires.search) c.in-Ok.ensures.sought

pub returns-in-Err-Lack-clause-made : goal.returns-in-Err-Lack-clause-made
returns-in-Err-Lack-clause-made g c = not-done _ c.lack_fits.result c.lack_fits.ensures.goes_on

pub returns-in-Err-Lack-clause-narrow : goal.returns-in-Err-Lack-clause-narrow
returns-in-Err-Lack-clause-narrow g c = not-done _ c.lack_fits.result c.lack_fits.ensures.goes_on

pub returns-in-Err-Lack-clause-sought : goal.returns-in-Err-Lack-clause-sought
returns-in-Err-Lack-clause-sought g c = not-done _ c.lack_fits.result c.lack_fits.ensures.goes_on

pub returns-in-Err-Lack-clause-stops : goal.returns-in-Err-Lack-clause-stops
returns-in-Err-Lack-clause-stops g c =
    let project = c.args.project.now in
    let standing = standing_for c.args.standing.now in
    let grid = grid_of c.args.net.now in
    let told = g.F.Finder.told c.args.finder.now in
    let row = row_of c.try_period.new.row in
    let count : length grid.junctions ≡ junction_count project =
    c.junctions-junctions.ensures.each ∙ sym (net-junctions project c.args.net.now c.requires.of) in
    let first : LacksFirst false told grid (tank_count project) c.args.settings.rounds row c.in-Err-Lack.lack =
    subst (λ (n : ℕ). LacksFirst false told grid (tank_count project) n row c.in-Err-Lack.lack)
    (ap (λ (room : Room). room.rounds) c.requires.search) (subst (IsFault false told project grid standing
    c.args.search.now.rounds row) c.in-Err-Lack.field-0-is c.in-Err-Lack.ensures.fault) in
    let stops = lack-stops project standing grid (tank_count project) c.args.settings.rounds c.in-Err-Lack.lack refl
    count c.requires.started.in_range c.requires.started.is_grid
    (lacks-one false told grid (tank_count project) c.args.settings.rounds row c.in-Err-Lack.lack first) in
    if-err (λ (cause : StopCause). cause ≡ stop_of c.args.standing.now.number c.args.settings.rounds c.in-Err-Lack.lack)
    (λ (cause : StopCause). Stops project standing c.args.settings.rounds cause) c.lack_fits.result
    (λ cause same. subst (λ (other : StopCause). Stops project standing c.args.settings.rounds other) (sym same) stops)
    c.lack_fits.ensures.stop

pub returns-in-Err-Lack-clause-proposal : goal.returns-in-Err-Lack-clause-proposal
returns-in-Err-Lack-clause-proposal g c = λ w p.
    let project = c.args.project.now in
    let standing = standing_for c.args.standing.now in
    let grid = grid_of c.args.net.now in
    let told = g.F.Finder.told c.args.finder.now in
    let row = row_of c.try_period.new.row in
    let first : LacksFirst false told grid (tank_count project) c.args.settings.rounds row c.in-Err-Lack.lack =
    subst (λ (n : ℕ). LacksFirst false told grid (tank_count project) n row c.in-Err-Lack.lack)
    (ap (λ (room : Room). room.rounds) c.requires.search) (subst (IsFault false told project grid standing
    c.args.search.now.rounds row) c.in-Err-Lack.field-0-is c.in-Err-Lack.ensures.fault) in
    absurd (none-lacking told grid (tank_count project) c.args.settings.rounds row w c.in-Err-Lack.lack first
    (told-here project c.args.settings standing grid c.requires.started.is_grid told w p))

pub returns-in-Err-Open-clause-proposal : goal.returns-in-Err-Open-clause-proposal
returns-in-Err-Open-clause-proposal g c = λ w p.
    let project = c.args.project.now in
    let standing = standing_for c.args.standing.now in
    let grid = grid_of c.args.net.now in
    let told = g.F.Finder.told c.args.finder.now in
    let row = c.try_period.new.row in
    let pinned : length (row_of row).pinned ≡ tank_count project =
    problems_length row.junctions row.tanks (behind_two row.junctions row.vectors.list)
    ∙ ap (λ (h : Header). h.tanks) (c.try_period.ensures.header ∙ c.requires.header) in
    let fault = subst (IsFault false told project grid standing c.args.search.now.rounds (row_of row))
    c.in-Err-Open.field-0-is c.in-Err-Open.ensures.fault in
    let sought : AreSought false told grid (tank_count project) c.args.settings.rounds (row_of row) =
    subst (λ (n : ℕ). AreSought false told grid (tank_count project) n (row_of row))
    (ap (λ (room : Room). room.rounds) c.requires.search) fault.0 in
    absurd (nothing-open project c.args.settings standing grid c.requires.started.is_grid told w p
    c.junctions-junctions.ensures.steady c.requires.started.order (row_of row) pinned sought _ fault.1)

pub returns-in-Ok-clause-goes_on : goal.returns-in-Ok-clause-goes_on
returns-in-Ok-clause-goes_on g c =
    inl (subst (λ (n : ℕ). AreSought false (g.F.Finder.told c.args.finder.now) (grid_of c.args.net.now)
    (tank_count c.args.project.now) n (row_of c.try_period.new.row)) (ap (λ (room : Room). room.rounds)
    c.requires.search) c.in-Ok.ensures.sought)

pub returns-in-Err-Lack-clause-goes_on : goal.returns-in-Err-Lack-clause-goes_on
returns-in-Err-Lack-clause-goes_on g c =
    let project = c.args.project.now in
    let standing = standing_for c.args.standing.now in
    let grid = grid_of c.args.net.now in
    let told = g.F.Finder.told c.args.finder.now in
    let row = row_of c.try_period.new.row in
    let first : LacksFirst false told grid (tank_count project) c.args.settings.rounds row c.in-Err-Lack.lack =
    subst (λ (n : ℕ). LacksFirst false told grid (tank_count project) n row c.in-Err-Lack.lack)
    (ap (λ (room : Room). room.rounds) c.requires.search) (subst (IsFault false told project grid standing
    c.args.search.now.rounds row) c.in-Err-Lack.field-0-is c.in-Err-Lack.ensures.fault) in
    spent-on (IsBySpentRounds c.in-Err-Lack.lack) (GoesOn told grid (tank_count project) c.args.settings.rounds row)
    c.lack_fits.result (λ spent. inr (c.in-Err-Lack.lack, (spent, first))) c.lack_fits.ensures.spent

pub returns-in-Err-Open-clause-goes_on : goal.returns-in-Err-Open-clause-goes_on
returns-in-Err-Open-clause-goes_on g c =
    let project = c.args.project.now in
    let standing = standing_for c.args.standing.now in
    let grid = grid_of c.args.net.now in
    let told = g.F.Finder.told c.args.finder.now in
    let row = row_of c.try_period.new.row in
    let fault = subst (IsFault false told project grid standing c.args.search.now.rounds row)
    c.in-Err-Open.field-0-is c.in-Err-Open.ensures.fault in
    inl (subst (λ (n : ℕ). AreSought false told grid (tank_count project) n row)
    (ap (λ (room : Room). room.rounds) c.requires.search) fault.0)

pub returns-in-Err-Lack-clause-stuck : goal.returns-in-Err-Lack-clause-stuck
returns-in-Err-Lack-clause-stuck g c =
    let project = c.args.project.now in
    let standing = standing_for c.args.standing.now in
    let grid = grid_of c.args.net.now in
    let told = g.F.Finder.told c.args.finder.now in
    let row = row_of c.try_period.new.row in
    let first : LacksFirst false told grid (tank_count project) c.args.settings.rounds row c.in-Err-Lack.lack =
    subst (λ (n : ℕ). LacksFirst false told grid (tank_count project) n row c.in-Err-Lack.lack)
    (ap (λ (room : Room). room.rounds) c.requires.search) (subst (IsFault false told project grid standing
    c.args.search.now.rounds row) c.in-Err-Lack.field-0-is c.in-Err-Lack.ensures.fault) in
    let stuck = lack-stuck project standing grid (tank_count project) c.args.settings.rounds c.in-Err-Lack.lack
    c.requires.started.is_grid
    (lacks-one false told grid (tank_count project) c.args.settings.rounds row c.in-Err-Lack.lack first) in
    if-err (λ (cause : StopCause). cause ≡ stop_of c.args.standing.now.number c.args.settings.rounds c.in-Err-Lack.lack)
    (λ (cause : StopCause). NamesStuck project standing c.args.settings.rounds cause) c.lack_fits.result
    (λ cause same. subst (λ (other : StopCause). NamesStuck project standing c.args.settings.rounds other) (sym same)
    stuck) c.lack_fits.ensures.stop
