use Rattle.std.proofs.Common.{ℤ, true, List, sym, subst, ◌∙◌}
use Rattle.std.specs.Prelude.{OnOk, Option}
use Rattle.hyd_spec.specs.NodeNumbers.{tank_count}
use Rattle.hyd_cert.specs.RecordView.{row_of}
use Rattle.hyd_sim.proofs.DuePeriodLemmas.{on-ok-both}
use Rattle.hyd_open_sim_start.specs.StandingsOfOpenRuns.{standing_for}
use Rattle.hyd_spread_networks.specs.NetsOfSpreads.{pair_of}
use Rattle.hyd_spread_vectors.specs.VectorsOfBothNetworks.{Told}
use Rattle.hyd_spread_sim.specs.PeriodAttempt.{AreSoughtOver}
use Rattle.hyd_spread_sim.proofs.DuePeriodsOver.{done-tight, done-narrow, started-again, search-still}
use Rattle.hyd_spread_sim.proofs.due_period.do_started.Goals as goal

pub tighten-requires-2-clause-search : goal.tighten-requires-2-clause-search
tighten-requires-2-clause-search g c =
    search-still c.args.project.now c.args.settings.search.rounds c.args.search.now c.does.new.search
    c.does.ensures.search c.requires.search

pub tighten-requires-2-clause-started : goal.tighten-requires-2-clause-started
tighten-requires-2-clause-started g c =
    started-again c.args.project.now c.args.nets.now.spread (standing_for c.args.standing.now) c.args.nets.now
    c.args.found.now c.does.new.found c.args.facts.now c.begin.new.facts c.requires.started c.does.ensures.number
    c.does.ensures.time c.does.ensures.late c.begin.ensures.begun c.begin.ensures.ready

pub returns-then-settings-clause-done : goal.returns-then-settings-clause-done
returns-then-settings-clause-done g c =
    let told : Told = record {
      above = g.F.Finder.told c.args.above.now;
      below = g.G.Finder.told c.args.below.now;
    } in
    on-ok-both _ _ _ c.tighten.result
    (done-tight told c.args.project.now c.args.settings c.args.standing.now c.args.nets.now c.tighten.new.found
    c.tighten.new.facts c.tighten.new.close) c.tighten.ensures.made c.tighten.ensures.sought

pub returns-clause-done : goal.returns-clause-done
returns-clause-done g c =
    let project = c.args.project.now in
    let found = c.tighten-2.new.found in
    let pair = pair_of c.args.nets.now in
    let rounds = c.args.settings.search.rounds in
    let told : Told = record {
      above = g.F.Finder.told c.args.above.now;
      below = g.G.Finder.told c.args.below.now;
    } in
    on-ok-both _ _ _ c.tighten-2.result
    (done-tight told project c.args.settings c.args.standing.now c.args.nets.now found c.tighten-2.new.facts
    c.tighten-2.new.close) c.tighten-2.ensures.made
    (subst (λ (a : Option (List ℤ)). OnOk c.tighten-2.result (AreSoughtOver true
    (record { above = a; below = g.G.Finder.told c.args.below.now }) pair (tank_count project) rounds
    (row_of found.row))) c.does.ensures.told_above
    (subst (λ (b : Option (List ℤ)). OnOk c.tighten-2.result (AreSoughtOver true
    (record { above = g.F.Finder.told c.does.new.above; below = b }) pair (tank_count project) rounds
    (row_of found.row))) c.does.ensures.told_below c.tighten-2.ensures.sought))

pub returns-then-branch-clause-done : goal.returns-then-branch-clause-done
returns-then-branch-clause-done g c =
    let told : Told = record {
      above = g.F.Finder.told c.args.above.now;
      below = g.G.Finder.told c.args.below.now;
    } in
    done-narrow told c.args.project.now c.args.settings c.args.standing.now c.args.nets.now c.does.new.found
    c.does.new.facts c.does.new.close c.if-settings.false (c.in_ok-does.ensures.made c.if-branch.true)
    (c.in_ok-does.ensures.narrow c.if-branch.true) (c.in_ok-does.ensures.sought c.if-branch.true)

pub tighten-requires-2-clause-told : goal.tighten-requires-2-clause-told
tighten-requires-2-clause-told g c = λ none.
    c.does.ensures.told_below ∙ (c.requires.told none ∙ sym c.does.ensures.told_above)
