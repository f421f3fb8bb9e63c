use Rattle.std.proofs.Common.{ℤ, true, false, List, refl, sym, subst, ◌∙◌}
use Rattle.std.specs.Prelude.{OnOk, Option}
use Rattle.hyd_spec.specs.NodeNumbers.{tank_count}
use Rattle.hyd_cert.specs.RecordView.{row_of}
use Rattle.hyd_period_network.specs.NetAsPeriodNetwork.{grid_of}
use Rattle.hyd_sim.specs.PeriodAttempt.{AreSought}
use Rattle.hyd_sim.proofs.DuePeriodLemmas.{on-ok-both}
use Rattle.hyd_open_sim.proofs.DuePeriodLemmas.{done-tight, done-narrow}
use Rattle.hyd_open_sim.proofs.due_period.do_period.Goals as goal

pub returns-then-settings-clause-done : goal.returns-then-settings-clause-done
returns-then-settings-clause-done g c =
    on-ok-both _ _ _ c.tighten.result
    (done-tight (g.F.Finder.told c.args.finder.now) c.args.project.now c.args.settings c.args.standing.now
    c.start_period.new.net c.tighten.new.found c.tighten.new.facts c.tighten.new.close) c.tighten.ensures.made
    c.tighten.ensures.sought

pub returns-clause-done : goal.returns-clause-done
returns-clause-done g c =
    on-ok-both _ _ _ c.tighten-2.result
    (done-tight (g.F.Finder.told c.args.finder.now) c.args.project.now c.args.settings c.args.standing.now
    c.start_period.new.net c.tighten-2.new.found c.tighten-2.new.facts c.tighten-2.new.close)
    c.tighten-2.ensures.made
    (subst (λ (told : Option (List ℤ)). OnOk c.tighten-2.result (AreSought true told
    (grid_of c.start_period.new.net) (tank_count c.args.project.now) c.args.settings.search.rounds
    (row_of c.tighten-2.new.found.row))) c.does.ensures.told c.tighten-2.ensures.sought)

pub returns-then-branch-clause-done : goal.returns-then-branch-clause-done
returns-then-branch-clause-done g c =
    done-narrow (g.F.Finder.told c.args.finder.now) c.args.project.now c.args.settings c.args.standing.now
    c.start_period.new.net c.does.new.found c.does.new.facts c.does.new.close c.if-settings.false
    (c.in_ok-does.ensures.made c.if-branch.true) (c.in_ok-does.ensures.narrow c.if-branch.true)
    (c.in_ok-does.ensures.sought c.if-branch.true)
