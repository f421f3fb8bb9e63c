use Rattle.std.proofs.Common.{ℤ, true, false, List, refl, sym, subst, ◌∙◌}
use Rattle.std.specs.Prelude.{OnOk, Option}
use Rattle.std.proofs.lemmas.Bool.{true≢false, false≢true}
use Rattle.hyd_spec.specs.NodeNumbers.{tank_count}
use Rattle.hyd_cert.specs.RecordView.{row_of}
use Rattle.hyd_period_network.specs.NetAsPeriodNetwork.{grid_of}
use Rattle.hyd_sim.specs.PeriodAttempt.{AreSought}
use Rattle.hyd_sim.proofs.DuePeriodLemmas.{on-ok-both, done-tight, done-narrow}
use Rattle.hyd_sim.proofs.due_period.do_period.Goals as goal

pub returns-in_err-start_period-clause-proposal : goal.returns-in_err-start_period-clause-proposal
returns-in_err-start_period-clause-proposal g c = λ w e p.
    absurd (false≢true (c.in_err-start_period.ensures.in_range p.valid.demands))

pub returns-then-settings-clause-done : goal.returns-then-settings-clause-done
returns-then-settings-clause-done g c =
    on-ok-both _ _ _ c.tighten.result
    (done-tight (g.F.Finder.told c.args.finder.now) c.args.project.now c.args.settings c.args.standing.now
    c.start_period.new.net c.tighten.new.row c.tighten.new.facts c.tighten.new.close) c.tighten.ensures.made
    c.tighten.ensures.sought

pub returns-then-settings-clause-proposal : goal.returns-then-settings-clause-proposal
returns-then-settings-clause-proposal g c = λ w e p. absurd (true≢false (sym c.if-settings.true ∙ e))

pub returns-clause-done : goal.returns-clause-done
returns-clause-done g c =
    on-ok-both _ _ _ c.tighten-2.result
    (done-tight (g.F.Finder.told c.args.finder.now) c.args.project.now c.args.settings c.args.standing.now
    c.start_period.new.net c.tighten-2.new.row c.tighten-2.new.facts c.tighten-2.new.close) c.tighten-2.ensures.made
    (subst (λ (told : Option (List ℤ)). OnOk c.tighten-2.result (AreSought true told
    (grid_of c.start_period.new.net) (tank_count c.args.project.now) c.args.settings.rounds
    (row_of c.tighten-2.new.row))) c.does.ensures.told c.tighten-2.ensures.sought)

pub returns-then-branch-clause-done : goal.returns-then-branch-clause-done
returns-then-branch-clause-done g c =
    done-narrow (g.F.Finder.told c.args.finder.now) c.args.project.now c.args.settings c.args.standing.now
    c.start_period.new.net c.does.new.row c.does.new.facts c.does.new.close c.if-settings.false
    (c.in_ok-does.ensures.made c.if-branch.true) (c.in_ok-does.ensures.narrow c.if-branch.true)
    (c.in_ok-does.ensures.sought c.if-branch.true)

pub returns-in_err-does-clause-proposal : goal.returns-in_err-does-clause-proposal
returns-in_err-does-clause-proposal g c = λ w e p. absurd (let never = (c.in_err-does.ensures.proposal w p).0 in cc)

pub returns-then-branch-clause-proposal : goal.returns-then-branch-clause-proposal
returns-then-branch-clause-proposal g c = λ w e p. (refl, (c.in_ok-does.ensures.proposal w p).1)

pub returns-clause-proposal : goal.returns-clause-proposal
returns-clause-proposal g c = λ w e p.
    absurd (let is = (c.in_ok-does.ensures.proposal w p).0 in let fits = c.if-branch.false in cc)
