use Rattle.std.proofs.lemmas.Result.{err_from_is_err_and}
use Rattle.std.proofs.Common.{◌∙◌, sym, ap, subst, length, List}
use Rattle.std.proofs.lemmas.List.{length-map}
use Rattle.hyd_spec.specs.DemandsHeadsAndPumpLifts.{is_us}
use Rattle.hyd_spec_pressure_targets.specs.FirstPeriod.{IsFirstGridWithShut}
use Rattle.hyd_spec_certificates.specs.declared.LevelSpan.{LevelSpan}
use Rattle.hyd_io.proofs.PutLemmas.{puts_then, puts_cut_off, puts_same}
use Rattle.hyd_spec.specs.Lists.{joined, map_from}
use Rattle.hyd_spec_pressure_targets.specs.LinesOfTargets.{word_line}
use Rattle.hyd_period_network.specs.NetView.{NetView}
use Rattle.hyd_period_network.specs.NetAsPeriodNetwork.{grid_of}
use Rattle.hyd_fire.specs.SidesOfClosures.{IsLeft}
use Rattle.hyd_spec_spread_targets.proofs.OneGridOnBothSides.{both}
use Rattle.hyd_targets.specs.Inquiries.{target_for, target_of}
use Rattle.hyd_targets.specs.ClosuresPutOut.{words_by}
use Rattle.hyd_targets.proofs.TargetsOfJunctions.{net-long, den-some}
use Rattle.hyd_targets.proofs.ClosuresOfPipes.{closure-is}
use Rattle.hyd_targets.proofs.one_closure.put_closure.Goals as goal

pub close-sides-requires-clause-one_each : goal.close-sides-requires-clause-one_each
close-sides-requires-clause-one_each g c =
    c.requires.open.study ∙ sym (ap (λ (n : NetView). length n.junctions) c.net-net.ensures
    ∙ net-long c.args.project.now c.start_with_shut.new.self.net c.start_with_shut.ensures.ready.of)

pub close-sides-requires-clause-targets : goal.close-sides-requires-clause-targets
close-sides-requires-clause-targets g c =
    ap length (c.deref.ensures.value ∙ c.requires.open.targets)
    ∙ (length-map c.args.project.now.junctions.list (target_of (target_for c.args.project.now c.args.inquiry.now))
    ∙ sym (ap (λ (n : NetView). length n.junctions) c.net-net.ensures
    ∙ net-long c.args.project.now c.start_with_shut.new.self.net c.start_with_shut.ensures.ready.of))

pub returns-in_err-put_shut-clause-puts : goal.returns-in_err-put_shut-clause-puts
returns-in_err-put_shut-clause-puts g c =
    let p = err_from_is_err_and c.from_residual.result c.from_residual.ensures.1 in
    rw (p.1, p.2) (let project = c.args.project.now in
    let inquiry = c.args.inquiry.now in
    let grid = grid_of c.net-net.result.now in
    let left = c.close-sides.ensures.left in
    let is = closure-is project c.requires.sound (target_for project inquiry)
    (den-some (is_us project) inquiry.pressure.nano) c.args.rounds c.args.pipe grid
    (subst (λ (n : NetView). IsFirstGridWithShut project c.args.pipe (grid_of n)) (sym c.net-net.ensures)
    c.start_with_shut.ensures.grid)
    (sym left.upper_each ∙ (c.close-sides.ensures.each ∙ c.requires.open.study))
    c.close-sides.new.study c.close-sides.result inquiry.targets.items c.requires.open.targets
    (subst (λ (ts : List LevelSpan). IsLeft (both grid) c.args.rounds ts c.close-sides.new.study c.close-sides.result)
    c.deref.ensures.value left) in
    (_, (is, puts_cut_off _ _ c.in_err-put_shut.field-0.0 _ _ _ _ c.in_err-put_shut.ensures)))

pub returns-clause-puts : goal.returns-clause-puts
returns-clause-puts g c =
    let project = c.args.project.now in
    let inquiry = c.args.inquiry.now in
    let grid = grid_of c.net-net.result.now in
    let left = c.close-sides.ensures.left in
    let is = closure-is project c.requires.sound (target_for project inquiry)
    (den-some (is_us project) inquiry.pressure.nano) c.args.rounds c.args.pipe grid
    (subst (λ (n : NetView). IsFirstGridWithShut project c.args.pipe (grid_of n)) (sym c.net-net.ensures)
    c.start_with_shut.ensures.grid)
    (sym left.upper_each ∙ (c.close-sides.ensures.each ∙ c.requires.open.study))
    c.close-sides.new.study c.close-sides.result inquiry.targets.items c.requires.open.targets
    (subst (λ (ts : List LevelSpan). IsLeft (both grid) c.args.rounds ts c.close-sides.new.study c.close-sides.result)
    c.deref.ensures.value left) in (
      _,
      (
        is,
        puts_then _ _ _ _ _ _ _ _ _ c.in_ok-put_shut.ensures (puts_same _ _ _ _ _ _ _
            (ap (λ (ts : List LevelSpan). joined (map_from (word_line project) 0 (words_by c.close-sides.new.study
            c.close-sides.result ts))) c.deref-2.ensures.value) c.put_words.ensures),
      ),
    )
