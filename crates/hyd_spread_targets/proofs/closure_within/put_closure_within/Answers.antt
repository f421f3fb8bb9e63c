use Rattle.std.proofs.lemmas.Result.{err_from_is_err_and}
use Rattle.std.proofs.Common.{◌≡◌, ◌∙◌, sym, ap, subst, length, List}
use Rattle.std.proofs.lemmas.List.{length-map}
use Rattle.hyd_spec.specs.DemandsHeadsAndPumpLifts.{is_us}
use Rattle.hyd_spec.specs.Lists.{joined, map_from}
use Rattle.hyd_spec_certificates.specs.declared.LevelSpan.{LevelSpan}
use Rattle.hyd_spec_certificates.specs.declared.Side.TheVariants.{Upper, Lower}
use Rattle.hyd_io.proofs.PutLemmas.{puts_then, puts_cut_off, puts_same}
use Rattle.hyd_spec_pressure_targets.specs.LinesOfTargets.{word_line}
use Rattle.hyd_spec_spread_runs.specs.OutermostPairs.{Pair}
use Rattle.hyd_spec_spread_targets.specs.FirstPeriodWithin.{IsFirstPairWithShut}
use Rattle.hyd_period_network.specs.NetView.{NetView}
use Rattle.hyd_period_network.specs.NetAsPeriodNetwork.{grid_of}
use Rattle.hyd_fire.specs.SidesOfClosures.{IsLeft}
use Rattle.hyd_spread_networks.specs.NetsOfSpreads.{pair_of}
use Rattle.hyd_targets.specs.Inquiries.{target_of}
use Rattle.hyd_targets.specs.ClosuresPutOut.{words_by}
use Rattle.hyd_targets.proofs.TargetsOfJunctions.{den-some}
use Rattle.hyd_spread_targets.specs.InquiriesWithin.{spread_for, target_within}
use Rattle.hyd_spread_targets.proofs.FirstPeriodsReady.{net-long}
use Rattle.hyd_spread_targets.proofs.ClosuresWithin.{closure-is}
use Rattle.hyd_spread_targets.proofs.closure_within.put_closure_within.Goals as goal

pub close-sides-requires-clause-one_each : goal.close-sides-requires-clause-one_each
close-sides-requires-clause-one_each g c =
    c.requires.open.study ∙ sym (ap (λ (n : NetView). length n.junctions) c.net.ensures
    ∙ net-long c.args.project.now c.start_with_shut.new.self.nets c.start_with_shut.ensures.ready.of Upper)

pub close-sides-requires-clause-alike : goal.close-sides-requires-clause-alike
close-sides-requires-clause-alike g c =
    ap (λ (n : NetView). length n.junctions) c.net.ensures
    ∙ (net-long c.args.project.now c.start_with_shut.new.self.nets c.start_with_shut.ensures.ready.of Upper
    ∙ sym (ap (λ (n : NetView). length n.junctions) c.net-2.ensures
    ∙ net-long c.args.project.now c.start_with_shut.new.self.nets c.start_with_shut.ensures.ready.of Lower))

pub close-sides-requires-clause-targets : goal.close-sides-requires-clause-targets
close-sides-requires-clause-targets g c =
    ap length (c.deref.ensures.value ∙ c.requires.open.targets)
    ∙ (length-map c.args.project.now.junctions.list
    (target_of (target_within c.args.project.now c.args.inquiry.now))
    ∙ sym (ap (λ (n : NetView). length n.junctions) c.net.ensures
    ∙ net-long c.args.project.now c.start_with_shut.new.self.nets c.start_with_shut.ensures.ready.of Upper))

pub returns-in_err-put_shut-clause-puts : goal.returns-in_err-put_shut-clause-puts
returns-in_err-put_shut-clause-puts g c =
    let p = err_from_is_err_and c.from_residual.result c.from_residual.ensures.1 in
    rw (p.1, p.2) (let project = c.args.project.now in
    let inquiry = c.args.inquiry.now in
    let spread = spread_for inquiry in
    let nets = c.start_with_shut.new.self.nets in
    let pair : Pair = record { upper = grid_of c.net.result.now; lower = grid_of c.net-2.result.now } in
    let are : pair_of nets ≡ pair = λ i. record {
      upper = grid_of (sym c.net.ensures i);
      lower = grid_of (sym c.net-2.ensures i);
    } in
    let left = c.close-sides.ensures.left in
    let is = closure-is project c.requires.sound spread c.requires.open.ready.decided (target_within project inquiry)
    (den-some (is_us project) inquiry.pressure.nano) c.args.rounds c.args.pipe pair
    (subst (IsFirstPairWithShut project spread c.args.pipe) are c.start_with_shut.ensures.pair)
    c.close-sides.new.study c.close-sides.result inquiry.targets.items c.requires.open.targets
    (subst (λ (ts : List LevelSpan). IsLeft pair c.args.rounds ts c.close-sides.new.study c.close-sides.result)
    c.deref.ensures.value left) in
    (_, (is, puts_cut_off _ _ c.in_err-put_shut.field-0.0 _ _ _ _ c.in_err-put_shut.ensures)))

pub returns-clause-puts : goal.returns-clause-puts
returns-clause-puts g c =
    let project = c.args.project.now in
    let inquiry = c.args.inquiry.now in
    let spread = spread_for inquiry in
    let nets = c.start_with_shut.new.self.nets in
    let pair : Pair = record { upper = grid_of c.net.result.now; lower = grid_of c.net-2.result.now } in
    let are : pair_of nets ≡ pair = λ i. record {
      upper = grid_of (sym c.net.ensures i);
      lower = grid_of (sym c.net-2.ensures i);
    } in
    let left = c.close-sides.ensures.left in
    let is = closure-is project c.requires.sound spread c.requires.open.ready.decided (target_within project inquiry)
    (den-some (is_us project) inquiry.pressure.nano) c.args.rounds c.args.pipe pair
    (subst (IsFirstPairWithShut project spread c.args.pipe) are c.start_with_shut.ensures.pair)
    c.close-sides.new.study c.close-sides.result inquiry.targets.items c.requires.open.targets
    (subst (λ (ts : List LevelSpan). IsLeft pair c.args.rounds ts c.close-sides.new.study c.close-sides.result)
    c.deref.ensures.value left) in (
      _,
      (
        is,
        puts_then _ _ _ _ _ _ _ _ _ c.in_ok-put_shut.ensures (puts_same _ _ _ _ _ _ _
            (ap (λ (ts : List LevelSpan). joined (map_from (word_line project) 0 (words_by c.close-sides.new.study
            c.close-sides.result ts))) c.deref-2.ensures.value) c.put_words.ensures),
      ),
    )
