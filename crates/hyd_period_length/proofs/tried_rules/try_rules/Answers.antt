use Rattle.std.proofs.Common.{◌≡◌, ◌∙◌, List, ap}
use Rattle.std.specs.Prelude.{map}
use Rattle.hyd_spec.specs.ProgramTypes.{LinkState}
use Rattle.hyd_spec_certificates.specs.SpansAsIntervals.{levels_of}
use Rattle.hyd_spec_certificates.specs.declared.LevelSpan.{LevelSpan}
use Rattle.hyd_spec_certificates.specs.Decided.{carried_at, readings_below, readings_above}
use Rattle.hyd_period_length.proofs.ReadingsButTankHeads.{if_ok, if_err, alike_below, alike_above, decided_so}
use Rattle.hyd_period_length.proofs.ReadingsButTankHeads.{open_so}
use Rattle.hyd_period_length.proofs.tried_rules.try_rules.Goals as goal

pub returns-clause-decided : goal.returns-clause-decided
returns-clause-decided c = if_ok _ _ c.decide_all.result c.decide_all.ensures.decided
    (λ known grid standing row started read.
    let project = c.args.project.now in
    let facts = c.args.facts.now in
    let levels : List LevelSpan = c.as_slice.result.now in
    let links : List LinkState = c.as_slice-2.result.now in
    let carried : map levels_of levels ≡ carried_at project grid standing row c.args.seconds =
    ap (λ (ls : List LevelSpan). map levels_of ls) c.as_slice.ensures
    ∙ c.put_carried.ensures.levels grid standing row started in
    decided_so project grid standing row facts c.args.seconds started c.args.low.now c.args.high.now c.args.flows.now
    read levels
    carried links c.as_slice-2.ensures c.decide_all.new.values
    (known (readings_below project grid standing row c.args.seconds)
    (readings_above project grid standing row c.args.seconds)
    (alike_below project grid standing row facts c.args.seconds started c.args.low.now c.args.high.now
    c.args.flows.now read levels
    carried links c.as_slice-2.ensures c.requires.each_low)
    (alike_above project grid standing row facts c.args.seconds started c.args.low.now c.args.high.now
    c.args.flows.now read levels
    carried links c.as_slice-2.ensures c.requires.each_high)))

pub returns-clause-open : goal.returns-clause-open
returns-clause-open c = if_err _ _ c.decide_all.result c.decide_all.ensures.open
    (λ found known grid standing row started read.
    let project = c.args.project.now in
    let facts = c.args.facts.now in
    let levels : List LevelSpan = c.as_slice.result.now in
    let links : List LinkState = c.as_slice-2.result.now in
    let carried : map levels_of levels ≡ carried_at project grid standing row c.args.seconds =
    ap (λ (ls : List LevelSpan). map levels_of ls) c.as_slice.ensures
    ∙ c.put_carried.ensures.levels grid standing row started in
    open_so project grid standing row facts c.args.seconds started c.args.low.now c.args.high.now c.args.flows.now
    read levels
    carried links c.as_slice-2.ensures found
    (known (readings_below project grid standing row c.args.seconds)
    (readings_above project grid standing row c.args.seconds)
    (alike_below project grid standing row facts c.args.seconds started c.args.low.now c.args.high.now
    c.args.flows.now read levels
    carried links c.as_slice-2.ensures c.requires.each_low)
    (alike_above project grid standing row facts c.args.seconds started c.args.low.now c.args.high.now
    c.args.flows.now read levels
    carried links c.as_slice-2.ensures c.requires.each_high)))
