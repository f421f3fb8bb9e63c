use Rattle.std.proofs.Common.{◌≡◌, ◌∙◌, ◌-◌, ℕ, List, ap}
use Rattle.std.specs.Prelude.{map}
use Rattle.hyd_spec.specs.ProgramTypes.{LinkState}
use Rattle.hyd_spec_certificates.specs.SpansAsIntervals.{levels_of}
use Rattle.hyd_spec_certificates.specs.declared.LevelSpan.{LevelSpan}
use Rattle.hyd_spec_open_ends.specs.RulesOverLengths.{carried_over, readings_below_over, readings_above_over}
use Rattle.hyd_period_length.proofs.ReadingsButTankHeads.{if_ok, if_err}
use Rattle.hyd_open_rules.proofs.ReadingsOverLengths.{alike_below, alike_above, decided_so, open_so}
use Rattle.hyd_open_rules.proofs.tried_rules.try_over.Goals as goal

pub returns-clause-decided : goal.returns-clause-decided
returns-clause-decided c = if_ok _ _ c.decide_all.result c.decide_all.ensures.decided
    (λ known grid standing row started open_by read.
    let project = c.args.project.now in
    let facts = c.args.facts.now in
    let seconds = c.args.seconds in
    let late = c.args.late in
    let readings = c.args.readings.now in
    let levels : List LevelSpan = c.as_slice-4.result.now in
    let links : List LinkState = c.as_slice-5.result.now in
    let carried : map levels_of levels ≡ carried_over project grid standing.known row (seconds - late) seconds =
    ap (λ (ls : List LevelSpan). map levels_of ls) c.as_slice-4.ensures
    ∙ c.put_carried_over.ensures.levels grid standing.known row started
    ∙ ap (λ (n : ℕ). carried_over project grid standing.known row n seconds) c.saturating_sub.ensures in
    decided_so project grid standing row facts seconds late started open_by readings read c.as_slice.result.now
    c.as_slice-2.result.now
    c.as_slice-3.result.now c.as_slice.ensures c.as_slice-2.ensures c.as_slice-3.ensures levels carried links
    c.as_slice-5.ensures c.decide_all.new.values
    (known (readings_below_over project grid standing.known row (seconds - standing.late) seconds)
    (readings_above_over project grid standing.known row (seconds - standing.late) seconds)
    (alike_below project grid standing row facts seconds late started open_by readings read c.as_slice.result.now
    c.as_slice-2.result.now
    c.as_slice-3.result.now c.as_slice.ensures c.as_slice-2.ensures c.as_slice-3.ensures levels carried links
    c.as_slice-5.ensures c.requires.each_low)
    (alike_above project grid standing row facts seconds late started open_by readings read c.as_slice.result.now
    c.as_slice-2.result.now
    c.as_slice-3.result.now c.as_slice.ensures c.as_slice-2.ensures c.as_slice-3.ensures levels carried links
    c.as_slice-5.ensures c.requires.each_high)))

pub returns-clause-open : goal.returns-clause-open
returns-clause-open c = if_err _ _ c.decide_all.result c.decide_all.ensures.open
    (λ found known grid standing row started open_by read.
    let project = c.args.project.now in
    let facts = c.args.facts.now in
    let seconds = c.args.seconds in
    let late = c.args.late in
    let readings = c.args.readings.now in
    let levels : List LevelSpan = c.as_slice-4.result.now in
    let links : List LinkState = c.as_slice-5.result.now in
    let carried : map levels_of levels ≡ carried_over project grid standing.known row (seconds - late) seconds =
    ap (λ (ls : List LevelSpan). map levels_of ls) c.as_slice-4.ensures
    ∙ c.put_carried_over.ensures.levels grid standing.known row started
    ∙ ap (λ (n : ℕ). carried_over project grid standing.known row n seconds) c.saturating_sub.ensures in
    open_so project grid standing row facts seconds late started open_by readings read c.as_slice.result.now
    c.as_slice-2.result.now
    c.as_slice-3.result.now c.as_slice.ensures c.as_slice-2.ensures c.as_slice-3.ensures levels carried links
    c.as_slice-5.ensures found
    (known (readings_below_over project grid standing.known row (seconds - standing.late) seconds)
    (readings_above_over project grid standing.known row (seconds - standing.late) seconds)
    (alike_below project grid standing row facts seconds late started open_by readings read c.as_slice.result.now
    c.as_slice-2.result.now
    c.as_slice-3.result.now c.as_slice.ensures c.as_slice-2.ensures c.as_slice-3.ensures levels carried links
    c.as_slice-5.ensures c.requires.each_low)
    (alike_above project grid standing row facts seconds late started open_by readings read c.as_slice.result.now
    c.as_slice-2.result.now
    c.as_slice-3.result.now c.as_slice.ensures c.as_slice-2.ensures c.as_slice-3.ensures levels carried links
    c.as_slice-5.ensures c.requires.each_high)))
