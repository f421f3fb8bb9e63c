use Rattle.std.proofs.Common.{map, subst}
use Rattle.hyd_spec.specs.ProgramTypes.{Rule}
use Rattle.hyd_spec_certificates.specs.SpansAsIntervals.{levels_of, flows_of}
use Rattle.hyd_spec_certificates.specs.Decided.{IsTruthBetween}
use Rattle.hyd_controls_and_rules.specs.RuleReadings.{lower_readings, upper_readings}
use Rattle.hyd_controls_and_rules.proofs.OpenClausesOfRules.{sound_rule, rule_is}
use Rattle.hyd_controls_and_rules.proofs.TruthsBetweenReadings.{truth_holds, truth_stays}
use Rattle.hyd_controls_and_rules.proofs.rules.decide.Goals as goal

pub rule_truth-requires-clause-rule : goal.rule_truth-requires-clause-rule
rule_truth-requires-clause-rule c =
    sound_rule c.args.project.now c.requires.sound c.args.rule c.as_slice.result.now
    c.index-as_slice-rule.result c.requires.in_range c.as_slice.ensures c.index-as_slice-rule.is

pub returns-clause-truth : goal.returns-clause-truth
returns-clause-truth c = λ each there.
    let low = lower_readings c.args.low.now (map flows_of c.args.flows.now) (map levels_of c.args.levels.now)
    c.args.links.now in
    let high = upper_readings c.args.high.now (map flows_of c.args.flows.now) (map levels_of
    c.args.levels.now) c.args.links.now in
    subst (λ (rule : Rule). IsTruthBetween c.args.project.now c.args.time low high rule c.rule_truth.result)
    (rule_is c.args.project.now c.args.rule c.as_slice.result.now c.index-as_slice-rule.result each
    c.requires.in_range c.as_slice.ensures c.index-as_slice-rule.is there)
    c.rule_truth.ensures

pub returns-clause-holds : goal.returns-clause-holds
returns-clause-holds c = λ each there S x some between.
    truth_holds c.args.project.now c.requires.sound c.args.rule c.args.time _ _ each c.rule_truth.result
    c.requires.in_range there (returns-clause-truth c each there) S x some between

pub returns-clause-nests : goal.returns-clause-nests
returns-clause-nests c = λ each there lower upper below above.
    truth_stays c.args.project.now c.requires.sound c.args.rule c.args.time _ _ each c.rule_truth.result
    c.requires.in_range there (returns-clause-truth c each there) lower upper below above
