use Rattle.std.proofs.Common.{Bool, ap, sym, ◌∙◌, arith}
use Rattle.std.proofs.lemmas.Int.{ints}
use Rattle.hyd_num.specs.Rational.{whole}
use Rattle.hyd_spec_certificates.specs.ThreeValuedLogic.{at_both_ends}
use Rattle.hyd_spec.specs.Rules.{clause_holds}
use Rattle.hyd_controls_and_rules.specs.RuleReadings.{below, above}
use Rattle.hyd_controls_and_rules.proofs.QuantitiesOfClauses.{holds_by_amount}
use Rattle.hyd_controls_and_rules.proofs.clauses.measured_verdict.Goals as goal

pub returns : goal.returns
returns c =
    let project = c.args.instant.now.project.now in
    let time = c.args.instant.now.time in
    let clause = c.args.clause.now in
    let low = holds_by_amount project time (below c.args.instant.now) clause c.in-Amount.span
    c.in-Amount.number _ c.compares.result
    c.in-Amount.is c.requires.measured c.requires.made c.compares.ensures (c.ends_of-ends.ensures.lo
    ∙ ap whole (omega (arith, ints))) in
    let high = holds_by_amount project time (above c.args.instant.now) clause c.in-Amount.span
    c.in-Amount.number _ c.compares-2.result
    c.in-Amount.is c.requires.measured c.requires.made c.compares-2.ensures (c.ends_of-ends.ensures.hi
    ∙ ap whole (omega (arith, ints))) in
    c.at_both_ends.ensures ∙ ap (λ (b : Bool). at_both_ends b c.compares-2.result) (sym low)
    ∙ ap (λ (b : Bool). at_both_ends (clause_holds project 1 time (below c.args.instant.now) clause) b) (sym high)
