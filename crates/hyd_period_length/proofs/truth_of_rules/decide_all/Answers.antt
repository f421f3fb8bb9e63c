use Rattle.std.proofs.lemmas.Result.{err_from_is_err_and}
use Rattle.std.proofs.Common.{Bool, arith}
use Rattle.std.proofs.Math.ListN.{length-set}
use Rattle.hyd_period_length.proofs.RulesKnownSoFar.{known_more, all_known, first_open}
use Rattle.hyd_period_length.proofs.truth_of_rules.decide_all.Goals as goal

pub loop-rule-preserved : goal.loop-rule-preserved
loop-rule-preserved c =
    let count = c.loop-rule.invariant.count in
    let test = c.loop-rule-test.true in
    record {
      count = omega (arith, length-set {A = Bool}, count);
      known = λ lower upper alike beside. known_more c.args.project.now c.args.time lower upper c.loop-rule.rule
          c.loop-rule.values c.in_ok-value.value (omega (arith, count, test))
          (c.loop-rule.invariant.known lower upper alike beside)
          (λ each at. c.in_ok-value.ensures.known lower upper each alike beside at);
    }

pub returns-in_err-value-clause-open : goal.returns-in_err-value-clause-open
returns-in_err-value-clause-open c =
    let p = err_from_is_err_and c.from_residual.result c.from_residual.ensures.1 in
    rw (p.1, p.2) (λ lower upper alike beside.
    let each = c.requires.each_value in
    let test = c.loop-rule-test.true in
    first_open c.args.project.now c.args.time lower upper c.loop-rule.rule c.loop-rule.values c.in_err-value.field-0.0
    (omega (arith, each, test)) (c.loop-rule.invariant.known lower upper alike beside)
    (λ each at. c.in_err-value.ensures.open lower upper each alike beside at))

pub returns-clause-decided : goal.returns-clause-decided
returns-clause-decided c = λ lower upper alike beside.
    let each = c.requires.each_value in
    let count = c.loop-rule.invariant.count in
    let test = c.loop-rule-test.false in
    all_known c.args.project.now c.args.time lower upper c.loop-rule.rule c.loop-rule.values (omega
    (arith, each, count))
    (omega (arith, count, test)) (c.loop-rule.invariant.known lower upper alike beside)
