use Rattle.std.proofs.Common.{◌≡◌, ℕ, ◌<◌, true, false, length, slice_index_or, ap, sym, ◌∙◌, arith}
use Rattle.hyd_spec.specs.ProgramTypes.{RuleClause}
use Rattle.hyd_spec_certificates.specs.ThreeValuedLogic.{is_unknown}
use Rattle.hyd_controls_and_rules.specs.KnownOfRules.{is_open}
use Rattle.hyd_controls_and_rules.proofs.FirstPassingPlace.{found_at, found_none, one_more}
use Rattle.hyd_controls_and_rules.proofs.rules.first_open.Goals as goal

pub returns-then-is_unknown : goal.returns-then-is_unknown
returns-then-is_unknown c =
    let here = c.index-clauses-number.result in
    let passes : is_open c.args.instant.now here ≡ true = sym (ap is_unknown c.clause_verdict.ensures)
    ∙ sym c.is_unknown.ensures ∙ c.if-is_unknown.true in
    found_at (is_open c.args.instant.now) c.as_slice-clauses.result.now c.args.rule.now.clauses.list
    c.loop-number.number here
    c.as_slice-clauses.ensures c.loop-number-test.true c.loop-number.invariant c.index-clauses-number.is passes

pub loop-number-preserved : goal.loop-number-preserved
loop-number-preserved c =
    let here = c.index-clauses-number.result in
    let fails : is_open c.args.instant.now here ≡ false = sym (ap is_unknown c.clause_verdict.ensures)
    ∙ sym c.is_unknown.ensures ∙ c.if-is_unknown.false in
    one_more (is_open c.args.instant.now) c.as_slice-clauses.result.now c.loop-number.number here
    c.loop-number-test.true c.loop-number.invariant c.index-clauses-number.is fails

pub returns : goal.returns
returns c =
    let clauses = c.as_slice-clauses.result.now in
    let none : (k : ℕ) (d : RuleClause) → k < length clauses
    → is_open c.args.instant.now (slice_index_or clauses k d) ≡ false = λ k d h.
    c.loop-number.invariant k d (omega (arith, h)) in
    found_none (is_open c.args.instant.now) clauses c.args.rule.now.clauses.list c.as_slice-clauses.ensures none
