use Rattle.std.proofs.Common.{ℕ, Option, IsSome, subst, sym, ◌∙◌, arith}
use Rattle.std.proofs.lemmas.Int.{ints}
use Rattle.hyd_controls_and_rules.specs.RuleReadings.{verdict_there}
use Rattle.hyd_controls_and_rules.proofs.OpenClausesOfRules.{some_open, open_clause}
use Rattle.hyd_controls_and_rules.proofs.rules.open_truth.Goals as goal

pub unwrap-clause-requires : goal.unwrap-clause-requires
unwrap-clause-requires c =
    subst (λ (o : Option ℕ). IsSome o) (sym c.first_open.ensures) (some_open (verdict_there
    c.args.instant.now) c.args.rule.now.clauses.list c.requires.open)

pub returns : goal.returns
returns c = (
  c.requires.open,
  open_clause c.args.instant.now c.args.rule.now c.unwrap-clause.result c.as_slice.result.now
      c.index-as_slice-clause.result c.ends_of-ends.result _ _
      (sym c.first_open.ensures ∙ c.unwrap-clause.ensures) c.as_slice.ensures c.index-as_slice-clause.is
      c.ends_of-ends.ensures (omega (arith, ints)) (omega (arith, ints)),
)
