use Rattle.std.proofs.Common.{[], ◌∷◌}
use Rattle.std.proofs.lemmas.List.Elements.{All-cons, All-nil}
use Rattle.hyd_controls_and_rules.specs.RuleReadings.{IsBounded}
use Rattle.hyd_tests_on_rules.proofs.truths_at_instants.flows.Goals as goal

pub returns : goal.returns
returns c =
    let other = c.args.other in
    All-cons IsBounded c.args.first (other ∷ other ∷ []) c.requires.first
    (All-cons IsBounded other (other ∷ []) c.requires.other (All-cons IsBounded other [] c.requires.other
    (All-nil IsBounded)))
