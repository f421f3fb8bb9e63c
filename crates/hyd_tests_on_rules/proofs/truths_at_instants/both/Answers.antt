use Rattle.std.proofs.Common.{[], ◌∷◌}
use Rattle.std.proofs.lemmas.List.Elements.{All-cons, All-nil}
use Rattle.hyd_controls_and_rules.specs.RuleReadings.{IsBounded}
use Rattle.hyd_tests_on_rules.proofs.truths_at_instants.both.Goals as goal

pub returns : goal.returns
returns c =
    let flow = c.args.flow in
    All-cons IsBounded flow (flow ∷ []) c.requires (All-cons IsBounded flow [] c.requires (All-nil IsBounded))
