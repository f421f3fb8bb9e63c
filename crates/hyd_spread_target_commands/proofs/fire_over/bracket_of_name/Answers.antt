use Rattle.hyd_spread_targets.specs.InquiriesWithin.{spread_for, target_within}
use Rattle.hyd_spread_target_commands.proofs.StatusesOfBrackets.{name_fires}
use Rattle.hyd_spread_target_commands.proofs.fire_over.bracket_of_name.Goals as goal

pub returns-in-Some-clause-answers : goal.returns-in-Some-clause-answers
returns-in-Some-clause-answers g c =
    c.ask_bracket.ensures.answers c.args.words.now.junction.now c.in-Some.ensures.there

pub returns-in-None-clause-answers : goal.returns-in-None-clause-answers
returns-in-None-clause-answers g c =
    let words = c.args.words.now in
    name_fires c.args.project.now words.junction.now (target_within c.args.project.now c.args.inquiry.now)
    words.rounds (spread_for c.args.inquiry.now) c.refuse_name.result _ _ _ _ c.in-None.ensures.none
    c.refuse_name.ensures.answers c.refuse_name.ensures.opens
