use Rattle.hyd_target_commands.specs.BracketAnswers.{target_in}
use Rattle.hyd_target_commands.proofs.StatusesOfTargets.{refusal_fires}
use Rattle.hyd_target_commands.proofs.command_fire.bracket_of_name.Goals as goal

pub returns-in-Some-clause-answers : goal.returns-in-Some-clause-answers
returns-in-Some-clause-answers g c = c.bracket_at.ensures.answers c.args.words.now.junction.now c.in-Some.ensures.there

pub returns-in-None-clause-answers : goal.returns-in-None-clause-answers
returns-in-None-clause-answers g c =
    let words = c.args.words.now in
    refusal_fires c.args.project.now words.junction.now (target_in c.args.project.now words.pressure.nano) words.rounds
    c.refuse_name.result _ _ _ _ c.in-None.ensures.none c.refuse_name.ensures.answers c.refuse_name.ensures.opens
