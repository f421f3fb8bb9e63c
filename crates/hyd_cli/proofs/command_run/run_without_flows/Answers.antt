-- What the command does, by whether ends of periods may be open.
use Rattle.std.proofs.Common.{subst, rules}
use Rattle.hyd_sim.specs.declared.settings.Settings.{Settings}
use Rattle.hyd_open_command.specs.OpenAnswers.{Asked}
use Rattle.hyd_command_words.specs.CommandView.{run_seen}
use Rattle.hyd_command_answers.specs.DeskContents.{seen}
use Rattle.hyd_open_command.specs.OpenAnswers.{AnswersTextOpenly}
use Rattle.hyd_cli.specs.RunAnswers.{AnswersText}
use Rattle.hyd_cli.proofs.RunWordsLemmas.{open_leaves, known_answers, open_answers}
use Rattle.hyd_cli.proofs.command_run.run_without_flows.Goals as goal

pub returns-then-words-eq0-clause-run : goal.returns-then-words-eq0-clause-run
returns-then-words-eq0-clause-run g c text told none =
    let before = seen g.D.Desk.files g.D.Desk.written g.D.Desk.printed c.args.desk.now in
    let now = seen g.D.Desk.files g.D.Desk.written g.D.Desk.printed c.run_files.new.desk in
    known_answers text (run_seen c.args.words.now) _ c.run_files.result before now (search rules)
    (subst (λ (s : Settings). AnswersText text s (run_seen c.args.words.now).files.cert c.run_files.result before now)
    c.settings_of.ensures (c.run_files.ensures.run text told none))

pub returns-clause-leaves : goal.returns-clause-leaves
returns-clause-leaves g c = open_leaves _ _ _ c.run_with_slack.ensures.leaves

pub returns-clause-run : goal.returns-clause-run
returns-clause-run g c text told none =
    let before = seen g.D.Desk.files g.D.Desk.written g.D.Desk.printed c.args.desk.now in
    let now = seen g.D.Desk.files g.D.Desk.written g.D.Desk.printed c.run_with_slack.new.desk in
    open_answers text (run_seen c.args.words.now) _ c.run_with_slack.result before now (search rules)
    (subst (λ (a : Asked). AnswersTextOpenly text a (run_seen c.args.words.now).files.cert c.run_with_slack.result before
    now) c.open_settings_of.ensures (c.run_with_slack.ensures.run text told none))
