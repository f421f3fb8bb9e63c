-- What a run without a spread leaves, by whether ends of periods may be open.
use Rattle.std.proofs.Common.{subst, rules}
use Rattle.hyd_sim.specs.declared.settings.Settings.{Settings}
use Rattle.hyd_open_command.specs.OpenAnswers.{Asked, AnswersRunOpenly}
use Rattle.hyd_command_words.specs.CommandView.{run_seen}
use Rattle.hyd_command_answers.specs.DeskContents.{seen}
use Rattle.hyd_cli.specs.RunAnswers.{AnswersRun}
use Rattle.hyd_cli.proofs.SpreadRunLemmas.{known_alone, open_alone}
use Rattle.hyd_cli.proofs.command_spread.run_alone.Goals as goal

pub returns-then-words-eq0-clause-answers : goal.returns-then-words-eq0-clause-answers
returns-then-words-eq0-clause-answers g c =
    let before = seen g.D.Desk.files g.D.Desk.written g.D.Desk.printed c.args.desk.now in
    let now = seen g.D.Desk.files g.D.Desk.written g.D.Desk.printed c.do_with_network.new.desk in
    known_alone c.args.project (run_seen c.args.words.now) _ c.do_with_network.result before now (search rules)
    (subst (λ (s : Settings). AnswersRun c.args.project s (run_seen c.args.words.now).files.cert
    c.do_with_network.result before now) c.settings_of-settings.ensures c.do_with_network.ensures.does.answers)

pub returns-clause-answers : goal.returns-clause-answers
returns-clause-answers g c =
    let before = seen g.D.Desk.files g.D.Desk.written g.D.Desk.printed c.args.desk.now in
    let now = seen g.D.Desk.files g.D.Desk.written g.D.Desk.printed c.run_network.new.desk in
    open_alone c.args.project (run_seen c.args.words.now) _ c.run_network.result before now (search rules)
    (subst (λ (a : Asked). AnswersRunOpenly c.args.project a (run_seen c.args.words.now).files.cert
    c.run_network.result before now) c.open_settings_of.ensures c.run_network.ensures.answers)
