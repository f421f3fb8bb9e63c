-- What the command does, by whether links are named.
use Rattle.std.proofs.Common.{sym, subst, ◌∙◌}
use Rattle.std.proofs.lemmas.Bool.{false≢true}
use Rattle.hyd_sim.specs.declared.settings.Settings.{Settings}
use Rattle.hyd_command_words.specs.CommandView.{run_seen, names_seen}
use Rattle.hyd_command_answers.specs.DeskContents.{seen}
use Rattle.hyd_open_command.specs.PassedOn.{AnswersTextNaming}
use Rattle.hyd_cli.proofs.RunWordsLemmas.{plain_leaves, naming_leaves, plain_answers, naming_answers}
use Rattle.hyd_cli.proofs.command_run.run_words.Goals as goal

pub returns-then-is_empty-clause-leaves : goal.returns-then-is_empty-clause-leaves
returns-then-is_empty-clause-leaves g c =
    plain_leaves _ _ _ _ (c.is_empty.ensures.0 c.if-is_empty.true) c.run_without_flows.ensures.leaves

pub returns-then-is_empty-clause-does : goal.returns-then-is_empty-clause-does
returns-then-is_empty-clause-does g c =
    let before = seen g.D.Desk.files g.D.Desk.written g.D.Desk.printed c.args.desk.now in
    let now = seen g.D.Desk.files g.D.Desk.written g.D.Desk.printed c.run_without_flows.new.desk in
    record {
      refused = c.run_without_flows.ensures.refused;
      runs = λ text told none. plain_answers text (run_seen c.args.words.now) _ c.run_without_flows.result before now
          (c.is_empty.ensures.0 c.if-is_empty.true) (c.run_without_flows.ensures.run text told none);
      holds = c.run_without_flows.ensures.holds;
      others = c.run_without_flows.ensures.others;
      once = c.run_without_flows.ensures.once;
    }

pub returns-clause-leaves : goal.returns-clause-leaves
returns-clause-leaves g c =
    naming_leaves _ _ _ _ (λ e. false≢true (sym c.if-is_empty.false ∙ c.is_empty.ensures.1 e))
    c.run_naming_links.ensures.leaves

pub returns-clause-does : goal.returns-clause-does
returns-clause-does g c =
    let before = seen g.D.Desk.files g.D.Desk.written g.D.Desk.printed c.args.desk.now in
    let now = seen g.D.Desk.files g.D.Desk.written g.D.Desk.printed c.run_naming_links.new.desk in
    record {
      refused = c.run_naming_links.ensures.refused;
      runs = λ text told none. naming_answers text (run_seen c.args.words.now) _ c.run_naming_links.result before now
          (λ e. false≢true (sym c.if-is_empty.false ∙ c.is_empty.ensures.1 e))
          (subst (λ (s : Settings). AnswersTextNaming text (names_seen c.args.words.now.flows) s (run_seen
          c.args.words.now).files.cert
          c.run_naming_links.result before now) c.settings_of-settings.ensures (c.run_naming_links.ensures.run text
          told none));
      holds = c.run_naming_links.ensures.holds;
      others = c.run_naming_links.ensures.others;
      once = c.run_naming_links.ensures.once;
    }
